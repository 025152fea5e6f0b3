use Rattle.std.proofs.Common.{◌≡◌, ℕ, zero, suc, ◌+◌, ◌<◌, List, [], ◌∷◌, ◌++◌, Bor, Some, length, length-append, map, slice_get, sym, ap, subst, ◌∙◌, get_or, arith}
use Rattle.std.proofs.lemmas.Option.{none-some, same_Some, slice_get-get_or}
use Rattle.std.proofs.lemmas.Result.{err_from_is_err_and}
use Rattle.pay_group.specs.Backing.{IsGroupList, IsSplit}
use Rattle.pay_group.proofs.listing.group_lists.Goals as goal

-- what holds of each of some items, and of the one behind them
pushed : {X : Type 0} (P : ℕ → X → Type 0) (xs : List X) (y : X) → ((k : ℕ) (x : X) → slice_get xs k ≡ Some x → P k x) → P (length xs) y
    → (k : ℕ) (x : X) → slice_get (xs ++ y ∷ []) k ≡ Some x → P k x
pushed P [] y each last zero x at = subst (P 0) (same_Some y x at) last
pushed P [] y each last (suc k) x at = absurd (none-some x at)
pushed P (z ∷ xs) y each last zero x at = each 0 x at
pushed P (z ∷ xs) y each last (suc k) x at = pushed (λ k x. P (suc k) x) xs y (λ k x at. each (suc k) x at) last k x at

pub returns-in_err-group_list-clause-split : goal.returns-in_err-group_list-clause-split
returns-in_err-group_list-clause-split g c =
    let p = err_from_is_err_and c.from_residual-in_err-group_list.result c.from_residual-in_err-group_list.ensures.1 in
    rw p.1 (λ owner place is.
    let split = c.in_err-group_list.ensures.split owner place (sym p.2 ∙ is) in (
      subst (λ o. o < c.args.accounts) (sym split.0) c.loop-owner-test.true,
      subst (λ o. IsSplit c.args.faults (map (λ (s : Bor g.row.S.Denot). g.S.Source.lists s.now o) c.args.sources.now) place) (sym split.0) split.1,
    ))

pub returns-in_err-group_list-clause-before : goal.returns-in_err-group_list-clause-before
returns-in_err-group_list-clause-before g c =
    let p = err_from_is_err_and c.from_residual-in_err-group_list.result c.from_residual-in_err-group_list.ensures.1 in
    rw p.1 (λ owner place account is lt.
    let split = c.in_err-group_list.ensures.split owner place (sym p.2 ∙ is) in
    let within : account < length c.loop-owner.lists.items = omega (arith, lt, split.0, c.loop-owner.invariant.count) in
    let list = get_or c.loop-owner.lists.items account [] in
    (list, c.loop-owner.invariant.each account list (slice_get-get_or c.loop-owner.lists.items account [] within)))

pub loop-owner-preserved : goal.loop-owner-preserved
loop-owner-preserved g c =
    let is = c.in_ok-push.ensures.items in
    let listed = λ (o : ℕ) (l : List (List ℕ)). IsGroupList c.args.faults (map (λ (s : Bor g.row.S.Denot). g.S.Source.lists s.now o) c.args.sources.now) l in
    record {
      count = ap length is ∙ length-append c.loop-owner.lists.items (c.in_ok-group_list.field-0 ∷ []) ∙ ap (λ n. n + 1) c.loop-owner.invariant.count;
      each = λ k list at. pushed listed c.loop-owner.lists.items c.in_ok-group_list.field-0 c.loop-owner.invariant.each
          (subst (λ o. listed o c.in_ok-group_list.field-0) (sym c.loop-owner.invariant.count) c.in_ok-group_list.ensures.list) k list
          (subst (λ l. slice_get l k ≡ Some list) is at);
    }
