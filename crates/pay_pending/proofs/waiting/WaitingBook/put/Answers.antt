use Rattle.std.proofs.Common.{◌≡◌, ◌<◌, ◌++◌, ◌∷◌, [], ℕ, false, List, eqb, length, ap, ◌∙◌, sym, subst, arith, rules}
use Rattle.std.proofs.lemmas.Grind.{common_steps}
use Rattle.std.specs.Prelude.{Contains, vec_len, vec_capacity}
use Rattle.std.specs.List.{list_any}
use Rattle.std.proofs.lemmas.Bool.{cond-true}
use Rattle.std.proofs.lemmas.List.Elements.{Contains-push}
use Rattle.pay_pending.proofs.Listing.{room_for_one}
use Rattle.pay_pending.proofs.waiting.WaitingBook.put.Goals as goal

pub returns-then-not-contains-clause-there : goal.returns-then-not-contains-clause-there
returns-then-not-contains-clause-there c =
    let old = c.args.self.now.waiting.items in
    let account = c.args.account in
    let absent : list_any (λ y. eqb y account) old ≡ false =
    sym (c.contains.ensures.value ∙ ap (list_any (λ y. eqb y account)) c.deref.ensures.value) ∙ c.if-not-contains.true in
    let room = room_for_one (length c.args.self.now.accounts.opening) old account c.requires.list c.requires.account absent in
    let fits : vec_len c.args.self.now.waiting < vec_capacity c.args.self.now.waiting =
    omega (arith, room, c.args.self.now.room, c.args.self.now.waiting.ok) in
    let P : List ℕ → Type 0 = λ xs. Contains xs account in
    subst P (sym (c.push.ensures.items ∙ cond-true _ (old ++ account ∷ []) old (c.push.ensures.succeeds fits))) (Contains-push old account)

pub returns-then-not-contains-clause-list : goal.returns-then-not-contains-clause-list
returns-then-not-contains-clause-list c = search rules

pub returns-then-not-contains-clause-longer : goal.returns-then-not-contains-clause-longer
returns-then-not-contains-clause-longer c = grind (arith, common_steps)
