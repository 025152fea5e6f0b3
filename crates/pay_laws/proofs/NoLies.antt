-- What a correct member sends is no lie of it.
use Rattle.std.proofs.Common.{◌≡◌, ◌≢◌, ◌+◌, ◌≤◌, ◌<◌, ◌&&◌, ℕ, zero, suc, Bool, true, false, eqb, List, [], ◌∷◌, ◌++◌, length, get_or, Contains, inl, inr, refl, sym, ap, ◌∙◌, subst, append_assoc, arith, eq-eqb, true≢false}
use Rattle.std.specs.List.{All, count_by}
use Rattle.std.proofs.lemmas.Bool.{and_from}
use Rattle.std.proofs.lemmas.Grind.{common_steps}
use Rattle.std.proofs.lemmas.List.Elements.{All-contains, Contains-append_left, Contains-push}
use Rattle.pay_frame.specs.declared.body.Kind.{Kind}
use Rattle.pay_frame.specs.declared.body.Kind.TheVariants.{Send, Echo, Ready, Want}
use Rattle.pay_frame.specs.Frame.{BodyFields}
use Rattle.pay_echo.specs.Broadcast.{Group}
use Rattle.pay_channel.specs.Prefix.{IsPrefix}
use Rattle.pay_channel.specs.History.{Event, From, IsEvent, body_of, counts_from}
use Rattle.pay_channel.specs.Asked.{is_send_kind}
use Rattle.pay_channel.specs.SentLaws.{is_echo, is_ready_kind, is_said}
use Rattle.pay_channel.specs.Taken.{taken_bodies}
use Rattle.pay_channel.specs.TakenLaws.{TakenFromHere, TakenGrows, TakenIsFrom}
use Rattle.pay_member.specs.declared.ledger.Lie.{Lie}
use Rattle.pay_member.specs.Lies.{HasTold}
use Rattle.pay_laws.specs.Once.{HasVotesOnce}
use Rattle.pay_laws.proofs.Once.{once_in_prefix}

-- a test that holds of two of a list's bodies counts two
counts_one : (p : BodyFields → Bool) (c : BodyFields) → p c ≡ true → (xs : List BodyFields) (k : ℕ) → k < length xs → get_or xs k c ≡ c → 1 ≤ count_by p xs
counts_one p c holds [] k below at = absurd (omega arith)
counts_one p c holds (x ∷ xs) zero below at =
    let is : p x ≡ true = ap p at ∙ holds in grind (arith, common_steps)
counts_one p c holds (x ∷ xs) (suc k) below at =
    let more = counts_one p c holds xs k (omega arith) at in grind (arith, common_steps)

counts_last : (p : BodyFields → Bool) (b : BodyFields) → p b ≡ true → (xs : List BodyFields) → count_by p xs + 1 ≤ count_by p (xs ++ b ∷ [])
counts_last p b holds [] = grind (arith, common_steps)
counts_last p b holds (x ∷ xs) = let more = counts_last p b holds xs in grind (arith, common_steps)

no_second : (p : BodyFields → Bool) (b c : BodyFields) → p b ≡ true → p c ≡ true → (xs : List BodyFields) → Contains xs c → count_by p (xs ++ b ∷ []) ≤ 1 → ⊥
no_second p b c last earlier xs came once =
    let one = counts_one p c earlier xs came.0 came.1 came.2 in
    let two = counts_last p b last xs in absurd (omega arith)

said-self : (a s : ℕ) → (eqb a a && eqb s s) ≡ true
said-self a s = and_from (eqb a a) (eqb s s) (eq-eqb a a refl) (eq-eqb s s refl)

module _ (here : TakenFromHere) (grows : TakenGrows) (from_where : TakenIsFrom) (g : Group) (j : ℕ) (history : List Event) (proper : All (IsEvent g) history) (once : HasVotesOnce (taken_bodies j history)) (own : (a s : ℕ) (v : List ℕ) → Contains (taken_bodies j history) (body_of Send a s v) → a ≡ j) where
  module _ (before rest : List Event) (b : BodyFields) (is : history ≡ before ++ From j b ∷ rest) where
    begun : IsPrefix (taken_bodies j before ++ b ∷ []) (taken_bodies j history)
    begun =
        record {
          rest = taken_bodies j rest;
          is = ap (taken_bodies j) (is ∙ sym (append_assoc before (From j b ∷ []) rest))
              ∙ grows j (before ++ From j b ∷ []) rest
              ∙ ap (λ taken. taken ++ taken_bodies j rest) (here j before b);
        }

    once_by_then : HasVotesOnce (taken_bodies j before ++ b ∷ [])
    once_by_then = once_in_prefix (taken_bodies j before ++ b ∷ []) (taken_bodies j history) begun once

    is_taken : Contains (taken_bodies j history) b
    is_taken =
        subst (λ (bodies : List BodyFields). Contains bodies b) (sym begun.is)
        (Contains-append_left (taken_bodies j before ++ b ∷ []) begun.rest b (Contains-push (taken_bodies j before) b))

    may_come : IsEvent g (From j b)
    may_come = All-contains (IsEvent g) history (From j b) proper ((from_where j history b).0 is_taken)

  second : (k : Kind) (a s : ℕ) (v w : List ℕ) (before rest : List Event) → history ≡ before ++ From j (body_of k a s v) ∷ rest → Contains before (From j (body_of k a s w)) → ⊥
  second Send a s v w before rest is came =
      no_second (is_said is_send_kind a s) (body_of Send a s v) (body_of Send a s w) (said-self a s) (said-self a s) (taken_bodies j before)
      ((from_where j before (body_of Send a s w)).1 came) ((once_by_then before rest (body_of Send a s v) is).send a s)
  second Echo a s v w before rest is came =
      no_second (is_said is_echo a s) (body_of Echo a s v) (body_of Echo a s w) (said-self a s) (said-self a s) (taken_bodies j before)
      ((from_where j before (body_of Echo a s w)).1 came) ((once_by_then before rest (body_of Echo a s v) is).echo a s)
  second Ready a s v w before rest is came =
      no_second (is_said is_ready_kind a s) (body_of Ready a s v) (body_of Ready a s w) (said-self a s) (said-self a s) (taken_bodies j before)
      ((from_where j before (body_of Ready a s w)).1 came) ((once_by_then before rest (body_of Ready a s v) is).ready a s)
  second Want a s v w before rest is came = (may_come before rest (body_of Want a s v) is).3 refl

  foreign : (k : Kind) (a s : ℕ) (v : List ℕ) (before rest : List Event) → history ≡ before ++ From j (body_of k a s v) ∷ rest → counts_from j (body_of k a s v) ≡ false → ⊥
  foreign Send a s v before rest is none =
      let same : a ≡ j = own a s v (is_taken before rest (body_of Send a s v) is) in
      true≢false (sym (eq-eqb j a (sym same)) ∙ none)
  foreign Echo a s v before rest is none = true≢false none
  foreign Ready a s v before rest is none = true≢false none
  foreign Want a s v before rest is none = (may_come before rest (body_of Want a s v) is).3 refl

  pub no_lie : (lie : Lie) → HasTold history j lie → ⊥
  no_lie lie t = elim t.is [
    | inl none ↦ foreign lie.kind lie.owner lie.seq t.value t.before t.rest t.told none
    | inr came ↦ second lie.kind lie.owner lie.seq t.value came.0 t.before t.rest t.told came.1
  ]
