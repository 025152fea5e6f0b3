-- What is first known over one vote more, for a test that a vote changes at its own value alone.
use Rattle.std.proofs.Common.{◌≡◌, Bool, true, false, cond, List, [], ◌∷◌, ◌++◌, map, Option, None, Some, find, refl, sym, ap, ◌∙◌, bytes_eq, ℕ}
use Rattle.std.specs.Option.{option_or}
use Rattle.std.proofs.lemmas.List.{map-append}
use Rattle.std.proofs.lemmas.Bool.{cases_Bool}
use Rattle.std.proofs.lemmas.List.Folds.{find-append}
use Rattle.pay_echo.specs.Broadcast.{Vote, value_of, find_map, beginnings, first_known}
use Rattle.pay_echo.proofs.Lists.{either, by_push, find_map-push, beginnings-push, bytes_eq-true, find-only}

-- it holds of nothing before the first vote, and a vote changes it at its value alone
pub record Steps (test : List Vote → List ℕ → Bool) : Type 0 where
  pub none : (v : List ℕ) → test [] v ≡ false
  pub step : (votes : List Vote) (x : Vote) (v : List ℕ) → bytes_eq v (value_of x) ≡ false → test (votes ++ x ∷ []) v ≡ test votes v

-- the value at the shortest beginning is that of the votes before, or it comes by this vote
first_known-append : (test : List Vote → List ℕ → Bool) (votes : List Vote) (x : Vote) → first_known test (votes ++ x ∷ []) ≡ option_or (first_known test votes) (find (test (votes ++ x ∷ [])) (map value_of votes ++ value_of x ∷ []))
unfolding first_known
first_known-append test votes x =
    ap (find_map (λ b. find (test b) (map value_of b))) (beginnings-push votes x)
    ∙ find_map-push (λ b. find (test b) (map value_of b)) (beginnings votes) (votes ++ x ∷ [])
    ∙ ap (λ vs. option_or (find_map (λ b. find (test b) (map value_of b)) (beginnings votes)) (find (test (votes ++ x ∷ [])) vs)) (map-append value_of votes (x ∷ []))

option_or-left : {X : Type 0} (o p : Option X) → option_or o p ≡ None → o ≡ None
option_or-left None p e = refl
option_or-left (Some x) p e = cc

option_or-right : {X : Type 0} (o p : Option X) → option_or o p ≡ None → p ≡ None
option_or-right None p e = e
option_or-right (Some x) p e = cc

cond-None : {X : Type 0} (b : Bool) (x : X) → cond b (Some x) None ≡ None → b ≡ false
cond-None true x e = cc
cond-None false x e = refl

module _ (test : List Vote → List ℕ → Bool) (steps : Steps test) where
  NotYet : List Vote → Type 0
  NotYet votes = first_known test votes ≡ None → (v : List ℕ) → test votes v ≡ false

  not_yet-push : (votes : List Vote) (x : Vote) → NotYet votes → NotYet (votes ++ x ∷ [])
  unfolding NotYet
  not_yet-push votes x before e v =
      let found = find (test (votes ++ x ∷ [])) (map value_of votes ++ value_of x ∷ []) in
      let joined : option_or (first_known test votes) found ≡ None = sym (first_known-append test votes x) ∙ e in
      let here = find-append (test (votes ++ x ∷ [])) (map value_of votes) (value_of x ∷ []) in
      let last = option_or-right (find (test (votes ++ x ∷ [])) (map value_of votes)) (find (test (votes ++ x ∷ [])) (value_of x ∷ [])) (sym here ∙ option_or-right (first_known test votes) found joined) in
      either (cases_Bool (bytes_eq v (value_of x)))
      (λ same. rw (bytes_eq-true v (value_of x) same) (cond-None (test (votes ++ x ∷ []) (value_of x)) (value_of x) last))
      (λ other. steps.step votes x v other ∙ before (option_or-left (first_known test votes) found joined) v)

  -- while nothing is known the test holds of no value
  pub not_yet : (votes : List Vote) → first_known test votes ≡ None → (v : List ℕ) → test votes v ≡ false
  unfolding NotYet
  not_yet votes = by_push NotYet (λ _ v. steps.none v) not_yet-push votes

  pub first_known-push : (votes : List Vote) (x : Vote) → first_known test (votes ++ x ∷ []) ≡ option_or (first_known test votes) (cond (test (votes ++ x ∷ []) (value_of x)) (Some (value_of x)) None)
  first_known-push votes x = first_known-append test votes x ∙ go (first_known test votes) refl where
    go : (o : Option (List ℕ)) → first_known test votes ≡ o → option_or o (find (test (votes ++ x ∷ [])) (map value_of votes ++ value_of x ∷ [])) ≡ option_or o (cond (test (votes ++ x ∷ []) (value_of x)) (Some (value_of x)) None)
    go None e = find-only (test (votes ++ x ∷ [])) (value_of x) (λ w other. steps.step votes x w other ∙ not_yet votes e w) (map value_of votes)
    go (Some v) e = refl
