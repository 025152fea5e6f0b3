-- What is known of lies, with one event more.
use Rattle.std.proofs.Common.{◌≡◌, ◌≢◌, ◌<◌, ◌≤◌, ◌⊎◌, ◌↔◌, ℕ, inl, inr, Bool, true, false, List, [], ◌∷◌, ◌++◌, length, get_or, length-append, replicate, Option, None, Some, refl, sym, ap, ◌∙◌, subst, append_assoc, length-set, true≢false, arith}
use Rattle.std.specs.Bool.{then_some}
use Rattle.std.proofs.lemmas.Bool.{cases_eq}
use Rattle.std.proofs.lemmas.List.{get_or-set_same, get_or-set_other, get_or-replicate, length-replicate}
use Rattle.pay_frame.specs.Frame.{BodyFields}
use Rattle.pay_channel.specs.History.{Event, Ask, From, body_of}
use Rattle.pay_channel.specs.Lies.{IsLie}
use Rattle.pay_member.specs.declared.ledger.Lie.{Lie}
use Rattle.pay_member.specs.Lies.{lie_of, HasTold, IsLastLie, IsFound, AreFound, with_lie}
use Rattle.pay_member.proofs.Members.{split_push, nil_middle}

-- the body of a lie with a value
abbrev told_body : Lie → List ℕ → BodyFields
told_body lie v = body_of lie.kind lie.owner lie.seq v

told_stays : (history : List Event) (e : Event) (p : ℕ) (lie : Lie) → HasTold history p lie → HasTold (history ++ e ∷ []) p lie
told_stays history e p lie t =
    record {
      before = t.before;
      value = t.value;
      rest = t.rest ++ e ∷ [];
      told = ap (λ h. h ++ e ∷ []) t.told ∙ append_assoc t.before (From p (told_body lie t.value) ∷ t.rest) (e ∷ []);
      is = t.is;
    }

-- the last event is the last lie, if it is one
last_now : (history : List Event) (p : ℕ) (body : BodyFields) → IsLie history p body → IsLastLie (history ++ From p body ∷ []) p (lie_of body)
last_now history p body is =
    record {
      told = record { before = history; value = body.value; rest = []; told = refl; is = is };
      last = λ other earlier.
          let same = ap length earlier.told in
          let all = length-append history (From p body ∷ []) in
          let parts = length-append earlier.before (From p (told_body other earlier.value) ∷ earlier.rest) in
          omega arith;
    }

-- a lie is in the longer history: it was there before, at the same place, or the last event is it
module _ (history : List Event) (e : Event) (p : ℕ) where
  abbrev IsLast : Lie → Type 0
  IsLast lie = (v : List ℕ) × (From p (told_body lie v) ≡ e) × IsLie history p (told_body lie v)

  abbrev WasTold : (lie : Lie) → HasTold (history ++ e ∷ []) p lie → Type 0
  WasTold lie t = (old : HasTold history p lie) × (old.before ≡ t.before)

  told_before : (lie : Lie) (t : HasTold (history ++ e ∷ []) p lie) → WasTold lie t ⊎ IsLast lie
  told_before lie t = elim (split_push history t.before e (From p (told_body lie t.value)) t.rest t.told) [
    | inl last ↦ inr (t.value, last.1, subst (λ h. IsLie h p (told_body lie t.value)) last.0 t.is)
    | inr earlier ↦ inl (record { before = t.before; value = t.value; rest = earlier.0; told = earlier.1; is = t.is }, refl)
  ]

  last_still : ((lie : Lie) → IsLast lie → ⊥) → (lie : Lie) → IsLastLie history p lie → IsLastLie (history ++ e ∷ []) p lie
  unfolding told_stays
  last_still never lie is = record { told = told_stays history e p lie is.told; last = λ other t. at other t (told_before other t) } where
    at : (other : Lie) (t : HasTold (history ++ e ∷ []) p other) → WasTold other t ⊎ IsLast other → length t.before ≤ length is.told.before
    at other t (inl old) = let earlier = is.last other old.0 in let same = ap length old.1 in omega arith
    at other t (inr last) = absurd (never other last)

  found_still : ((lie : Lie) → IsLast lie → ⊥) → (o : Option Lie) → IsFound history p o → IsFound (history ++ e ∷ []) p o
  found_still never None none = λ lie t. elim (told_before lie t) [ inl old ↦ none lie old.0 | inr last ↦ never lie last ]
  found_still never (Some lie) is = last_still never lie is

pub found_at_first : (members : ℕ) (lies : List (Option Lie)) → lies ≡ replicate members None → AreFound members [] lies
found_at_first members lies are =
    record {
      places = ap length are ∙ length-replicate members None;
      each = λ p member. subst (λ o. IsFound [] p o) (sym (ap (λ (l : List (Option Lie)). get_or l p None) are ∙ get_or-replicate members p None None member)) (λ lie t. nil_middle t.before (From p (told_body lie t.value)) t.rest t.told);
    }

no_ask : (p : ℕ) (body : BodyFields) (v : List ℕ) → From p body ≡ Ask v → ⊥
no_ask p body v same = cc

pub found_asked : (members : ℕ) (history : List Event) (v : List ℕ) (lies : List (Option Lie)) → AreFound members history lies → AreFound members (history ++ Ask v ∷ []) lies
found_asked members history v lies found =
    record {
      places = found.places;
      each = λ p member. found_still history (Ask v) p (λ lie last. no_ask p (told_body lie last.0) v last.1) (get_or lies p None) (found.each p member);
    }

same_sender : (p q : ℕ) (b c : BodyFields) → From p b ≡ From q c → p ≡ q
same_sender p q b c same = cc

same_body : (p q : ℕ) (b c : BodyFields) → From p b ≡ From q c → b ≡ c
same_body p q b c same = cc

pub found_taken :
    (members : ℕ) (history : List Event) (from : ℕ) (body : BodyFields) (lies noted : List (Option Lie)) (is_lie : Bool) → AreFound members history lies → from < members
    → ((is_lie ≡ true) ↔ IsLie history from body) → noted ≡ with_lie from (then_some is_lie (lie_of body)) lies
    → AreFound members (history ++ From from body ∷ []) noted
found_taken members history from body lies noted is_lie found member says are = go is_lie says are where
  more : List Event
  more = history ++ From from body ∷ []

  other : (p : ℕ) → p ≢ from → p < members → IsFound more p (get_or lies p None)
  other p differs below = found_still history (From from body) p (λ lie last. differs (same_sender p from (told_body lie last.0) body last.1)) (get_or lies p None) (found.each p below)

  go : (b : Bool) → ((b ≡ true) ↔ IsLie history from body) → noted ≡ with_lie from (then_some b (lie_of body)) lies → AreFound members more noted
  go true says are =
      record {
        places = ap length are ∙ length-set lies from (Some (lie_of body)) ∙ found.places;
        each = λ p below. at p below (cases_eq p from);
      } where
        at : (p : ℕ) → p < members → ((p ≡ from) ⊎ (p ≢ from)) → IsFound more p (get_or noted p None)
        at p below (inl same) =
            let here : get_or noted from None ≡ Some (lie_of body) = ap (λ (l : List (Option Lie)). get_or l from None) are ∙ get_or-set_same lies from (Some (lie_of body)) None (let n = found.places in omega arith) in
            subst (λ q. IsFound more q (get_or noted q None)) (sym same) (subst (λ o. IsFound more from o) (sym here) (last_now history from body (says.0 refl)))
        at p below (inr differs) =
            subst (λ o. IsFound more p o) (sym (ap (λ (l : List (Option Lie)). get_or l p None) are ∙ get_or-set_other lies from p (Some (lie_of body)) None differs)) (other p differs below)
  go false says are =
      record {
        places = ap length are ∙ found.places;
        each = λ p below. subst (λ (l : List (Option Lie)). IsFound more p (get_or l p None)) (sym are) (at p below (cases_eq p from));
      } where
        never : (lie : Lie) → IsLast history (From from body) from lie → ⊥
        never lie last = true≢false (sym (says.1 (subst (λ b. IsLie history from b) (same_body from from (told_body lie last.0) body last.1) last.2)))

        at : (p : ℕ) → p < members → ((p ≡ from) ⊎ (p ≢ from)) → IsFound more p (get_or lies p None)
        at p below (inl same) = subst (λ q. IsFound more q (get_or lies q None)) (sym same) (found_still history (From from body) from never (get_or lies from None) (found.each from member))
        at p below (inr differs) = other p differs below
