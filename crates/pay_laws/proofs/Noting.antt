-- A noted claim of a correct member was made since the start.
use Rattle.std.proofs.Common.{◌≡◌, inl, inr, ℕ, List, ◌∷◌, ◌++◌, slice_get, Some, sym, ap, ◌∙◌, subst, append_assoc}
use Rattle.std.proofs.lemmas.List.Elements.{filter_map-append}
use Rattle.pay_channel.specs.Prefix.{IsPrefix}
use Rattle.pay_channel.specs.Taken.{next}
use Rattle.pay_node.specs.Comparing.{ComparingFields}
use Rattle.pay_world.specs.Setting.{Setting, IsCorrect}
use Rattle.pay_laws.specs.Restarts.{AreFair, history_by_steps}
use Rattle.pay_laws.specs.Challenges.{Happening, Starts, Claims, Notes, step_of, steps_in, AreUnforged, MemberStart, all_around, HasFreshNonce, ComparesNoted}
use Rattle.pay_laws.proofs.Restarting.{fair_front}
use Rattle.pay_laws.proofs.Splits.{split_at, in_or_before}

pub steps_append : (some more : List Happening) → steps_in (some ++ more) ≡ steps_in some ++ steps_in more
steps_append some more = filter_map-append step_of some more

-- the steps until a moment are fair
pub fair_until : (w : Setting) (until whole : List Happening) → IsPrefix until whole → AreFair w (steps_in whole) → AreFair w (steps_in until)
fair_until w until whole p fair =
    fair_front w (steps_in until) (steps_in p.rest) (subst (AreFair w) (ap steps_in p.is ∙ steps_append until p.rest) fair)

-- p claimed so many at a moment since the start, and that was so
pub record ClaimsSince (w : Setting) (t : MemberStart) (p taken : ℕ) : Type 0 where
  pub until : List Happening
  pub since : IsPrefix t.before until
  pub moment : IsPrefix until (all_around t)
  pub exact : taken ≡ next t.member (history_by_steps w (steps_in until) p)

pub claim_since :
    (w : Setting) (t : MemberStart) (c : ComparingFields) → AreUnforged w (all_around t) → HasFreshNonce w t → ComparesNoted w t c
    → (p taken : ℕ) → IsCorrect w p → slice_get c.claims p ≡ Some (Some taken) → ClaimsSince w t p taken
claim_since w t c unforged fresh compares p taken correct held =
    let n = compares.noted p taken held in
    let at = split_at t.after (Notes t.member p n.nonce taken) n.noted in
    let before : List Happening = t.before ++ Starts t.member t.nonces ∷ at.0 in
    let whole : all_around t ≡ before ++ Notes t.member p n.nonce taken ∷ at.1 =
    ap (λ (l : List Happening). t.before ++ Starts t.member t.nonces ∷ l) at.2
    ∙ sym (append_assoc t.before (Starts t.member t.nonces ∷ at.0) (Notes t.member p n.nonce taken ∷ at.1)) in
    let claim = unforged.each before (Notes t.member p n.nonce taken) at.1 whole correct in
    elim (in_or_before t.before (Starts t.member t.nonces ∷ at.0) claim.before claim.after (Claims p t.member n.nonce) claim.is) [
      | inl old ↦ absurd (fresh p n.nonce correct n.drawn old)
      | inr since ↦ record {
        until = claim.before;
        since = since;
        moment = record {
          rest = (Claims p t.member n.nonce ∷ claim.after) ++ Notes t.member p n.nonce taken ∷ at.1;
          is = whole ∙ ap (λ (l : List Happening). l ++ Notes t.member p n.nonce taken ∷ at.1) claim.is
              ∙ append_assoc claim.before (Claims p t.member n.nonce ∷ claim.after) (Notes t.member p n.nonce taken ∷ at.1);
        };
        exact = claim.exact;
      }
    ]
