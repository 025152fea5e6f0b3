-- A member that notes claims compares itself with these alone.
use Rattle.std.proofs.Common.{◌≡◌, ◌⊎◌, inl, inr, ℕ, zero, suc, ◌<◌, ◌&&◌, Bool, true, false, cond, ltb, leb, List, [], ◌∷◌, length, replicate, set, slice_get, Option, None, Some, refl, ap, ◌∙◌, subst, arith, length-set}
use Rattle.std.proofs.lemmas.Bool.{cond-false}
use Rattle.std.proofs.lemmas.Bool.Decides.{nat_tests}
use Rattle.std.proofs.lemmas.List.{length-replicate}
use Rattle.pay_node.specs.Comparing.{ComparingFields, is_of_now}
use Rattle.pay_world.specs.Setting.{Setting}
use Rattle.pay_laws.specs.Challenges.{MemberStart, HasNoted, ComparesNoted, ComparesAtFirst, ComparesOneMore, NotedIsHeld}

none_there : (n p x : ℕ) → slice_get (replicate n None) p ≡ Some (Some x) → ⊥
none_there zero p x is = cc
none_there (suc n) zero x is = cc
none_there (suc n) (suc p) x is = none_there n p x is

-- what stands in a list with one item more in its place
set_cases : (xs : List (Option ℕ)) (p q taken x : ℕ) → slice_get (set xs p (Some taken)) q ≡ Some (Some x) → ((p ≡ q) × (taken ≡ x)) ⊎ (slice_get xs q ≡ Some (Some x))
set_cases [] p q taken x is = inr is
set_cases (y ∷ ys) zero zero taken x is = inl (refl, (let same : taken ≡ x = cc in same))
set_cases (y ∷ ys) zero (suc q) taken x is = inr is
set_cases (y ∷ ys) (suc p) zero taken x is = inr is
set_cases (y ∷ ys) (suc p) (suc q) taken x is = elim (set_cases ys p q taken x is) [
  | inl same ↦ inl (ap suc same.0, same.1)
  | inr at ↦ inr at
]

set_there : (xs : List (Option ℕ)) (p taken : ℕ) → p < length xs → slice_get (set xs p (Some taken)) p ≡ Some (Some taken)
set_there [] p taken below = absurd (omega arith)
set_there (y ∷ ys) zero taken below = refl
set_there (y ∷ ys) (suc p) taken below = set_there ys p taken (omega arith)

pub compares_at_first : ComparesAtFirst
compares_at_first w t sent = record {
  members = refl;
  faults = refl;
  one_for_each = length-replicate w.members None;
  noted = λ p taken is. absurd (none_there w.members p taken is);
}

either_compares : (b : Bool) (w : Setting) (t : MemberStart) (c d : ComparingFields) → ComparesNoted w t c → ComparesNoted w t d → ComparesNoted w t (cond b c d)
either_compares true w t c d one two = one
either_compares false w t c d one two = two

pub compares_one_more : ComparesOneMore
compares_one_more w t c p taken now compares has =
    either_compares (is_of_now c.sent now taken) w t c (record c { claims = set c.claims p (Some taken) }) compares (record {
      members = compares.members;
      faults = compares.faults;
      one_for_each = length-set c.claims p (Some taken) ∙ compares.one_for_each;
      noted = λ q x is. elim (set_cases c.claims p q taken x is) [
        | inl same ↦ subst (λ (k : ℕ). HasNoted t k x) same.0 (subst (λ (n : ℕ). HasNoted t p n) same.1 has)
        | inr at ↦ compares.noted q x at
      ];
    })

pub noted_is_held : NotedIsHeld
noted_is_held c p taken below =
    ap (λ (d : ComparingFields). slice_get d.claims p) (cond-false _ _ _ (nothing_new c.sent taken)) ∙ set_there c.claims p taken below where
      nothing_new : (sent claim : ℕ) → (ltb sent claim && leb claim sent) ≡ false
      nothing_new sent claim = grind (arith, nat_tests)
