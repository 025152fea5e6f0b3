-- What is kept under an id, by the look-up of the set.
use Rattle.std.proofs.Common.{◌≡◌, ℕ, Bool, true, false, List, [], ◌∷◌, ◌++◌, refl, ◌∙◌, ap, arith, cond, nat_eq, map, Some, None, ◌||◌, if◌then◌else◌}
use Rattle.std.specs.Option.{option_map}
use Rattle.std.specs.List.{find, list_any}
use Rattle.std.proofs.lemmas.Bool.Decides.{nat_tests}
use Rattle.std.proofs.lemmas.List.{map-append}
use Rattle.indexmap.specs.IndexSet.{insert_key}
use Rattle.pay_desk.specs.declared.kept.ById.{ById}
use Rattle.pay_desk.specs.declared.kept.Kept.{Kept}
use Rattle.pay_desk.specs.Kept.{kept_under}

abbrev pub kept_of : ById → Kept
kept_of p = p.kept

-- whether a payment is kept under an id
abbrev pub has_id : ℕ → ById → Bool
has_id id p = nat_eq id p.kept.id

pub found : (id : ℕ) (ps : List ById) → kept_under id (map kept_of ps) ≡ option_map kept_of (find (has_id id) ps)
unfolding kept_under
found id [] = refl
found id (p ∷ ps) =
    (elim (nat_eq id p.kept.id)
    as (λ b. nat_eq id p.kept.id ≡ b → cond (nat_eq p.kept.id id) (Some p.kept) (kept_under id (map kept_of ps)) ≡ option_map kept_of (cond b (Some p) (find (has_id id) ps))) [
      | true ↦ λ same.
          let s : nat_eq p.kept.id id ≡ true = grind (arith, nat_tests) in
          rw s refl
      | false ↦ λ other.
          let o : nat_eq p.kept.id id ≡ false = grind (arith, nat_tests) in
          rw o (found id ps)
    ]) refl

-- an id under which nothing is kept isn't in the set
absent : (id : ℕ) (ps : List ById) → kept_under id (map kept_of ps) ≡ None → list_any (has_id id) ps ≡ false
unfolding kept_under
absent id [] none = refl
absent id (p ∷ ps) none =
    (elim (nat_eq id p.kept.id)
    as (λ b. nat_eq id p.kept.id ≡ b → (b || list_any (has_id id) ps) ≡ false) [
      | true ↦ λ same.
          let s : nat_eq p.kept.id id ≡ true = grind (arith, nat_tests) in
          absurd (let bad = rw s at none in cc)
      | false ↦ λ other.
          let o : nat_eq p.kept.id id ≡ false = grind (arith, nat_tests) in
          absent id ps (rw o at none)
    ]) refl

-- a payment more is kept behind the others
pub kept_behind : (old mid : List ById) (p : ById) → mid ≡ old → kept_under p.kept.id (map kept_of old) ≡ None
    → map kept_of (insert_key (λ a b. nat_eq a.kept.id b.kept.id) mid p) ≡ map kept_of old ++ p.kept ∷ []
kept_behind old mid p same none =
    ap (map kept_of) (ap (λ b. if b then mid else mid ++ p ∷ []) (ap (list_any (has_id p.kept.id)) same ∙ absent p.kept.id old none))
    ∙ ap (λ ps. map kept_of (ps ++ p ∷ [])) same
    ∙ map-append kept_of old (p ∷ [])
