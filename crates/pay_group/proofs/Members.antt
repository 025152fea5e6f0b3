-- Exports one after the other: of whom they are, and that they begin alike.
use Rattle.std.proofs.Common.{◌≡◌, ℕ, zero, suc, ◌+◌, ◌==◌, ◌&&◌, Bool, true, false, List, [], ◌∷◌, drop, slice_get, Option, Some, None, if◌then◌else◌, refl, ap, sym, subst, ◌∙◌}
use Rattle.std.specs.Option.{is_some, option_or}
use Rattle.std.specs.Str.{bytes_eq}
use Rattle.std.proofs.lemmas.Bool.{eqb-true}
use Rattle.std.proofs.lemmas.List.{drop_more}
use Rattle.std.proofs.lemmas.Option.{get_or_from_slice_get, same_Some, slice_get_within}
use Rattle.pay_link.specs.Genesis.{GenesisFields}
use Rattle.pay_audit.specs.Auditor.{first_genesis}
use Rattle.pay_audit.specs.Export.{ExportFields}
use Rattle.pay_audit.specs.Verdict.{first_from, other_genesis, other_genesis_at, same_genesis}
use Rattle.pay_audit.specs.declared.auditing.Verdict.{Verdict}
use Rattle.pay_audit.specs.declared.auditing.Verdict.TheVariants.{OtherGenesis}
use Rattle.pay_group.specs.Book.{HasNoBook, other_by, twice_at, twice_from}
use Rattle.pay_group.specs.declared.booking.BookFault.{BookFault}
use Rattle.pay_group.specs.declared.booking.BookFault.TheVariants.{Twice}

-- ---- from a place on

pub from_here : {A : Type 0} (n : ℕ) (xs : List A) (x : A) → slice_get xs n ≡ Some x → drop n xs ≡ x ∷ drop (n + 1) xs
from_here n xs x at = drop_more xs n x (slice_get_within xs n x at) ∙ ap (λ y. y ∷ drop (n + 1) xs) (get_or_from_slice_get xs n x x at)

-- ---- the first two of one member

option_first : {A : Type 0} (o rest : Option A) → true ≡ is_some o → option_or o rest ≡ o
option_first None rest h = absurd cc
option_first (Some v) rest h = refl

option_rest : {A : Type 0} (o rest : Option A) → false ≡ is_some o → option_or o rest ≡ rest
option_rest None rest h = refl
option_rest (Some v) rest h = absurd cc

module _ (exports : List ExportFields) (n : ℕ) (e : ExportFields) (twice : Option BookFault) (at : slice_get exports n ≡ Some e)
    (found : twice ≡ first_from (twice_at n e.member) (n + 1) (drop (n + 1) exports)) where
  from_next : twice_from n (drop n exports) ≡ option_or twice (twice_from (n + 1) (drop (n + 1) exports))
  from_next = ap (twice_from n) (from_here n exports e at) ∙ ap (λ o. option_or o (twice_from (n + 1) (drop (n + 1) exports))) (sym found)

  pub twice_is_next : true ≡ is_some twice → twice_from n (drop n exports) ≡ twice
  twice_is_next some = from_next ∙ option_first twice (twice_from (n + 1) (drop (n + 1) exports)) some

  pub twice_is_later : false ≡ is_some twice → twice_from n (drop n exports) ≡ twice_from (n + 1) (drop (n + 1) exports)
  twice_is_later none = from_next ∙ option_rest twice (twice_from (n + 1) (drop (n + 1) exports)) none

-- ---- one genesis

pub is_first : (exports : List ExportFields) (e : ExportFields) → slice_get exports 0 ≡ Some e → first_genesis exports ≡ Some e.genesis
is_first [] e at = absurd cc
is_first (d ∷ exports) e at = ap (λ (x : ExportFields). Some x.genesis) (same_Some d e at)

pub none_first : {B : Type 0} (o rest : Option B) → option_or o rest ≡ None → o ≡ None
none_first None rest h = refl
none_first (Some b) rest h = absurd cc

pub none_rest : {B : Type 0} (o rest : Option B) → option_or o rest ≡ None → rest ≡ None
none_rest None rest h = h
none_rest (Some b) rest h = absurd cc

first_true : (a b c : Bool) → (a && b && c) ≡ true → a ≡ true
first_true true b c h = refl
first_true false b c h = absurd cc

same_where_none : (b : Bool) (v : Verdict) → (if b then None else Some v) ≡ None → b ≡ true
same_where_none true v h = refl
same_where_none false v h = absurd cc

alike : (g : GenesisFields) (k : ℕ) (exports : List ExportFields) → first_from (other_genesis_at g) k exports ≡ None
    → (x : ℕ) (e : ExportFields) → slice_get exports x ≡ Some e → e.genesis.members ≡ g.members
alike g k [] none x e at = absurd cc
alike g k (d ∷ exports) none zero e at =
    let is = same_where_none (same_genesis g d.genesis) (OtherGenesis k) (none_first (other_genesis_at g k d) (first_from (other_genesis_at g) (k + 1) exports) none) in
    let one = first_true (g.members == d.genesis.members) (g.faults == d.genesis.faults) (bytes_eq g.opening d.genesis.opening) is in
    let members : g.members ≡ d.genesis.members = eqb-true g.members d.genesis.members one in
    ap (λ (x : ExportFields). x.genesis.members) (sym (same_Some d e at)) ∙ sym members
alike g k (d ∷ exports) none (suc x) e at =
    alike g (k + 1) exports (none_rest (other_genesis_at g k d) (first_from (other_genesis_at g) (k + 1) exports) none) x e at

pub one_size : (exports : List ExportFields) (g : GenesisFields) → first_genesis exports ≡ Some g → other_genesis exports ≡ None
    → (x : ℕ) (e : ExportFields) → slice_get exports x ≡ Some e → e.genesis.members ≡ g.members
one_size [] g first none x e at = absurd cc
one_size (d ∷ exports) g first none x e at =
    alike d.genesis 0 (d ∷ exports) none x e at ∙ ap (λ (h : GenesisFields). h.members) (same_Some d.genesis g first)

-- what is found of geneses is another one
other_at : (g : GenesisFields) (k : ℕ) (exports : List ExportFields) (v : Verdict) → first_from (other_genesis_at g) k exports ≡ Some v
    → (x : ℕ) × (v ≡ OtherGenesis x)
other_at g k [] v h = absurd cc
other_at g k (d ∷ exports) v h = go (same_genesis g d.genesis) h (other_at g (k + 1) exports v) where
  go : (b : Bool) → option_or (if b then None else Some (OtherGenesis k)) (first_from (other_genesis_at g) (k + 1) exports) ≡ Some v
      → (first_from (other_genesis_at g) (k + 1) exports ≡ Some v → (x : ℕ) × (v ≡ OtherGenesis x)) → (x : ℕ) × (v ≡ OtherGenesis x)
  go true e rest = rest e
  go false e rest = (k, sym (same_Some (OtherGenesis k) v e))

pub is_other : (exports : List ExportFields) (v : Verdict) → other_genesis exports ≡ Some v → (x : ℕ) × (v ≡ OtherGenesis x)
is_other [] v h = absurd cc
is_other (d ∷ exports) v h = other_at d.genesis 0 (d ∷ exports) v h

-- what is found of members is two exports of one
twice_one : (x member k : ℕ) (exports : List ExportFields) (f : BookFault) → first_from (twice_at x member) k exports ≡ Some f
    → (y : ℕ) × (f ≡ Twice x y)
twice_one x member k [] f h = absurd cc
twice_one x member k (d ∷ exports) f h = go (d.member == member) h (twice_one x member (k + 1) exports f) where
  go : (b : Bool) → option_or (if b then Some (Twice x k) else None) (first_from (twice_at x member) (k + 1) exports) ≡ Some f
      → (first_from (twice_at x member) (k + 1) exports ≡ Some f → (y : ℕ) × (f ≡ Twice x y)) → (y : ℕ) × (f ≡ Twice x y)
  go true e rest = (k, sym (same_Some (Twice x k) f e))
  go false e rest = rest e

pub is_twice : (k : ℕ) (exports : List ExportFields) (f : BookFault) → twice_from k exports ≡ Some f → (x : ℕ) × (y : ℕ) × (f ≡ Twice x y)
is_twice k [] f h = absurd cc
is_twice k (d ∷ exports) f h = go (first_from (twice_at k d.member) (k + 1) exports) refl h (is_twice (k + 1) exports f) where
  go : (o : Option BookFault) → first_from (twice_at k d.member) (k + 1) exports ≡ o → option_or o (twice_from (k + 1) exports) ≡ Some f
      → (twice_from (k + 1) exports ≡ Some f → (x : ℕ) × (y : ℕ) × (f ≡ Twice x y)) → (x : ℕ) × (y : ℕ) × (f ≡ Twice x y)
  go None is e rest = rest e
  go (Some found) is e rest =
      let one = twice_one k d.member (k + 1) exports found is in
      (k, one.0, sym (same_Some found f e) ∙ one.1)

pub other_found : (exports : List ExportFields) (v : Verdict) → Some v ≡ other_genesis exports → HasNoBook exports (other_by v)
other_found exports v found =
    let o = is_other exports v (sym found) in
    subst (λ w. HasNoBook exports (other_by w)) (sym o.1) (sym found ∙ ap (λ w. Some w) o.1)

pub twice_found : (exports : List ExportFields) (f : BookFault) → other_genesis exports ≡ None → Some f ≡ twice_from 0 exports → HasNoBook exports f
twice_found exports f none found =
    let t = is_twice 0 exports f (sym found) in
    subst (HasNoBook exports) (sym t.2) (none, sym found ∙ ap (λ w. Some w) t.2)
