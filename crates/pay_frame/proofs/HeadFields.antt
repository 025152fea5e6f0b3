-- The test of a head by its fields holds exactly where the byte at each place passes.
use Rattle.std.proofs.Common.{◌≡◌, ℕ, ◌-◌, ◌/◌, ◌%◌, ◌≤◌, Bool, true, false, not, ◌&&◌, ◌||◌, eqb, leb, List, get_or, length, min, refl, sym, ◌∙◌, arith}
use Rattle.std.proofs.lemmas.Bool.{false≢true, eqb-true, leb-true, le-leb, and_parts, eq-eqb}
use Rattle.pay_frame.specs.Places.{length_field, may_stand, PassBelow, two_at, are_lengths, is_bare_head, is_head}
use Rattle.pay_frame.specs.Stream.{IsBytes}
use Rattle.pay_frame.proofs.Lists.{at_each}
use Rattle.pay_frame.proofs.Heads.{both}
use Rattle.pay_frame.proofs.Passing.{IsHead, head_from_passing}

-- ---- a test that is asked of a WANT only

asked_less : (want one other : Bool) → (one ≡ true → other ≡ true) → (not want || one) ≡ true → (not want || other) ≡ true
asked_less true one other f h = f h
asked_less false one other f h = refl

asked_of : (want one : Bool) → (want ≡ true → one ≡ true) → (not want || one) ≡ true
asked_of true one f = f refl
asked_of false one f = refl

-- ---- where the fields pass, each place does

record Zeros (h : List ℕ) : Type 0 where
  at_16 : get_or h 16 0 ≡ 0
  at_17 : get_or h 17 0 ≡ 0
  at_20 : get_or h 20 0 ≡ 0
  at_21 : get_or h 21 0 ≡ 0
  value : two_at h 22 ≡ 0

zeros_from_bare : (h : List ℕ) → is_bare_head h ≡ true → Zeros h
zeros_from_bare h bare =
    let all = and_parts (eqb (two_at h 16) 0 && eqb (two_at h 20) 0) (eqb (two_at h 22) 0) bare in
    let two = and_parts (eqb (two_at h 16) 0) (eqb (two_at h 20) 0) all.0 in
    let owner = eqb-true (two_at h 16) 0 two.0 in
    let seq = eqb-true (two_at h 20) 0 two.1 in
    record {
      at_16 = omega (arith, owner);
      at_17 = omega (arith, owner);
      at_20 = omega (arith, seq);
      at_21 = omega (arith, seq);
      value = eqb-true (two_at h 22) 0 all.1;
    }

pub passing_from_fields : (h : List ℕ) → IsBytes h → is_head h ≡ true → PassBelow h 24
passing_from_fields h is pass =
    let field = length_field h in
    let kind = get_or h 3 0 in
    let versions = eqb (get_or h 2 0) 1 in
    let kinds = leb 1 kind && leb kind 4 in
    let seqs = eqb (two_at h 18) 0 in
    let want = eqb kind 4 in
    let all = and_parts (are_lengths h && versions && kinds && seqs) (not want || is_bare_head h) pass in
    let four = and_parts (are_lengths h && versions && kinds) seqs all.0 in
    let three = and_parts (are_lengths h && versions) kinds four.0 in
    let two = and_parts (are_lengths h) versions three.0 in
    let lengths = and_parts (leb 54 field && leb field 1078) (eqb (two_at h 22) (field - 54)) two.0 in
    let bounds = and_parts (leb 54 field) (leb field 1078) lengths.0 in
    let least : 54 ≤ field = leb-true 54 field bounds.0 in
    let greatest : field ≤ 1078 = leb-true field 1078 bounds.1 in
    let value : two_at h 22 ≡ field - 54 = eqb-true (two_at h 22) (field - 54) lengths.1 in
    let seq : two_at h 18 ≡ 0 = eqb-true (two_at h 18) 0 four.1 in
    at_each (λ k. may_stand h k ≡ true)
    (le-leb (get_or h 0 0) 4 (omega (arith, greatest)))
    lengths.0
    two.1
    (both three.1 (asked_less want (is_bare_head h) (eqb field 54) (λ b. eq-eqb field 54 (omega (arith, (zeros_from_bare h b).value, value, least))) all.1))
    refl refl refl refl refl refl
    refl refl refl refl refl refl
    (asked_less want (is_bare_head h) (eqb (get_or h 16 0) 0) (λ b. eq-eqb (get_or h 16 0) 0 (zeros_from_bare h b).at_16) all.1)
    (asked_less want (is_bare_head h) (eqb (get_or h 17 0) 0) (λ b. eq-eqb (get_or h 17 0) 0 (zeros_from_bare h b).at_17) all.1)
    (eq-eqb (get_or h 18 0) 0 (omega (arith, seq)))
    (eq-eqb (get_or h 19 0) 0 (omega (arith, seq)))
    (asked_less want (is_bare_head h) (eqb (get_or h 20 0) 0) (λ b. eq-eqb (get_or h 20 0) 0 (zeros_from_bare h b).at_20) all.1)
    (asked_less want (is_bare_head h) (eqb (get_or h 21 0) 0) (λ b. eq-eqb (get_or h 21 0) 0 (zeros_from_bare h b).at_21) all.1)
    (eq-eqb (get_or h 22 0) ((field - 54) / 256) (omega (arith, value, is.fits 23)))
    (eq-eqb (get_or h 23 0) ((field - 54) % 256) (omega (arith, value, is.fits 23)))

-- ---- where each place passes, the fields do

bare_want : (h : List ℕ) → IsHead h → get_or h 3 0 ≡ 4 → is_bare_head h ≡ true
bare_want h head e =
    both
    (both
    (eq-eqb (two_at h 16) 0 (omega (arith, head.want_16 e, head.want_17 e)))
    (eq-eqb (two_at h 20) 0 (omega (arith, head.want_20 e, head.want_21 e))))
    (eq-eqb (two_at h 22) 0 (omega (arith, head.want_length e, head.value_high, head.value_low)))

pub fields_from_passing : (h : List ℕ) → PassBelow h 24 → is_head h ≡ true
fields_from_passing h pass =
    let head = head_from_passing h pass in
    let field = length_field h in
    let kind = get_or h 3 0 in
    let lengths : are_lengths h ≡ true =
    both (both (le-leb 54 field head.least) (le-leb field 1078 head.greatest))
    (eq-eqb (two_at h 22) (field - 54) (omega (arith, head.value_high, head.value_low)))
    in
    both
    (both
    (both
    (both lengths (eq-eqb (get_or h 2 0) 1 head.version))
    (both (le-leb 1 kind head.kind_least) (le-leb kind 4 head.kind_greatest)))
    (eq-eqb (two_at h 18) 0 (omega (arith, head.seq_18, head.seq_19))))
    (asked_of (eqb kind 4) (is_bare_head h) (λ e. bare_want h head (eqb-true kind 4 e)))

-- a head whose fields don't pass has a place that doesn't
pub wrong_somewhere : (x : List ℕ) → 24 ≤ length x → is_head x ≡ false → PassBelow x (min 24 (length x)) → ⊥
wrong_somewhere x long wrong pass =
    let all : PassBelow x 24 = λ p lt. pass p (omega arith) in
    false≢true (sym wrong ∙ fields_from_passing x all)
