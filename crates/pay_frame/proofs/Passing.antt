-- A head whose bytes all pass the test of their place is spelled by fields within a frame's limits.
use Rattle.std.proofs.Common.{◌≡◌, ℕ, ◌+◌, ◌-◌, ◌/◌, ◌%◌, ◌<◌, ◌≤◌, true, not, ◌&&◌, ◌||◌, eqb, leb, List, [], ◌∷◌, ◌++◌, length, get_or, take, refl, sym, ◌∙◌, ap, arith}
use Rattle.std.specs.Prelude.{map}
use Rattle.std.specs.List.{range_with_len}
use Rattle.std.specs.Int.{w16, w32, w64, to_be_bytes, from_be_bytes}
use Rattle.std.proofs.lemmas.Bool.{eqb-true, leb-true, and_parts, eq-eqb}
use Rattle.std.proofs.lemmas.Nat.{be_bytes_2, be_bytes_4, be_bytes_8}
use Rattle.pay_frame.specs.declared.body.Kind.{Kind}
use Rattle.pay_frame.specs.declared.body.Kind.TheVariants.{Want}
use Rattle.pay_frame.specs.Frame.{BodyFields, FrameFields, code_of, head_bytes, IsBody}
use Rattle.pay_frame.specs.Places.{length_field, PassBelow, two_at, four_at, eight_at}
use Rattle.pay_frame.specs.Stream.{IsBytes}
use Rattle.pay_frame.proofs.Lists.{IsBytes-none, IsBytes-cons, cells}

-- what the tests tell
pub record IsHead (h : List ℕ) : Type 0 where
  pub least : 54 ≤ length_field h
  pub greatest : length_field h ≤ 1078
  pub version : get_or h 2 0 ≡ 1
  pub kind_least : 1 ≤ get_or h 3 0
  pub kind_greatest : get_or h 3 0 ≤ 4
  pub want_length : get_or h 3 0 ≡ 4 → length_field h ≡ 54
  pub want_16 : get_or h 3 0 ≡ 4 → get_or h 16 0 ≡ 0
  pub want_17 : get_or h 3 0 ≡ 4 → get_or h 17 0 ≡ 0
  pub seq_18 : get_or h 18 0 ≡ 0
  pub seq_19 : get_or h 19 0 ≡ 0
  pub want_20 : get_or h 3 0 ≡ 4 → get_or h 20 0 ≡ 0
  pub want_21 : get_or h 3 0 ≡ 4 → get_or h 21 0 ≡ 0
  pub value_high : get_or h 22 0 ≡ (length_field h - 54) / 256
  pub value_low : get_or h 23 0 ≡ (length_field h - 54) % 256

-- where a WANT's test passes in a WANT, its fact holds
in_want : (kind n m : ℕ) → (not (eqb kind 4) || eqb n m) ≡ true → kind ≡ 4 → n ≡ m
in_want kind n m h e =
    let is : eqb kind 4 ≡ true = eq-eqb kind 4 e in
    let other : eqb n m ≡ true = rw is at h in
    eqb-true n m other

pub head_from_passing : (h : List ℕ) → PassBelow h 24 → IsHead h
head_from_passing h pass =
    let field = length_field h in
    let kind = get_or h 3 0 in
    let lengths = and_parts (leb 54 field) (leb field 1078) (pass 1 (omega arith)) in
    let kinds = and_parts (leb 1 kind && leb kind 4) (not (eqb kind 4) || eqb field 54) (pass 3 (omega arith)) in
    let bounds = and_parts (leb 1 kind) (leb kind 4) kinds.0 in
    record {
      least = leb-true 54 field lengths.0;
      greatest = leb-true field 1078 lengths.1;
      version = eqb-true (get_or h 2 0) 1 (pass 2 (omega arith));
      kind_least = leb-true 1 kind bounds.0;
      kind_greatest = leb-true kind 4 bounds.1;
      want_length = in_want kind field 54 kinds.1;
      want_16 = in_want kind (get_or h 16 0) 0 (pass 16 (omega arith));
      want_17 = in_want kind (get_or h 17 0) 0 (pass 17 (omega arith));
      seq_18 = eqb-true (get_or h 18 0) 0 (pass 18 (omega arith));
      seq_19 = eqb-true (get_or h 19 0) 0 (pass 19 (omega arith));
      want_20 = in_want kind (get_or h 20 0) 0 (pass 20 (omega arith));
      want_21 = in_want kind (get_or h 21 0) 0 (pass 21 (omega arith));
      value_high = eqb-true (get_or h 22 0) ((field - 54) / 256) (pass 22 (omega arith));
      value_low = eqb-true (get_or h 23 0) ((field - 54) % 256) (pass 23 (omega arith));
    }

-- the body that a head and a value make
abbrev pub body_in : List ℕ → Kind → List ℕ → BodyFields
body_in h kind value = record { kind = kind; owner = two_at h 16; seq = four_at h 18; value = value }

abbrev pub frame_in : List ℕ → Kind → List ℕ → List ℕ → FrameFields
frame_in h kind value tag = record { from = two_at h 4; to = two_at h 6; number = eight_at h 8; body = body_in h kind value; tag = tag }

two_back : (n x y : ℕ) → x < 256 → y < 256 → n ≡ from_be_bytes w16 (x ∷ y ∷ []) → to_be_bytes w16 n ≡ x ∷ y ∷ []
two_back n x y p q e =
    let is : IsBytes (x ∷ y ∷ []) = IsBytes-cons p (IsBytes-cons q IsBytes-none) in
    be_bytes_2 _ n refl is.fits e

four_back : (h : List ℕ) → IsBytes h → (p : ℕ) → to_be_bytes w32 (four_at h p) ≡ get_or h p 0 ∷ get_or h (p + 1) 0 ∷ get_or h (p + 2) 0 ∷ get_or h (p + 3) 0 ∷ []
four_back h is p =
    let bytes : IsBytes (get_or h p 0 ∷ get_or h (p + 1) 0 ∷ get_or h (p + 2) 0 ∷ get_or h (p + 3) 0 ∷ []) =
    IsBytes-cons (is.fits p) (IsBytes-cons (is.fits (p + 1)) (IsBytes-cons (is.fits (p + 2)) (IsBytes-cons (is.fits (p + 3)) IsBytes-none)))
    in
    be_bytes_4 _ _ refl bytes.fits refl

abbrev eight_cells : List ℕ → ℕ → List ℕ
eight_cells h p = get_or h p 0 ∷ get_or h (p + 1) 0 ∷ get_or h (p + 2) 0 ∷ get_or h (p + 3) 0 ∷ get_or h (p + 4) 0 ∷ get_or h (p + 5) 0 ∷ get_or h (p + 6) 0 ∷ get_or h (p + 7) 0 ∷ []

eight_back : (h : List ℕ) → IsBytes h → (p : ℕ) → to_be_bytes w64 (eight_at h p) ≡ eight_cells h p
eight_back h is p =
    let bytes : IsBytes (eight_cells h p) =
    IsBytes-cons (is.fits p) (IsBytes-cons (is.fits (p + 1)) (IsBytes-cons (is.fits (p + 2)) (IsBytes-cons (is.fits (p + 3))
    (IsBytes-cons (is.fits (p + 4)) (IsBytes-cons (is.fits (p + 5)) (IsBytes-cons (is.fits (p + 6)) (IsBytes-cons (is.fits (p + 7)) IsBytes-none)))))))
    in
    be_bytes_8 _ _ refl bytes.fits refl

code_4 : (k : Kind) → k ≡ Want → code_of k ≡ 4
code_4 k e = ap code_of e

nothing : (value : List ℕ) → length value ≡ 0 → value ≡ []
nothing [] e = refl
nothing (x ∷ xs) e = absurd (omega arith)

-- the cells of a head, from the spellings of its fields
joined : (len from to number owner seq value : ℕ) (h : List ℕ) (kind : Kind)
    → to_be_bytes w16 len ≡ get_or h 0 0 ∷ get_or h 1 0 ∷ [] → get_or h 2 0 ≡ 1 → code_of kind ≡ get_or h 3 0
    → to_be_bytes w16 from ≡ get_or h 4 0 ∷ get_or h 5 0 ∷ [] → to_be_bytes w16 to ≡ get_or h 6 0 ∷ get_or h 7 0 ∷ []
    → to_be_bytes w64 number ≡ eight_cells h 8 → to_be_bytes w16 owner ≡ get_or h 16 0 ∷ get_or h 17 0 ∷ []
    → to_be_bytes w32 seq ≡ get_or h 18 0 ∷ get_or h 19 0 ∷ get_or h 20 0 ∷ get_or h 21 0 ∷ []
    → to_be_bytes w16 value ≡ get_or h 22 0 ∷ get_or h 23 0 ∷ []
    → to_be_bytes w16 len ++ (1 ∷ code_of kind ∷ []) ++ to_be_bytes w16 from ++ to_be_bytes w16 to ++ to_be_bytes w64 number
    ++ to_be_bytes w16 owner ++ to_be_bytes w32 seq ++ to_be_bytes w16 value
    ≡ map (λ i. get_or h i 0) (range_with_len 0 24)
joined len from to number owner seq value h kind l v k f t n o s w = cc

-- such a head is the spelling of its fields
pub head_spelled : (h : List ℕ) (kind : Kind) (value : List ℕ) → 24 ≤ length h → IsBytes h → IsHead h → code_of kind ≡ get_or h 3 0 → 54 + length value ≡ length_field h
    → head_bytes (two_at h 4) (two_at h 6) (eight_at h 8) (body_in h kind value) ≡ take 24 h
head_spelled h kind value long is head kind-is len =
    let x0 = is.fits 0 in
    let x1 = is.fits 1 in
    let lengths : to_be_bytes w16 (54 + length value) ≡ get_or h 0 0 ∷ get_or h 1 0 ∷ [] = two_back _ _ _ (is.fits 0) (is.fits 1) (omega arith) in
    let values : to_be_bytes w16 (length value) ≡ get_or h 22 0 ∷ get_or h 23 0 ∷ [] = two_back _ _ _ (is.fits 22) (is.fits 23) (omega (arith, head.value_high, head.value_low, head.greatest)) in
    let from : to_be_bytes w16 (two_at h 4) ≡ get_or h 4 0 ∷ get_or h 5 0 ∷ [] = two_back _ _ _ (is.fits 4) (is.fits 5) refl in
    let to : to_be_bytes w16 (two_at h 6) ≡ get_or h 6 0 ∷ get_or h 7 0 ∷ [] = two_back _ _ _ (is.fits 6) (is.fits 7) refl in
    let owner : to_be_bytes w16 (two_at h 16) ≡ get_or h 16 0 ∷ get_or h 17 0 ∷ [] = two_back _ _ _ (is.fits 16) (is.fits 17) refl in
    let number : to_be_bytes w64 (eight_at h 8) ≡ eight_cells h 8 = eight_back h is 8 in
    let seq : to_be_bytes w32 (four_at h 18) ≡ get_or h 18 0 ∷ get_or h 19 0 ∷ get_or h 20 0 ∷ get_or h 21 0 ∷ [] = four_back h is 18 in
    joined _ _ _ _ _ _ _ h kind lengths head.version kind-is from to number owner seq values ∙ sym (cells h long)

-- and its fields are within the limits
pub body_fits : (h : List ℕ) (kind : Kind) (value : List ℕ) → IsBytes h → IsHead h → code_of kind ≡ get_or h 3 0 → 54 + length value ≡ length_field h → IsBody (body_in h kind value)
body_fits h kind value is head kind-is len = record {
  owner = omega (arith, is.fits 16, is.fits 17);
  seq = omega (arith, head.seq_18, head.seq_19, is.fits 20, is.fits 21);
  value = omega (arith, head.greatest);
  want = λ e.
      let four : get_or h 3 0 ≡ 4 = sym kind-is ∙ code_4 kind e in
      (omega (arith, head.want_16 four, head.want_17 four), omega (arith, head.seq_18, head.seq_19, head.want_20 four, head.want_21 four), nothing value (omega (arith, head.want_length four)));
}
