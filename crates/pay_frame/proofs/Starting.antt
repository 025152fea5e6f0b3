-- Bytes that pass the test of each place start a frame, and only such bytes do.
use Rattle.std.proofs.Common.{◌≡◌, ℕ, zero, suc, ◌+◌, ◌-◌, ◌/◌, ◌%◌, ◌<◌, ◌≤◌, Bool, true, ◌||◌, eqb, leb, List, [], ◌∷◌, ◌++◌, length, get_or, take, drop, refl, sym, ◌∙◌, ap, subst, arith, append_assoc, below_more}
use Rattle.std.specs.Prelude.{replicate}
use Rattle.std.proofs.lemmas.Bool.{leb-true, le-leb, and_parts, eq-eqb}
use Rattle.std.proofs.lemmas.List.{length-append, length-take-le, length-drop, length-replicate, take-append-drop, get_or_append_left, get_or_at}
use Rattle.pay_frame.specs.declared.body.Kind.{Kind}
use Rattle.pay_frame.specs.declared.body.Kind.TheVariants.{Send, Echo, Ready, Want}
use Rattle.pay_frame.specs.Frame.{FrameFields, code_of, head_bytes, frame_bytes, IsFrame}
use Rattle.pay_frame.specs.Places.{length_field, may_stand, PassBelow, two_at, four_at, eight_at}
use Rattle.pay_frame.specs.Reading.{StartsFrame, IsProperBeginning}
use Rattle.pay_frame.specs.Stream.{IsBytes}
use Rattle.pay_frame.proofs.Lists.{IsBytes-none, IsBytes-cons, at_each, SameUpTo}
use Rattle.pay_frame.proofs.Heads.{may_stand-same, may_stand-frame, both, second}
use Rattle.pay_frame.proofs.Passing.{IsHead, head_from_passing, frame_in, head_spelled, body_fits}

-- a frame is 56 bytes and its value
pub length-frame : (f : FrameFields) → IsFrame f → length (frame_bytes f) ≡ 56 + length f.body.value
length-frame f is = omega (arith, length-append (head_bytes f.from f.to f.number f.body ++ f.body.value) f.tag, length-append (head_bytes f.from f.to f.number f.body) f.body.value, is.tag)

-- the kind with a code
pub kind_from : (n : ℕ) → 1 ≤ n → n ≤ 4 → (k : Kind) × (code_of k ≡ n)
kind_from zero low high = absurd (omega arith)
kind_from (suc zero) low high = (Send, refl)
kind_from (suc (suc zero)) low high = (Echo, refl)
kind_from (suc (suc (suc zero))) low high = (Ready, refl)
kind_from (suc (suc (suc (suc zero)))) low high = (Want, refl)
kind_from (suc (suc (suc (suc (suc n))))) low high = absurd (omega arith)

-- the fields of a passing head are within the limits, whatever the value and the tag are
pub frame_fits : (h : List ℕ) (kind : Kind) (value tag : List ℕ) → IsBytes h → IsHead h → code_of kind ≡ get_or h 3 0 → 54 + length value ≡ length_field h → length tag ≡ 32 → IsFrame (frame_in h kind value tag)
frame_fits h kind value tag is head kind-is len tag-len = record {
  from = omega (arith, is.fits 4, is.fits 5);
  to = omega (arith, is.fits 6, is.fits 7);
  number = omega (arith, is.fits 8, is.fits 9, is.fits 10, is.fits 11, is.fits 12, is.fits 13, is.fits 14, is.fits 15);
  body = body_fits h kind value is head kind-is len;
  tag = tag-len;
}

-- and what follows the head is the value and the tag
pub frame_spelled : (h : List ℕ) (kind : Kind) (value tag rest : List ℕ) → 24 ≤ length h → IsBytes h → IsHead h → code_of kind ≡ get_or h 3 0 → 54 + length value ≡ length_field h
    → value ++ tag ≡ rest → frame_bytes (frame_in h kind value tag) ≡ take 24 h ++ rest
frame_spelled h kind value tag rest long is head kind-is len parts =
    ap (λ (xs : List ℕ). xs ++ value ++ tag) (head_spelled h kind value long is head kind-is len)
    ∙ append_assoc (take 24 h) value tag ∙ ap (λ (xs : List ℕ). take 24 h ++ xs) parts

pub starts_long : (x : List ℕ) → IsBytes x → 24 ≤ length x → PassBelow x 24 → length x ≤ 2 + length_field x → (s : StartsFrame x) × (length s.rest + length x ≡ 2 + length_field x)
starts_long x is long pass within =
    let head = head_from_passing x pass in
    let kind = kind_from (get_or x 3 0) head.kind_least head.kind_greatest in
    let more : List ℕ = replicate (2 + length_field x - length x) 0 in
    let more-len : length more ≡ 2 + length_field x - length x = length-replicate (2 + length_field x - length x) 0 in
    let behind : List ℕ = drop 24 x ++ more in
    let behind-len : length behind ≡ length_field x - 22 = omega (arith, length-append (drop 24 x) more, length-drop 24 x) in
    let least = head.least in
    let value : List ℕ = take (length_field x - 54) behind in
    let value-len : length value ≡ length_field x - 54 = length-take-le (length_field x - 54) behind (omega arith) in
    let tag : List ℕ = drop (length_field x - 54) behind in
    let tag-len : length tag ≡ 32 = omega (arith, length-drop (length_field x - 54) behind) in
    let len : 54 + length value ≡ length_field x = omega arith in
    let parts : value ++ tag ≡ behind = take-append-drop (length_field x - 54) behind in
    let spelled : frame_bytes (frame_in x kind.0 value tag) ≡ x ++ more =
    frame_spelled x kind.0 value tag behind long is head kind.1 len parts
    ∙ sym (append_assoc (take 24 x) (drop 24 x) more) ∙ ap (λ (xs : List ℕ). xs ++ more) (take-append-drop 24 x)
    in
    (record { frame = frame_in x kind.0 value tag; is = frame_fits x kind.0 value tag is head kind.1 len tag-len; rest = more; spelled = spelled }, omega arith)

-- ---- bytes shorter than a head

-- one more byte that may stand there
record CanGoOn (n : ℕ) (x : List ℕ) : Type 0 where
  byte : ℕ
  fits : byte < 256
  stands : may_stand (x ++ byte ∷ []) n ≡ true

last_byte : (x : List ℕ) (byte n : ℕ) → length x ≡ n → get_or (x ++ byte ∷ []) n 0 ≡ byte
last_byte x byte n e = get_or_at x byte [] 0 n e

earlier_byte : (x : List ℕ) (byte n : ℕ) → length x ≡ n → (k : ℕ) → k < n → get_or (x ++ byte ∷ []) k 0 ≡ get_or x k 0
earlier_byte x byte n e k lt = get_or_append_left x (byte ∷ []) 0 k (omega arith)

any_byte : (n : ℕ) (x : List ℕ) → may_stand (x ++ 0 ∷ []) n ≡ true → CanGoOn n x
any_byte n x h = record { byte = 0; fits = omega arith; stands = h }

zero_byte : (n : ℕ) (x : List ℕ) → length x ≡ n → (w : Bool) → may_stand (x ++ 0 ∷ []) n ≡ (w || eqb (get_or (x ++ 0 ∷ []) n 0) 0) → CanGoOn n x
zero_byte n x e w same = any_byte n x (same ∙ second w (eq-eqb _ 0 (last_byte x 0 n e)))

zero_seq : (n : ℕ) (x : List ℕ) → length x ≡ n → may_stand (x ++ 0 ∷ []) n ≡ eqb (get_or (x ++ 0 ∷ []) n 0) 0 → CanGoOn n x
zero_seq n x e same = any_byte n x (same ∙ eq-eqb _ 0 (last_byte x 0 n e))

length_field-push : (x : List ℕ) (byte n : ℕ) → length x ≡ n → 2 ≤ n → length_field (x ++ byte ∷ []) ≡ length_field x
length_field-push x byte n e long =
    let first-byte = earlier_byte x byte n e 0 (omega arith) in
    let second-byte = earlier_byte x byte n e 1 (omega arith) in
    cc

length_byte : (x : List ℕ) → IsBytes x → length x ≡ 1 → PassBelow x 1 → CanGoOn 1 x
length_byte x is e pass =
    let least = leb-true (get_or x 0 0) 4 (pass 0 (omega arith)) in
    let high = earlier_byte x 54 1 e 0 (omega arith) in
    let low = last_byte x 54 1 e in
    record {
      byte = 54;
      fits = omega arith;
      stands = both (le-leb 54 (length_field (x ++ 54 ∷ [])) (omega arith)) (le-leb (length_field (x ++ 54 ∷ [])) 1078 (omega arith));
    }

lengths_from : (x : List ℕ) (n : ℕ) → 2 ≤ n → PassBelow x n → length_field x ≤ 1078
lengths_from x n long pass = leb-true (length_field x) 1078 (and_parts (leb 54 (length_field x)) (leb (length_field x) 1078) (pass 1 (omega arith))).1

high_byte : (x : List ℕ) → length x ≡ 22 → PassBelow x 22 → CanGoOn 22 x
high_byte x e pass =
    let byte : ℕ = (length_field x - 54) / 256 in
    let bound = lengths_from x 22 (omega arith) pass in
    let same = length_field-push x byte 22 e (omega arith) in
    record {
      byte = byte;
      fits = omega arith;
      stands = eq-eqb _ ((length_field (x ++ byte ∷ []) - 54) / 256) (last_byte x byte 22 e ∙ ap (λ n. (n - 54) / 256) (sym same));
    }

low_byte : (x : List ℕ) → length x ≡ 23 → PassBelow x 23 → CanGoOn 23 x
low_byte x e pass =
    let byte : ℕ = (length_field x - 54) % 256 in
    let same = length_field-push x byte 23 e (omega arith) in
    record {
      byte = byte;
      fits = omega arith;
      stands = eq-eqb _ ((length_field (x ++ byte ∷ []) - 54) % 256) (last_byte x byte 23 e ∙ ap (λ n. (n - 54) % 256) (sym same));
    }

can_go_on : (n : ℕ) → n < 24 → (x : List ℕ) → IsBytes x → length x ≡ n → PassBelow x n → CanGoOn n x
can_go_on n lt =
    at_each (λ n. (x : List ℕ) → IsBytes x → length x ≡ n → PassBelow x n → CanGoOn n x)
    (λ x is e pass. any_byte 0 x (le-leb _ 4 (let last = last_byte x 0 0 e in omega arith)))
    length_byte
    (λ x is e pass. record { byte = 1; fits = omega arith; stands = eq-eqb _ 1 (last_byte x 1 2 e) })
    (λ x is e pass. record { byte = 1; fits = omega arith; stands = rw (last_byte x 1 3 e) refl })
    (λ x is e pass. any_byte 4 x refl) (λ x is e pass. any_byte 5 x refl) (λ x is e pass. any_byte 6 x refl)
    (λ x is e pass. any_byte 7 x refl) (λ x is e pass. any_byte 8 x refl) (λ x is e pass. any_byte 9 x refl)
    (λ x is e pass. any_byte 10 x refl) (λ x is e pass. any_byte 11 x refl) (λ x is e pass. any_byte 12 x refl)
    (λ x is e pass. any_byte 13 x refl) (λ x is e pass. any_byte 14 x refl) (λ x is e pass. any_byte 15 x refl)
    (λ x is e pass. zero_byte 16 x e _ refl) (λ x is e pass. zero_byte 17 x e _ refl)
    (λ x is e pass. zero_seq 18 x e refl) (λ x is e pass. zero_seq 19 x e refl)
    (λ x is e pass. zero_byte 20 x e _ refl) (λ x is e pass. zero_byte 21 x e _ refl)
    (λ x is e pass. high_byte x e pass) (λ x is e pass. low_byte x e pass)
    n lt

IsBytes-rest : (y : ℕ) (ys : List ℕ) → IsBytes (y ∷ ys) → IsBytes ys
IsBytes-rest y ys is = record { fits = λ i. is.fits (suc i) }

IsBytes-push : (x : List ℕ) (byte : ℕ) → IsBytes x → byte < 256 → IsBytes (x ++ byte ∷ [])
IsBytes-push [] byte is lt = IsBytes-cons lt IsBytes-none
IsBytes-push (y ∷ ys) byte is lt = IsBytes-cons (is.fits 0) (IsBytes-push ys byte (IsBytes-rest y ys is) lt)

pass_push : (n : ℕ) (x : List ℕ) (byte : ℕ) → n < 24 → length x ≡ n → PassBelow x n → may_stand (x ++ byte ∷ []) n ≡ true → PassBelow (x ++ byte ∷ []) (n + 1)
pass_push n x byte small len pass stands =
    below_more (λ p. may_stand (x ++ byte ∷ []) p ≡ true) n
    (λ p lt. may_stand-same (x ++ byte ∷ []) x p (omega arith) (λ k le. earlier_byte x byte n len k (omega arith)) ∙ pass p lt)
    stands

pub starts_short : (m n : ℕ) → n + m ≡ 24 → (x : List ℕ) → length x ≡ n → IsBytes x → PassBelow x n → StartsFrame x
starts_short zero n e x len is pass =
    let long : 24 ≤ length x = omega arith in
    let all : PassBelow x 24 = λ p lt. pass p (omega arith) in
    let least = (head_from_passing x all).least in
    (starts_long x is long all (omega arith)).0
starts_short (suc m) n e x len is pass =
    let on = can_go_on n (omega arith) x is len pass in
    let byte = on.byte in
    let pushed : PassBelow (x ++ byte ∷ []) (n + 1) = pass_push n x byte (omega arith) len pass on.stands in
    let longer = starts_short m (n + 1) (omega arith) (x ++ byte ∷ []) (omega (arith, length-append x (byte ∷ []))) (IsBytes-push x byte is on.fits) pushed in
    record { frame = longer.frame; is = longer.is; rest = byte ∷ longer.rest; spelled = longer.spelled ∙ append_assoc x (byte ∷ []) longer.rest }

-- ---- what starts a frame passes

-- bytes that are a frame's up to a place pass the test of that place
pub passes_in_frame : (f : FrameFields) → IsFrame f → (rest x : List ℕ) (place : ℕ) → place < 24 → SameUpTo place x (frame_bytes f ++ rest) → may_stand x place ≡ true
passes_in_frame f is rest x place lt same = may_stand-same x (frame_bytes f ++ rest) place lt same ∙ may_stand-frame f is rest place lt

-- fewer bytes than the frame that they start begin it properly
pub proper_from : (x : List ℕ) (s : StartsFrame x) → length x < 56 → IsProperBeginning x
proper_from x s short = record {
  starts = s;
  more = omega (arith, length-frame s.frame s.is, ap length s.spelled, length-append x s.rest);
}

-- bytes cut into a head, a value and a tag are the frame of the fields that stand in them
pub record IsCut (bytes : List ℕ) (f : FrameFields) (front : List ℕ) : Type 0 where
  pub is : IsFrame f
  pub head : front ≡ head_bytes f.from f.to f.number f.body
  pub spelled : frame_bytes f ≡ bytes

pub cut_at : (bytes head value tag : List ℕ) (kind : Kind) (from to number owner seq : ℕ) → IsBytes bytes → PassBelow bytes 24 → length bytes ≡ 2 + length_field bytes → code_of kind ≡ get_or bytes 3 0
    → from ≡ two_at bytes 4 → to ≡ two_at bytes 6 → number ≡ eight_at bytes 8 → owner ≡ two_at bytes 16 → seq ≡ four_at bytes 18
    → head ≡ take 24 bytes → value ++ tag ≡ drop 24 bytes → length tag ≡ 32
    → IsCut bytes (record { from = from; to = to; number = number; body = record { kind = kind; owner = owner; seq = seq; value = value }; tag = tag }) head
cut_at bytes head value tag kind from to number owner seq is pass len kind-is from-is to-is number-is owner-is seq-is head-is parts tag-len =
    let told = head_from_passing bytes pass in
    let least = told.least in
    let long : 24 ≤ length bytes = omega arith in
    let value-len : 54 + length value ≡ length_field bytes = omega (arith, length-append value tag, ap length parts, length-drop 24 bytes) in
    let f : FrameFields = frame_in bytes kind value tag in
    let same : f ≡ record { from = from; to = to; number = number; body = record { kind = kind; owner = owner; seq = seq; value = value }; tag = tag } = cc in
    let cut : IsCut bytes f head = record {
      is = frame_fits bytes kind value tag is told kind-is value-len tag-len;
      head = head-is ∙ sym (head_spelled bytes kind value long is told kind-is value-len);
      spelled = frame_spelled bytes kind value tag (drop 24 bytes) long is told kind-is value-len parts ∙ take-append-drop 24 bytes;
    } in
    subst (λ (g : FrameFields). IsCut bytes g head) same cut
