-- Which bytes may stand in a frame's head: the test of each place is right for frames, and looks at no
-- later place.
use Rattle.std.proofs.Common.{◌≡◌, ℕ, ◌+◌, ◌*◌, ◌-◌, ◌/◌, ◌%◌, ◌^◌, ◌<◌, ◌≤◌, Bool, true, false, not, ◌&&◌, ◌||◌, eqb, leb, List, ◌++◌, length, refl, ap, arith, inl, inr, ◌⊎◌, eq-eqb}
use Rattle.std.proofs.lemmas.Bool.{le-leb}
use Rattle.pay_frame.specs.declared.body.Kind.{Kind}
use Rattle.pay_frame.specs.declared.body.Kind.TheVariants.{Send, Echo, Ready, Want}
use Rattle.pay_frame.specs.Frame.{FrameFields, code_of, frame_bytes, IsFrame}
use Rattle.pay_frame.specs.Places.{may_stand}
use Rattle.pay_frame.proofs.Lists.{at_each, SameUpTo}

-- ---- a place looks at itself and at places 0, 1 and 3 before it

pub may_stand-same : (xs ys : List ℕ) (place : ℕ) → place < 24 → SameUpTo place xs ys → may_stand xs place ≡ may_stand ys place
may_stand-same xs ys place lt =
    at_each (λ p. SameUpTo p xs ys → may_stand xs p ≡ may_stand ys p)
    (λ s. cc (s 0 (omega arith)))
    (λ s. cc (s 0 (omega arith), s 1 (omega arith)))
    (λ s. cc (s 2 (omega arith)))
    (λ s. cc (s 0 (omega arith), s 1 (omega arith), s 3 (omega arith)))
    (λ s. refl) (λ s. refl) (λ s. refl) (λ s. refl) (λ s. refl) (λ s. refl)
    (λ s. refl) (λ s. refl) (λ s. refl) (λ s. refl) (λ s. refl) (λ s. refl)
    (λ s. cc (s 3 (omega arith), s 16 (omega arith)))
    (λ s. cc (s 3 (omega arith), s 17 (omega arith)))
    (λ s. cc (s 18 (omega arith)))
    (λ s. cc (s 19 (omega arith)))
    (λ s. cc (s 3 (omega arith), s 20 (omega arith)))
    (λ s. cc (s 3 (omega arith), s 21 (omega arith)))
    (λ s. cc (s 0 (omega arith), s 1 (omega arith), s 22 (omega arith)))
    (λ s. cc (s 0 (omega arith), s 1 (omega arith), s 23 (omega arith)))
    place lt

-- ---- the head of a frame passes at each place

want_cases : (k : Kind) → (k ≡ Want) ⊎ (eqb (code_of k) 4 ≡ false)
want_cases Send = inr refl
want_cases Echo = inr refl
want_cases Ready = inr refl
want_cases Want = inl refl

pub both : {x y : Bool} → x ≡ true → y ≡ true → (x && y) ≡ true
both {x} {y} p q = rw (p, q) refl

pub second : (x : Bool) {y : Bool} → y ≡ true → (x || y) ≡ true
second true q = refl
second false q = q

pub first : {x : Bool} (y : Bool) → x ≡ true → (x || y) ≡ true
first y p = rw p refl

-- two bytes spell a length
two_bytes : (n : ℕ) → n < 2 ^ 16 → 256 * (n / 256 % 256) + n % 256 ≡ n
two_bytes n lt = omega arith

code_least : (k : Kind) → leb 1 (code_of k) ≡ true
code_least Send = refl
code_least Echo = refl
code_least Ready = refl
code_least Want = refl

code_greatest : (k : Kind) → leb (code_of k) 4 ≡ true
code_greatest Send = refl
code_greatest Echo = refl
code_greatest Ready = refl
code_greatest Want = refl

-- a byte that is 0 in a WANT
zero_in_want : (k : Kind) (byte : ℕ) → (k ≡ Want → byte ≡ 0) → (not (eqb (code_of k) 4) || eqb byte 0) ≡ true
zero_in_want k byte h =
    elim (want_cases k) [
      | inl e ↦ second (not (eqb (code_of k) 4)) (eq-eqb byte 0 (h e))
      | inr n ↦ let other : not (eqb (code_of k) 4) ≡ true = rw n refl in first (eqb byte 0) other
    ]

pub may_stand-frame : (f : FrameFields) → IsFrame f → (rest : List ℕ) (place : ℕ) → place < 24 → may_stand (frame_bytes f ++ rest) place ≡ true
may_stand-frame f is rest place lt =
    let kind = f.body.kind in
    let len : ℕ = 54 + length f.body.value in
    let short : length f.body.value ≤ 1024 = is.body.value in
    let field : ℕ = 256 * (len / 256 % 256) + len % 256 in
    let spelled : field ≡ len = two_bytes len (omega arith) in
    let seq : f.body.seq < 2 ^ 16 = is.body.seq in
    let want = is.body.want in
    at_each (λ p. may_stand (frame_bytes f ++ rest) p ≡ true)
    (le-leb (len / 256 % 256) 4 (omega arith))
    (both (le-leb 54 field (omega arith)) (le-leb field 1078 (omega arith)))
    refl
    (both (both (code_least kind) (code_greatest kind)) (elim (want_cases kind) [
      | inl e ↦
          let empty : length f.body.value ≡ 0 = ap length (want e).2 in
          second (not (eqb (code_of kind) 4)) (eq-eqb field 54 (omega arith))
      | inr n ↦
          let other : not (eqb (code_of kind) 4) ≡ true = rw n refl in
          first (eqb field 54) other
    ]))
    refl refl refl refl refl refl
    refl refl refl refl refl refl
    (zero_in_want kind (f.body.owner / 256 % 256) (λ e. let none : f.body.owner ≡ 0 = (want e).0 in omega arith))
    (zero_in_want kind (f.body.owner % 256) (λ e. let none : f.body.owner ≡ 0 = (want e).0 in omega arith))
    (eq-eqb (f.body.seq / 16777216 % 256) 0 (omega arith))
    (eq-eqb (f.body.seq / 65536 % 256) 0 (omega arith))
    (zero_in_want kind (f.body.seq / 256 % 256) (λ e. let none : f.body.seq ≡ 0 = (want e).1 in omega arith))
    (zero_in_want kind (f.body.seq % 256) (λ e. let none : f.body.seq ≡ 0 = (want e).1 in omega arith))
    (eq-eqb (length f.body.value / 256 % 256) ((field - 54) / 256) (omega arith))
    (eq-eqb (length f.body.value % 256) ((field - 54) % 256) (omega arith))
    place lt
