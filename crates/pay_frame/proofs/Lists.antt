-- Lists of bytes, by their places.
use Rattle.std.proofs.Common.{◌≡◌, ℕ, zero, suc, ◌<◌, ◌≤◌, List, [], ◌∷◌, length, get_or, take, sym, ◌∙◌, arith, inl, inr, below_more}
use Rattle.std.specs.Prelude.{map}
use Rattle.std.specs.List.{range_with_len}
use Rattle.std.proofs.lemmas.Bool.{cases_lt}
use Rattle.std.proofs.lemmas.List.{length-take-le, get_or-take, get_or_past, length-take}
use Rattle.std.proofs.lemmas.List.FromFn.{get_or-map-range_with_len, length-map-range_with_len}
use Rattle.std.proofs.lemmas.Grind.{same_number_lists}
use Rattle.pay_frame.specs.Stream.{IsBytes}

pub IsBytes-none : IsBytes []
IsBytes-none = record { fits = λ i. omega arith }

fits-cons : (x : ℕ) (xs : List ℕ) → x < 256 → ((i : ℕ) → get_or xs i 0 < 256) → (i : ℕ) → get_or (x ∷ xs) i 0 < 256
fits-cons x xs h t zero = h
fits-cons x xs h t (suc i) = t i

pub IsBytes-cons : {x : ℕ} {xs : List ℕ} → x < 256 → IsBytes xs → IsBytes (x ∷ xs)
IsBytes-cons {x} {xs} h t = record { fits = fits-cons x xs h t.fits }

pub IsBytes-take : (n : ℕ) (bytes : List ℕ) → IsBytes bytes → IsBytes (take n bytes)
IsBytes-take n bytes h = record {
  fits = λ i. elim (cases_lt i n) [
    | inl lt ↦ rw (get_or-take n bytes i 0 lt) (h.fits i)
    | inr le ↦ rw (get_or_past (take n bytes) i 0 (omega (arith, length-take n bytes))) (omega arith)
  ];
}

-- the first 24 items, one by one
pub cells : (xs : List ℕ) → 24 ≤ length xs → take 24 xs ≡ map (λ i. get_or xs i 0) (range_with_len 0 24)
cells xs long =
    same_number_lists _ _ (length-take-le 24 xs long ∙ sym (length-map-range_with_len (λ i. get_or xs i 0) 0 24)) (λ k h.
    let lt : k < 24 = omega (arith, length-take-le 24 xs long) in
    get_or-take 24 xs k 0 lt ∙ sym (get_or-map-range_with_len (λ i. get_or xs i 0) 0 24 k k 0 lt (omega arith)))

-- what holds at each of 24 places
pub at_each : (P : ℕ → Type 0) → P 0 → P 1 → P 2 → P 3 → P 4 → P 5 → P 6 → P 7 → P 8 → P 9 → P 10 → P 11 → P 12 → P 13 → P 14 → P 15 → P 16 → P 17 → P 18 → P 19 → P 20 → P 21 → P 22 → P 23 → (k : ℕ) → k < 24 → P k
at_each P p0 p1 p2 p3 p4 p5 p6 p7 p8 p9 p10 p11 p12 p13 p14 p15 p16 p17 p18 p19 p20 p21 p22 p23 =
    below_more P 23 (below_more P 22 (below_more P 21 (below_more P 20 (below_more P 19 (below_more P 18 (below_more P 17 (below_more P 16 (below_more P 15 (below_more P 14 (below_more P 13 (below_more P 12 (below_more P 11 (below_more P 10 (below_more P 9 (below_more P 8 (below_more P 7 (below_more P 6 (below_more P 5 (below_more P 4 (below_more P 3 (below_more P 2 (below_more P 1 (below_more P 0 (λ k h. absurd (omega arith)) p0) p1) p2) p3) p4) p5) p6) p7) p8) p9) p10) p11) p12) p13) p14) p15) p16) p17) p18) p19) p20) p21) p22) p23

-- the items at the first places, up to and with one
abbrev pub SameUpTo : ℕ → List ℕ → List ℕ → Type 0
SameUpTo place xs ys = (k : ℕ) → k ≤ place → get_or xs k 0 ≡ get_or ys k 0
