-- The laws of sizes, by induction over a list of processes.
use Rattle.std.proofs.Common.{◌≡◌, ℕ, zero, suc, ◌+◌, ◌<◌, ◌≤◌, Bool, true, false, not, ◌&&◌, ◌||◌, eqb, List, [], ◌∷◌, length, count_by, refl, ap, ap₂, ◌∙◌, arith, ne_eqb}
use Rattle.std.specs.List.{range_with_len, list_any}
use Rattle.std.proofs.lemmas.Bool.{false≢true, cases_eq}
use Rattle.std.proofs.lemmas.List.FromFn.{length-range_with_len}
use Rattle.std.proofs.lemmas.List.Sums.{count_by-le-length}
use Rattle.pay_echo.specs.Broadcast.{size}
use Rattle.pay_echo.specs.Quorums.{SizeIsAtMost, SizeOfListed, SizeOfOthers, PartIsSmaller, QuorumsShare, LargerHasAnother, RestIsQuorum, QuorumIsMore, MoreRemain}
use Rattle.pay_echo.proofs.Lists.{either, one, count_by-cons, count_by-none}

pub size_is_at_most : SizeIsAtMost
unfolding size
size_is_at_most n set = omega (arith, count_by-le-length set (range_with_len 0 n), length-range_with_len 0 n)

-- a number below all of these is none of them, and any number is one of them at most
count_by-below : (x a n : ℕ) → x < a → count_by (λ p. eqb x p) (range_with_len a n) ≡ 0
count_by-below x a zero below = refl
count_by-below x a (suc n) below =
    let first : eqb x a ≡ false = ne_eqb x a (λ e. omega (arith, e)) in
    count_by-cons (λ p. eqb x p) a (range_with_len (a + 1) n) ∙ ap₂ (λ b m. one b + m) first (count_by-below x (a + 1) n (omega arith))

count_by-single : (x a n : ℕ) → count_by (λ p. eqb x p) (range_with_len a n) ≤ 1
count_by-single x a zero = omega arith
count_by-single x a (suc n) =
    either (cases_eq x a)
    (λ same. omega (arith, count_by-cons (λ p. eqb x p) a (range_with_len (a + 1) n), one-most (eqb x a), count_by-below x (a + 1) n (omega arith)))
    (λ ne. let first : one (eqb x a) ≡ 0 = ap one (ne_eqb x a ne) in omega (arith, count_by-cons (λ p. eqb x p) a (range_with_len (a + 1) n), first, count_by-single x (a + 1) n)) where
      one-most : (b : Bool) → one b ≤ 1
      one-most true = omega arith
      one-most false = omega arith

one-or : (a b : Bool) → one (a || b) ≤ one a + one b
one-or true b = omega arith
one-or false b = omega arith

count_by-either : (P Q : ℕ → Bool) (xs : List ℕ) → count_by (λ p. P p || Q p) xs ≤ count_by P xs + count_by Q xs
count_by-either P Q [] = omega arith
count_by-either P Q (x ∷ xs) =
    omega (arith, count_by-cons P x xs, count_by-cons Q x xs, count_by-cons (λ p. P p || Q p) x xs, one-or (P x) (Q x), count_by-either P Q xs)

pub size_of_listed : SizeOfListed
unfolding size
size_of_listed n [] = omega (arith, count_by-none (λ p. list_any (λ x. eqb x p) []) (λ p. refl) (range_with_len 0 n))
size_of_listed n (x ∷ xs) =
    omega (arith, count_by-either (λ p. eqb x p) (λ p. list_any (λ y. eqb y p) xs) (range_with_len 0 n), count_by-single x 0 n, size_of_listed n xs)

one-not : (b : Bool) → one b + one (not b) ≡ 1
one-not true = refl
one-not false = refl

count_by-others : (P : ℕ → Bool) (xs : List ℕ) → count_by P xs + count_by (λ p. not (P p)) xs ≡ length xs
count_by-others P [] = refl
count_by-others P (x ∷ xs) = omega (arith, count_by-cons P x xs, count_by-cons (λ p. not (P p)) x xs, one-not (P x), count_by-others P xs)

pub size_of_others : SizeOfOthers
unfolding size
size_of_others n set = count_by-others set (range_with_len 0 n) ∙ length-range_with_len 0 n

one-share : (a b : Bool) → one a + one b ≤ 1 + one (a && b)
one-share true true = omega arith
one-share true false = omega arith
one-share false true = omega arith
one-share false false = omega arith

count_by-share : (P Q : ℕ → Bool) (xs : List ℕ) → count_by P xs + count_by Q xs ≤ length xs + count_by (λ p. P p && Q p) xs
count_by-share P Q [] = omega arith
count_by-share P Q (x ∷ xs) =
    omega (arith, count_by-cons P x xs, count_by-cons Q x xs, count_by-cons (λ p. P p && Q p) x xs, one-share (P x) (Q x), count_by-share P Q xs)

pub quorums_share : QuorumsShare
unfolding size
quorums_share n f P Q p q = omega (arith, p, q, count_by-share P Q (range_with_len 0 n), length-range_with_len 0 n)

one-le : (a b : Bool) → (a ≡ true → b ≡ true) → one a ≤ one b
one-le false b h = omega arith
one-le true true h = omega arith
one-le true false h = absurd (false≢true (h refl))

count_by-part : (P Q : ℕ → Bool) (a n : ℕ) → ((p : ℕ) → p < a + n → P p ≡ true → Q p ≡ true) → count_by P (range_with_len a n) ≤ count_by Q (range_with_len a n)
count_by-part P Q a zero h = omega arith
count_by-part P Q a (suc n) h =
    omega (arith, count_by-cons P a (range_with_len (a + 1) n), count_by-cons Q a (range_with_len (a + 1) n), one-le (P a) (Q a) (h a (omega arith)), count_by-part P Q (a + 1) n (λ p below. h p (omega arith)))

pub part_is_smaller : PartIsSmaller
unfolding size
part_is_smaller n P Q h = count_by-part P Q 0 n (λ p below. h p (omega arith))

another : (P Q : ℕ → Bool) (a n : ℕ) → count_by Q (range_with_len a n) < count_by P (range_with_len a n) → (p : ℕ) × (p < a + n) × (P p ≡ true) × (Q p ≡ false)
another P Q a zero h = absurd (omega arith)
another P Q a (suc n) h = here (P a) (Q a) refl refl (another P Q (a + 1) n) where
  later : (((p : ℕ) × (p < (a + 1) + n) × (P p ≡ true) × (Q p ≡ false))) → (p : ℕ) × (p < a + suc n) × (P p ≡ true) × (Q p ≡ false)
  later found = (found.0, omega (arith, found.1), found.2, found.3)

  smaller : one (P a) ≤ one (Q a) → count_by Q (range_with_len (a + 1) n) < count_by P (range_with_len (a + 1) n)
  smaller le = omega (arith, count_by-cons P a (range_with_len (a + 1) n), count_by-cons Q a (range_with_len (a + 1) n))

  here : (b c : Bool) → P a ≡ b → Q a ≡ c → (count_by Q (range_with_len (a + 1) n) < count_by P (range_with_len (a + 1) n) → (p : ℕ) × (p < (a + 1) + n) × (P p ≡ true) × (Q p ≡ false)) → (p : ℕ) × (p < a + suc n) × (P p ≡ true) × (Q p ≡ false)
  here true false e d rest = (a, omega arith, e, d)
  here true true e d rest = later (rest (smaller (rw (e, d) (omega arith))))
  here false c e d rest = later (rest (smaller (rw e (omega arith))))

pub larger_has_another : LargerHasAnother
unfolding size
larger_has_another n P Q h = let found = another P Q 0 n h in (found.0, omega (arith, found.1), found.2, found.3)

pub rest_is_quorum : RestIsQuorum
rest_is_quorum n f c few most = omega arith

pub quorum_is_more : QuorumIsMore
quorum_is_more n f set h = omega (arith, size_is_at_most n set)

one-remain : (a b : Bool) → one a ≤ one b + one (a && not b)
one-remain true true = omega arith
one-remain true false = omega arith
one-remain false b = omega arith

count_by-remain : (P Q : ℕ → Bool) (xs : List ℕ) → count_by P xs ≤ count_by Q xs + count_by (λ p. P p && not (Q p)) xs
count_by-remain P Q [] = omega arith
count_by-remain P Q (x ∷ xs) =
    omega (arith, count_by-cons P x xs, count_by-cons Q x xs, count_by-cons (λ p. P p && not (Q p)) x xs, one-remain (P x) (Q x), count_by-remain P Q xs)

pub more_remain : MoreRemain
unfolding size
more_remain n f P Q many few = omega (arith, count_by-remain P Q (range_with_len 0 n))
