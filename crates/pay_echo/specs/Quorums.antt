-- Statements about sets of processes and their sizes. Each is proved as a public law.
use Rattle.std.specs.Prelude.{◌≡◌, ℕ, ◌+◌, ◌*◌, ◌<◌, ◌≤◌, Bool, true, false, not, ◌&&◌, ◌==◌, List}
use Rattle.std.specs.Prelude.{length}
use Rattle.std.specs.List.{list_any}
use Rattle.pay_echo.specs.Broadcast.{size}

abbrev pub SizeIsAtMost : Type 0
SizeIsAtMost = (n : ℕ) (set : ℕ → Bool) → size n set ≤ n

-- the processes of a list are at most as many as the list is long
abbrev pub SizeOfListed : Type 0
SizeOfListed = (n : ℕ) (xs : List ℕ) → size n (λ p. list_any (λ x. x == p) xs) ≤ length xs

-- a set and the processes outside of it are all processes
abbrev pub SizeOfOthers : Type 0
SizeOfOthers = (n : ℕ) (set : ℕ → Bool) → size n set + size n (λ p. not (set p)) ≡ n

abbrev pub PartIsSmaller : Type 0
PartIsSmaller =
    (n : ℕ) (part set : ℕ → Bool) → ((p : ℕ) → p < n → part p ≡ true → set p ≡ true)
    → size n part ≤ size n set

-- two sets with a size c each such that 2c > N + f share more than f processes
abbrev pub QuorumsShare : Type 0
QuorumsShare =
    (n f : ℕ) (one other : ℕ → Bool) → n + f < 2 * size n one → n + f < 2 * size n other
    → f < size n (λ p. one p && other p)

abbrev pub LargerHasAnother : Type 0
LargerHasAnother =
    (n : ℕ) (larger smaller : ℕ → Bool) → size n smaller < size n larger
    → (p : ℕ) × (p < n) × (larger p ≡ true) × (smaller p ≡ false)

-- if N > 3f, all but f processes are enough for a quorum
abbrev pub RestIsQuorum : Type 0
RestIsQuorum = (n f c : ℕ) → 3 * f < n → n ≤ c + f → n + f < 2 * c

-- a quorum has more than f processes
abbrev pub QuorumIsMore : Type 0
QuorumIsMore = (n f : ℕ) (set : ℕ → Bool) → n + f < 2 * size n set → f < size n set

-- if any f processes are removed from more than 2f, more than f remain
abbrev pub MoreRemain : Type 0
MoreRemain =
    (n f : ℕ) (set faulty : ℕ → Bool) → 2 * f < size n set → size n faulty ≤ f
    → f < size n (λ p. set p && not (faulty p))
