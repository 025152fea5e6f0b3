-- Values that are kept one after the other.
use Rattle.std.proofs.Common.{◌≡◌, ℕ, zero, suc, ◌-◌, ◌<◌, ◌≤◌, List, [], ◌∷◌, ◌++◌, get_or, length, length-append, drop, take, slice_get, Some, refl, ap, ap₂, ◌∙◌, arith}
use Rattle.std.specs.Prelude.{slice_range}
use Rattle.std.proofs.lemmas.List.{drop-append-le, length-drop, take-append-le, take_all}
use Rattle.pay_audit.specs.Rows.{AreRows, rows_from}

pub so_many : (start : ℕ) (bytes ends : List ℕ) → length (rows_from start bytes ends) ≡ length ends
so_many start bytes [] = refl
so_many start bytes (end ∷ ends) = ap suc (so_many end bytes ends)

-- ---- one of them

-- where it begins
abbrev pub begin_of : ℕ → List ℕ → ℕ → ℕ
begin_of start ends zero = start
begin_of start ends (suc place) = get_or ends place 0

pub row_at : (start : ℕ) (bytes ends : List ℕ) (place : ℕ) → place < length ends
    → slice_get (rows_from start bytes ends) place ≡ Some (slice_range bytes (begin_of start ends place) (get_or ends place 0))
row_at start bytes [] place below = absurd (omega (arith, below))
row_at start bytes (end ∷ ends) zero below = refl
row_at start bytes (end ∷ ends) (suc zero) below = row_at end bytes ends zero (omega (arith, below))
row_at start bytes (end ∷ ends) (suc (suc place)) below = row_at end bytes ends (suc place) (omega (arith, below))

pub begins_first : (start : ℕ) (ends : List ℕ) (place : ℕ) → place ≡ 0 → start ≡ begin_of start ends place
begins_first start ends zero first = refl
begins_first start ends (suc place) first = absurd (omega (arith, first))

pub begins_later : (start : ℕ) (ends : List ℕ) (place : ℕ) → (place ≡ 0 → ⊥) → get_or ends (place - 1) 0 ≡ begin_of start ends place
begins_later start ends zero later = absurd (later refl)
begins_later start ends (suc place) later = ap (λ k. get_or ends k 0) (let e : suc place - 1 ≡ place = omega arith in e)

starts_within : (start all : ℕ) (ends : List ℕ) → AreRows start all ends → start ≤ all
starts_within start all [] rows = omega (arith, rows)
starts_within start all (end ∷ ends) rows = let later = starts_within end all ends rows.1 in omega (arith, rows.0, later)

pub in_order : (start all : ℕ) (ends : List ℕ) (place : ℕ) → AreRows start all ends → place < length ends
    → (begin_of start ends place ≤ get_or ends place 0) × (get_or ends place 0 ≤ all)
in_order start all [] place rows below = absurd (omega (arith, below))
in_order start all (end ∷ ends) zero rows below = (rows.0, starts_within end all ends rows.1)
in_order start all (end ∷ ends) (suc zero) rows below = in_order end all ends zero rows.1 (omega (arith, below))
in_order start all (end ∷ ends) (suc (suc place)) rows below = in_order end all ends (suc place) rows.1 (omega (arith, below))

-- ---- one more

pub still_rows : (start all more : ℕ) (ends : List ℕ) → AreRows start all ends → all ≤ more → AreRows start more (ends ++ more ∷ [])
still_rows start all more [] rows order = (omega (arith, rows, order), refl)
still_rows start all more (end ∷ ends) rows order = (rows.0, still_rows end all more ends rows.1 order)

same_row : (bytes value : List ℕ) (start end : ℕ) → start ≤ end → end ≤ length bytes → slice_range (bytes ++ value) start end ≡ slice_range bytes start end
same_row bytes value start end order within =
    ap (take (end - start)) (drop-append-le start bytes value (omega (arith, order, within)))
    ∙ take-append-le (end - start) (drop start bytes) value (omega (arith, order, within, length-drop start bytes))

drop_whole : (xs ys : List ℕ) → drop (length xs) (xs ++ ys) ≡ ys
drop_whole [] ys = refl
drop_whole (x ∷ xs) ys = drop_whole xs ys

last_row : (bytes value : List ℕ) → slice_range (bytes ++ value) (length bytes) (length (bytes ++ value)) ≡ value
last_row bytes value =
    ap (take (length (bytes ++ value) - length bytes)) (drop_whole bytes value)
    ∙ take_all (length (bytes ++ value) - length bytes) value (omega (arith, length-append bytes value))

pub one_more : (start : ℕ) (bytes ends value : List ℕ) → AreRows start (length bytes) ends
    → rows_from start (bytes ++ value) (ends ++ length (bytes ++ value) ∷ []) ≡ rows_from start bytes ends ++ value ∷ []
one_more start bytes [] value rows =
    ap (λ v. v ∷ []) (ap (λ s. slice_range (bytes ++ value) s (length (bytes ++ value))) rows ∙ last_row bytes value)
one_more start bytes (end ∷ ends) value rows =
    ap₂ (λ v vs. v ∷ vs) (same_row bytes value start end rows.0 (starts_within end (length bytes) ends rows.1))
    (one_more end bytes ends value rows.1)
