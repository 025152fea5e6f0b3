-- Lists shown one owner after the other.
use Rattle.std.proofs.Common.{◌≡◌, ◌≢◌, ℕ, zero, suc, ◌≤◌, ◌++◌, List, [], ◌∷◌, length, take, All, refl, ap, sym, arith}
use Rattle.std.proofs.lemmas.List.Elements.{All-head, All-tail}
use Rattle.pay_channel.specs.Source.{GrowsOnly}
use Rattle.pay_audit.specs.Export.{list_in}

hidden : (lists : List (List (List ℕ))) (k : ℕ) → list_in (take k lists) k ≡ []
hidden [] k = elim k as (λ n. list_in (take n []) n ≡ []) [ zero ↦ refl | suc n ↦ refl ]
hidden (l ∷ ls) zero = refl
hidden (l ∷ ls) (suc k) = hidden ls k

others : (lists : List (List (List ℕ))) (k a : ℕ) → a ≢ k → list_in (take (suc k) lists) a ≡ list_in (take k lists) a
others [] zero a ne = refl
others [] (suc k) a ne = refl
others (l ∷ ls) zero zero ne = absurd (ne refl)
others (l ∷ ls) zero (suc a) ne = refl
others (l ∷ ls) (suc k) zero ne = refl
others (l ∷ ls) (suc k) (suc a) ne = others ls k a (λ e. ne (ap suc e))

-- one owner more
pub one_more : (lists : List (List (List ℕ))) (k : ℕ) → GrowsOnly (list_in (take k lists)) (list_in (take (suc k) lists)) k
one_more lists k = record {
  grown = (list_in (take (suc k) lists) k, ap (λ xs. xs ++ list_in (take (suc k) lists) k) (sym (hidden lists k)));
  others = others lists k;
}

-- what is shown is no longer than the longest list
pub short : (lists : List (List (List ℕ))) (most k a : ℕ) → All (λ l. length l ≤ most) lists → length (list_in (take k lists) a) ≤ most
short [] most zero a all = omega arith
short [] most (suc k) a all = omega arith
short (l ∷ ls) most zero a all = omega arith
short (l ∷ ls) most (suc k) zero all = All-head (λ (l : List (List ℕ)). length l ≤ most) l ls all
short (l ∷ ls) most (suc k) (suc a) all = short ls most k a (All-tail (λ (l : List (List ℕ)). length l ≤ most) l ls all)
