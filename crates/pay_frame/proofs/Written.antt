-- Writes one after the other, where it is known what was written.
use Rattle.std.proofs.Common.{◌≡◌, ℕ, ◌+◌, ◌-◌, List, ◌++◌, length, take, drop, ◌∙◌, ap, append_assoc, arith, Option, Some, None}
use Rattle.std.proofs.Math.Seq.{take-add}
use Rattle.std.proofs.lemmas.List.{take_all, length-drop}
use Rattle.std.specs.Io.KnownBytes.{Appends}

Appends-more : (a b c : Option (List ℕ)) (xs ys : List ℕ) → Appends a b xs → Appends b c ys → Appends a c (xs ++ ys)
Appends-more None b c xs ys p q = tt
Appends-more (Some x) None c xs ys p q = absurd p
Appends-more (Some x) (Some y) None xs ys p q = absurd q
Appends-more (Some x) (Some y) (Some z) xs ys p q = q ∙ ap (λ (ws : List ℕ). ws ++ ys) p ∙ append_assoc x xs ys

-- a beginning, and then a beginning of what is behind it
pub appends_further : (a b c : Option (List ℕ)) (n m : ℕ) (bytes : List ℕ) → Appends a b (take n bytes) → Appends b c (take m (take (length bytes - n) (drop n bytes))) → Appends a c (take (n + m) bytes)
appends_further a b c n m bytes p q =
    let behind : take (length bytes - n) (drop n bytes) ≡ drop n bytes = take_all (length bytes - n) (drop n bytes) (omega (arith, length-drop n bytes)) in
    rw (take-add n m bytes) (Appends-more a b c (take n bytes) (take m (drop n bytes)) p (rw behind at q))
