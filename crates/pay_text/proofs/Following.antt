-- Lines as they come, and the lines of the whole text.
use Rattle.std.proofs.Common.{◌≡◌, ℕ, ◌<◌, ◌≤◌, List, [], ◌∷◌, ◌++◌, length, map, refl, sym, ◌∙◌, ap, arith, append_assoc, append-nil, length-append, drop, get_or, drop-cons, add-one, true, false, Some, None, rules, inl, inr, ◌+◌, ◌⊎◌}
use Rattle.std.specs.Prelude.{◌==◌, Option, cond, ⊤, nat_le, nat_lt}
use Rattle.std.proofs.lemmas.Bool.Decides.{Decides-eqb, Decides-ltb}
use Rattle.std.proofs.lemmas.Bool.{cases_lt}
use Rattle.std.proofs.Math.Dec.{leb-zero}
use Rattle.std.proofs.Math.Facts.{leb_yes, yes_leb}
use Rattle.pay_text.specs.Lines.{line_feed, lines_of, within, lines_within}
use Rattle.pay_text.specs.Cutting.{line_with_byte, last_line, lines_after}

not_less : (a b : ℕ) → b ≤ a → nat_lt a b ≡ false
not_less a b le = elim (nat_lt a b) as (λ e. (e ≡ true → a < b) → e ≡ false) [ true ↦ λ h. absurd (let lt : a < b = h refl in omega arith) | false ↦ λ h. refl ] (Decides-ltb a b).0

not_at_most : (a b : ℕ) → b < a → nat_le a b ≡ false
not_at_most a b lt = elim (nat_le a b) as (λ e. (e ≡ true → a ≤ b) → e ≡ false) [ true ↦ λ h. absurd (let le : a ≤ b = h refl in omega arith) | false ↦ λ h. refl ] (λ e. search (rules, leb_yes))

at_most : (a b : ℕ) → a ≤ b → nat_le a b ≡ true
at_most a b le = search (rules, yes_leb)

less_same_more : (a b : ℕ) → (a < b) ⊎ (a ≡ b) ⊎ (b < a)
less_same_more a b = elim (cases_lt a b) [ inl lt ↦ inl lt | inr ge ↦ elim (cases_lt b a) [ inl lt ↦ inr (inr lt) | inr le ↦ inr (inl (omega arith)) ] ]

-- no line feed is among the bytes
abbrev IsUnbroken : List ℕ → Type 0
IsUnbroken [] = ⊤
IsUnbroken (b ∷ bytes) = ((b == line_feed) ≡ false) × IsUnbroken bytes

one_more : (rest : List ℕ) (b : ℕ) → IsUnbroken rest → (b == line_feed) ≡ false → IsUnbroken (rest ++ b ∷ [])
one_more [] b whole no_feed = (no_feed, tt)
one_more (x ∷ rest) b (first, whole) no_feed = (first, one_more rest b whole no_feed)

line_then : (rest bytes : List ℕ) (b : ℕ) → IsUnbroken rest → (b == line_feed) ≡ true → lines_of (rest ++ b ∷ bytes) ≡ rest ∷ lines_of bytes
unfolding lines_of
line_then [] bytes b whole feed = rw feed refl
line_then (x ∷ rest) bytes b (first, whole) feed = rw (first, line_then rest bytes b whole feed) refl

line_alone : (b : ℕ) (rest : List ℕ) → IsUnbroken (b ∷ rest) → lines_of (b ∷ rest) ≡ (b ∷ rest) ∷ []
unfolding lines_of
line_alone b [] (first, whole) = rw first refl
line_alone b (x ∷ rest) (first, whole) = rw (first, line_alone x rest whole) refl

no_lines : lines_of [] ≡ []
unfolding lines_of
no_lines = refl

last_is : (bound : ℕ) (b : ℕ) (rest : List ℕ) → last_line (within bound (b ∷ rest)) ≡ within bound (b ∷ rest) ∷ []
unfolding within
last_is bound b rest = elim (nat_le (length (b ∷ rest)) bound) as (λ e. last_line (cond e (Some (b ∷ rest)) None) ≡ cond e (Some (b ∷ rest)) None ∷ []) [ true ↦ refl | false ↦ refl ]

nothing_within : (bound : ℕ) → within bound [] ≡ Some []
unfolding within
nothing_within bound = rw (leb-zero bound) refl

pub grown_fits : (bound : ℕ) (line : List ℕ) (b : ℕ) → length line < bound → line_with_byte bound (Some line) b ≡ Some (line ++ b ∷ [])
unfolding line_with_byte
grown_fits bound line b fits = rw ((Decides-ltb (length line) bound).1 fits) refl

pub grown_full : (bound : ℕ) (line : List ℕ) (b : ℕ) → bound ≤ length line → line_with_byte bound (Some line) b ≡ None
unfolding line_with_byte
grown_full bound line b full = rw (not_less (length line) bound full) refl

pub grown_over : (bound b : ℕ) → line_with_byte bound None b ≡ None
unfolding line_with_byte
grown_over bound b = refl

within_fits : (bound : ℕ) (line : List ℕ) → length line ≤ bound → within bound line ≡ Some line
unfolding within
within_fits bound line fits = rw (at_most (length line) bound fits) refl

within_over : (bound : ℕ) (line : List ℕ) → bound < length line → within bound line ≡ None
unfolding within
within_over bound line over = rw (not_at_most (length line) bound over) refl

grown_is : (bound : ℕ) (rest : List ℕ) (b : ℕ) → line_with_byte bound (within bound rest) b ≡ within bound (rest ++ b ∷ [])
grown_is bound rest b =
    let long : length (rest ++ b ∷ []) ≡ length rest + 1 = length-append rest (b ∷ []) in
    elim (less_same_more (length rest) bound) [
      | inl less ↦ rw (within_fits bound rest (omega arith), grown_fits bound rest b less) (sym (within_fits bound (rest ++ b ∷ []) (omega arith)))
      | inr (inl same) ↦ rw (within_fits bound rest (omega arith), grown_full bound rest b (omega arith)) (sym (within_over bound (rest ++ b ∷ []) (omega arith)))
      | inr (inr more) ↦ rw (within_over bound rest more, grown_over bound b) (sym (within_over bound (rest ++ b ∷ []) (omega arith)))
    ]

pub lines_after_is : (bound : ℕ) (bytes rest : List ℕ) → IsUnbroken rest → lines_after bound (within bound rest) bytes ≡ lines_within bound (rest ++ bytes)
unfolding lines_after
lines_after_is bound [] [] whole = rw (nothing_within bound, no_lines) refl
lines_after_is bound [] (b ∷ rest) whole = last_is bound b rest ∙ sym (ap (map (within bound)) (ap lines_of (append-nil (b ∷ rest)) ∙ line_alone b rest whole))
lines_after_is bound (b ∷ bytes) rest whole = elim (b == line_feed) as (λ e. (b == line_feed) ≡ e → cond e (within bound rest ∷ lines_after bound (Some []) bytes) (lines_after bound (line_with_byte bound (within bound rest) b) bytes) ≡ lines_within bound (rest ++ b ∷ bytes)) [
  | true ↦ λ feed. ap (λ ls. within bound rest ∷ ls) (ap (λ l. lines_after bound l bytes) (sym (nothing_within bound)) ∙ lines_after_is bound bytes [] tt) ∙ sym (ap (map (within bound)) (line_then rest bytes b whole feed))
  | false ↦ λ no_feed. ap (λ l. lines_after bound l bytes) (grown_is bound rest b) ∙ lines_after_is bound bytes (rest ++ b ∷ []) (one_more rest b whole no_feed) ∙ ap (lines_within bound) (append_assoc rest (b ∷ []) bytes)
] refl

pub lines_from_start : (bound : ℕ) (bytes : List ℕ) → lines_after bound (Some []) bytes ≡ lines_within bound bytes
lines_from_start bound bytes = ap (λ l. lines_after bound l bytes) (sym (nothing_within bound)) ∙ lines_after_is bound bytes [] tt

-- ---- the next byte of a piece

pub at_feed : (bound : ℕ) (begun : Option (List ℕ)) (piece more : List ℕ) (i : ℕ) → i < length piece → get_or piece i 0 ≡ line_feed → lines_after bound begun (drop i piece ++ more) ≡ begun ∷ lines_after bound (Some []) (drop (i + 1) piece ++ more)
unfolding lines_after
at_feed bound begun piece more i lt feed = rw (drop-cons piece i 0, feed, add-one) refl

pub at_other : (bound : ℕ) (begun : Option (List ℕ)) (piece more : List ℕ) (i : ℕ) → i < length piece → (get_or piece i 0 == line_feed) ≡ false → lines_after bound begun (drop i piece ++ more) ≡ lines_after bound (line_with_byte bound begun (get_or piece i 0)) (drop (i + 1) piece ++ more)
unfolding lines_after
at_other bound begun piece more i lt other = rw (drop-cons piece i 0, other, add-one) refl

pub other_byte : (b : ℕ) → (b ≡ line_feed → ⊥) → (b == line_feed) ≡ false
other_byte b apart = elim (b == line_feed) as (λ e. (e ≡ true → b ≡ line_feed) → e ≡ false) [ true ↦ λ h. absurd (apart (h refl)) | false ↦ λ h. refl ] (Decides-eqb b line_feed).0
