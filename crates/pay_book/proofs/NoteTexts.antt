-- What a note may say.
use Rattle.std.proofs.Common.{◌≡◌, ℕ, Bool, true, false, ◌&&◌, not, List, length, refl, ap, inl, inr}
use Rattle.std.specs.Prelude.{nat_le, nat_lt}
use Rattle.std.specs.List.{list_any}
use Rattle.std.specs.Char.{is_control}
use Rattle.std.specs.Str.{IsUtf8, chars, is_utf8}
use Rattle.std.proofs.lemmas.Bool.{cases_Bool}
use Rattle.std.proofs.lemmas.Str.{IsUtf8-from_is_utf8, is_utf8-from_IsUtf8}
use Rattle.pay_book.specs.declared.note.TheConstants.{MOST_NOTE}
use Rattle.pay_book.specs.Notes.{is_note_text}

by_tests : (a b c d : Bool) → c ≡ true → (a && b && c && d) ≡ (a && b && d)
by_tests true true c d is = ap (λ x. x && d) is
by_tests true false c d is = refl
by_tests false b c d is = refl

by_one : (a b c d : Bool) → c ≡ false → (a && b && c && d) ≡ false
by_one true true c d is = ap (λ x. x && d) is
by_one true false c d is = refl
by_one false b c d is = refl

-- of text its length and its characters are left to look at
pub of_text : (bytes : List ℕ) → IsUtf8 bytes → is_note_text bytes ≡ (nat_lt 0 (length bytes) && nat_le (length bytes) MOST_NOTE && not (list_any is_control (chars bytes)))
unfolding is_note_text
of_text bytes text =
    by_tests (nat_lt 0 (length bytes)) (nat_le (length bytes) MOST_NOTE) (is_utf8 bytes) (not (list_any is_control (chars bytes)))
    (is_utf8-from_IsUtf8 bytes text)

pub of_no_text : (bytes : List ℕ) → ¬ (IsUtf8 bytes) → is_note_text bytes ≡ false
unfolding is_note_text
of_no_text bytes none =
    elim (cases_Bool (is_utf8 bytes)) [
      | inl is ↦ absurd (none (IsUtf8-from_is_utf8 bytes is))
      | inr isnt ↦ by_one (nat_lt 0 (length bytes)) (nat_le (length bytes) MOST_NOTE) (is_utf8 bytes) (not (list_any is_control (chars bytes))) isnt
    ]
