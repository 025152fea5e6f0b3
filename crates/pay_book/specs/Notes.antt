-- Values that contain a text in their owner's name, and pay nothing.
use Rattle.std.specs.Prelude.{◌≡◌, ℕ, ◌==◌, nat_lt, nat_le, ◌&&◌, not, Bool, true, List, [], ◌∷◌}
use Rattle.std.specs.Prelude.{length, Option, Some, None, if◌then◌else◌}
use Rattle.std.specs.List.{list_any}
use Rattle.std.specs.Char.{is_control}
use Rattle.std.specs.Str.{chars, is_utf8}
use Rattle.pay_book.specs.declared.note.TheConstants.{NOTE_VERSION, MOST_NOTE}

-- UTF-8 of 1 to 1,000 bytes, without control characters
unfoldable pub is_note_text : List ℕ → Bool
is_note_text text =
    nat_lt 0 (length text) && nat_le (length text) MOST_NOTE && is_utf8 text
    && not (list_any is_control (chars text))

-- the value of a note with this text: the version, and then the text
unfoldable pub note_value : List ℕ → List ℕ
note_value text = NOTE_VERSION ∷ text

-- The value is the note of this text.
abbrev pub IsNote : List ℕ → List ℕ → Type 0
IsNote value text = (value ≡ note_value text) × (is_note_text text ≡ true)

-- the text of a value, if it is a note
unfoldable pub note_of : List ℕ → Option (List ℕ)
note_of [] = None
note_of (version ∷ text) =
    if version == NOTE_VERSION && is_note_text text then Some text else None
