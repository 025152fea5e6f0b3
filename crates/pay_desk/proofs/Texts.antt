-- What a note may say.
use Rattle.std.proofs.Common.{◌≡◌, ℕ, ◌≤◌, true, ◌&&◌, not, List, length}
use Rattle.std.specs.Prelude.{nat_le, nat_lt}
use Rattle.std.specs.List.{list_any}
use Rattle.std.specs.Char.{is_control}
use Rattle.std.specs.Str.{chars, is_utf8}
use Rattle.std.proofs.lemmas.Bool.{and_parts, leb-true}
use Rattle.pay_book.specs.declared.note.TheConstants.{MOST_NOTE}
use Rattle.pay_book.specs.Notes.{is_note_text}

pub few : (bytes : List ℕ) → is_note_text bytes ≡ true → length bytes ≤ MOST_NOTE
unfolding is_note_text
few bytes is =
    let a = nat_lt 0 (length bytes) in
    let b = nat_le (length bytes) MOST_NOTE in
    let c = is_utf8 bytes in
    let short = (and_parts (a && b && c) (not (list_any is_control (chars bytes))) is).0 in
    leb-true (length bytes) MOST_NOTE (and_parts a b (and_parts (a && b) c short).0).1
