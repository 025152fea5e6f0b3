-- A note is one void entry, and its text is what is read of it.
use Rattle.std.proofs.Common.{◌≡◌, ◌∙◌, ℕ, Bool, true, false, ◌&&◌, if◌then◌else◌, List, [], ◌∷◌, Some, None, length, refl, sym, ap}
use Rattle.std.specs.Prelude.{slice_index, ◌==◌}
use Rattle.std.proofs.lemmas.Bool.{and_parts, cond-false, cond-true, eqb-true}
use Rattle.pay_book.specs.declared.payment.Entry.TheVariants.{Void}
use Rattle.pay_book.specs.declared.payment.TheConstants.{PAYMENT_LENGTH, PAYMENT_VERSION}
use Rattle.pay_book.specs.declared.note.TheConstants.{NOTE_VERSION}
use Rattle.pay_book.specs.Laws.{NotesAreRead, NotesAreVoid}
use Rattle.pay_book.specs.Notes.{IsNote, is_note_text, note_of, note_value}
use Rattle.pay_book.specs.Payment.{entries_in, entry_of, is_several}

and_false : (a b : Bool) → b ≡ false → (a && b) ≡ false
and_false true b is = is
and_false false b is = refl

no_several : (text : List ℕ) → is_several (note_value text) ≡ false
unfolding is_several note_value
no_several text = refl

no_payment : (text : List ℕ) → (length (note_value text) == PAYMENT_LENGTH && slice_index (note_value text) 0 == PAYMENT_VERSION) ≡ false
unfolding note_value
no_payment text = and_false (length (note_value text) == PAYMENT_LENGTH) (slice_index (note_value text) 0 == PAYMENT_VERSION) refl

void_entry : (accounts owner : ℕ) (text : List ℕ) → entry_of accounts owner (note_value text) ≡ Void
unfolding entry_of
void_entry accounts owner text = cond-false (length (note_value text) == PAYMENT_LENGTH && slice_index (note_value text) 0 == PAYMENT_VERSION) _ Void (no_payment text)

pub notes_are_void : NotesAreVoid
unfolding entries_in
notes_are_void accounts owner text =
    cond-false (is_several (note_value text)) _ (entry_of accounts owner (note_value text) ∷ []) (no_several text)
    ∙ ap (λ e. e ∷ []) (void_entry accounts owner text)

-- ---- what is read of a value

read : (version : ℕ) (text said : List ℕ) (b : Bool) → (version == NOTE_VERSION && is_note_text text) ≡ b
    → (if b then Some text else None) ≡ Some said → IsNote (version ∷ text) said
unfolding note_value
read version text said true is one =
    let parts = and_parts (version == NOTE_VERSION) (is_note_text text) is in
    let same : text ≡ said = cc in
    (ap (λ v. v ∷ text) (eqb-true version NOTE_VERSION parts.0) ∙ ap (λ t. NOTE_VERSION ∷ t) same, sym (ap is_note_text same) ∙ parts.1)
read version text said false is none = absurd cc

is_read : (value text : List ℕ) → note_of value ≡ Some text → IsNote value text
unfolding note_of
is_read [] text none = absurd cc
is_read (version ∷ rest) text one = read version rest text (version == NOTE_VERSION && is_note_text rest) refl one

of_note : (text : List ℕ) → is_note_text text ≡ true → note_of (note_value text) ≡ Some text
unfolding note_of note_value
of_note text is = cond-true (is_note_text text) (Some text) None is

pub notes_are_read : NotesAreRead
notes_are_read value text = (is_read value text, λ note. ap note_of note.0 ∙ of_note text note.1)
