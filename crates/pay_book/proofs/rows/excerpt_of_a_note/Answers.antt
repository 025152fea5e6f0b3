use Rattle.std.proofs.Common.{◌≡◌, ◌∙◌, ◌∷◌, ℕ, List, Option, Some, None, [], drop, false, map, refl, take, true, ap}
use Rattle.std.specs.List.{flat_map}
use Rattle.std.proofs.lemmas.Bool.{cond-false, cond-true}
use Rattle.pay_book.specs.declared.excerpts.ShownEntry.{ShownEntry}
use Rattle.pay_book.specs.declared.excerpts.TheConstants.{MOST_SHOWN}
use Rattle.pay_book.specs.declared.payment.Entry.{Entry}
use Rattle.pay_book.specs.declared.payment.Entry.TheVariants as entry
use Rattle.pay_book.specs.Excerpt.{settled_from, shown_among}
use Rattle.pay_book.specs.Notes.{is_note_text, note_of, note_value}
use Rattle.pay_book.specs.Payment.{pair_entry, entry_of, is_several, entries_in}
use Rattle.pay_book.specs.Rows.{both_settled, paid_and_said, unsaid}
use Rattle.pay_book.specs.Statement.{numbered_entries_of}
use Rattle.pay_book.proofs.Notes.{notes_are_void}
use Rattle.pay_book.proofs.rows.excerpt_of_a_note.Goals as goal

pub returns-clause-value : goal.returns-clause-value
unfolding note_value
returns-clause-value c = refl

noted : (text : List ℕ) → is_note_text text ≡ true → note_of (note_value text) ≡ Some text
unfolding note_of note_value
noted text is = cond-true (is_note_text text) (Some text) None is

unnoted : (text : List ℕ) → is_note_text text ≡ false → note_of (note_value text) ≡ None
unfolding note_of note_value
unnoted text is = cond-false (is_note_text text) (Some text) None is

abbrev behind : List Entry → List (ℕ × Entry)
behind es = (0, entry.Pay 1 30) ∷ flat_map (λ (x : ℕ × List Entry). map (λ e. (x.0, e)) x.1) ((1, es) ∷ [])

void : (text : List ℕ) → numbered_entries_of 4 (paid_and_said text) 0 ≡ (0, entry.Pay 1 30) ∷ (1, entry.Void) ∷ []
unfolding pair_entry entry_of is_several entries_in numbered_entries_of
void text = ap behind (notes_are_void 4 0 text)

shown : (text : List ℕ) → settled_from (both_settled text) (paid_and_said text) 0 0
    ≡ unsaid 0 (entry.Pay 1 30) ∷ record { seq = 1; entry = entry.Void; note = note_of (note_value text) } ∷ []
unfolding note_of note_value settled_from
shown text = ap (λ (es : List (ℕ × Entry)). map (shown_among (paid_and_said text 0)) (take MOST_SHOWN (drop 0 (take 2 es)))) (void text)

abbrev with_note : Option (List ℕ) → List ShownEntry
with_note note = unsaid 0 (entry.Pay 1 30) ∷ record { seq = 1; entry = entry.Void; note = note } ∷ []

pub returns-clause-said : goal.returns-clause-said
returns-clause-said c text is = shown text ∙ ap with_note (noted text is)

pub returns-clause-unsaid : goal.returns-clause-unsaid
returns-clause-unsaid c text is = shown text ∙ ap with_note (unnoted text is)
