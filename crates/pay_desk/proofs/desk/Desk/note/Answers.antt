use Rattle.std.proofs.Common.{◌∙◌, ap}
use Rattle.pay_book.specs.Notes.{note_value}
use Rattle.pay_desk.proofs.NoteValues.{short}
use Rattle.pay_desk.proofs.desk.Desk.note.Goals as goal

pub ask-requires-clause-short : goal.ask-requires-clause-short
ask-requires-clause-short g c =
    short c.args.text.now c.in_ok-value.value (c.in_ok-value.ensures ∙ ap note_value c.as_slice.ensures.value) c.requires
