use Rattle.pay_desk.proofs.Apart.{kept_answers_its_own}
use Rattle.pay_desk.proofs.NoteValues.{kept_answers_its_note}
use Rattle.pay_desk.proofs.laws.a_kept_id_answers_its_own.Goals as goal

pub returns : goal.returns
returns c = record {
  payments = kept_answers_its_own c.what_was_encoded.ensures.apart;
  notes = kept_answers_its_note;
}
