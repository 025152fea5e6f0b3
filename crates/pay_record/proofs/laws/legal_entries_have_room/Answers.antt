use Rattle.std.proofs.Common.{refl}
use Rattle.pay_member.specs.Events.{events}
use Rattle.pay_record.proofs.Legal.{unrefused}
use Rattle.pay_record.proofs.laws.legal_entries_have_room.Goals as goal

pub returns : goal.returns
returns c g k before e after legal =
    unrefused g k (events before) e.event (legal.each before e after refl).taken
