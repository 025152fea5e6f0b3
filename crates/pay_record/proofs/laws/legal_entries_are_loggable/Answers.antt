use Rattle.std.proofs.Common.{refl}
use Rattle.pay_member.specs.Events.{events}
use Rattle.pay_record.proofs.Legal.{fits_event, fits_reply}
use Rattle.pay_record.proofs.laws.legal_entries_are_loggable.Goals as goal

pub returns : goal.returns
returns c g k before e after id genesis legal typed =
    let owed = legal.each before e after refl in
    record {
      stamp = typed.stamp;
      event = fits_event g k (events before) e.event genesis owed.kept owed.taken;
      reply = fits_reply g k.own (events before) e.event id e.reply owed.reply typed.reply typed.id;
    }
