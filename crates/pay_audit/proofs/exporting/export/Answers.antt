use Rattle.std.proofs.Common.{◌<◌, subst, arith}
use Rattle.pay_link.specs.Keys.{IsKeys}
use Rattle.pay_audit.specs.Exporting.{export_of}
use Rattle.pay_audit.proofs.Text.{exported_sound, exported_values}
use Rattle.pay_audit.proofs.exporting.export.Goals as goal

pub returns-clause-reads_back : goal.returns-clause-reads_back
returns-clause-reads_back g c =
    let m = c.args.member.now in
    let keys = subst IsKeys c.keys.ensures.value c.own.ensures.limits in
    let known : m.keys.own < m.genesis.members = omega (arith, keys.own, c.keys.ensures.limits) in
    let sound = exported_sound c.book_of_events.ensures.settled c.lists_are_delivered.ensures.short m c.genesis.ensures.limits known in
    λ text is. c.export_reads_back.ensures (export_of m) text sound
    (exported_values c.lists_are_delivered.ensures.listed c.legal_histories.ensures.values m c.history.ensures.legal) is
