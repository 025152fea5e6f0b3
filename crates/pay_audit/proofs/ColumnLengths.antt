-- An export has a number for each account.
use Rattle.std.proofs.Common.{◌≡◌, length}
use Rattle.pay_link.specs.Genesis.{IsGenesis}
use Rattle.pay_member.specs.Events.{events}
use Rattle.pay_member.specs.Laws.{BookIsSettled}
use Rattle.pay_member.specs.Member.{MemberFields}
use Rattle.pay_audit.specs.Columns.{column_of}
use Rattle.pay_audit.specs.Exporting.{export_of}
use Rattle.pay_audit.specs.declared.export_writing.Column.{Column}
use Rattle.pay_audit.specs.declared.export_writing.Column.TheVariants.{Balances, Front, Opening}
use Rattle.pay_audit.proofs.Pushing.{balances, fronts}

pub length-column_of : BookIsSettled → (m : MemberFields) (column : Column) → IsGenesis m.genesis → length (column_of (export_of m) column) ≡ m.genesis.members
length-column_of law m Balances sound = balances law m.genesis m.keys.own (events m.history) sound
length-column_of law m Front sound = fronts law m.genesis m.keys.own (events m.history) sound
length-column_of law m Opening sound = sound.opening
