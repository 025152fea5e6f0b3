-- How many bytes a record has at most.
use Rattle.std.proofs.Common.{ℕ, ◌≤◌, length, arith, length-append}
use Rattle.pay_link.specs.Checked.{CheckedFields, IsChecked}
use Rattle.pay_member.specs.declared.event.Event.{Event}
use Rattle.pay_member.specs.declared.event.Event.TheVariants.{Ask, Taken, Query}
use Rattle.pay_member.specs.declared.event.Reply.{Reply}
use Rattle.pay_member.specs.declared.event.Reply.TheVariants.{Asked, Took, Told}
use Rattle.pay_record.specs.Loggable.{FitsRecord, IsWithinLimits}
use Rattle.pay_record.specs.Records.{LoggedFields, frame_part, record_fields, record_of, reply_bytes}

reply_small : (reply : Reply) → length (reply_bytes reply) ≤ 16
reply_small (Asked seq) = omega arith
reply_small (Took t) = omega arith
reply_small (Told t) = omega arith

frame_small : (c : CheckedFields) → IsChecked c → length (frame_part c.frame) ≤ 1043
frame_small c is = omega (arith, is.frame.body.value)

fields_small : (e : Event) (id : ℕ) (reply : Reply) → FitsRecord e → IsWithinLimits e → length (record_fields e id reply) ≤ 1059
fields_small (Ask v) id (Asked seq) room sound = omega (arith, room)
fields_small (Ask v) id (Took t) room sound = omega (arith, room)
fields_small (Ask v) id (Told t) room sound = omega (arith, room)
fields_small (Taken c) id reply room sound = omega (arith, reply_small reply, frame_small c sound, length-append (reply_bytes reply) (frame_part c.frame))
fields_small (Query a) id reply room sound = omega (arith, reply_small reply)

pub record_small : (l : LoggedFields) → FitsRecord l.entry.event → IsWithinLimits l.entry.event → length (record_of l) ≤ 1062
unfolding record_of
record_small l room sound = omega (arith, fields_small l.entry.event l.id l.entry.reply room sound)
