-- The reason why a member refuses an event, if it does: the first cause that holds.
use Rattle.std.specs.Prelude.{ℕ, nat_le, nat_lt, Bool, ◌&&◌, ◌==◌, List, length, Option, Some, None}
use Rattle.std.specs.Prelude.{if◌then◌else◌}
use Rattle.pay_frame.specs.declared.limits.TheConstants.{GREATEST_VALUE, SEQS}
use Rattle.pay_channel.specs.History as channel
use Rattle.pay_channel.specs.History.{asks}
use Rattle.pay_channel.specs.Taken.{next}
use Rattle.pay_link.specs.Genesis.{GenesisFields}
use Rattle.std.specs.Str.{bytes_eq}
use Rattle.pay_link.specs.Keys.{KeyFields, is_peer, key_for}
use Rattle.pay_link.specs.Checked.{CheckedFields}
use Rattle.pay_member.specs.declared.event.Event.{Event}
use Rattle.pay_member.specs.declared.event.Event.TheVariants.{Ask, Taken, Query}
use Rattle.pay_member.specs.declared.fault.MemberFault.{MemberFault}
use Rattle.pay_member.specs.declared.fault.MemberFault.TheVariants.{Spent, TooLong, Repeat, Gap}
use Rattle.pay_member.specs.declared.fault.MemberFault.TheVariants.{WrongKey, NoAccount}

-- the test of whether a frame is for the member with these keys
abbrev pub is_for_member : KeyFields → CheckedFields → Bool
is_for_member k c =
    (c.frame.to == k.own) && is_peer k c.frame.from && nat_lt c.frame.body.owner (length k.keys)
    && bytes_eq c.key (key_for k c.frame.from)

-- a number that is not the next one
abbrev pub turn_refusal : ℕ → ℕ → Option MemberFault
turn_refusal next number =
    if nat_lt number next then Some (Repeat next)
    else if nat_lt next number then Some (Gap next)
    else None

-- page: `refusal`: the first cause to refuse an event: a value too long, then no number left; a
--   frame for another member or under another key, then not the next number; an account that
--   doesn't exist
abbrev pub refusal : GenesisFields → KeyFields → List channel.Event → Event → Option MemberFault
refusal g k before (Ask v) =
    if nat_lt GREATEST_VALUE (length v) then Some TooLong
    else if nat_le SEQS (asks before) then Some Spent
    else None
refusal g k before (Taken c) =
    if is_for_member k c then turn_refusal (next c.frame.from before) c.frame.number
    else Some WrongKey
refusal g k before (Query a) = if nat_lt a g.members then None else Some NoAccount
