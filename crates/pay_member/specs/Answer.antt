-- What a member answers to an event that is handed in, except for lack of memory.
use Rattle.std.specs.Prelude.{◌≡◌, ◌≢◌, ℕ, Some, None, Result, Ok, Err}
use Rattle.pay_member.specs.declared.fault.AskFault.{AskFault}
use Rattle.pay_member.specs.declared.event.Event.{Event}
use Rattle.pay_member.specs.declared.fault.MemberFault.{MemberFault}
use Rattle.pay_member.specs.declared.fault.MemberFault.TheVariants.{Memory}
use Rattle.pay_member.specs.declared.fault.QueryFault.{QueryFault}
use Rattle.pay_member.specs.declared.event.Reply.{Reply}
use Rattle.pay_member.specs.declared.event.Reply.TheVariants as reply
use Rattle.pay_member.specs.declared.fault.TakeFault.{TakeFault}
use Rattle.pay_member.specs.declared.event.Told.{Told}
use Rattle.pay_member.specs.declared.event.Took.{Took}
use Rattle.pay_member.specs.Events.{events}
use Rattle.pay_member.specs.Faults.{fault_of_ask, fault_of_take, fault_of_query}
use Rattle.pay_member.specs.Member.{MemberFields}
use Rattle.pay_member.specs.Refusal.{refusal}
use Rattle.pay_member.specs.Reply.{reply_to}

-- ---- the answer of each call, as the answer to an event

abbrev pub answer_of_ask : Result ℕ AskFault → Result Reply MemberFault
answer_of_ask (Ok seq) = Ok (reply.Asked seq)
answer_of_ask (Err fault) = Err (fault_of_ask fault)

abbrev pub answer_of_take : Result Took TakeFault → Result Reply MemberFault
answer_of_take (Ok took) = Ok (reply.Took took)
answer_of_take (Err fault) = Err (fault_of_take fault)

abbrev pub answer_of_query : Result Told QueryFault → Result Reply MemberFault
answer_of_query (Ok state) = Ok (reply.Told state)
answer_of_query (Err fault) = Err (fault_of_query fault)

-- ---- what is owed

-- its refusal, if there is one, and otherwise its reply
abbrev pub IsAnswer : MemberFields → Event → Result Reply MemberFault → Type 0
IsAnswer m event (Ok reply) =
    (refusal m.genesis m.keys (events m.history) event ≡ None)
    × (reply ≡ reply_to m.genesis m.keys.own (events m.history) event)
IsAnswer m event (Err fault) =
    fault ≢ Memory → refusal m.genesis m.keys (events m.history) event ≡ Some fault
