-- Groups and actions for the worked examples.
use Rattle.std.specs.Prelude.{ℕ, ◌==◌, ◌||◌, List, [], ◌∷◌, Option}
use Rattle.pay_frame.specs.declared.body.Kind.{Kind}
use Rattle.pay_frame.specs.declared.body.Kind.TheVariants.{Send, Echo, Ready}
use Rattle.pay_frame.specs.Frame.{FrameFields, frame_bytes, frame_of_parts}
use Rattle.pay_channel.specs.History.{body_of, delivered_at}
use Rattle.pay_link.specs.Sealing.{sealed_frame}
use Rattle.pay_link.specs.TestKeys.{test_keys_of}
use Rattle.pay_member.specs.declared.event.Event.{Event as MemberEvent}
use Rattle.pay_member.specs.declared.event.Event.TheVariants as entry
use Rattle.pay_member.specs.declared.event.Reply.TheVariants as entry_reply
use Rattle.pay_member.specs.declared.event.HistoryEntry.{HistoryEntry}
use Rattle.pay_world.specs.declared.event.WorldEvent.{WorldEvent}
use Rattle.pay_world.specs.declared.event.WorldEvent.TheVariants.{Ask, Bring}
use Rattle.pay_world.specs.Setting.{Setting, group_at}
use Rattle.pay_world.specs.Actions.{Action, Asks, Brings, history_by}
use Rattle.pay_world.specs.Liars.{LiarFields}

abbrev pub A : List ℕ
A = 65 ∷ []

abbrev pub B : List ℕ
B = 66 ∷ []

-- a frame about number 0 of account 3 reaches member k
abbrev pub of_3 : Kind → ℕ → ℕ → ℕ → List ℕ → Action
of_3 kind k from number v = Brings k from number (body_of kind 3 0 v)

-- a frame about number 0 of account 0
abbrev pub of_0 : Kind → ℕ → ℕ → ℕ → List ℕ → Action
of_0 kind k from number v = Brings k from number (body_of kind 0 0 v)

-- members 0 to 3, at most one of them faulty, and 3 is
abbrev pub setting_of_four : Setting
setting_of_four = record { members = 4; faults = 1; faulty = λ i. i == 3 }

-- these members, with 2 faulty too: one more than allowed
abbrev pub two_liars : Setting
two_liars = record { members = 4; faults = 1; faulty = λ i. i == 2 || i == 3 }

-- members 0 to 2, at most one of them faulty, and 2 is: N = 3f
abbrev pub three : Setting
three = record { members = 3; faults = 1; faulty = λ i. i == 2 }

-- what member i delivers under number 0 of account a
abbrev pub first_of : Setting → List Action → ℕ → ℕ → Option (List ℕ)
first_of w actions i a = delivered_at (group_at w i) (history_by w actions i) a 0

-- ---- with a faulty member that says B to one member and A to another

-- Member 0 submits A, and member 3 is faulty. Member 3 echoes A to 0 and another value to 1, and is
-- never READY. Some frames come twice or too early, and 0, 1 and 2 still deliver A.
abbrev pub with_a_liar : List Action
with_a_liar =
    Asks 0 A
    ∷ of_0 Send 1 0 0 A ∷ of_0 Send 2 0 0 A
    ∷ of_0 Echo 1 3 0 B ∷ of_0 Echo 0 3 0 A
    ∷ of_0 Echo 0 1 0 A
    ∷ of_0 Echo 1 0 1 A ∷ of_0 Echo 1 0 1 A ∷ of_0 Ready 2 0 2 A
    ∷ of_0 Echo 1 2 0 A
    ∷ of_0 Ready 0 1 1 A
    ∷ of_0 Echo 2 0 1 A ∷ of_0 Ready 2 0 2 A ∷ of_0 Echo 2 1 0 A ∷ of_0 Ready 2 1 1 A
    ∷ of_0 Echo 0 2 0 A ∷ of_0 Ready 0 2 1 A
    ∷ of_0 Ready 1 0 2 A ∷ of_0 Ready 1 2 1 A
    ∷ []

-- ---- with more faulty members than allowed

-- the two are READY for A to 0, and for B to 1
abbrev pub by_two_liars : List Action
by_two_liars =
    of_3 Ready 0 2 0 A ∷ of_3 Ready 0 3 0 A
    ∷ of_3 Ready 1 2 0 B ∷ of_3 Ready 1 3 0 B
    ∷ []

-- ---- with a forged frame

-- The first frame is forged: 2 never sent it. To all others 3 broadcasts B.
abbrev pub by_a_forged_frame : List Action
by_a_forged_frame =
    of_3 Ready 0 2 0 A ∷ of_3 Ready 0 3 0 A
    ∷ of_3 Send 1 3 0 B ∷ of_3 Send 2 3 0 B
    ∷ of_3 Echo 1 3 1 B ∷ of_3 Echo 1 2 0 B
    ∷ of_3 Echo 2 3 1 B ∷ of_3 Echo 2 1 0 B
    ∷ of_3 Ready 1 2 1 B ∷ of_3 Ready 1 3 2 B
    ∷ []

-- ---- with N = 3f

-- 2 echoes A to both and is READY only to 0; each accepted all that the other sent
abbrev pub of_three : List Action
of_three =
    Asks 0 A
    ∷ of_0 Send 1 0 0 A ∷ of_0 Echo 1 0 1 A ∷ of_0 Echo 1 2 0 A
    ∷ of_0 Echo 0 1 0 A ∷ of_0 Echo 0 2 0 A
    ∷ of_0 Ready 1 0 2 A ∷ of_0 Ready 0 1 1 A ∷ of_0 Ready 0 2 1 A
    ∷ []

-- ---- a stored history

-- an entry with this event; its stamp and its reply mean nothing here
abbrev pub entry_with : MemberEvent → HistoryEntry
entry_with e = record { stamp = 0; event = e; reply = entry_reply.Asked 0 }

-- the SEND of 0's A came to 1, under this number; its tag and key mean nothing here either
abbrev pub send_at_1 : ℕ → MemberEvent
send_at_1 number =
    entry.Taken (record { frame = frame_of_parts 0 1 number (body_of Send 0 0 A) []; key = [] })

-- 1 submits B, the state of account 0 is requested, and a SEND under this number comes
abbrev pub stored_at_1 : ℕ → List HistoryEntry
stored_at_1 number =
    entry_with (entry.Ask B) ∷ entry_with (entry.Query 0) ∷ entry_with (send_at_1 number) ∷ []

-- ---- events in bytes

-- members 0 to 3, at most one of them faulty, and 3 is
abbrev pub liar_of_four : LiarFields
liar_of_four = record { members = 4; faults = 1; liars = 3 ∷ [] }

-- the SEND of 0's A to 1, encoded with their test key
abbrev pub sealed_send : FrameFields
sealed_send = sealed_frame (test_keys_of 4 0) 1 0 (body_of Send 0 0 A)

-- 1 submits B and 0 submits A, and that SEND comes to 1 twice
abbrev pub in_bytes : List WorldEvent
in_bytes =
    Ask 1 B ∷ Ask 0 A
    ∷ Bring 1 (frame_bytes sealed_send) ∷ Bring 1 (frame_bytes sealed_send)
    ∷ []

-- ---- with a member that lost state

-- Member 3 sent A to all others, who echoed it, are READY for it and deliver it. Then it submits B
-- under this number, and receives all that they sent.
abbrev pub by_a_forgetting_member : List Action
by_a_forgetting_member =
    of_3 Send 0 3 0 A ∷ of_3 Send 1 3 0 A ∷ of_3 Send 2 3 0 A
    ∷ of_3 Echo 0 1 0 A ∷ of_3 Echo 0 2 0 A
    ∷ of_3 Echo 1 0 0 A ∷ of_3 Echo 1 2 0 A
    ∷ of_3 Echo 2 0 0 A ∷ of_3 Echo 2 1 0 A
    ∷ of_3 Ready 0 1 1 A ∷ of_3 Ready 0 2 1 A
    ∷ of_3 Ready 1 0 1 A ∷ of_3 Ready 1 2 1 A
    ∷ of_3 Ready 2 0 1 A ∷ of_3 Ready 2 1 1 A
    ∷ Asks 3 B
    ∷ of_3 Echo 3 0 0 A ∷ of_3 Ready 3 0 1 A
    ∷ of_3 Echo 3 1 0 A ∷ of_3 Ready 3 1 1 A
    ∷ of_3 Echo 3 2 0 A ∷ of_3 Ready 3 2 1 A
    ∷ []
