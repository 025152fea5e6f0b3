-- What the members of a script's group know from the events that were made, and what comes of one
-- more event.
use Rattle.std.specs.Prelude.{◌≡◌, ℕ, ◌<◌, ◌≤◌, nat_lt, Bool, true, false, not, ◌&&◌, ◌==◌, List}
use Rattle.std.specs.Prelude.{[], length, slice_get, Option, Some, None, option_map, Result, Ok}
use Rattle.std.specs.Prelude.{Err, MatchOption, if◌then◌else◌}
use Rattle.std.specs.Option.{option_map_or}
use Rattle.pay_channel.specs.History.{Event, asks, out}
use Rattle.pay_channel.specs.Taken.{next}
use Rattle.pay_link.specs.Genesis.{GenesisFields}
use Rattle.pay_link.specs.Keys.{KeyFields}
use Rattle.pay_member.specs.declared.event.Event.TheVariants as entry
use Rattle.pay_member.specs.Group.{group_in}
use Rattle.pay_member.specs.Bringing.{IsOutcome}
use Rattle.pay_member.specs.Refusal.{refusal}
use Rattle.pay_world.specs.declared.event.WorldEvent.{WorldEvent}
use Rattle.pay_world.specs.declared.event.WorldEvent.TheVariants.{Ask, Bring}
use Rattle.pay_world.specs.declared.event.WorldReply.{WorldReply}
use Rattle.pay_world.specs.declared.event.WorldReply.TheVariants.{Asked, Refused, Brought, Ignored}
use Rattle.pay_world.specs.Setting.{is_correct}
use Rattle.pay_world.specs.Genuine.{is_forged_in}
use Rattle.pay_world.specs.Liars.{setting_of}
use Rattle.pay_world.specs.Answer.{answer_to_ask, action_of, receiver}
use Rattle.pay_world.specs.Run.{correct_keys, history_of}
use Rattle.pay_world.specs.GroupKeys.{group_test_keys}
use Rattle.pay_sim.specs.declared.group.ScriptGroup.{ScriptGroup}
use Rattle.pay_sim.specs.declared.game.TheConstants.{MOST_EVENTS}
use Rattle.pay_sim.specs.declared.run.RunStop.{RunStop}
use Rattle.pay_sim.specs.declared.run.RunStop.TheVariants.{BadLine, Forged, Limit}
use Rattle.pay_sim.specs.TestFrames.{test_frame}

-- ---- what members know

-- whether a member exists and isn't faulty
abbrev pub is_there : ScriptGroup → ℕ → Bool
is_there c i = is_correct (setting_of c.liars) i

-- the keys of a member: all members have the test keys
abbrev pub keys_at : ScriptGroup → ℕ → Option KeyFields
keys_at c i = correct_keys (group_test_keys c.genesis.members) c.liars i

-- what a member accepted of the events
abbrev pub history_at : ScriptGroup → List WorldEvent → ℕ → List Event
history_at c es i = history_of (group_test_keys c.genesis.members) c.liars es i

-- ---- what is sent

-- the frame at a place of all that a correct member sent, for another
unfoldable pub sent_frame : ScriptGroup → List WorldEvent → ℕ → ℕ → ℕ → Option (List ℕ)
sent_frame c es from to number =
    if is_there c from && not (from == to)
    then option_map (test_frame from to number)
    (slice_get (out (group_in c.genesis from) (history_at c es from)) number)
    else None

-- this frame, if the other is a correct member; otherwise no bytes
unfoldable pub frame_for : ScriptGroup → List WorldEvent → ℕ → ℕ → ℕ → Option (List ℕ)
frame_for c es from to number =
    if is_there c to then sent_frame c es from to number else Some []

-- the number that a correct member expects next from another, or 0 if there is no such link
unfoldable pub next_number : ScriptGroup → List WorldEvent → ℕ → ℕ → ℕ
next_number c es from to =
    if nat_lt from c.genesis.members && not (from == to) && is_there c to
    then next from (history_at c es to)
    else 0

-- the frame that correct member `to` expects next of all that correct member `from` sent, if it is
-- there
unfoldable pub next_untaken : ScriptGroup → List WorldEvent → ℕ → ℕ → Option (List ℕ)
next_untaken c es from to =
    if is_there c to then sent_frame c es from to (next_number c es from to) else None

-- ---- what comes of an event

-- whether an event delivers a frame that the correct member which it names didn't send
unfoldable pub is_forged_by : ScriptGroup → List WorldEvent → WorldEvent → Bool
is_forged_by c es e =
    option_map_or (is_forged_in (setting_of c.liars) (history_at c es))
    (action_of (keys_at c) e) false

-- what comes of bytes at the member with these keys
abbrev pub IsBroughtTo : GenesisFields → KeyFields → List Event → List ℕ → WorldReply → Type 0
IsBroughtTo g k before bytes (Brought outcome) = IsOutcome g k before bytes outcome
IsBroughtTo g k before bytes (Asked number) = ⊥
IsBroughtTo g k before bytes (Refused fault) = ⊥
IsBroughtTo g k before bytes Ignored = ⊥

-- the reply of the member with these keys, after these events of its own
abbrev pub IsReplyAfter : GenesisFields → KeyFields → List Event → WorldEvent → WorldReply → Type 0
IsReplyAfter g k before (Ask i v) reply =
    reply ≡ answer_to_ask (refusal g k before (entry.Ask v)) (asks before)
IsReplyAfter g k before (Bring i bytes) reply = IsBroughtTo g k before bytes reply

-- the reply to an event: that of the member to which it happens, if the member exists
abbrev pub IsReplyTo : ScriptGroup → List WorldEvent → WorldEvent → WorldReply → Type 0
IsReplyTo c es e reply =
    MatchOption (keys_at c (receiver e)) (reply ≡ Ignored)
    (λ k. IsReplyAfter c.genesis k (history_at c es (receiver e)) e reply)

-- An event is made and has its reply. Or the run stops before it, since the limit of events is
-- reached or the event is forged.
-- page: `Makes`: what comes of a script's event after those before it
abbrev pub Makes : ScriptGroup → List WorldEvent → WorldEvent → Result WorldReply RunStop → Type 0
Makes c es e (Ok reply) =
    (length es < MOST_EVENTS) × (is_forged_by c es e ≡ false) × IsReplyTo c es e reply
Makes c es e (Err Limit) = MOST_EVENTS ≤ length es
Makes c es e (Err (Forged k)) =
    (length es < MOST_EVENTS) × (is_forged_by c es e ≡ true) × (k ≡ length es)
Makes c es e (Err BadLine) = ⊥
