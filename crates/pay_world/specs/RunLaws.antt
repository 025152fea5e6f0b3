-- Statements about worlds after lists of events. Each is proved as a public law.
use Rattle.std.specs.Prelude.{◌≡◌, ℕ, true, false, List, [], ◌∷◌, ◌++◌, Some, Result, Ok, Err}
use Rattle.std.specs.Prelude.{IsOkUnless, MatchOption, All}
use Rattle.pay_link.specs.Genesis.{GenesisFields}
use Rattle.pay_link.specs.Keys.{IsKeysOf, KeyFields}
use Rattle.pay_member.specs.declared.event.HistoryEntry.{HistoryEntry}
use Rattle.pay_member.specs.Events as stored
use Rattle.pay_member.specs.Legal.{Legal}
use Rattle.pay_world.specs.declared.event.WorldEvent.{WorldEvent}
use Rattle.pay_world.specs.declared.event.WorldFault.{WorldFault}
use Rattle.pay_world.specs.declared.event.WorldFault.TheVariants.{Memory, Forged}
use Rattle.pay_world.specs.declared.event.WorldReply.{WorldReply}
use Rattle.pay_world.specs.Liars.{AreLiarsOf, LiarFields}
use Rattle.pay_world.specs.World.{WorldFields, AreKeysOf, fresh_world}
use Rattle.pay_world.specs.Answer.{AnswersEvent, forgery, is_forged_at, one_more}
use Rattle.pay_world.specs.Run.{IsOfBytes, IsWorldAfter, MayHaveTaken, correct_keys, events_of}
use Rattle.pay_world.specs.Run.{history_of}

-- a new world is that after no events
abbrev pub NoEventsMakeFresh : Type 0
NoEventsMakeFresh =
    (g : GenesisFields) (keys : List KeyFields) (l : LiarFields) → AreKeysOf g keys
    → IsWorldAfter g keys l [] (fresh_world g keys l)

-- a world that answered an event that isn't forged is that after one more event
abbrev pub WorldByOneMore : Type 0
WorldByOneMore =
    (g : GenesisFields) (keys : List KeyFields) (l : LiarFields) (events : List WorldEvent)
    (old new : WorldFields) (e : WorldEvent) (reply : WorldReply)
    → IsWorldAfter g keys l events old → AnswersEvent old new e reply → is_forged_at old e ≡ false
    → new.answered ≡ one_more old.answered → IsWorldAfter g keys l (events ++ e ∷ []) new

-- By any events each correct member accepted what it can have accepted: nothing refused it, and its
-- replies were those that it owed.
abbrev pub HistoryIsLegal : Type 0
HistoryIsLegal =
    (g : GenesisFields) (keys : List KeyFields) (l : LiarFields) (es : List WorldEvent) (i : ℕ)
    (k : KeyFields)
    → correct_keys keys l i ≡ Some k → All IsOfBytes es → MayHaveTaken g k (history_of keys l es i)

-- Whatever a correct member can have accepted, it accepts by its own submitted values and the bytes
-- of its frames, without anybody else.
abbrev pub LegalHistoryByEvents : Type 0
LegalHistoryByEvents =
    (g : GenesisFields) (keys : List KeyFields) (l : LiarFields) (k : KeyFields)
    (history : List HistoryEntry)
    → AreLiarsOf g l → IsKeysOf g k → correct_keys keys l k.own ≡ Some k → Legal g k history
    → stored.events history ≡ history_of keys l (events_of k.own history) k.own

-- what a world says to an event: that it is forged, or anything else
abbrev pub IsSaidTo : WorldFields → WorldEvent → Result WorldReply WorldFault → Type 0
IsSaidTo w e said =
    MatchOption (forgery w e) (IsOkUnless said Memory) (λ fault. said ≡ Err fault)

-- an event that is answered isn't forged
abbrev pub AnsweredIsUnforged : Type 0
AnsweredIsUnforged =
    (w : WorldFields) (e : WorldEvent) (reply : WorldReply) → IsSaidTo w e (Ok reply)
    → is_forged_at w e ≡ false

-- an event that is reported as forged is, with the count of those answered before
abbrev pub SaidIsForged : Type 0
SaidIsForged =
    (w : WorldFields) (e : WorldEvent) (k : ℕ) → IsSaidTo w e (Err (Forged k))
    → (is_forged_at w e ≡ true) × (k ≡ w.answered)
