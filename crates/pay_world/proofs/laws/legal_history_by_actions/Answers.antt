use Rattle.std.proofs.Common.{◌≡◌, ℕ, Bool, List, ◌++◌, None, option_to_list, refl}
use Rattle.pay_link.specs.Genesis.{GenesisFields}
use Rattle.pay_link.specs.Keys.{KeyFields, IsKeysOf}
use Rattle.pay_member.specs.declared.event.Event.{Event as MemberEvent}
use Rattle.pay_member.specs.declared.event.Event.TheVariants.{Ask, Taken, Query}
use Rattle.pay_member.specs.declared.event.HistoryEntry.{HistoryEntry}
use Rattle.pay_member.specs.Events.{channel_event, events}
use Rattle.pay_member.specs.Refusal.{refusal}
use Rattle.pay_member.specs.Legal.{IsStorable}
use Rattle.pay_world.specs.Setting.{setting_by}
use Rattle.pay_world.specs.Actions.{Asks, Brings, history_by, action_at, actions_in}
use Rattle.pay_world.proofs.Stored.{ask_counts, frame_counts, IsByActions, took, took_none, by_actions}
use Rattle.pay_world.proofs.laws.legal_history_by_actions.Goals as goal

-- an event that isn't refused makes the history longer by what it is as an action
each :
    (g : GenesisFields) (k : KeyFields) (faulty : ℕ → Bool) → IsKeysOf g k → (before : List HistoryEntry) (e : MemberEvent)
    → IsByActions g k faulty before → IsStorable e → refusal g k (events before) e ≡ None
    → events before ++ option_to_list (channel_event e) ≡ history_by (setting_by g faulty) (actions_in k.own before ++ option_to_list (action_at k.own e)) k.own
each g k faulty members before (Ask v) was kept taken = took g k faulty before (Asks k.own v) was refl (ask_counts g k faulty (events before) v taken)
each g k faulty members before (Taken c) was kept taken =
    took g k faulty before (Brings k.own c.frame.from c.frame.number c.frame.body) was refl (frame_counts g k faulty (events before) c members kept.0 taken)
each g k faulty members before (Query a) was kept taken = took_none g k faulty before was

pub returns : goal.returns
returns c = λ g k history faulty members legal.
    by_actions g k faulty c.events_in_order.ensures.first c.events_in_order.ensures.one_more c.legal_histories.ensures.shorter (each g k faulty members) history legal
