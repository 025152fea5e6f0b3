-- A history taken once more, with one entry more.
use Rattle.std.proofs.Common.{◌≡◌, ℕ, ◌+◌, ◌<◌, ◌⊎◌, inl, inr, true, false, leb, ltb, Option, Some, None, List, [], ◌∷◌, ◌++◌, length, replicate, take, drop, slice_get, refl, sym, ap, ◌∙◌, subst, arith}
use Rattle.std.specs.Option.{option_map}
use Rattle.std.proofs.lemmas.Bool.{cases_Bool, leb-false, cond-true, cond-false}
use Rattle.std.proofs.lemmas.List.{take-append-drop, take_more, drop_more}
use Rattle.std.proofs.lemmas.Option.{slice_get_within, get_or_from_slice_get}
use Rattle.pay_frame.specs.declared.limits.TheConstants.{GREATEST_VALUE, SEQS}
use Rattle.pay_echo.specs.Broadcast.{Group}
use Rattle.pay_channel.specs.History as channel
use Rattle.pay_channel.specs.History.{IsEvent, asks}
use Rattle.pay_channel.specs.TakenLaws.{NothingTakenAtFirst}
use Rattle.pay_channel.specs.FollowLaws.{ChannelFollows, ListsFollow}
use Rattle.pay_channel.specs.ListLaws.{ListsGrow, EmptyAtFirst}
use Rattle.pay_channel.specs.SentLaws.{AskedGrows, OwnEchoIsAsk}
use Rattle.pay_link.specs.Genesis.{GenesisFields, IsGenesis}
use Rattle.pay_link.specs.Keys.{KeyFields, IsKeysOf}
use Rattle.pay_member.specs.declared.event.Event.{Event}
use Rattle.pay_member.specs.declared.event.Event.TheVariants.{Ask}
use Rattle.pay_member.specs.declared.event.HistoryEntry.{HistoryEntry}
use Rattle.pay_member.specs.declared.event.Took.{Took}
use Rattle.pay_member.specs.Events.{channel_event, events}
use Rattle.pay_member.specs.declared.ledger.Lie.{Lie}
use Rattle.pay_member.specs.Ledger.{LedgerFields, Tracks, Grows}
use Rattle.pay_member.specs.Lies.{AreFound}
use Rattle.pay_member.specs.Legal.{IsOwed, Legal}
use Rattle.pay_member.specs.Member.{MemberFields, AreTurns, IsMember, with_entry}
use Rattle.pay_member.specs.Refusal.{refusal}
use Rattle.pay_member.specs.Replay.{ReplayFields, IsReplay, next_event, member_replayed}
use Rattle.pay_member.proofs.Histories.{owed_may_come, prefix_is_legal, some_is}
use Rattle.pay_member.proofs.Members.{member_fresh, member_more, member_queried}

-- ---- the entry that is next

-- one with this event stands behind those that were taken
pub record IsNext (r : ReplayFields) (event : Event) : Type 0 where
  pub entry : HistoryEntry
  pub is : entry.event ≡ event
  pub there : slice_get r.member.history r.taken ≡ Some entry

none_some : {X : Type 0} (x : X) → None ≡ Some x → ⊥
none_some x same = cc

pub next_is : (r : ReplayFields) (event : Event) → next_event r ≡ Some event → IsNext r event
next_is r event is = go (slice_get r.member.history r.taken) refl is where
  go : (o : Option HistoryEntry) → slice_get r.member.history r.taken ≡ o → option_map (λ (e : HistoryEntry). e.event) o ≡ Some event → IsNext r event
  go None was is = absurd (none_some event is)
  go (Some e) was is = record { entry = e; is = some_is _ _ is; there = was }

pub next_within : (r : ReplayFields) (event : Event) → next_event r ≡ Some event → r.taken < length r.member.history
next_within r event is = let next = next_is r event is in slice_get_within r.member.history r.taken next.entry next.there

taken_next : (h : List HistoryEntry) (k : ℕ) (e : HistoryEntry) → slice_get h k ≡ Some e → take (k + 1) h ≡ take k h ++ e ∷ []
taken_next h k e there =
    take_more h k e (slice_get_within h k e there) ∙ ap (λ x. take k h ++ x ∷ []) (get_or_from_slice_get h k e e there)

split_next : (h : List HistoryEntry) (k : ℕ) (e : HistoryEntry) → slice_get h k ≡ Some e → h ≡ take k h ++ e ∷ drop (k + 1) h
split_next h k e there =
    sym (take-append-drop k h)
    ∙ ap (λ rest. take k h ++ rest) (drop_more h k e (slice_get_within h k e there) ∙ ap (λ x. x ∷ drop (k + 1) h) (get_or_from_slice_get h k e e there))

legal_take : (g : GenesisFields) (k : KeyFields) (h : List HistoryEntry) (n : ℕ) → Legal g k h → Legal g k (take n h)
legal_take g k h n legal = prefix_is_legal g k (take n h) (drop n h) (subst (Legal g k) (sym (take-append-drop n h)) legal)

-- it is owed
pub next_owed :
    (r : ReplayFields) (event : Event) → Legal r.member.genesis r.member.keys r.member.history → (next : IsNext r event)
    → IsOwed r.member.genesis r.member.keys (events (member_replayed r).history) next.entry
next_owed r event legal next =
    legal.each (take r.taken r.member.history) next.entry (drop (r.taken + 1) r.member.history) (split_next r.member.history r.taken next.entry next.there)

-- so nothing refuses its event
pub next_taken :
    (r : ReplayFields) (event : Event) → Legal r.member.genesis r.member.keys r.member.history → next_event r ≡ Some event
    → refusal r.member.genesis r.member.keys (events (member_replayed r).history) event ≡ None
next_taken r event legal is =
    let next = next_is r event is in
    subst (λ (x : Event). refusal r.member.genesis r.member.keys (events (member_replayed r).history) x ≡ None) next.is (next_owed r event legal next).taken

some_none : {X : Type 0} (x : X) → Some x ≡ None → ⊥
some_none x same = cc

-- a value was asked for while a number was left
pub ask_left : (g : GenesisFields) (k : KeyFields) (before : List channel.Event) (v : List ℕ) → refusal g k before (Ask v) ≡ None → asks before < SEQS
ask_left g k before v taken = go (cases_Bool (ltb GREATEST_VALUE (length v))) where
  left : (leb SEQS (asks before) ≡ true) ⊎ (leb SEQS (asks before) ≡ false) → ltb GREATEST_VALUE (length v) ≡ false → asks before < SEQS
  left (inl spent) fits = absurd (some_none _ (sym (cond-true _ _ _ spent) ∙ sym (cond-false _ _ _ fits) ∙ taken))
  left (inr unspent) fits = leb-false SEQS (asks before) unspent

  go : (ltb GREATEST_VALUE (length v) ≡ true) ⊎ (ltb GREATEST_VALUE (length v) ≡ false) → asks before < SEQS
  go (inl long) = absurd (some_none _ (sym (cond-true _ _ _ long) ∙ taken))
  go (inr fits) = left (cases_Bool (leb SEQS (asks before))) fits

-- and what it brings to the channel may come there
pub next_may_come :
    (r : ReplayFields) (ledger : LedgerFields) (fronts : List ℕ) (lies : List (Option Lie)) (event : Event) (e : channel.Event) → IsReplay r ledger fronts lies
    → Legal r.member.genesis r.member.keys r.member.history → next_event r ≡ Some event → channel_event event ≡ Some e → IsEvent ledger.channel.group e
next_may_come r ledger fronts lies event e replay legal is brings =
    let next = next_is r event is in
    subst (λ (g : Group). IsEvent g e) (sym replay.is.tracks.group)
    (owed_may_come r.member.genesis r.member.keys replay.is.keys (events (member_replayed r).history) next.entry (next_owed r event legal next) e (ap channel_event next.is ∙ brings))

-- ---- with one entry more

abbrev one_more : ReplayFields → ReplayFields
one_more r = record r { taken = r.taken + 1 }

-- what follows from the member with the next entry follows once that entry is taken
with_next :
    (r : ReplayFields) (ledger : LedgerFields) (fronts : List ℕ) (lies : List (Option Lie)) (event : Event) (next : IsNext r event) → r.taken < length r.member.history
    → IsMember (with_entry (member_replayed r) next.entry) ledger fronts lies → IsReplay (one_more r) ledger fronts lies
with_next r ledger fronts lies event next within is =
    record {
      within = omega arith;
      is = subst (λ (h : List HistoryEntry). IsMember (record r.member { history = h }) ledger fronts lies) (sym (taken_next r.member.history r.taken next.entry next.there)) is;
    }

pub replay_more :
    ChannelFollows → ListsFollow → ListsGrow → AskedGrows → OwnEchoIsAsk → (r : ReplayFields) (old new : LedgerFields) (fronts later : List ℕ) (lies noted : List (Option Lie)) (event : Event) (e : channel.Event) (took : Took)
    → IsReplay r old fronts lies → Legal r.member.genesis r.member.keys r.member.history → next_event r ≡ Some event → channel_event event ≡ Some e → Grows old new e took
    → length later ≡ length fronts → AreTurns r.member.genesis.members (events (member_replayed r).history ++ e ∷ []) later
    → AreFound r.member.genesis.members (events (member_replayed r).history ++ e ∷ []) noted
    → IsReplay (one_more r) new later noted
replay_more more follow longer asked echo r old new fronts later lies noted event e took replay legal is brings grows places turns found =
    let next = next_is r event is in
    with_next r new later noted event next (next_within r event is)
    (member_more more follow longer asked echo (member_replayed r) old new fronts later lies noted next.entry e took replay.is grows
    (ap channel_event next.is ∙ brings) (next_owed r event legal next) (places ∙ replay.is.one_for_each) turns found)

-- a query changes nothing else
pub replay_queried :
    (r : ReplayFields) (ledger : LedgerFields) (fronts : List ℕ) (lies : List (Option Lie)) (event : Event)
    → IsReplay r ledger fronts lies → Legal r.member.genesis r.member.keys r.member.history → next_event r ≡ Some event → channel_event event ≡ None
    → IsReplay (one_more r) ledger fronts lies
replay_queried r ledger fronts lies event replay legal is brings =
    let next = next_is r event is in
    with_next r ledger fronts lies event next (next_within r event is)
    (member_queried (member_replayed r) ledger fronts lies next.entry replay.is (ap channel_event next.is ∙ brings) (next_owed r event legal next))

-- before the first one
pub replay_fresh :
    NothingTakenAtFirst → EmptyAtFirst → (m : MemberFields) (own : ℕ) (ledger : LedgerFields) (fronts : List ℕ) (lies : List (Option Lie))
    → IsGenesis m.genesis → IsKeysOf m.genesis m.keys → own ≡ m.keys.own → Tracks m.genesis own [] ledger → ledger.has_forgotten ≡ false
    → fronts ≡ replicate m.genesis.members 0 → AreFound m.genesis.members [] lies
    → IsReplay (record { member = m; taken = 0 }) ledger fronts lies
replay_fresh nothing empty m own ledger fronts lies limits keys mine tracks fresh zeros found =
    record {
      within = omega arith;
      is = member_fresh nothing empty m.genesis m.keys own ledger fronts lies limits keys mine tracks fresh zeros found;
    }
