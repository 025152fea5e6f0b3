-- Stored histories and the events of a group: by any events a member has one that it can have, and each that it can have
-- is the one by its own events.
use Rattle.std.proofs.Common.{◌≡◌, ◌≢◌, ◌⊎◌, inl, inr, ⊎_elim, ℕ, ◌+◌, ◌<◌, ◌≤◌, Bool, true, false, not, cond, eqb, ltb, leb, ◌&&◌, List, [], ◌∷◌, ◌++◌, length, slice_index, Option, None, Some, option_map, option_and_then, option_to_list, refl, sym, ap, ◌∙◌, subst, arith, rules, append-nil, length-append, lt-ltb, ltb-true, ne_eqb, eqb-true, eq-eqb}
use Rattle.std.specs.List.{All, filter_map}
use Rattle.std.specs.Option.{option_map_or}
use Rattle.std.specs.Str.{bytes_eq}
use Rattle.std.proofs.lemmas.Bool.{and_parts, and_from, cases_Bool, cases_eq, eqb-false, not-true}
use Rattle.std.proofs.lemmas.Bool.Decides.{nat_tests}
use Rattle.std.proofs.lemmas.List.{get_or-append-add, get_or_append_left, take_at}
use Rattle.std.proofs.Math.Seq.{get_or-append_seam}
use Rattle.std.proofs.Math.ListN.{get_or-eq_default}
use Rattle.std.proofs.lemmas.List.Elements.{All-get_or, All-take, filter_map-append}
use Rattle.std.proofs.lemmas.Slice.Eq.{bytes_eq-Decides}
use Rattle.pay_frame.specs.declared.limits.TheConstants.{GREATEST_VALUE, SEQS}
use Rattle.pay_frame.specs.Frame.{FrameFields, frame_bytes, head_of}
use Rattle.pay_frame.specs.OneFrame.{IsOneFrame}
use Rattle.pay_frame.specs.Stream.{IsBytes}
use Rattle.pay_channel.specs.History.{Event, asks}
use Rattle.pay_channel.specs.History as channel
use Rattle.pay_channel.specs.Taken.{next}
use Rattle.pay_link.specs.Genesis.{GenesisFields}
use Rattle.pay_link.specs.Checked.{CheckedFields, IsChecked, bytes_of}
use Rattle.pay_link.specs.Keys.{IsKeysOf, KeyFields, is_peer, key_for}
use Rattle.pay_link.specs.Opening.{IsTagged, Opens}
use Rattle.pay_member.specs.declared.event.Event.{Event as MemberEvent}
use Rattle.pay_member.specs.declared.event.Event.TheVariants as entry
use Rattle.pay_member.specs.declared.event.HistoryEntry.{HistoryEntry}
use Rattle.pay_member.specs.declared.fault.MemberFault.{MemberFault}
use Rattle.pay_member.specs.declared.fault.MemberFault.TheVariants.{TooLong, Spent, WrongKey}
use Rattle.pay_member.specs.Bringing.{checked_with, opened_in}
use Rattle.pay_member.specs.Events.{channel_event, events}
use Rattle.pay_member.specs.EventLaws.{NoEventsAtFirst, EventsByOneMore}
use Rattle.pay_member.specs.Laws.{LegalByOneMore, NoneIsLegal, OpenedIn, PrefixIsLegal}
use Rattle.pay_member.specs.Legal.{IsStorable, IsOwed, Legal}
use Rattle.pay_member.specs.OpeningLaws.{OpensFrom, WhatOpens}
use Rattle.pay_member.specs.Refusal.{is_for_member, turn_refusal, refusal}
use Rattle.pay_member.specs.Reply.{reply_to}
use Rattle.pay_world.specs.declared.event.WorldEvent.{WorldEvent}
use Rattle.pay_world.specs.declared.event.WorldEvent.TheVariants.{Ask, Bring}
use Rattle.pay_world.specs.Answer.{brought_to, action_of, action_with, receiver}
use Rattle.pay_world.specs.ActionLaws.{LegalHistoryByActions}
use Rattle.pay_world.specs.Actions.{Action, Asks, Brings, adds, counts, action_at, actions_in, event_of, history_by, may_come, member_of}
use Rattle.pay_world.specs.Liars.{AreLiarsOf, LiarFields, is_listed, setting_of}
use Rattle.pay_world.specs.Run.{IsOfBytes, MayHaveTaken, correct_keys, actions_by, event_at, events_of, history_of}
use Rattle.pay_world.specs.Setting.{Setting, setting_by}
use Rattle.pay_world.proofs.Answering.{counted}
use Rattle.pay_world.proofs.Happening.{history_by_one_more, no_history_at_first}
use Rattle.pay_world.proofs.Lists.{by_push, none_some, some_same}
use Rattle.pay_world.proofs.Stored.{frame_taken}
use Rattle.pay_world.proofs.Taking.{adds-counted, adds-elsewhere, adds-uncounted}

false_true : false ≡ true → ⊥
false_true same = cc

-- ---- one item more

one_or_none : {Y : Type 0} (o : Option Y) → filter_map (λ (x : Option Y). x) (o ∷ []) ≡ option_to_list o
one_or_none None = refl
one_or_none (Some y) = refl

filter_push : {X Y : Type 0} (f : X → Option Y) (xs : List X) (x : X) → filter_map f (xs ++ x ∷ []) ≡ filter_map f xs ++ option_to_list (f x)
filter_push {X} {Y} f xs x =
    filter_map-append f xs (x ∷ []) ∙ ap (λ (l : List Y). filter_map f xs ++ l) (one_or_none (f x))

all_front : {X : Type 0} (P : X → Type 0) (xs ys : List X) → All P (xs ++ ys) → All P xs
all_front P xs ys all = subst (All P) (take_at xs ys (length xs) refl) (All-take P (length xs) (xs ++ ys) all)

all_last : {X : Type 0} (P : X → Type 0) (xs : List X) (x : X) → All P (xs ++ x ∷ []) → P x
all_last P xs x all =
    let inside : length xs < length (xs ++ x ∷ []) = omega (arith, length-append xs (x ∷ [])) in
    subst P (get_or-append_seam xs x [] x) (All-get_or P (xs ++ x ∷ []) (length xs) x inside all)

-- ---- what an event adds

action_with_to : (k : KeyFields) (e : WorldEvent) (d : Action) → action_with k e ≡ Some d → member_of d ≡ receiver e
action_with_to k (Ask i v) d is = sym (ap member_of (some_same (Asks i v) d is))
action_with_to k (Bring i bytes) d is = go (opened_in k bytes) is where
  go : (o : Option FrameFields) → option_map (brought_to i) o ≡ Some d → member_of d ≡ i
  go None none = absurd (none_some d none)
  go (Some f) some = sym (ap member_of (some_same (brought_to i f) d some))

action_to : (keys : ℕ → Option KeyFields) (e : WorldEvent) (d : Action) → action_of keys e ≡ Some d → member_of d ≡ receiver e
action_to keys e d is = go (keys (receiver e)) is where
  go : (o : Option KeyFields) → option_and_then (λ k. action_with k e) o ≡ Some d → member_of d ≡ receiver e
  go None none = absurd (none_some d none)
  go (Some k) some = action_with_to k e d some

history_push :
    (keys : List KeyFields) (l : LiarFields) (es : List WorldEvent) (e : WorldEvent) (i : ℕ) (o : Option Action) → action_of (correct_keys keys l) e ≡ o
    → history_of keys l (es ++ e ∷ []) i ≡ history_of keys l es i ++ option_map_or (adds (setting_of l) i (history_of keys l es i)) o []
history_push keys l es e i None at =
    ap (λ (ds : List Action). history_by (setting_of l) ds i)
    (filter_push (action_of (correct_keys keys l)) es e ∙ ap (λ (o : Option Action). actions_by keys l es ++ option_to_list o) at ∙ append-nil (actions_by keys l es))
    ∙ sym (append-nil (history_of keys l es i))
history_push keys l es e i (Some d) at =
    ap (λ (ds : List Action). history_by (setting_of l) ds i)
    (filter_push (action_of (correct_keys keys l)) es e ∙ ap (λ (o : Option Action). actions_by keys l es ++ option_to_list o) at)
    ∙ history_by_one_more (setting_of l) (actions_by keys l es) d i

-- ---- what counts isn't refused

ask_unrefused :
    (g : GenesisFields) (k : KeyFields) (s : Setting) (i : ℕ) (before : List Event) (v : List ℕ)
    → counts s before (Asks i v) ≡ true → refusal g k before (entry.Ask v) ≡ None
ask_unrefused g k s i before v count =
    go (ltb GREATEST_VALUE (length v)) (leb SEQS (asks before)) (sym (counted (length v) (asks before)) ∙ count) where
      go : (long spent : Bool) → (not long && not spent) ≡ true → cond long (Some TooLong) (cond spent (Some Spent) None) ≡ None
      go true spent t = absurd (false_true t)
      go false true t = absurd (false_true t)
      go false false t = refl

unturned : (n number : ℕ) → number ≡ n → turn_refusal n number ≡ None
unturned n number same = search rules

opened_is_for : (k : KeyFields) (f : FrameFields) → Opens k f → is_for_member k (checked_with k f) ≡ true
opened_is_for k f opens =
    let key = key_for k f.from in
    let peer : is_peer k f.from ≡ true = and_from (ltb f.from (length k.keys)) (not (eqb f.from k.own)) (lt-ltb f.from (length k.keys) opens.sender.0) (ap not (ne_eqb f.from k.own opens.sender.1)) in
    and_from ((eqb f.to k.own && is_peer k f.from) && ltb f.body.owner (length k.keys)) (bytes_eq key key)
    (and_from (eqb f.to k.own && is_peer k f.from) (ltb f.body.owner (length k.keys))
    (and_from (eqb f.to k.own) (is_peer k f.from) (eq-eqb f.to k.own opens.for_me) peer)
    (lt-ltb f.body.owner (length k.keys) opens.owner))
    ((bytes_eq-Decides key key).1 refl)

frame_unrefused :
    (g : GenesisFields) (k : KeyFields) (s : Setting) (i : ℕ) (before : List Event) (f : FrameFields) → Opens k f
    → counts s before (brought_to i f) ≡ true → refusal g k before (entry.Taken (checked_with k f)) ≡ None
frame_unrefused g k s i before f opens count =
    let n = next f.from before in
    let both = and_parts (may_come s i f.from f.body) (eqb f.number n) count in
    ap (λ b. cond b (turn_refusal n f.number) (Some WrongKey)) (opened_is_for k f opens)
    ∙ unturned n f.number (eqb-true f.number n both.1)

-- the value of a frame among its bytes
value_bytes : (f : FrameFields) → IsBytes (frame_bytes f) → IsBytes f.body.value
value_bytes f is = record { fits = λ i. ⊎_elim (inside i) (outside i) (cases_Bool (ltb i (length f.body.value))) } where
  inside : (i : ℕ) → ltb i (length f.body.value) ≡ true → slice_index f.body.value i < 256
  inside i below =
      let e = get_or-append-add (head_of f) (f.body.value ++ f.tag) i 0 ∙ get_or_append_left f.body.value f.tag 0 i (ltb-true i (length f.body.value) below) in
      subst (λ n. n < 256) e (is.fits (length (head_of f) + i))

  outside : (i : ℕ) → ltb i (length f.body.value) ≡ false → slice_index f.body.value i < 256
  outside i above =
      let far : length f.body.value ≤ i = grind (arith, nat_tests) in
      let e : slice_index f.body.value i ≡ 0 = get_or-eq_default f.body.value 0 far in
      omega arith

frame_kept : (k : KeyFields) (bytes : List ℕ) (f : FrameFields) → OpensFrom k bytes f → IsBytes bytes → IsStorable (entry.Taken (checked_with k f))
frame_kept k bytes f is fits = (
  record { frame = is.one.is; tagged = is.opens.tagged; kind = is.other },
  value_bytes f (subst IsBytes is.one.spelled fits),
)

-- ---- a legal history by any events

module _ (g : GenesisFields) (keys : List KeyFields) (l : LiarFields) (i : ℕ) (k : KeyFields) (mine : correct_keys keys l i ≡ Some k)
    (none : NoneIsLegal) (more : LegalByOneMore) (first : NoEventsAtFirst) (one_more : EventsByOneMore) (what : WhatOpens) where
  taken :
      (before : List Event) (e : MemberEvent) (x : Event) → MayHaveTaken g k before → channel_event e ≡ Some x → IsStorable e
      → refusal g k before e ≡ None → MayHaveTaken g k (before ++ x ∷ [])
  taken before e x h is kept unrefused =
      let new : HistoryEntry = record { stamp = 0; event = e; reply = reply_to g k.own before e } in
      let At : List Event → Type 0 = λ b. IsOwed g k b new in
      record {
        history = h.history ++ new ∷ [];
        legal = more g k h.history new h.legal (subst At (sym h.took) (record { kept = kept; taken = unrefused; reply = refl }));
        took = one_more h.history new ∙ ap (λ (o : Option Event). events h.history ++ option_to_list o) is ∙ ap (λ (b : List Event). b ++ x ∷ []) h.took;
      }

  -- an action of this member's, which it takes or not
  done :
      (before : List Event) (d : Action) (e : MemberEvent) → MayHaveTaken g k before → member_of d ≡ i → channel_event e ≡ Some (event_of d) → IsStorable e
      → (counts (setting_of l) before d ≡ true → refusal g k before e ≡ None) → MayHaveTaken g k (before ++ adds (setting_of l) i before d)
  done before d e h here is kept unrefused = ⊎_elim heard unheard (cases_Bool (counts (setting_of l) before d)) where
    At : List Event → Type 0
    At more = MayHaveTaken g k (before ++ more)

    heard : counts (setting_of l) before d ≡ true → At (adds (setting_of l) i before d)
    heard count = subst At (sym (adds-counted (setting_of l) i before d here count)) (taken before e (event_of d) h is kept (unrefused count))

    unheard : counts (setting_of l) before d ≡ false → At (adds (setting_of l) i before d)
    unheard ignored =
        subst At (sym (adds-uncounted (setting_of l) i before d ignored)) (subst (MayHaveTaken g k) (sym (append-nil before)) h)

  abbrev Adds : List Event → Option Action → Type 0
  Adds before o = MayHaveTaken g k (before ++ option_map_or (adds (setting_of l) i before) o [])

  unchanged : (before : List Event) → MayHaveTaken g k before → Adds before None
  unchanged before h = subst (MayHaveTaken g k) (sym (append-nil before)) h

  -- an event of another member
  elsewhere : (before : List Event) (e : WorldEvent) (o : Option Action) → action_of (correct_keys keys l) e ≡ o → i ≢ receiver e → MayHaveTaken g k before → Adds before o
  elsewhere before e None at differs h = unchanged before h
  elsewhere before e (Some d) at differs h =
      let away : i ≢ member_of d = λ same. differs (same ∙ action_to (correct_keys keys l) e d at) in
      subst (λ (more : List Event). MayHaveTaken g k (before ++ more)) (sym (adds-elsewhere (setting_of l) i before d away)) (unchanged before h)

  -- one of its own
  own_event : (before : List Event) (e : WorldEvent) → i ≡ receiver e → IsOfBytes e → MayHaveTaken g k before → Adds before (action_with k e)
  own_event before (Ask j v) same bytes h =
      done before (Asks j v) (entry.Ask v) h (sym same) refl bytes (ask_unrefused g k (setting_of l) j before v)
  own_event before (Bring j bytes) same fits h = go (opened_in k bytes) refl where
    go : (o : Option FrameFields) → opened_in k bytes ≡ o → Adds before (option_map (brought_to j) o)
    go None at = unchanged before h
    go (Some f) at =
        let is = what k bytes f at in
        done before (brought_to j f) (entry.Taken (checked_with k f)) h (sym same) refl (frame_kept k bytes f is fits)
        (frame_unrefused g k (setting_of l) j before f is.opens)

  event_more : (before : List Event) (e : WorldEvent) → IsOfBytes e → MayHaveTaken g k before → Adds before (action_of (correct_keys keys l) e)
  event_more before e bytes h = go (cases_eq i (receiver e)) where
    go : ((i ≡ receiver e) ⊎ (i ≢ receiver e)) → Adds before (action_of (correct_keys keys l) e)
    go (inl same) =
        let at : correct_keys keys l (receiver e) ≡ Some k = ap (correct_keys keys l) (sym same) ∙ mine in
        subst (Adds before) (sym (ap (option_and_then (λ x. action_with x e)) at)) (own_event before e same bytes h)
    go (inr differs) = elsewhere before e (action_of (correct_keys keys l) e) refl differs h

  pub legal_by_events : (es : List WorldEvent) → All IsOfBytes es → MayHaveTaken g k (history_of keys l es i)
  legal_by_events = by_push Made start longer where
    Made : List WorldEvent → Type 0
    Made es = All IsOfBytes es → MayHaveTaken g k (history_of keys l es i)

    start : Made []
    start all = record { history = []; legal = none g k; took = first ∙ sym (no_history_at_first (setting_of l) i) }

    longer : (es : List WorldEvent) (e : WorldEvent) → Made es → Made (es ++ e ∷ [])
    longer es e made all =
        subst (MayHaveTaken g k) (sym (history_push keys l es e i (action_of (correct_keys keys l) e) refl))
        (event_more (history_of keys l es i) e (all_last IsOfBytes es e all) (made (all_front IsOfBytes es (e ∷ []) all)))

-- ---- a legal history's own events

module _ (g : GenesisFields) (keys : List KeyFields) (l : LiarFields) (k : KeyFields) (of : AreLiarsOf g l) (mine : correct_keys keys l k.own ≡ Some k)
    (opened : OpenedIn) where
  for_opens : (c : CheckedFields) → is_for_member k c ≡ true → IsTagged c.key c.frame → Opens k c.frame
  for_opens c is tagged =
      let keyed = and_parts _ (bytes_eq c.key (key_for k c.frame.from)) is in
      let known = and_parts _ (ltb c.frame.body.owner (length k.keys)) keyed.0 in
      let sent = and_parts (eqb c.frame.to k.own) (is_peer k c.frame.from) known.0 in
      let peer = and_parts (ltb c.frame.from (length k.keys)) (not (eqb c.frame.from k.own)) sent.1 in
      let key : c.key ≡ key_for k c.frame.from = (bytes_eq-Decides c.key (key_for k c.frame.from)).0 keyed.1 in
      record {
        for_me = eqb-true c.frame.to k.own sent.0;
        sender = (ltb-true c.frame.from (length k.keys) peer.0, eqb-false c.frame.from k.own (not-true (eqb c.frame.from k.own) peer.1));
        owner = ltb-true c.frame.body.owner (length k.keys) known.1;
        tagged = subst (λ (x : List ℕ). IsTagged x c.frame) key tagged;
      }

  -- what an owed entry's event is to the group
  own_action : (before : List Event) (e : MemberEvent) → IsStorable e → refusal g k before e ≡ None → option_and_then (action_of (correct_keys keys l)) (event_at k.own e) ≡ action_at k.own e
  own_action before (entry.Ask v) kept taken = ap (option_and_then (λ x. action_with x (Ask k.own v))) mine
  own_action before (entry.Taken c) kept taken =
      let both = frame_taken (is_for_member k c) (turn_refusal (next c.frame.from before) c.frame.number) taken in
      let one : IsOneFrame (bytes_of c) c.frame = record { is = kept.0.frame; spelled = refl } in
      let is : opened_in k (bytes_of c) ≡ Some c.frame = (opened k (bytes_of c) c.frame).1 (one, for_opens c both.0 kept.0.tagged, kept.0.kind) in
      ap (option_and_then (λ x. action_with x (Bring k.own (bytes_of c)))) mine ∙ ap (option_map (brought_to k.own)) is
  own_action before (entry.Query a) kept taken = refl

  filter_one : {Y Z : Type 0} (f : Y → Option Z) (o : Option Y) → filter_map f (option_to_list o) ≡ option_to_list (option_and_then f o)
  filter_one f None = refl
  filter_one f (Some y) = one_or_none (f y)

  same_actions : PrefixIsLegal → (history : List HistoryEntry) → Legal g k history → actions_by keys l (events_of k.own history) ≡ actions_in k.own history
  unfolding events_of actions_in
  same_actions shorter = by_push Made (λ legal. refl) longer where
    Made : List HistoryEntry → Type 0
    Made history = Legal g k history → filter_map (action_of (correct_keys keys l)) (filter_map (λ (e : HistoryEntry). event_at k.own e.event) history) ≡ filter_map (λ (e : HistoryEntry). action_at k.own e.event) history

    longer : (before : List HistoryEntry) (x : HistoryEntry) → Made before → Made (before ++ x ∷ [])
    longer before x made legal =
        let owed : IsOwed g k (events before) x = legal.each before x [] refl in
        ap (filter_map (action_of (correct_keys keys l))) (filter_push (λ (e : HistoryEntry). event_at k.own e.event) before x)
        ∙ filter_map-append (action_of (correct_keys keys l)) (filter_map (λ (e : HistoryEntry). event_at k.own e.event) before) (option_to_list (event_at k.own x.event))
        ∙ ap (λ (ds : List Action). ds ++ filter_map (action_of (correct_keys keys l)) (option_to_list (event_at k.own x.event))) (made (shorter g k before (x ∷ []) legal))
        ∙ ap (λ (ds : List Action). filter_map (λ (e : HistoryEntry). action_at k.own e.event) before ++ ds)
        (filter_one (action_of (correct_keys keys l)) (event_at k.own x.event) ∙ ap option_to_list (own_action (events before) x.event owed.kept owed.taken))
        ∙ sym (filter_push (λ (e : HistoryEntry). action_at k.own e.event) before x)

  pub by_events : PrefixIsLegal → LegalHistoryByActions → IsKeysOf g k → (history : List HistoryEntry) → Legal g k history → events history ≡ history_of keys l (events_of k.own history) k.own
  by_events shorter by_actions members history legal =
      let group : setting_by g (is_listed l.liars) ≡ setting_of l = (λ j. record { members = sym of.members j; faults = sym of.faults j; faulty = is_listed l.liars }) in
      by_actions g k history (is_listed l.liars) members legal
      ∙ ap (λ (s : Setting). history_by s (actions_in k.own history) k.own) group
      ∙ sym (ap (λ (ds : List Action). history_by (setting_of l) ds k.own) (same_actions shorter history legal))
