-- Longer histories, and the book of a history's events.
use Rattle.std.proofs.Common.{◌≡◌, ◌⊎◌, inl, inr, ℕ, ◌<◌, ◌≤◌, eqb, ltb, true, false, Option, Some, None, List, [], ◌∷◌, ◌++◌, length, refl, sym, ap, ◌∙◌, subst, append_assoc}
use Rattle.std.specs.List.{All, filter_map}
use Rattle.std.specs.Str.{bytes_eq}
use Rattle.std.proofs.lemmas.List.Elements.{filter_map-append, All-nil, All-cons, All-contains}
use Rattle.std.proofs.lemmas.Bool.{and_parts, ltb-true, ltb-false, eq-eqb, not_from_true, false≢true, cases_Bool, cond-true, cond-false}
use Rattle.pay_frame.specs.declared.limits.TheConstants.{GREATEST_VALUE}
use Rattle.pay_channel.specs.History as channel
use Rattle.pay_channel.specs.History.{IsEvent, out, list_of}
use Rattle.pay_channel.specs.Prefix.{IsPrefix}
use Rattle.pay_channel.specs.SentLaws.{OutGrows}
use Rattle.pay_channel.specs.ListLaws.{DeliveredCame, ListsGrow, value_of_event}
use Rattle.pay_link.specs.Genesis.{GenesisFields}
use Rattle.pay_link.specs.Keys.{KeyFields, IsKeysOf, is_peer, key_for}
use Rattle.pay_link.specs.Checked.{CheckedFields, IsChecked}
use Rattle.pay_book.specs.Settled.{settled_book}
use Rattle.pay_book.specs.Laws.{SettledEntriesGrow, LargestGrows, SettledBookExists, BookKeepsTotal, NobodyOwesOnceSettled, EqualListsEqualBooks}
use Rattle.pay_member.specs.declared.event.Event.{Event}
use Rattle.pay_member.specs.declared.event.Event.TheVariants.{Ask, Taken, Query}
use Rattle.pay_member.specs.declared.event.HistoryEntry.{HistoryEntry}
use Rattle.pay_member.specs.Group.{group_in}
use Rattle.pay_member.specs.Events.{channel_event, events}
use Rattle.pay_member.specs.Book.{book_after}
use Rattle.pay_member.specs.Refusal.{refusal, is_for_member}
use Rattle.pay_member.specs.Legal.{IsStorable, IsOwed, IsValue}
use Rattle.pay_member.specs.Laws.{PrefixIsLegal, LegalEventsMayCome, DeliveredAreValues, EventsGrow, SentGrows, ListsOfHistoryGrow, SettledStays, FrontsGrow, BookIsSettled, TotalIsKept, NobodyOwes, EqualListsEqualBooksAfter}

pub prefix_is_legal : PrefixIsLegal
prefix_is_legal g k history more legal =
    record { each = λ before e after is. legal.each before e (after ++ more) (ap (λ l. l ++ more) is ∙ append_assoc before (e ∷ after) more) }

-- ---- longer histories

pub events_grow : EventsGrow
unfolding events
events_grow history more = filter_map-append (λ (y : HistoryEntry). channel_event y.event) history more

pub sent_grows : OutGrows → SentGrows
sent_grows grow g own history more =
    subst (λ h. IsPrefix (out (group_in g own) (events history)) (out (group_in g own) h)) (sym (events_grow history more))
    (grow (group_in g own) (events history) (events more))

pub lists_of_history_grow : ListsGrow → ListsOfHistoryGrow
lists_of_history_grow grow g own history more a =
    subst (λ h. IsPrefix (list_of (group_in g own) (events history) a) (list_of (group_in g own) h a)) (sym (events_grow history more))
    (grow (group_in g own) (events history) (events more) a)

pub settled_stays : ListsGrow → SettledEntriesGrow → SettledStays
settled_stays grow settled g own history more a account =
    settled g.opening (list_of (group_in g own) (events history)) (list_of (group_in g own) (events (history ++ more)))
    (λ b _. lists_of_history_grow grow g own history more b) a account

pub fronts_grow : ListsGrow → LargestGrows → FrontsGrow
unfolding book_after
fronts_grow grow largest g own history more a =
    largest g.opening (list_of (group_in g own) (events history)) (list_of (group_in g own) (events (history ++ more)))
    (λ b _. lists_of_history_grow grow g own history more b) a

-- ---- the book

pub book_is_settled : SettledBookExists → BookIsSettled
unfolding book_after
book_is_settled settled g own events = settled g.opening (list_of (group_in g own) events)

pub total_is_kept : SettledBookExists → BookKeepsTotal → TotalIsKept
unfolding book_after
total_is_kept settled keeps g own events =
    keeps (list_of (group_in g own) events) (settled_book g.opening (list_of (group_in g own) events)) (settled g.opening (list_of (group_in g own) events)).is

pub nobody_owes : NobodyOwesOnceSettled → NobodyOwes
unfolding book_after
nobody_owes owes g own events a = owes g.opening (list_of (group_in g own) events) a

pub equal_books : SettledBookExists → EqualListsEqualBooks → EqualListsEqualBooksAfter
unfolding book_after
equal_books settled equal g own other events others alike =
    equal (list_of (group_in g own) events) (list_of (group_in g other) others)
    (settled_book g.opening (list_of (group_in g own) events)) (settled_book g.opening (list_of (group_in g other) others))
    refl alike (settled g.opening (list_of (group_in g own) events)) (settled g.opening (list_of (group_in g other) others))

-- ---- what a history holds may come

pub some_is : {X : Type 0} (x y : X) → Some x ≡ Some y → x ≡ y
some_is x y same = cc

pub none_some : {X : Type 0} (x : X) → None ≡ Some x → ⊥
none_some x same = cc

some_none : {X : Type 0} (x : X) → Some x ≡ None → ⊥
some_none x same = cc

-- where each entry's event has a property, so have all
events_all :
    (P : channel.Event → Type 0) (history : List HistoryEntry)
    → ((before : List HistoryEntry) (y : HistoryEntry) (after : List HistoryEntry) → history ≡ before ++ y ∷ after
    → (e : channel.Event) → channel_event y.event ≡ Some e → P e)
    → All P (events history)
unfolding events
events_all P [] each = All-nil P
events_all P (x ∷ history) each = go (channel_event x.event) refl (events_all P history (λ before y after is. each (x ∷ before) y after (ap (λ l. x ∷ l) is))) where
  go : (o : Option channel.Event) → channel_event x.event ≡ o
      → All P (filter_map (λ (y : HistoryEntry). channel_event y.event) history)
      → All P (filter_map (λ (y : HistoryEntry). channel_event y.event) (x ∷ history))
  go None is rest = rw is rest
  go (Some e) is rest = rw is (All-cons P e _ (each [] x history refl e is) rest)

ask_may_come : (g : GenesisFields) (k : KeyFields) (before : List channel.Event) (v : List ℕ) → refusal g k before (Ask v) ≡ None → length v ≤ GREATEST_VALUE
ask_may_come g k before v taken = go (cases_Bool (ltb GREATEST_VALUE (length v))) where
  go : (ltb GREATEST_VALUE (length v) ≡ true) ⊎ (ltb GREATEST_VALUE (length v) ≡ false) → length v ≤ GREATEST_VALUE
  go (inl long) = absurd (some_none _ (sym (cond-true _ _ _ long) ∙ taken))
  go (inr fits) = ltb-false GREATEST_VALUE (length v) fits

taken_is_for : (g : GenesisFields) (k : KeyFields) (before : List channel.Event) (c : CheckedFields) → refusal g k before (Taken c) ≡ None → is_for_member k c ≡ true
taken_is_for g k before c taken = go (cases_Bool (is_for_member k c)) where
  go : (is_for_member k c ≡ true) ⊎ (is_for_member k c ≡ false) → is_for_member k c ≡ true
  go (inl is) = is
  go (inr other) = absurd (some_none _ (sym (cond-false _ _ _ other) ∙ taken))

frame_may_come :
    (g : GenesisFields) (k : KeyFields) (c : CheckedFields) → IsKeysOf g k → IsChecked c → is_for_member k c ≡ true
    → IsEvent (group_in g k.own) (channel.From c.frame.from c.frame.body)
frame_may_come g k c members checked mine =
    let keyed = and_parts _ (bytes_eq c.key (key_for k c.frame.from)) mine in
    let known = and_parts _ (ltb c.frame.body.owner (length k.keys)) keyed.0 in
    let sent = and_parts _ (is_peer k c.frame.from) known.0 in
    let parts = and_parts (ltb c.frame.from (length k.keys)) _ sent.1 in (
      subst (λ n. c.frame.from < n) members (ltb-true c.frame.from (length k.keys) parts.0),
      (λ same. false≢true (sym (not_from_true (eqb c.frame.from k.own) (eq-eqb c.frame.from k.own same)) ∙ parts.1)),
      subst (λ n. c.frame.body.owner < n) members (ltb-true c.frame.body.owner (length k.keys) known.1),
      checked.kind,
    )

pub owed_may_come :
    (g : GenesisFields) (k : KeyFields) → IsKeysOf g k → (before : List channel.Event) (y : HistoryEntry) → IsOwed g k before y
    → (e : channel.Event) → channel_event y.event ≡ Some e → IsEvent (group_in g k.own) e
owed_may_come g k members before y owed e is = go y.event owed.kept owed.taken is where
  go : (x : Event) → IsStorable x → refusal g k before x ≡ None → channel_event x ≡ Some e → IsEvent (group_in g k.own) e
  go (Ask v) kept taken is = subst (IsEvent (group_in g k.own)) (some_is _ _ is) (ask_may_come g k before v taken)
  go (Taken c) kept taken is =
      subst (IsEvent (group_in g k.own)) (some_is _ _ is) (frame_may_come g k c members kept.0 (taken_is_for g k before c taken))
  go (Query a) kept taken is = absurd (none_some e is)

pub events_may_come : LegalEventsMayCome
events_may_come g k history members legal =
    events_all (IsEvent (group_in g k.own)) history (λ before y after is. owed_may_come g k members (events before) y (legal.each before y after is))

-- ---- what is delivered

owed_value :
    (g : GenesisFields) (k : KeyFields) (before : List channel.Event) (y : HistoryEntry) → IsOwed g k before y
    → (e : channel.Event) → channel_event y.event ≡ Some e → IsValue (value_of_event e)
owed_value g k before y owed e is = go y.event owed.kept owed.taken is where
  go : (x : Event) → IsStorable x → refusal g k before x ≡ None → channel_event x ≡ Some e → IsValue (value_of_event e)
  go (Ask v) kept taken is =
      let value : IsValue v = record { bytes = kept; size = ask_may_come g k before v taken } in
      subst (λ (y : channel.Event). IsValue (value_of_event y)) (some_is _ _ is) value
  go (Taken c) kept taken is =
      let value : IsValue c.frame.body.value = record { bytes = kept.1; size = kept.0.frame.body.value } in
      subst (λ (y : channel.Event). IsValue (value_of_event y)) (some_is _ _ is) value
  go (Query a) kept taken is = absurd (none_some e is)

pub delivered_are_values : DeliveredCame → DeliveredAreValues
delivered_are_values came g k history a s v legal is =
    let Value : channel.Event → Type 0 = λ x. IsValue (value_of_event x) in
    let all = events_all Value history (λ before y after at. owed_value g k (events before) y (legal.each before y after at)) in
    let from = came (group_in g k.own) (events history) a s v is in
    subst IsValue from.2 (All-contains Value (events history) from.0 all from.1)
