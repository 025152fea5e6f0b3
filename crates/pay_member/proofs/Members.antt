-- A member's history with one entry more, and what a member shows of its ledger.
use Rattle.std.proofs.Common.{◌≡◌, ◌≢◌, ℕ, ◌+◌, ◌<◌, ◌≤◌, ◌⊎◌, inl, inr, Bool, true, false, cond, eqb, ltb, ◌&&◌, Option, Some, None, List, [], ◌∷◌, ◌++◌, length, replicate, set, slice_index, refl, sym, ap, ◌∙◌, subst, arith, rules, append-nil, true≢false}
use Rattle.std.specs.List.{All, filter_map}
use Rattle.std.specs.Option.{option_to_list}
use Rattle.std.proofs.lemmas.List.Elements.{filter_map-append}
use Rattle.std.proofs.lemmas.List.Sums.{count_by-le-length}
use Rattle.std.proofs.lemmas.List.{get_or-set_same, get_or-set_other, get_or-replicate, length-replicate}
use Rattle.std.proofs.lemmas.Bool.{cases_eq, ne_eqb, eq-eqb, cond-true, cond-false}
use Rattle.pay_frame.specs.declared.limits.TheConstants.{GREATEST_VALUE, SEQS}
use Rattle.pay_frame.specs.Frame.{BodyFields}
use Rattle.pay_echo.specs.Broadcast.{Group}
use Rattle.pay_channel.specs.History as channel
use Rattle.pay_channel.specs.History.{IsEvent, asks}
use Rattle.pay_channel.specs.Taken.{is_from, next}
use Rattle.pay_channel.specs.TakenLaws.{NothingTakenAtFirst, NextByOneMore, NextIsCount}
use Rattle.pay_channel.specs.FollowLaws.{ChannelFollows, ListsFollow}
use Rattle.pay_channel.specs.ListLaws.{ListsGrow, EmptyAtFirst}
use Rattle.pay_channel.specs.SentLaws.{AskedGrows, OwnEchoIsAsk}
use Rattle.pay_channel.specs.State.{channel_lists}
use Rattle.pay_channel.specs.History.{list_of}
use Rattle.pay_book.specs.Places.{place_of}
use Rattle.pay_book.specs.Book.{Standing}
use Rattle.pay_book.specs.Laws.{SettledBookIsOne}
use Rattle.pay_link.specs.Genesis.{GenesisFields, IsGenesis}
use Rattle.pay_link.specs.Keys.{KeyFields, IsKeysOf}
use Rattle.pay_member.specs.declared.event.Event.TheVariants.{Ask, Taken, Query}
use Rattle.pay_member.specs.declared.event.HistoryEntry.{HistoryEntry}
use Rattle.pay_member.specs.declared.event.Took.{Took}
use Rattle.pay_member.specs.declared.event.Told.{Told}
use Rattle.pay_member.specs.Events.{channel_event, events}
use Rattle.pay_link.specs.Checked.{CheckedFields, IsFor}
use Rattle.pay_member.specs.Refusal.{refusal}
use Rattle.pay_member.specs.Legal.{IsOwed, Legal}
use Rattle.pay_member.specs.Ledger.{LedgerFields, Tracks, Grows}
use Rattle.pay_member.specs.declared.ledger.Lie.{Lie}
use Rattle.pay_member.specs.Lies.{AreFound}
use Rattle.pay_member.specs.Member.{MemberFields, AreTurns, IsMember, with_entry}
use Rattle.pay_member.specs.Group.{group_in}
use Rattle.pay_member.specs.Book.{book_after}
use Rattle.pay_member.specs.Reply.{told_of}
use Rattle.pay_member.specs.Reading.{state_of}
use Rattle.pay_member.specs.declared.question.PaymentState.{PaymentState}
use Rattle.pay_member.specs.declared.question.PaymentState.TheVariants.{Unknown, Asked, Waiting, Settled}
use Rattle.pay_member.specs.Remembering.{TellsForgetting}
use Rattle.pay_member.proofs.Histories.{events_may_come}
use Rattle.pay_member.proofs.Ledgers.{tracks_more, lists_are, book_is}
use Rattle.pay_member.proofs.Rememberings.{remembers_none, tells_more}

-- ---- one entry more

pub events-push : (history : List HistoryEntry) (x : HistoryEntry) (e : channel.Event) → channel_event x.event ≡ Some e → events (history ++ x ∷ []) ≡ events history ++ e ∷ []
unfolding events
events-push history x e is =
    filter_map-append (λ (y : HistoryEntry). channel_event y.event) history (x ∷ [])
    ∙ ap (λ more. filter_map (λ (y : HistoryEntry). channel_event y.event) history ++ more) (last x (channel_event x.event) refl is) where
      last : (y : HistoryEntry) (o : Option channel.Event) → channel_event y.event ≡ o → o ≡ Some e → filter_map (λ (z : HistoryEntry). channel_event z.event) (y ∷ []) ≡ e ∷ []
      last y o was now = rw (was ∙ now) refl

pub events-unchanged : (history : List HistoryEntry) (x : HistoryEntry) → channel_event x.event ≡ None → events (history ++ x ∷ []) ≡ events history
unfolding events
events-unchanged history x is =
    filter_map-append (λ (y : HistoryEntry). channel_event y.event) history (x ∷ [])
    ∙ ap (λ more. filter_map (λ (y : HistoryEntry). channel_event y.event) history ++ more) last
    ∙ append-nil (filter_map (λ (y : HistoryEntry). channel_event y.event) history) where
      last : filter_map (λ (z : HistoryEntry). channel_event z.event) (x ∷ []) ≡ []
      last = rw is refl

pub no_events : events [] ≡ []
unfolding events
no_events = refl

pub events-more : (history : List HistoryEntry) (x : HistoryEntry) → events (history ++ x ∷ []) ≡ events history ++ option_to_list (channel_event x.event)
events-more history x = go (channel_event x.event) refl where
  go : (o : Option channel.Event) → channel_event x.event ≡ o → events (history ++ x ∷ []) ≡ events history ++ option_to_list (channel_event x.event)
  go (Some e) is = events-push history x e is ∙ sym (ap (λ (o : Option channel.Event). events history ++ option_to_list o) is)
  go None is = events-unchanged history x is ∙ sym (append-nil (events history)) ∙ sym (ap (λ (o : Option channel.Event). events history ++ option_to_list o) is)

pub length-events : (history : List HistoryEntry) → length (events history) ≤ length history
unfolding events
length-events [] = omega arith
length-events (x ∷ history) = go (channel_event x.event) refl (length-events history) where
  go : (o : Option channel.Event) → channel_event x.event ≡ o
      → length (filter_map (λ (y : HistoryEntry). channel_event y.event) history) ≤ length history
      → length (filter_map (λ (y : HistoryEntry). channel_event y.event) (x ∷ history)) ≤ length (x ∷ history)
  go None is more = rw is (omega arith)
  go (Some e) is more = rw is (omega arith)

-- an item of a list with one more at its end is that one or stands before it
cons_head : {X : Type 0} (x y : X) (xs ys : List X) → x ∷ xs ≡ y ∷ ys → x ≡ y
cons_head x y xs ys same = cc

cons_tail : {X : Type 0} (x y : X) (xs ys : List X) → x ∷ xs ≡ y ∷ ys → xs ≡ ys
cons_tail x y xs ys same = cc

nil_cons : {X : Type 0} (x : X) (xs : List X) → [] ≡ x ∷ xs → ⊥
nil_cons x xs same = cc

pub nil_middle : {X : Type 0} (before : List X) (x : X) (after : List X) → [] ≡ before ++ x ∷ after → ⊥
nil_middle [] x after is = nil_cons x after is
nil_middle (b ∷ bs) x after is = nil_cons b (bs ++ x ∷ after) is

abbrev pub IsLastOrBefore : {X : Type 0} → List X → List X → X → X → Type 0
IsLastOrBefore {X} xs before e x = ((before ≡ xs) × (x ≡ e)) ⊎ ((rest : List X) × (xs ≡ before ++ x ∷ rest))

longer : {X : Type 0} (b y : X) (bs ys : List X) (e x : X) → y ≡ b → IsLastOrBefore ys bs e x → IsLastOrBefore (y ∷ ys) (b ∷ bs) e x
longer b y bs ys e x head (inl (same, last)) = inl (cc, last)
longer b y bs ys e x head (inr (rest, same)) = inr (rest, cc)

pub split_push : {X : Type 0} (xs before : List X) (e x : X) (after : List X) → xs ++ e ∷ [] ≡ before ++ x ∷ after → IsLastOrBefore xs before e x
split_push [] [] e x after is = inl (refl, sym (cons_head e x [] after is))
split_push [] (b ∷ bs) e x after is = absurd (nil_middle bs x after (cons_tail e b [] (bs ++ x ∷ after) is))
split_push (y ∷ ys) [] e x after is = inr (ys, ap (λ z. z ∷ ys) (cons_head y x (ys ++ e ∷ []) after is))
split_push (y ∷ ys) (b ∷ bs) e x after is =
    longer b y bs ys e x (cons_head y b (ys ++ e ∷ []) (bs ++ x ∷ after) is) (split_push ys bs e x after (cons_tail y b (ys ++ e ∷ []) (bs ++ x ∷ after) is))

pub legal_more : (g : GenesisFields) (k : KeyFields) (history : List HistoryEntry) (x : HistoryEntry) → Legal g k history → IsOwed g k (events history) x → Legal g k (history ++ x ∷ [])
legal_more g k history x legal owed = record { each = λ before y after is. at before y after (split_push history before x y after is) } where
  at : (before : List HistoryEntry) (y : HistoryEntry) (after : List HistoryEntry) → ((before ≡ history) × (y ≡ x)) ⊎ ((rest : List HistoryEntry) × (history ≡ before ++ y ∷ rest)) → IsOwed g k (events before) y
  at before y after (inl (same, last)) = subst (λ h. IsOwed g k (events h) y) (sym same) (subst (IsOwed g k (events history)) (sym last) owed)
  at before y after (inr (rest, is)) = legal.each before y rest is

pub legal_none : (g : GenesisFields) (k : KeyFields) → Legal g k []
legal_none g k = record { each = λ before y after is. absurd (nil_middle before y after is) }

-- ---- the member with one entry more

pub member_more :
    ChannelFollows → ListsFollow → ListsGrow → AskedGrows → OwnEchoIsAsk → (m : MemberFields) (old new : LedgerFields) (fronts later : List ℕ) (lies noted : List (Option Lie)) (x : HistoryEntry) (e : channel.Event) (took : Took)
    → IsMember m old fronts lies → Grows old new e took → channel_event x.event ≡ Some e → IsOwed m.genesis m.keys (events m.history) x
    → length later ≡ m.genesis.members
    → ((p : ℕ) → p < m.genesis.members → slice_index later p ≡ next p (events m.history ++ e ∷ []))
    → AreFound m.genesis.members (events m.history ++ e ∷ []) noted
    → IsMember (with_entry m x) new later noted
member_more more follow longer asked echo m old new fronts later lies noted x e took is grows event owed places turns found =
    let now = events-push m.history x e event in
    let legal = legal_more m.genesis m.keys m.history x is.legal owed in
    let g : Group = group_in m.genesis m.keys.own in
    let group : new.channel.group ≡ g = grows.group ∙ is.tracks.group in
    let tracks = tracks_more more m.genesis m.keys.own (events m.history) old new e took is.tracks grows in
    let may_come : All (IsEvent new.channel.group) (events m.history ++ e ∷ []) =
    subst (λ (h : List channel.Event). All (IsEvent new.channel.group) h) now
    (subst (λ (y : Group). All (IsEvent y) (events (m.history ++ x ∷ []))) (sym group) (events_may_come m.genesis m.keys (m.history ++ x ∷ []) is.keys legal)) in
    let tells : TellsForgetting new.channel.group (events m.history ++ e ∷ []) new.has_forgotten =
    tells_more longer asked follow echo old.channel new.channel (events m.history) e is.tracks.follows tracks.follows grows.group may_come old.has_forgotten new.has_forgotten
    (subst (λ (y : Group). TellsForgetting y (events m.history) old.has_forgotten) (sym group) is.tells) grows.noticed in
    record {
      genesis = is.genesis;
      keys = is.keys;
      legal = legal;
      tracks = subst (λ h. Tracks m.genesis m.keys.own h new) (sym now) tracks;
      tells = subst (λ h. TellsForgetting g h new.has_forgotten) (sym now) (subst (λ (y : Group). TellsForgetting y (events m.history ++ e ∷ []) new.has_forgotten) group tells);
      one_for_each = places;
      turns = λ p member. turns p member ∙ ap (next p) (sym now);
      lies_found = subst (λ h. AreFound m.genesis.members h noted) (sym now) found;
    }

pub member_queried :
    (m : MemberFields) (ledger : LedgerFields) (fronts : List ℕ) (lies : List (Option Lie)) (x : HistoryEntry)
    → IsMember m ledger fronts lies → channel_event x.event ≡ None → IsOwed m.genesis m.keys (events m.history) x
    → IsMember (with_entry m x) ledger fronts lies
member_queried m ledger fronts lies x is event owed =
    let now = events-unchanged m.history x event in
    record {
      genesis = is.genesis;
      keys = is.keys;
      legal = legal_more m.genesis m.keys m.history x is.legal owed;
      tracks = subst (λ h. Tracks m.genesis m.keys.own h ledger) (sym now) is.tracks;
      tells = subst (λ h. TellsForgetting (group_in m.genesis m.keys.own) h ledger.has_forgotten) (sym now) is.tells;
      one_for_each = is.one_for_each;
      turns = λ p member. is.turns p member ∙ ap (next p) (sym now);
      lies_found = subst (λ h. AreFound m.genesis.members h lies) (sym now) is.lies_found;
    }

-- ---- the next numbers

-- an ask leaves them
pub turns_asked : NextByOneMore → (members : ℕ) (before : List channel.Event) (fronts : List ℕ) (v : List ℕ) → AreTurns members before fronts → AreTurns members (before ++ channel.Ask v ∷ []) fronts
turns_asked more members before fronts v turns p member = turns p member ∙ sym (more p before (channel.Ask v))

-- a frame moves its sender's
pub turns_taken :
    NextByOneMore → (members : ℕ) (before : List channel.Event) (fronts : List ℕ) (from : ℕ) (body : BodyFields) → length fronts ≡ members → AreTurns members before fronts → from < members
    → AreTurns members (before ++ channel.From from body ∷ []) (set fronts from (slice_index fronts from + 1))
turns_taken more members before fronts from body one_for_each turns sender p member = go (cases_eq p from) where
  go : ((p ≡ from) ⊎ (p ≢ from)) → slice_index (set fronts from (slice_index fronts from + 1)) p ≡ next p (before ++ channel.From from body ∷ [])
  go (inl same) =
      let here : slice_index (set fronts from (slice_index fronts from + 1)) from ≡ slice_index fronts from + 1 = get_or-set_same fronts from (slice_index fronts from + 1) 0 (omega arith) in
      let counted = more from before (channel.From from body) ∙ cond-true _ _ _ (eq-eqb from from refl) in
      subst (λ q. slice_index (set fronts from (slice_index fronts from + 1)) q ≡ next q (before ++ channel.From from body ∷ [])) (sym same)
      (here ∙ ap (λ n. n + 1) (turns from sender) ∙ sym counted)
  go (inr differs) =
      get_or-set_other fronts from p (slice_index fronts from + 1) 0 differs
      ∙ turns p member
      ∙ sym (more p before (channel.From from body) ∙ cond-false _ _ _ (ne_eqb from p (λ same. differs (sym same))))

-- they are counts of entries
pub turns_counted :
    NextIsCount → (members : ℕ) (history : List HistoryEntry) (fronts : List ℕ) → AreTurns members (events history) fronts
    → (p : ℕ) → p < members → slice_index fronts p ≤ length history
turns_counted count members history fronts turns p member =
    let few = length-events history in
    let counted = turns p member ∙ count p (events history) in
    let below = count_by-le-length (is_from p) (events history) in
    omega arith

-- ---- what isn't refused

pub ask_taken : (g : GenesisFields) (k : KeyFields) (before : List channel.Event) (v : List ℕ) → length v ≤ GREATEST_VALUE → asks before < SEQS → refusal g k before (Ask v) ≡ None
ask_taken g k before v fits left = search rules

pub query_taken : (g : GenesisFields) (k : KeyFields) (before : List channel.Event) (a : ℕ) → a < g.members → refusal g k before (Query a) ≡ None
query_taken g k before a member = search rules

pub frame_taken :
    (g : GenesisFields) (k : KeyFields) (before : List channel.Event) (c : CheckedFields) (front : ℕ)
    → IsFor k c → front ≡ next c.frame.from before → front ≤ c.frame.number → c.frame.number ≤ front → refusal g k before (Taken c) ≡ None
frame_taken g k before c front is now above below = search rules

-- ---- a member that took nothing

pub member_fresh :
    NothingTakenAtFirst → EmptyAtFirst → (g : GenesisFields) (k : KeyFields) (own : ℕ) (ledger : LedgerFields) (fronts : List ℕ) (lies : List (Option Lie))
    → IsGenesis g → IsKeysOf g k → own ≡ k.own → Tracks g own [] ledger → ledger.has_forgotten ≡ false → fronts ≡ replicate g.members 0 → AreFound g.members [] lies
    → IsMember (record { genesis = g; keys = k; history = [] }) ledger fronts lies
unfolding events
member_fresh nothing empty g k own ledger fronts lies limits of_genesis mine tracks fresh zeros found =
    record {
      genesis = limits;
      keys = of_genesis;
      legal = legal_none g k;
      tracks = subst (λ o. Tracks g o [] ledger) mine tracks;
      tells = record { remembers = λ _. remembers_none empty (group_in g k.own); forgot = λ yes. absurd (true≢false (sym yes ∙ fresh)) };
      one_for_each = ap length zeros ∙ length-replicate g.members 0;
      turns = λ p member. ap (λ (f : List ℕ). slice_index f p) zeros ∙ get_or-replicate g.members p 0 0 member ∙ sym (ap length (nothing p));
      lies_found = found;
    }

-- ---- what a query is told, and the state of a payment

answer_of_query-same : (b f n b' f' n' : ℕ) → b ≡ b' → f ≡ f' → n ≡ n' → ◌≡◌ {A = Told} (record { balance = b; front = f; listed = n }) (record { balance = b'; front = f'; listed = n' })
answer_of_query-same b f n b' f' n' p q r = λ i. record { balance = p i; front = q i; listed = r i }

pub told_is :
    ListsFollow → SettledBookIsOne → (g : GenesisFields) (own : ℕ) (history : List channel.Event) (l : LedgerFields) (a b f n : ℕ)
    → Tracks g own history l → b ≡ slice_index l.book.balances a → f ≡ slice_index l.book.front a → n ≡ length (channel_lists l.channel a)
    → ◌≡◌ {A = Told} (record { balance = b; front = f; listed = n }) (told_of g own history a)
unfolding told_of
told_is follow one g own history l a b f n tracks balance front listed =
    let book = book_is follow one g own history l tracks in
    answer_of_query-same b f n _ _ _
    (balance ∙ ap (λ (s : Standing). slice_index s.balances a) book)
    (front ∙ ap (λ (s : Standing). slice_index s.front a) book)
    (listed ∙ ap length (lists_are follow g own history l tracks a))

abbrev pub state_from : ℕ → ℕ → Bool → ℕ → ℕ → PaymentState
state_from front listed mine asked seq =
    cond (ltb seq front) Settled (cond (ltb seq listed) Waiting (cond (mine && ltb seq asked) Asked Unknown))

pub state_is :
    ListsFollow → SettledBookIsOne → (g : GenesisFields) (own : ℕ) (history : List channel.Event) (l : LedgerFields) (owner seq : ℕ) → Tracks g own history l
    → state_from (place_of l.book.places owner).0 (length (channel_lists l.channel owner)) (eqb owner own) l.channel.asks seq ≡ state_of g own history owner seq
unfolding state_of
state_is follow one g own history l owner seq tracks =
    let book = book_is follow one g own history l tracks in
    ap (λ f. state_from f (length (channel_lists l.channel owner)) (eqb owner own) l.channel.asks seq) (ap (λ (s : Standing). (place_of s.places owner).0) book)
    ∙ ap (λ n. state_from (place_of (book_after g own history).places owner).0 n (eqb owner own) l.channel.asks seq) (ap length (lists_are follow g own history l tracks owner))
    ∙ ap (λ k. state_from (place_of (book_after g own history).places owner).0 (length (list_of (group_in g own) history owner)) (eqb owner own) k seq) tracks.follows.asks

pub settled_first : (f n k seq : ℕ) (mine : Bool) → seq < f → Settled ≡ state_from f n mine k seq
settled_first f n k seq mine below = search rules

pub waiting_next : (f n k seq : ℕ) (mine : Bool) → f ≤ seq → seq < n → Waiting ≡ state_from f n mine k seq
waiting_next f n k seq mine past below = search rules

pub asked_then : (f n k seq : ℕ) (mine : Bool) → f ≤ seq → n ≤ seq → (mine && ltb seq k) ≡ true → Asked ≡ state_from f n mine k seq
asked_then f n k seq mine past behind used = search rules

pub unknown_else : (f n k seq : ℕ) (mine : Bool) → f ≤ seq → n ≤ seq → (mine && ltb seq k) ≡ false → Unknown ≡ state_from f n mine k seq
unknown_else f n k seq mine past behind unused = search rules
