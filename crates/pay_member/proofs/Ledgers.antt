-- A channel and its book after an event.
use Rattle.std.specs.Result.{OnErr}
use Rattle.std.proofs.lemmas.List.{take_more, take_all, get_or-drop}
use Rattle.std.proofs.lemmas.Option.{slice_get_within, slice_get_cases, get_or_from_slice_get}
use Rattle.pay_frame.specs.Frame.{BodyFields}
use Rattle.std.proofs.Common.{drop, take, slice_get, None, Some, inl, inr, length-drop, ◌+◌, ◌≡◌, ℕ, ◌<◌, ◌≤◌, Bool, false, Result, Ok, Err, List, [], ◌∷◌, ◌++◌, length, sum, slice_index, refl, sym, ap, ◌∙◌, subst, arith}
use Rattle.pay_frame.specs.declared.limits.TheConstants.{MOST_MEMBERS}
use Rattle.pay_echo.specs.Broadcast.{Group}
use Rattle.pay_channel.specs.Source.{GrowsOnly}
use Rattle.pay_channel.specs.History as channel
use Rattle.pay_channel.specs.History.{list_of}
use Rattle.pay_channel.specs.State.{State, IsStateBy, channel_lists}
use Rattle.pay_channel.specs.Applied.{IsAsBefore}
use Rattle.pay_channel.specs.Answer.{IsChannelAnswer}
use Rattle.pay_channel.specs.ListLaws.{EmptyAtFirst}
use Rattle.pay_channel.specs.FollowLaws.{ChannelFollows, ListsFollow, AnswersFollow, ListsOfAreShort, UnchangedLists}
use Rattle.pay_link.specs.Genesis.{GenesisFields, IsGenesis}
use Rattle.pay_member.specs.Group.{group_in}
use Rattle.pay_member.specs.Book.{book_after}
use Rattle.pay_member.specs.Reply.{took_by}
use Rattle.pay_member.specs.declared.event.Took.{Took}
use Rattle.pay_book.specs.Settled.{settled_book}
use Rattle.pay_book.specs.Book.{Standing, fresh, IsSettled, CanSettle}
use Rattle.pay_book.specs.Laws.{FreshBookIsSettled, GrownListCanSettle, GroupListsAreCountable, SameListsStaySettled, SettledBookIsOne}
use Rattle.pay_member.specs.Ledger.{LedgerFields, IsLedger, Tracks, Grows, IsSameLedger}

-- a channel that took nothing, with a fresh book
pub fresh_ledger :
    EmptyAtFirst → ListsFollow → FreshBookIsSettled → (g : GenesisFields) (own : ℕ) (c : State)
    → IsGenesis g → IsStateBy c [] → c.group ≡ group_in g own
    → Tracks g own [] (record { channel = c; book = fresh g.opening; has_forgotten = false })
fresh_ledger empty lists settled g own c limits follows group =
    let members = ap (λ (x : Group). x.members) group in
    record {
      group = group;
      follows = follows;
      opening = refl;
      sound = record {
        few = subst (λ n. n ≤ MOST_MEMBERS) (sym members) limits.few;
        accounts = limits.opening ∙ sym members;
        settled = settled g.opening (channel_lists c) (λ a _. ap length (lists c [] follows a ∙ empty c.group a));
      };
    }

-- where nothing changed that can be seen
pub same_ledger :
    UnchangedLists → SameListsStaySettled → (old new : State) (book : Standing) (forgot : Bool)
    → IsAsBefore old new → IsLedger (record { channel = old; book = book; has_forgotten = forgot })
    → IsLedger (record { channel = new; book = book; has_forgotten = forgot })
same_ledger unchanged stays old new book forgot same ledger =
    record {
      few = subst (λ (g : Group). g.members ≤ MOST_MEMBERS) (sym same.group) ledger.few;
      accounts = ledger.accounts ∙ ap (λ (g : Group). g.members) (sym same.group);
      settled = stays (channel_lists old) (channel_lists new) book (λ a _. sym (unchanged old new same a)) ledger.settled;
    }

-- one list grew: the book can settle
pub grown_can_settle :
    ListsOfAreShort → GroupListsAreCountable → GrownListCanSettle → (old new : State) (book : Standing) (forgot : Bool) (owner : ℕ)
    → IsLedger (record { channel = old; book = book; has_forgotten = forgot }) → GrowsOnly (channel_lists old) (channel_lists new) owner → owner < old.group.members
    → CanSettle (channel_lists new) book owner
grown_can_settle short countable can old new book forgot owner ledger grows member =
    can (channel_lists old) (channel_lists new) book owner ledger.settled grows (subst (λ n. owner < n) (sym ledger.accounts) member)
    (countable (channel_lists new) book (λ a _. short new a) (subst (λ n. n ≤ MOST_MEMBERS) (sym ledger.accounts) ledger.few))

-- and after it settled
pub settled_ledger :
    (old new : State) (before after : Standing) (forgot forgets : Bool) → IsLedger (record { channel = old; book = before; has_forgotten = forgot })
    → new.group ≡ old.group → after.opening ≡ before.opening → IsSettled (channel_lists new) after
    → IsLedger (record { channel = new; book = after; has_forgotten = forgets })
settled_ledger old new before after forgot forgets ledger group opening settled =
    record {
      few = subst (λ (g : Group). g.members ≤ MOST_MEMBERS) (sym group) ledger.few;
      accounts = ap length opening ∙ ledger.accounts ∙ ap (λ (g : Group). g.members) (sym group);
      settled = settled;
    }

-- a fact that holds anyway holds behind an error
pub on_err : {T E P : Type 0} (r : Result T E) → P → OnErr r P
on_err (Ok x) p = tt
on_err (Err e) p = p

pub on_err_by : {T E P Q : Type 0} (r : Result T E) → (P → Q) → OnErr r P → OnErr r Q
on_err_by (Ok x) f p = tt
on_err_by (Err e) f p = f p

-- ---- what a ledger tracks

pub tracks_more :
    ChannelFollows → (g : GenesisFields) (own : ℕ) (events : List channel.Event) (old new : LedgerFields) (e : channel.Event) (took : Took)
    → Tracks g own events old → Grows old new e took → Tracks g own (events ++ e ∷ []) new
tracks_more more g own events old new e took tracks grows =
    record {
      group = grows.group ∙ tracks.group;
      follows = more old.channel new.channel events e grows.takes tracks.follows;
      opening = grows.opening ∙ tracks.opening;
      sound = grows.sound;
    }

pub lists_are :
    ListsFollow → (g : GenesisFields) (own : ℕ) (events : List channel.Event) (l : LedgerFields) → Tracks g own events l
    → (a : ℕ) → channel_lists l.channel a ≡ list_of (group_in g own) events a
lists_are follow g own events l tracks a = follow l.channel events tracks.follows a ∙ ap (λ (x : Group). list_of x events a) tracks.group

pub book_is :
    ListsFollow → SettledBookIsOne → (g : GenesisFields) (own : ℕ) (events : List channel.Event) (l : LedgerFields) → Tracks g own events l
    → l.book ≡ book_after g own events
unfolding book_after
book_is follow one g own events l tracks =
    one (channel_lists l.channel) l.book tracks.sound.settled
    ∙ ap (λ (o : List ℕ). settled_book o (channel_lists l.channel)) tracks.opening
    ∙ ap (λ (lists : ℕ → List (List ℕ)). settled_book g.opening lists) (λ t a. lists_are follow g own events l tracks a t)

-- ---- what is told

took-same : (t : Took) (e r d : Bool) (s : ℕ) → t.echo ≡ e → t.ready ≡ r → t.deliver ≡ d → t.settled ≡ s → t ≡ record { echo = e; ready = r; deliver = d; settled = s }
took-same t e r d s p q u v = λ i. record { echo = p i; ready = q i; deliver = u i; settled = v i }

pub took_is :
    ChannelFollows → ListsFollow → AnswersFollow → SettledBookIsOne
    → (g : GenesisFields) (own : ℕ) (events : List channel.Event) (old new : LedgerFields) (e : channel.Event) (took : Took)
    → Tracks g own events old → Grows old new e took → took ≡ took_by g own events e
unfolding took_by
took_is more lists answers one g own events old new e took tracks grows =
    let later = tracks_more more g own events old new e took tracks grows in
    let Told : Group → Type 0 = λ x. IsChannelAnswer x events e (record { echo = took.echo; ready = took.ready; deliver = took.deliver; grown = grows.grown }) in
    let told = subst Told tracks.group (answers old.channel new.channel events e (record { echo = took.echo; ready = took.ready; deliver = took.deliver; grown = grows.grown }) tracks.follows grows.takes grows.applied) in
    let was = ap (λ (b : Standing). sum b.front) (book_is lists one g own events old tracks) in
    let now = ap (λ (b : Standing). sum b.front) (book_is lists one g own (events ++ e ∷ []) new later) in
    let settled = grows.settled in
    took-same took _ _ _ _ told.echo told.ready told.deliver (omega arith)

-- ---- the sent list in pieces

-- one body more of a piece
pub piece_more :
    (sent : List BodyFields) (from k : ℕ) (x : BodyFields) → slice_get sent (from + k) ≡ Some x
    → take (k + 1) (drop from sent) ≡ take k (drop from sent) ++ x ∷ []
piece_more sent from k x is =
    let inside = slice_get_within sent (from + k) x is in
    take_more (drop from sent) k x (simp length-drop (omega arith))
    ∙ ap (λ y. take k (drop from sent) ++ y ∷ []) (get_or-drop from sent k x ∙ get_or_from_slice_get sent (from + k) x x is)

-- where none stands the list is at its end
pub none_past : (sent : List BodyFields) (place : ℕ) → None ≡ slice_get sent place → length sent ≤ place
none_past sent place none =
    elim (slice_get_cases sent place).1 [
      | inl at ↦ (let some = at.2 in absurd (cc (none, some)))
      | inr past ↦ past.0
    ]

-- ---- the front in pieces

-- one account more
pub front_more :
    (l : LedgerFields) (k f : ℕ) → IsLedger l → k < length l.book.opening → f ≡ slice_index l.book.front k
    → take (k + 1) l.book.front ≡ take k l.book.front ++ f ∷ []
front_more l k f sound account is =
    let each = sound.settled.is.one_for_each in
    take_more l.book.front k 0 (omega arith) ∙ ap (λ x. take k l.book.front ++ x ∷ []) (sym is)

-- all of them
pub front_whole : (l : LedgerFields) (k : ℕ) → IsLedger l → k ≡ length l.book.opening → take k l.book.front ≡ l.book.front
front_whole l k sound is = take_all k l.book.front (let each = sound.settled.is.one_for_each in omega arith)
