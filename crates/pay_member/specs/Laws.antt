-- Statements about histories that a member can have, and about what it receives. Each is proved as
-- a public law.
use Rattle.std.specs.Prelude.{◌≡◌, ◌≢◌, ◌↔◌, ℕ, ◌<◌, ◌≤◌, pos, ◌≤ℤ◌, List, [], ◌∷◌, ◌++◌, length}
use Rattle.std.specs.Prelude.{slice_index, sum, All, Some}
use Rattle.pay_frame.specs.declared.body.Kind.TheVariants.{Want}
use Rattle.pay_frame.specs.Frame.{FrameFields}
use Rattle.pay_frame.specs.OneFrame.{IsOneFrame}
use Rattle.pay_channel.specs.History as channel
use Rattle.pay_channel.specs.History.{IsEvent, out, delivered_at, list_of}
use Rattle.pay_channel.specs.Prefix.{IsPrefix}
use Rattle.pay_channel.specs.Taken.{next}
use Rattle.pay_link.specs.Genesis.{GenesisFields}
use Rattle.pay_link.specs.Keys.{KeyFields, IsKeysOf}
use Rattle.pay_link.specs.Opening.{Opens}
use Rattle.pay_book.specs.Book.{IsSettled}
use Rattle.pay_book.specs.Payment.{entries_of}
use Rattle.pay_book.specs.Balance.{balance_at}
use Rattle.pay_book.specs.Settled.{settled_entries}
use Rattle.pay_member.specs.declared.event.HistoryEntry.{HistoryEntry}
use Rattle.pay_member.specs.Group.{group_in}
use Rattle.pay_member.specs.Events.{events}
use Rattle.pay_member.specs.Book.{book_after}
use Rattle.pay_member.specs.Legal.{IsOwed, IsValue, Legal}
use Rattle.pay_member.specs.Bringing.{opened_in, event_in}

-- ---- which histories there are

abbrev pub NoneIsLegal : Type 0
NoneIsLegal = (g : GenesisFields) (k : KeyFields) → Legal g k []

-- one more owed entry
abbrev pub LegalByOneMore : Type 0
LegalByOneMore =
    (g : GenesisFields) (k : KeyFields) (history : List HistoryEntry) (e : HistoryEntry)
    → Legal g k history → IsOwed g k (events history) e → Legal g k (history ++ e ∷ [])

abbrev pub PrefixIsLegal : Type 0
PrefixIsLegal =
    (g : GenesisFields) (k : KeyFields) (history more : List HistoryEntry)
    → Legal g k (history ++ more) → Legal g k history

-- what a member accepts may come to its group's channel
abbrev pub LegalEventsMayCome : Type 0
LegalEventsMayCome =
    (g : GenesisFields) (k : KeyFields) (history : List HistoryEntry)
    → IsKeysOf g k → Legal g k history → All (IsEvent (group_in g k.own)) (events history)

-- what is delivered in it, and so all values of the accounts' lists, are bytes that fit a frame
abbrev pub DeliveredAreValues : Type 0
DeliveredAreValues =
    (g : GenesisFields) (k : KeyFields) (history : List HistoryEntry) (a s : ℕ) (v : List ℕ)
    → Legal g k history → delivered_at (group_in g k.own) (events history) a s ≡ Some v → IsValue v

-- ---- longer histories

abbrev pub EventsGrow : Type 0
EventsGrow =
    (history more : List HistoryEntry) → events (history ++ more) ≡ events history ++ events more

abbrev pub SentGrows : Type 0
SentGrows =
    (g : GenesisFields) (own : ℕ) (history more : List HistoryEntry)
    → IsPrefix
    (out (group_in g own) (events history))
    (out (group_in g own) (events (history ++ more)))

abbrev pub ListsOfHistoryGrow : Type 0
ListsOfHistoryGrow =
    (g : GenesisFields) (own : ℕ) (history more : List HistoryEntry) (a : ℕ)
    → IsPrefix
    (list_of (group_in g own) (events history) a)
    (list_of (group_in g own) (events (history ++ more)) a)

-- nothing that settled at a member is ever taken back
abbrev pub SettledStays : Type 0
SettledStays =
    (g : GenesisFields) (own : ℕ) (history more : List HistoryEntry) (a : ℕ) → a < length g.opening
    → IsPrefix
    (settled_entries g.opening (list_of (group_in g own) (events history)) a)
    (settled_entries g.opening (list_of (group_in g own) (events (history ++ more))) a)

abbrev pub FrontsGrow : Type 0
FrontsGrow =
    (g : GenesisFields) (own : ℕ) (history more : List HistoryEntry) (a : ℕ)
    → slice_index (book_after g own (events history)).front a
    ≤ slice_index (book_after g own (events (history ++ more))).front a

-- ---- the ledger

abbrev pub BookIsSettled : Type 0
BookIsSettled =
    (g : GenesisFields) (own : ℕ) (events : List channel.Event)
    → IsSettled (list_of (group_in g own) events) (book_after g own events)

-- the balances sum to what all accounts opened with
abbrev pub TotalIsKept : Type 0
TotalIsKept =
    (g : GenesisFields) (own : ℕ) (events : List channel.Event)
    → sum (book_after g own events).balances ≡ sum g.opening

-- with signed numbers, so that nothing hides a debt
abbrev pub NobodyOwes : Type 0
NobodyOwes =
    (g : GenesisFields) (own : ℕ) (events : List channel.Event) (a : ℕ)
    → pos 0
    ≤ℤ balance_at g.opening (entries_of (length g.opening) (list_of (group_in g own) events))
    (slice_index (book_after g own events).front) a

abbrev pub EqualListsEqualBooksAfter : Type 0
EqualListsEqualBooksAfter =
    (g : GenesisFields) (own other : ℕ) (events others : List channel.Event)
    → ((a : ℕ) → a < length g.opening
    → list_of (group_in g own) events a ≡ list_of (group_in g other) others a)
    → book_after g own events ≡ book_after g other others

-- ---- what is received

-- the frame authenticated from bytes: the one that they are, if it is authenticated and is no WANT
abbrev pub OpenedIn : Type 0
OpenedIn =
    (k : KeyFields) (bytes : List ℕ) (f : FrameFields)
    → (opened_in k bytes ≡ Some f) ↔ (IsOneFrame bytes f × Opens k f × (f.body.kind ≢ Want))

-- the frame is an event exactly if its number is the next one
abbrev pub EventIn : Type 0
EventIn =
    (k : KeyFields) (before : List channel.Event) (bytes : List ℕ) (e : channel.Event)
    → (event_in k before bytes ≡ Some e)
    ↔ ((f : FrameFields) × (opened_in k bytes ≡ Some f) × (f.number ≡ next f.from before)
    × (e ≡ channel.From f.from f.body))

abbrev pub BroughtMayCome : Type 0
BroughtMayCome =
    (g : GenesisFields) (k : KeyFields) (before : List channel.Event) (bytes : List ℕ)
    (e : channel.Event)
    → IsKeysOf g k → event_in k before bytes ≡ Some e → IsEvent (group_in g k.own) e
