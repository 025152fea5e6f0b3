-- Statements about a channel that follows a history. Each is proved as a public law.
use Rattle.std.specs.Prelude.{◌≡◌, ◌↔◌, ℕ, ◌≤◌, true, List, [], ◌∷◌, ◌++◌, length}
use Rattle.pay_frame.specs.Frame.{BodyFields}
use Rattle.pay_channel.specs.History.{Event, From, IsEvent, seqs, delivered_at, list_of}
use Rattle.pay_channel.specs.State.{State, IsStateBy, delivered_value_at, channel_lists}
use Rattle.pay_channel.specs.Applied.{Takes, IsApplied, IsAsBefore}
use Rattle.pay_channel.specs.Answer.{IsChannelAnswer}
use Rattle.pay_channel.specs.Lies.{IsLie, is_lie_to}
use Rattle.pay_channel.specs.declared.channel.Applied.{Applied}

-- a channel that applies an event follows the longer history
abbrev pub ChannelFollows : Type 0
ChannelFollows =
    (old new : State) (history : List Event) (e : Event)
    → Takes old new e → IsStateBy old history → IsStateBy new (history ++ e ∷ [])

abbrev pub UnchangedFollows : Type 0
UnchangedFollows =
    (old new : State) (history : List Event)
    → IsAsBefore old new → IsStateBy old history → IsStateBy new history

-- its deliveries and lists are those of the history
abbrev pub ValuesFollow : Type 0
ValuesFollow =
    (c : State) (history : List Event) → IsStateBy c history
    → (a s : ℕ) → delivered_value_at c a s ≡ delivered_at c.group history a s

abbrev pub ListsFollow : Type 0
ListsFollow =
    (c : State) (history : List Event) → IsStateBy c history
    → (a : ℕ) → channel_lists c a ≡ list_of c.group history a

-- its answer to an event is that of the history
abbrev pub AnswersFollow : Type 0
AnswersFollow =
    (old new : State) (history : List Event) (e : Event) (applied : Applied)
    → IsStateBy old history → Takes old new e → IsApplied old new e applied
    → IsChannelAnswer old.group history e applied

-- what it says about a body of another member follows from the history
abbrev pub LiesFollow : Type 0
LiesFollow =
    (c : State) (history : List Event) (p : ℕ) (body : BodyFields)
    → IsStateBy c history → IsEvent c.group (From p body)
    → (is_lie_to c p body ≡ true) ↔ IsLie history p body

-- nothing distinguishes two channels that follow one history
abbrev pub FollowersAreAlike : Type 0
FollowersAreAlike =
    (one other : State) (history : List Event) → one.group ≡ other.group
    → IsStateBy one history → IsStateBy other history → IsAsBefore one other

-- ---- statements about any state

-- a list has at most one value for each number
abbrev pub ListsOfAreShort : Type 0
ListsOfAreShort = (c : State) (a : ℕ) → length (channel_lists c a) ≤ seqs

-- if nothing visible changed, the lists are unchanged
abbrev pub UnchangedLists : Type 0
UnchangedLists =
    (old new : State) → IsAsBefore old new → (a : ℕ) → channel_lists new a ≡ channel_lists old a
