-- A member's broadcast as functions of its history, the list of its events, oldest first. In
-- Cachin, Guerraoui, Rodrigues, chapter 3, this is a Byzantine channel made of one double-echo
-- broadcast for each owner and number.
use Rattle.std.specs.Prelude.{◌≢◌, ℕ, ◌+◌, ◌<◌, ◌≤◌, zero, suc, Bool, true, false, ◌&&◌, ◌==◌}
use Rattle.std.specs.Prelude.{nat_lt, if◌then◌else◌, List, [], ◌∷◌, ◌++◌, length, Option, Some}
use Rattle.std.specs.Prelude.{None}
use Rattle.std.specs.Option.{option_to_list}
use Rattle.std.specs.List.{count_by}
use Rattle.pay_frame.specs.declared.body.Kind.{Kind}
use Rattle.pay_frame.specs.declared.body.Kind.TheVariants.{Send, Echo, Ready, Want}
use Rattle.pay_frame.specs.declared.limits.TheConstants.{GREATEST_VALUE, SEQS}
use Rattle.pay_frame.specs.Frame.{BodyFields}
use Rattle.pay_echo.specs.Broadcast as one
use Rattle.pay_echo.specs.Broadcast.{Group, Vote, echoed, readied, delivered}

-- The member broadcasts a value of its own, or accepts a body from another member.
-- page: `Event`, `IsEvent`: the book's inputs: a value of the member's own, or another member's
--   body; within a frame's limits, about a member, no WANT
pub data Event : Type 0 where
  Ask : List ℕ → Event
  From : ℕ → BodyFields → Event

-- the events that may come: values within a frame's limits, and bodies of other members about
-- members
abbrev pub IsEvent : Group → Event → Type 0
IsEvent g (Ask v) = length v ≤ GREATEST_VALUE
IsEvent g (From p body) =
    (p < g.members) × (p ≢ g.own) × (body.owner < g.members) × (body.kind ≢ Want)

abbrev pub is_ask : Event → Bool
is_ask (Ask v) = true
is_ask (From p body) = false

-- the number of values of its own that the member broadcast
unfoldable pub asks : List Event → ℕ
asks history = count_by is_ask history

-- the broadcast that an event is about after k submitted values: the k-th of the member's own, or
-- the body's
abbrev pub owner_of : ℕ → Event → ℕ
owner_of own (Ask v) = own
owner_of own (From p body) = body.owner

abbrev pub seq_of : ℕ → Event → ℕ
seq_of k (Ask v) = k
seq_of k (From p body) = body.seq

abbrev pub vote_by : Kind → ℕ → List ℕ → Option Vote
vote_by Send p v = Some (one.Send v)
vote_by Echo p v = Some (one.Echo p v)
vote_by Ready p v = Some (one.Ready p v)
vote_by Want p v = None

-- a SEND counts only from its owner
abbrev pub counts_from : ℕ → BodyFields → Bool
counts_from p body = counts_as body.kind where
  counts_as : Kind → Bool
  counts_as Send = p == body.owner
  counts_as Echo = true
  counts_as Ready = true
  counts_as Want = false

-- the vote that an event is in its broadcast
abbrev pub vote_of : Event → Option Vote
vote_of (Ask v) = Some (one.Send v)
vote_of (From p body) = if counts_from p body then vote_by body.kind p body.value else None

abbrev pub is_about : ℕ → ℕ → ℕ → ℕ → Event → Bool
is_about own a s k e = owner_of own e == a && seq_of k e == s

-- an event's votes in the broadcast s of account a: one vote or none
unfoldable pub votes_in : ℕ → ℕ → ℕ → ℕ → Event → List Vote
votes_in own a s k e = if is_about own a s k e then option_to_list (vote_of e) else []

-- the votes of a history after k submitted values
abbrev pub votes_from : ℕ → ℕ → ℕ → ℕ → List Event → List Vote
votes_from own a s k [] = []
votes_from own a s k (e ∷ history) =
    votes_in own a s k e ++ votes_from own a s (if is_ask e then k + 1 else k) history

-- All that a history says about the broadcast s of account a: the votes of one instance.
-- page: `votes`: a history's votes in one broadcast; a SEND counts only if its owner sent it, since
--   the book's instance hears no other's
unfoldable pub votes : ℕ → ℕ → ℕ → List Event → List Vote
votes own a s history = votes_from own a s 0 history

abbrev pub body_of : Kind → ℕ → ℕ → List ℕ → BodyFields
body_of kind a s v = record { kind = kind; owner = a; seq = s; value = v }

-- a body of this kind, if its value wasn't known before and now is
abbrev pub newly : Kind → ℕ → ℕ → Option (List ℕ) → Option (List ℕ) → List BodyFields
newly kind a s None (Some v) = body_of kind a s v ∷ []
newly kind a s None None = []
newly kind a s (Some w) new = []

abbrev pub send_of : ℕ → ℕ → Event → List BodyFields
send_of own k (Ask v) = body_of Send own k v ∷ []
send_of own k (From p body) = []

-- What an event after a history sends to all: SEND if it submits a value, then ECHO and READY if
-- they became known by it.
-- page: `says`, `out`: what an event sends to all, in the order of the book's rules: SEND, ECHO,
--   READY, each if its rule fires; the outbound list
unfoldable pub says : Group → List Event → Event → List BodyFields
says g history e =
    let a = owner_of g.own e in
    let s = seq_of (asks history) e in
    let before = votes g.own a s history in
    let after = votes g.own a s (history ++ e ∷ []) in
    send_of g.own (asks history) e ++ newly Echo a s (echoed before) (echoed after)
    ++ newly Ready a s (readied g before) (readied g after)

abbrev pub out_after : Group → List Event → List Event → List BodyFields
out_after g before [] = []
out_after g before (e ∷ history) = says g before e ++ out_after g (before ++ e ∷ []) history

-- All that the member sent to all, in order. A frame's number is a place in this list.
unfoldable pub out : Group → List Event → List BodyFields
out g history = out_after g [] history

-- the numbers that a broadcast may have
abbrev pub seqs : ℕ
seqs = SEQS

-- the values of numbers from s on, at most n of them, up to the first missing number
unfoldable pub known_from : (ℕ → Option (List ℕ)) → ℕ → ℕ → List (List ℕ)
known_from value_at s zero = []
known_from value_at s (suc n) =
    elim (value_at s) [ None ↦ [] | Some v ↦ v ∷ known_from value_at (s + 1) n ]

-- an account's list: its values up to the first missing number; nothing if there is no such account
unfoldable pub listed_values : Group → (ℕ → ℕ → Option (List ℕ)) → ℕ → List (List ℕ)
listed_values g value_at a = if nat_lt a g.members then known_from (value_at a) 0 seqs else []

-- page: `delivered_at`, `list_of`: the value delivered at an owner and number; an owner's values up
--   to the first number without a value (not the book's)
unfoldable pub delivered_at : Group → List Event → ℕ → ℕ → Option (List ℕ)
delivered_at g history a s = delivered g (votes g.own a s history)

unfoldable pub list_of : Group → List Event → ℕ → List (List ℕ)
list_of g history a = listed_values g (delivered_at g history) a
