-- Authenticated double-echo broadcast (Cachin, Guerraoui, Rodrigues, Introduction to Reliable and
-- Secure Distributed Programming, second edition, chapter 3): what a process of a group has sent
-- and delivered in one instance. Each definition is a function of the whole list of votes that the
-- process received, oldest first. Nothing here is counted along the way.
use Rattle.std.specs.Prelude.{◌≢◌, ℕ, ◌+◌, ◌*◌, ◌<◌, Bool, false, ◌||◌, ◌==◌, nat_lt, if◌then◌else◌}
use Rattle.std.specs.Prelude.{List, [], ◌∷◌, map, Option, Some, None}
use Rattle.std.specs.Option.{option_or}
use Rattle.std.specs.List.{find, count_by, range_with_len}
use Rattle.std.specs.Str.{bytes_eq}
use Rattle.pay_echo.specs.declared.instance.Group.{Group as DeclaredGroup}

-- N processes numbered from 0, the bound f of faulty ones, and the number of the process that the
-- state belongs to
-- page: `Group`, `Vote`: N, f and the process's own number; the three messages. In the book: the
--   processes, up to f of them faulty; the messages
abbrev pub Group : Type 0
Group = DeclaredGroup

-- A message of the instance as the process receives it: the sender's value (its SEND, or what this
-- process broadcasts), or another process's ECHO or READY with its value.
pub data Vote : Type 0 where
  Send : List ℕ → Vote
  Echo : ℕ → List ℕ → Vote
  Ready : ℕ → List ℕ → Vote

unfoldable pub value_of : Vote → List ℕ
value_of (Send v) = v
value_of (Echo p v) = v
value_of (Ready p v) = v

-- A vote that another process of the group may have sent. A SEND always is.
abbrev pub IsForeign : Group → Vote → Type 0
IsForeign g (Send v) = Unit {0}
IsForeign g (Echo p v) = (p < g.members) × (p ≢ g.own)
IsForeign g (Ready p v) = (p < g.members) × (p ≢ g.own)

-- the value, if the vote is a SEND, p's ECHO, p's READY
unfoldable pub value_if_send : Vote → Option (List ℕ)
value_if_send (Send v) = Some v
value_if_send (Echo p v) = None
value_if_send (Ready p v) = None

unfoldable pub echoed_by : ℕ → Vote → Option (List ℕ)
echoed_by p (Send v) = None
echoed_by p (Echo q v) = if q == p then Some v else None
echoed_by p (Ready q v) = None

unfoldable pub readied_by : ℕ → Vote → Option (List ℕ)
readied_by p (Send v) = None
readied_by p (Echo q v) = None
readied_by p (Ready q v) = if q == p then Some v else None

-- the first answer that f gives for an item, as `Iterator::find_map`
abbrev pub find_map : {X : Type 0} → (X → Option (List ℕ)) → List X → Option (List ℕ)
find_map f [] = None
find_map f (x ∷ xs) = option_or (f x) (find_map f xs)

-- all prefixes of a list, the shortest first
abbrev pub beginnings : {X : Type 0} → List X → List (List X)
beginnings [] = [] ∷ []
beginnings (x ∷ xs) = [] ∷ map (λ b. x ∷ b) (beginnings xs)

-- The value at the shortest prefix for which the test holds of some value that was voted for.
-- page: `first_known`: the value at the shortest prefix of the votes at which a test holds. In
--   the book: "upon exists m such that" fires when it first holds
unfoldable pub first_known : (List Vote → List ℕ → Bool) → List Vote → Option (List ℕ)
first_known test votes = find_map (λ b. find (test b) (map value_of b)) (beginnings votes)

-- A set of processes is a test of their numbers. This is the count of its members below n.
unfoldable pub size : ℕ → (ℕ → Bool) → ℕ
size n set = count_by set (range_with_len 0 n)

-- whether a process's vote is for this value
unfoldable pub is_for : List ℕ → Option (List ℕ) → Bool
is_for v None = false
is_for v (Some w) = bytes_eq w v

-- ECHOs: the process echoes the first SEND; of another process the first ECHO that came counts
-- page: `echoed`: the value of the first SEND; in the process's own broadcast, the value broadcast.
--   In the book: `sentecho`
unfoldable pub echoed : List Vote → Option (List ℕ)
echoed votes = find_map value_if_send votes

-- page: `echo_of`, `echo_set`: a process's first ECHO; the processes that sent ECHO for a value. In
--   the book: `echos[p]`, written only while it is empty; `#({p : echos[p] = m})`
unfoldable pub echo_of : Group → List Vote → ℕ → Option (List ℕ)
echo_of g votes p = if p == g.own then echoed votes else find_map (echoed_by p) votes

-- the processes that sent ECHO for v
unfoldable pub echo_set : Group → List Vote → List ℕ → ℕ → Bool
echo_set g votes v p = is_for v (echo_of g votes p)

-- another process's READY: the first that came
-- page: `other_ready_of`, `ready_of`, `ready_set`: another process's first READY; any process's,
--   with what was readied as the own one; those READY for a value. In the book: `readys[p]`, which
--   has the own one only after `sentready` is set and the rule spent, so that both agree
unfoldable pub other_ready_of : Group → List Vote → ℕ → Option (List ℕ)
other_ready_of g votes p = if p == g.own then None else find_map (readied_by p) votes

-- the other processes that sent READY for v
unfoldable pub other_ready_set : Group → List Vote → List ℕ → ℕ → Bool
other_ready_set g votes v p = is_for v (other_ready_of g votes p)

-- A process may send READY v on more than (N + f) / 2 ECHOs of v, or (amplification) on more than f
-- READYs of v.
-- page: `may_ready`, `readied`: a quorum of ECHOs, or more than f others READY; the value for which
--   that held first. In the book: the two rules that set `sentready`, quorum and amplification
unfoldable pub may_ready : Group → List Vote → List ℕ → Bool
may_ready g votes v =
    nat_lt (g.members + g.faults) (2 * size g.members (echo_set g votes v))
    || nat_lt g.faults (size g.members (other_ready_set g votes v))

-- READYs: the process is READY, once, for the first value for which it may be; of another process
-- the first READY that came counts
unfoldable pub readied : Group → List Vote → Option (List ℕ)
readied g votes = first_known (may_ready g) votes

unfoldable pub ready_of : Group → List Vote → ℕ → Option (List ℕ)
ready_of g votes p = if p == g.own then readied g votes else find_map (readied_by p) votes

-- the processes that sent READY for v
unfoldable pub ready_set : Group → List Vote → List ℕ → ℕ → Bool
ready_set g votes v p = is_for v (ready_of g votes p)

-- A process may deliver v on more than 2f READYs of v.
-- page: `may_deliver`, `delivered`: more than 2f in that set; the first value for which that
--   held. In the book: delivery, once
unfoldable pub may_deliver : Group → List Vote → List ℕ → Bool
may_deliver g votes v = nat_lt (2 * g.faults) (size g.members (ready_set g votes v))

-- the delivered value: the first value that the process may deliver
unfoldable pub delivered : Group → List Vote → Option (List ℕ)
delivered g votes = first_known (may_deliver g) votes
