-- When a member that continues from its log may submit values, according to what its peers claim.
use Rattle.std.specs.Prelude.{◌≡◌, ◌⊎◌, ℕ, ◌+◌, ◌*◌, nat_lt, nat_le, Bool, true, false, List}
use Rattle.std.specs.Prelude.{◌&&◌, length, if◌then◌else◌, slice_set, Option, Some, None, Result}
use Rattle.std.specs.Prelude.{Ok, Err}
use Rattle.std.specs.List.{count_by}
use Rattle.pay_channel.specs.History.{out}
use Rattle.pay_member.specs.declared.fault.AskFault.{AskFault}
use Rattle.pay_member.specs.declared.event.Event.TheVariants.{Ask}
use Rattle.pay_member.specs.Answer.{IsAnswer, answer_of_ask}
use Rattle.pay_member.specs.Events.{events}
use Rattle.pay_member.specs.Group.{group_in}
use Rattle.pay_member.specs.Member.{MemberFields}
use Rattle.pay_member.specs.Legal.{Legal}
use Rattle.pay_member.specs.declared.reading.Reading.{Reading}
use Rattle.pay_member.specs.declared.reading.Reading.TheVariants.{Forgetting}
use Rattle.pay_member.specs.Questions.{Shows}
use Rattle.pay_member.specs.Remembering.{Remembers}
use Rattle.pay_node.specs.declared.node.HandInFault.{HandInFault}
use Rattle.pay_node.specs.declared.node.HandInFault.TheVariants as unasked
use Rattle.pay_node.specs.declared.comparing.Standing.{Standing}
use Rattle.pay_node.specs.declared.comparing.Standing.TheVariants.{Waiting, Free, Forgotten}
use Rattle.pay_node.specs.declared.node.OwnAnswer.{OwnAnswer}
use Rattle.pay_node.specs.declared.node.OwnAnswer.TheVariants.{Told, Withheld}
use Rattle.pay_node.specs.Nodes.{IsOwn, IsShown, NodeFields}
use Rattle.pay_node.specs.Receipts.{reading_at, receipts_of}
use Rattle.pay_node.specs.Seats.{KeepsReceipt, SeatFields, with_receipts}

-- The state of a rollback check: the group's members and faults, and how many bodies the member had
-- sent when it began. Each member has its latest claim since then, if it made one.
pub record ComparingFields : Type 0 where
  pub members : ℕ
  pub faults : ℕ
  pub sent : ℕ
  pub claims : List (Option ℕ)

-- A peer's claim of bodies, when `now` bodies are sent, replaces its earlier claim. If it may count
-- bodies that the member sent since it began, it says nothing.
abbrev pub is_of_now : ℕ → ℕ → ℕ → Bool
is_of_now sent now claim = nat_lt sent claim && nat_le claim now

abbrev pub with_claim : ComparingFields → ℕ → ℕ → ℕ → ComparingFields
with_claim c peer claim now =
    if is_of_now c.sent now claim then c
    else record c { claims = slice_set c.claims peer (Some claim) }

-- the peer of this claim had accepted more than the member remembers
abbrev pub is_beyond : ℕ → Option ℕ → Bool
is_beyond sent None = false
is_beyond sent (Some claim) = nat_lt sent claim

-- the peer of this claim had accepted no more than the member remembers
abbrev pub is_within : ℕ → Option ℕ → Bool
is_within sent None = false
is_within sent (Some claim) = nat_le claim sent

abbrev pub count_beyond : ComparingFields → ℕ
count_beyond c = count_by (is_beyond c.sent) c.claims

-- the count of members that know no more, including the member itself
abbrev pub count_within : ComparingFields → ℕ
count_within c = count_by (is_within c.sent) c.claims + 1

-- If more than f peers know more, the member has lost state. If more than (N + f) / 2 members know
-- no more, it may submit values.
-- page: `standing_of`: whether a member that continues from its log may submit values, according to
--   its peers' claims: `count_beyond` and `count_within` count the claims of more and of no more
--   than it had sent then
abbrev pub standing_of : ComparingFields → Standing
standing_of c =
    if nat_lt c.faults (count_beyond c) then Forgotten
    else if nat_lt (c.members + c.faults) (2 * count_within c) then Free
    else Waiting

-- the check is about this member, as a node began with it
pub record IsComparingOf (m : MemberFields) (c : ComparingFields) : Type 0 where
  pub members : c.members ≡ m.genesis.members
  pub faults : c.faults ≡ m.genesis.faults
  pub sent : c.sent ≡ length (out (group_in m.genesis m.keys.own) (events m.history))

-- this standing follows from what peers claimed about this member, now or earlier
pub record IsClaimedOf (m : MemberFields) (standing : Standing) : Type 0 where
  pub comparing : ComparingFields
  pub its : IsComparingOf m comparing
  pub is : standing ≡ standing_of comparing

-- the standing of the member that this node began with
abbrev pub IsShownAs : NodeFields → Standing → Type 0
IsShownAs n standing =
    IsClaimedOf (record { genesis = n.genesis; keys = n.keys; history = n.beginning }) standing

-- Only claims hold a node's member back, or show that it has lost state. So a node without a
-- rollback check is free.
abbrev pub HasStanding : NodeFields → Standing → Type 0
HasStanding n Waiting = (n.compares ≡ true) × IsShownAs n Waiting
HasStanding n Free = n.compares ≡ true → IsShownAs n Free
HasStanding n Forgotten = (n.compares ≡ true) × IsShownAs n Forgotten

-- according to its own history
abbrev pub MemberRemembers : MemberFields → Type 0
MemberRemembers m = Remembers (group_in m.genesis m.keys.own) (events m.history)

-- ---- a question about the own account

-- The member lost no state when it answered so, and the seat keeps the receipt.
pub record IsToldOfOwn (n : NodeFields) (before after : SeatFields) (reading : Reading)
    : Type 0 where
  pub member : MemberFields
  pub own : IsOwn n member
  pub legal : Legal member.genesis member.keys member.history
  pub remembers : MemberRemembers member
  pub is : Shows member reading
  pub receipt : KeepsReceipt before after (reading_at (length member.history) reading)

-- The answer isn't told: the member has lost state by its own history, and the seat keeps the
-- receipt of that. Or its peers' claims show it, and the seat keeps the receipt of the answer.
abbrev pub IsWithheldOfOwn : NodeFields → SeatFields → SeatFields → Reading → Type 0
IsWithheldOfOwn n before after reading =
    IsShown n before after (Forgetting true)
    ⊎ (IsShown n before after reading × HasStanding n Forgotten)

-- an answer that is told or withheld, to a question with this answer
abbrev pub IsAnsweredOfOwn :
    {A : Type 0} → NodeFields → SeatFields → SeatFields → (A → Reading) → OwnAnswer A → Type 0
IsAnsweredOfOwn n before after reads (Told answer) = IsToldOfOwn n before after (reads answer)
IsAnsweredOfOwn n before after reads (Withheld answer) =
    IsWithheldOfOwn n before after (reads answer)

-- ---- a submitted value

-- A member that kept its state and is free was handed the value, and this is its answer. Its seat
-- has the receipt.
pub record IsHandedTo (m : MemberFields) (standing : Standing) (before after : SeatFields)
    (value : List ℕ) (answer : Result ℕ AskFault) : Type 0 where
  pub remembers : MemberRemembers m
  pub free : standing ≡ Free
  pub is : IsAnswer m (Ask value) (answer_of_ask answer)
  pub receipt :
      after
      ≡ with_receipts before
      (receipts_of (length m.history) (Ask value) (answer_of_ask answer))

-- Nothing was handed in. The seat keeps the receipt of whether the member has lost state by its own
-- history.
pub record IsHeldBack (old new : MemberFields) (before after : SeatFields) (forgot : Bool)
    : Type 0 where
  pub member : new ≡ old
  pub is : Shows old (Forgetting forgot)
  pub receipt :
      KeepsReceipt before after (reading_at (length old.history) (Forgetting forgot))

-- The answer to a submitted value: of a member that lost state, of a member that isn't free, and of
-- any other.
abbrev pub IsAskedAs :
    MemberFields → Standing → SeatFields → SeatFields → MemberFields → List ℕ
    → Result ℕ HandInFault → Type 0
IsAskedAs old standing before after new value (Ok seq) =
    IsHandedTo old standing before after value (Ok seq)
IsAskedAs old standing before after new value (Err (unasked.Ask fault)) =
    IsHandedTo old standing before after value (Err fault) × (new ≡ old)
IsAskedAs old standing before after new value (Err unasked.TooEarly) =
    IsHeldBack old new before after false × (standing ≡ Waiting)
IsAskedAs old standing before after new value (Err unasked.Forgotten) =
    (forgot : Bool) × IsHeldBack old new before after forgot
    × ((forgot ≡ true) ⊎ (standing ≡ Forgotten))

-- The answer of a node, with some legal history of its member, and some standing according to its
-- peers.
pub record HasAsked (n : NodeFields) (before after : SeatFields) (value : List ℕ)
    (answer : Result ℕ HandInFault) : Type 0 where
  pub member : MemberFields
  pub own : IsOwn n member
  pub legal : Legal member.genesis member.keys member.history
  pub standing : Standing
  pub shown : HasStanding n standing
  pub later : MemberFields
  pub is : IsAskedAs member standing before after later value answer
