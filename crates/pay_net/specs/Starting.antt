-- What a node starts from: a member, what its desk keeps of the submitted values, and whether it
-- makes a rollback check.
use Rattle.std.specs.Prelude.{◌≡◌, ◌≢◌, ◌⊎◌, ◌≤◌, ◌^◌, ℕ, Bool, List, [], ◌∷◌, ◌++◌, length, map}
use Rattle.std.specs.Prelude.{slice_get, Some, None}
use Rattle.pay_channel.specs.Asked.{asked_values}
use Rattle.pay_desk.specs.declared.kept.Kept.{Kept}
use Rattle.pay_desk.specs.Kept.{kept_under}
use Rattle.pay_desk.specs.Laws.{AreUnderFreeIds}
use Rattle.pay_member.specs.declared.event.HistoryEntry.{HistoryEntry}
use Rattle.pay_member.specs.declared.event.Event.{Event}
use Rattle.pay_member.specs.declared.event.Event.TheVariants.{Ask, Taken, Query}
use Rattle.pay_member.specs.Events.{events}
use Rattle.pay_member.specs.Member.{MemberFields}

pub record StartFields : Type 0 where
  pub member : MemberFields
  pub kept : List Kept
  pub compares : Bool

-- What is kept is just what this history submitted, in order, each value with its number and under
-- an id of its own.
pub record IsKeptOf (history : List HistoryEntry) (kept : List Kept) : Type 0 where
  pub values : map (λ k. k.value) kept ≡ asked_values (events history)
  pub numbered : (seq : ℕ) (k : Kept) → slice_get kept seq ≡ Some k → k.seq ≡ seq
  pub free : AreUnderFreeIds [] kept

-- one more value is kept, under the next of these ids, which was free
pub record KeepsNext (ids value : List ℕ) (old new : List Kept) : Type 0 where
  pub id : ℕ
  pub given : slice_get ids (length old) ≡ Some id
  pub free : kept_under id old ≡ None
  pub is : new ≡ old ++ record { id = id; value = value; seq = length old } ∷ []

-- There is no id for one more value: none is next among these, something is kept under the next
-- one, or there is no number.
abbrev pub LacksId : List ℕ → List Kept → Type 0
LacksId ids old =
    (slice_get ids (length old) ≡ None)
    ⊎ ((id : ℕ) × (slice_get ids (length old) ≡ Some id) × (kept_under id old ≢ None))
    ⊎ (2 ^ 32 ≤ length old)

-- the value of a submission lacks an id, and no other event does
abbrev pub RefusesEntry : List ℕ → Event → List Kept → Type 0
RefusesEntry ids (Ask value) old = LacksId ids old
RefusesEntry ids (Taken checked) old = ⊥
RefusesEntry ids (Query account) old = ⊥

-- What this history submitted can't be kept under these ids: they aren't different ids, one for
-- each value. Or it submitted more values than there are numbers, which no member does.
abbrev pub AreNoIdsOf : List HistoryEntry → List ℕ → Type 0
AreNoIdsOf history ids =
    ((kept : List Kept) → IsKeptOf history kept → map (λ k. k.id) kept ≢ ids)
    ⊎ (2 ^ 32 ≤ length (asked_values (events history)))

-- the value of a submission is kept, and nothing of another event
abbrev pub KeepsEntry : List ℕ → Event → List Kept → List Kept → Type 0
KeepsEntry ids (Ask value) old new = KeepsNext ids value old new
KeepsEntry ids (Taken checked) old new = new ≡ old
KeepsEntry ids (Query account) old new = new ≡ old
