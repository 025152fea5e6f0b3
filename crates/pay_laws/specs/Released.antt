-- What a rollback check finds: that a member has lost state, or that it lacks nothing delivered.
use Rattle.std.specs.Prelude.{◌≡◌, ℕ, ◌<◌, Bool, true, List, take, slice_get, Some, Contains}
use Rattle.pay_echo.specs.Broadcast.{size}
use Rattle.pay_frame.specs.declared.body.Kind.TheVariants.{Send}
use Rattle.pay_frame.specs.Frame.{BodyFields}
use Rattle.pay_channel.specs.Asked.{asked_values}
use Rattle.pay_channel.specs.Prefix.{IsPrefix}
use Rattle.pay_channel.specs.History.{body_of, delivered_at}
use Rattle.pay_channel.specs.Taken.{taken_bodies, next}
use Rattle.pay_node.specs.Comparing.{ComparingFields, standing_of}
use Rattle.pay_node.specs.declared.comparing.Standing.TheVariants.{Free, Forgotten}
use Rattle.pay_world.specs.Setting.{Setting, group_at, IsCorrect, HasFewFaulty}
use Rattle.pay_laws.specs.Restarts.{Step, AreFair, history_by_steps}
use Rattle.pay_laws.specs.Challenges.{Happening, steps_in, AreUnforged, MemberStart, all_around}
use Rattle.pay_laws.specs.Challenges.{HasFreshNonce, ComparesNoted}

-- ---- a member that has lost state

-- At each moment since the start, member p has accepted more than `sent` bodies from the member
-- that started.
abbrev pub HasMore : Setting → MemberStart → ℕ → ℕ → Type 0
HasMore w t sent p =
    (until : List Happening) → IsPrefix t.before until → IsPrefix until (all_around t)
    → sent < next t.member (history_by_steps w (steps_in until) p)

-- This correct member has accepted more than the member began with, and its claim was noted.
pub record IsWitness (w : Setting) (t : MemberStart) (c : ComparingFields) (p : ℕ) : Type 0 where
  pub correct : IsCorrect w p
  pub more : HasMore w t c.sent p
  pub taken : ℕ
  pub claim : slice_get c.claims p ≡ Some (Some taken)

-- Suppose that more than f correct members have accepted more from a member than it began with, and
-- that it noted a claim of each. Then it finds that it has lost state, whatever the others claim.
abbrev pub LossIsFound : Type 0
LossIsFound =
    (w : Setting) (t : MemberStart) (c : ComparingFields) (witnesses : ℕ → Bool)
    → AreUnforged w (all_around t) → HasFreshNonce w t → ComparesNoted w t c
    → w.faults < size w.members witnesses
    → ((p : ℕ) → p < w.members → witnesses p ≡ true → IsWitness w t c p)
    → standing_of c ≡ Forgotten

-- ---- a member that is cleared

-- Some correct member, at some moment, has this body among the first `many` bodies that it accepted
-- from m.
pub record IsTakenAmong (w : Setting) (happenings : List Happening) (m many : ℕ)
    (body : BodyFields)
    : Type 0 where
  pub until : List Happening
  pub moment : IsPrefix until happenings
  pub member : ℕ
  pub correct : IsCorrect w member
  pub taken :
      Contains (take many (taken_bodies m (history_by_steps w (steps_in until) member))) body

-- A member that lost state is one of the faulty. Suppose that it is cleared, and that a correct
-- member had delivered a value of its account by its start. Then some correct member accepted the
-- value's SEND among as many first bodies as the member began with. This holds however often and
-- whichever members start again.
abbrev pub ReleasedHasDelivered : Type 0
ReleasedHasDelivered =
    (w : Setting) (t : MemberStart) (c : ComparingFields) (i seq : ℕ) (v : List ℕ)
    → HasFewFaulty w → AreFair w (steps_in (all_around t))
    → AreUnforged w (all_around t) → HasFreshNonce w t → ComparesNoted w t c
    → t.member < w.members → w.faulty t.member ≡ true → standing_of c ≡ Free
    → IsCorrect w i
    → delivered_at (group_at w i) (history_by_steps w (steps_in t.before) i) t.member seq ≡ Some v
    → IsTakenAmong w (all_around t) t.member c.sent (body_of Send t.member seq v)

-- An older copy of a folder has the first of all bodies that m ever sent. If what correct members
-- accepted from m is always a prefix of all these bodies, the body is among those in the copy.
abbrev pub FirstTakenIsFirstSent : Type 0
FirstTakenIsFirstSent =
    (w : Setting) (happenings : List Happening) (m many : ℕ) (body : BodyFields)
    (sent : List BodyFields)
    → ((p : ℕ) (until : List Happening) → IsCorrect w p → IsPrefix until happenings
    → IsPrefix (taken_bodies m (history_by_steps w (steps_in until) p)) sent)
    → IsTakenAmong w happenings m many body → Contains (take many sent) body

-- A correct member lost nothing, however often it starts again: it submitted whatever a correct
-- member has delivered of its account, under that number.
abbrev pub DeliveredWasAsked : Type 0
DeliveredWasAsked =
    (w : Setting) (steps : List Step) (i m seq : ℕ) (v : List ℕ) → HasFewFaulty w → AreFair w steps
    → IsCorrect w i → IsCorrect w m
    → delivered_at (group_at w i) (history_by_steps w steps i) m seq ≡ Some v
    → slice_get (asked_values (history_by_steps w steps m)) seq ≡ Some v
