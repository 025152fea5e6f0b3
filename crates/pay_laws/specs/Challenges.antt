-- What happens around a rollback check: starts, claims on challenges, and the claims that a member
-- notes.
use Rattle.std.specs.Prelude.{◌≡◌, ◌≢◌, ℕ, ◌<◌, List, ◌∷◌, ◌++◌, length, replicate, slice_get}
use Rattle.std.specs.Prelude.{Contains, Option, Some, None, ⊤}
use Rattle.std.specs.List.{filter_map}
use Rattle.pay_channel.specs.Taken.{next}
use Rattle.pay_node.specs.Comparing.{ComparingFields, with_claim}
use Rattle.pay_world.specs.Setting.{Setting, IsCorrect}
use Rattle.pay_laws.specs.Restarts.{Step, history_by_steps}

-- A step of the group happens. Or a member starts from its folder, with the nonces of all
-- challenges that it makes until it ends. Or a member claims to another, on a challenge with this
-- nonce, how many bodies it has accepted from it. Or a member notes such a claim of a peer, with
-- its count.
-- Anybody may record challenges and claims and replay them to anybody, so members claim and note
-- whatever a list says.
-- page: `Happening`: a step of the group, a member's start, its claim on a challenge, or its note
--   of a peer's claim
pub data Happening : Type 0 where
  Steps : Step → Happening
  Starts : ℕ → List ℕ → Happening
  Claims : ℕ → ℕ → ℕ → Happening
  Notes : ℕ → ℕ → ℕ → ℕ → Happening

abbrev pub step_of : Happening → Option Step
step_of (Steps s) = Some s
step_of (Starts m nonces) = None
step_of (Claims p m nonce) = None
step_of (Notes m p nonce taken) = None

-- the steps of the group among these happenings
abbrev pub steps_in : List Happening → List Step
steps_in happenings = filter_map step_of happenings

-- Member p claimed to member m on this nonce, and `taken` counts the bodies that it had accepted
-- from m at that moment. A claim of a correct member is exact: no list of bodies is longer than a
-- claim can say.
pub record MadeClaim (w : Setting) (happenings : List Happening) (p m nonce taken : ℕ)
    : Type 0 where
  pub before : List Happening
  pub after : List Happening
  pub is : happenings ≡ before ++ Claims p m nonce ∷ after
  pub exact : taken ≡ next m (history_by_steps w (steps_in before) p)

-- A noted claim of a correct member is one that this member made before. Faulty members claim
-- whatever they like.
abbrev pub IsUnforged : Setting → List Happening → Happening → Type 0
IsUnforged w before (Steps s) = ⊤
IsUnforged w before (Starts m nonces) = ⊤
IsUnforged w before (Claims p m nonce) = ⊤
IsUnforged w before (Notes m p nonce taken) = IsCorrect w p → MadeClaim w before p m nonce taken

-- NO FORGED CLAIM: each noted claim is unforged, after what happened before it.
-- page: `AreUnforged`: each noted claim of a correct member is one that this member made before
pub record AreUnforged (w : Setting) (happenings : List Happening) : Type 0 where
  pub each :
      (before : List Happening) (h : Happening) (after : List Happening)
      → happenings ≡ before ++ h ∷ after → IsUnforged w before h

-- ---- one start

-- a member's start: what happened before it, the member, the nonces of its challenges, and what
-- happens after it
pub record MemberStart : Type 0 where
  pub before : List Happening
  pub member : ℕ
  pub nonces : List ℕ
  pub after : List Happening

abbrev pub all_around : MemberStart → List Happening
all_around t = t.before ++ Starts t.member t.nonces ∷ t.after

-- FRESH NONCE: before the start, no correct member claimed to the member that starts on a nonce of
-- this start.
-- page: `HasFreshNonce`: no correct member answered a challenge of a start before that start
abbrev pub HasFreshNonce : Setting → MemberStart → Type 0
HasFreshNonce w t =
    (p nonce : ℕ) → IsCorrect w p → Contains t.nonces nonce
    → ¬ (Contains t.before (Claims p t.member nonce))

-- Since its start the member noted a claim of this other member, with this count, on one of the
-- start's nonces.
pub record HasNoted (t : MemberStart) (p taken : ℕ) : Type 0 where
  pub other : p ≢ t.member
  pub nonce : ℕ
  pub drawn : Contains t.nonces nonce
  pub noted : Contains t.after (Notes t.member p nonce taken)

-- The member compares itself with claims that it noted since its start, at most one of each member.
pub record ComparesNoted (w : Setting) (t : MemberStart) (c : ComparingFields) : Type 0 where
  pub members : c.members ≡ w.members
  pub faults : c.faults ≡ w.faults
  pub one_for_each : length c.claims ≡ w.members
  pub noted : (p taken : ℕ) → slice_get c.claims p ≡ Some (Some taken) → HasNoted t p taken

-- ---- as a member notes claims

-- At first the member compares itself with no claim.
abbrev pub ComparesAtFirst : Type 0
ComparesAtFirst =
    (w : Setting) (t : MemberStart) (sent : ℕ)
    → ComparesNoted w t (record {
      members = w.members;
      faults = w.faults;
      sent = sent;
      claims = replicate w.members None;
    })

-- The member notes one claim more, when `now` bodies are sent.
abbrev pub ComparesOneMore : Type 0
ComparesOneMore =
    (w : Setting) (t : MemberStart) (c : ComparingFields) (p taken now : ℕ) → ComparesNoted w t c
    → HasNoted t p taken → ComparesNoted w t (with_claim c p taken now)

-- A member that has sent nothing since its start holds each claim that it notes.
abbrev pub NotedIsHeld : Type 0
NotedIsHeld =
    (c : ComparingFields) (p taken : ℕ) → p < length c.claims
    → slice_get (with_claim c p taken c.sent).claims p ≡ Some (Some taken)
