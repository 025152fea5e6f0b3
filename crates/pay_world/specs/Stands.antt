-- What holds between the histories of correct members at one moment.
use Rattle.std.specs.Prelude.{◌≡◌, ◌≢◌, ℕ, ◌+◌, ◌*◌, ◌<◌, List, [], ◌∷◌, ◌++◌, slice_get, Some, All}
use Rattle.pay_frame.specs.Frame.{BodyFields}
use Rattle.pay_echo.specs.Broadcast.{Vote, size, echo_set, readied}
use Rattle.pay_channel.specs.Prefix.{IsPrefix}
use Rattle.pay_channel.specs.History.{Event, From, IsEvent, votes, out}
use Rattle.pay_channel.specs.Taken.{taken_bodies, next}
use Rattle.pay_world.specs.Setting.{Setting, group_at, IsCorrect}

-- the votes that member i has in the broadcast s of account a
abbrev pub votes_at : (ℕ → List Event) → ℕ → ℕ → ℕ → List Vote
votes_at histories i a s = votes i a s (histories i)

-- Some correct member has a quorum of ECHOs for the value.
pub record HasQuorum (w : Setting) (histories : ℕ → List Event) (a s : ℕ) (v : List ℕ)
    : Type 0 where
  pub holder : ℕ
  pub correct : IsCorrect w holder
  pub quorum :
      w.members + w.faults
      < 2 * size w.members (echo_set (group_at w holder) (votes_at histories holder a s) v)

-- Authenticity: what a correct member accepted from another is a prefix of all that the other sent.
-- The rule of READY: for each correct member's READY there is a quorum of ECHOs for its value at
-- some correct member.
pub record Stands (w : Setting) (histories : ℕ → List Event) : Type 0 where
  pub proper : (i : ℕ) → IsCorrect w i → All (IsEvent (group_at w i)) (histories i)
  pub authentic :
      (i j : ℕ) → IsCorrect w i → IsCorrect w j
      → IsPrefix (taken_bodies j (histories i)) (out (group_at w j) (histories j))
  pub ruled :
      (i a s : ℕ) (v : List ℕ) → IsCorrect w i
      → readied (group_at w i) (votes_at histories i a s) ≡ Some v
      → HasQuorum w histories a s v

-- ---- one more event

-- member k had one more event, and nobody else any
pub record IsLonger (old new : ℕ → List Event) (k : ℕ) (e : Event) : Type 0 where
  pub here : new k ≡ old k ++ e ∷ []
  pub others : (i : ℕ) → i ≢ k → new i ≡ old i

-- If k is correct, it may accept the event, and a body of a correct member is the next one of all
-- that this member sent.
pub record IsAllowed (w : Setting) (old : ℕ → List Event) (k : ℕ) (e : Event) : Type 0 where
  pub proper : IsCorrect w k → IsEvent (group_at w k) e
  pub genuine :
      (j : ℕ) (body : BodyFields) → IsCorrect w k → IsCorrect w j → e ≡ From j body
      → slice_get (out (group_at w j) (old j)) (next j (old k)) ≡ Some body

-- each member's new history begins with its old one
pub record Grow (old new : ℕ → List Event) : Type 0 where
  pub each : (i : ℕ) → IsPrefix (old i) (new i)
