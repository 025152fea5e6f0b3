-- A text that is written piece by piece: what went out of it, and what is held for the next write.
use Rattle.std.specs.Prelude.{◌≡◌, ℕ, List, ◌++◌, Bool, true, false, Option}
use Rattle.std.specs.Io.KnownBytes.{Appends}
use Rattle.pay_frame.specs.Device.{WroteBeginning, next_count}
use Rattle.pay_audit.specs.declared.export_writing.Gathered.{Gathered}

-- what was written if it is known, what is held after it, whether the device failed, and how often
-- it did
pub record OutputState : Type 0 where
  pub written : Option (List ℕ)
  pub held : List ℕ
  pub failed : Bool
  pub failures : ℕ

abbrev pub state : {W : Type 0} → (W → Option (List ℕ)) → (W → ℕ) → Gathered → W → OutputState
state contents failures g w =
    record { written = contents w; held = g.held.items; failed = g.failed; failures = failures w }

-- A text came after what was held, and a prefix of both was written.
pub record PassesOn (before after : Option (List ℕ)) (held left text : List ℕ) : Type 0 where
  pub sent : List ℕ
  pub written : Appends before after sent
  pub parts : held ++ text ≡ sent ++ left

-- An earlier failure stays, and nothing more is written. A new failure has left a prefix of what
-- was held and added.
abbrev pub AddsAt : Bool → Bool → OutputState → OutputState → List ℕ → Type 0
AddsAt false false old new text =
    PassesOn old.written new.written old.held new.held text × (new.failures ≡ old.failures)
AddsAt false true old new text =
    WroteBeginning old.written new.written (old.held ++ text)
    × (new.failures ≡ next_count old.failures)
AddsAt true false old new text = ⊥
AddsAt true true old new text = (new.written ≡ old.written) × (new.failures ≡ old.failures)

-- a text was added
abbrev pub Adds : OutputState → OutputState → List ℕ → Type 0
Adds old new text = AddsAt old.failed new.failed old new text
