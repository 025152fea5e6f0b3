-- What the loop of `check` reads and writes, as far as it is known.
use Rattle.std.specs.Prelude.{◌≡◌, ℕ, zero, suc, ◌+◌, ◌<◌, ◌^◌, List, [], length, slice_index}
use Rattle.std.specs.Prelude.{Option, Result, ⊤}
use Rattle.pay_frame.specs.declared.engine.EngineFault.{EngineFault}
use Rattle.pay_frame.specs.Frame.{FrameFields}
use Rattle.pay_frame.specs.Handling.{Start}
use Rattle.pay_frame.specs.Exact.{Writes as EngineWrites}
use Rattle.pay_link.specs.Keys.{KeyFields}
use Rattle.pay_cli.specs.declared.check.Progress.{Progress}
use Rattle.pay_cli.specs.Lines.{progress_after}
use Rattle.pay_cli.specs.Values.{CheckerFields}
use Rattle.pay_cli.specs.CheckText.{checking, at_start}

-- nothing is written before the first line
abbrev pub check_start : KeyFields → Option (List ℕ) → Option (List ℕ) → Start Progress
check_start k input before =
    record { first = []; state = at_start k; input = input; before = before }

-- What is written, according to how the loop ended: the whole text at the input's end, or up to the
-- fault in what was read; otherwise a prefix of it.
abbrev pub WritesCheckText :
    CheckerFields → Option (List ℕ) → Option (List ℕ) → Option (List ℕ) → Option (List ℕ)
    → Result ⊤ EngineFault → Type 0
WritesCheckText q input left before after result =
    (known : Progress)
    × EngineWrites (checking q) (check_start q.keys input before)
    (record { state = known; left = left; after = after }) result

-- There is a front for each member, none is beyond the count of lines, and one more line can be
-- counted.
pub record IsInLine (k : KeyFields) (p : Progress) : Type 0 where
  pub each : length p.fronts ≡ length k.keys
  pub below : (member : ℕ) → slice_index p.fronts member < p.line
  pub more : p.line + 1 < 2 ^ 64

-- this holds before each of the next frames, whatever they are
abbrev pub HasRoom : KeyFields → Progress → ℕ → Type 0
HasRoom k p zero = ⊤
HasRoom k p (suc n) = IsInLine k p × ((f : FrameFields) → HasRoom k (progress_after k p f) n)
