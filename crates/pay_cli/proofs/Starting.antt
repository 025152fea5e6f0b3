-- The engine of `check` before it has read anything, and the text that it comes to.
use Rattle.std.proofs.Common.{◌≡◌, ◌∙◌, ℕ, List, [], length, Option, Some, None, ap, arith, subst}
use Rattle.std.specs.Prelude.{Result, ⊤, replicate}
use Rattle.std.proofs.KnownBytes.{Appends-nil}
use Rattle.pay_frame.specs.Stream.{IsBytes}
use Rattle.pay_frame.specs.declared.engine.EngineFault.{EngineFault}
use Rattle.pay_frame.specs.Exact.{Writes as EngineWrites, WritesBeginning}
use Rattle.pay_link.specs.Keys.{KeyFields}
use Rattle.pay_cli.specs.declared.check.Progress.{Progress}
use Rattle.pay_cli.specs.CheckText.{HasCheckText, at_start, checking}
use Rattle.pay_cli.specs.Engine.{WritesCheckText, check_start}
use Rattle.pay_cli.specs.Values.{CheckerFields}

pub nothing_written : (k : CheckerFields) → ((bytes : List ℕ) → IsBytes bytes → HasCheckText k bytes) → (r w : Option (List ℕ)) → WritesBeginning (checking k) (check_start k.keys r w) w
nothing_written k every None w = tt
nothing_written k every (Some bytes) w = λ is.
    let some = every bytes is in
    record {
      text = some.text;
      ending = some.ending;
      last = some.is.known;
      is = some.is.is;
      wrote = record { count = 0; within = omega arith; written = Appends-nil w };
    }

-- what is known first, of as many members as there are keys
pub is_at_start : (k : KeyFields) (members : ℕ) (p : Progress) → p ≡ record { fronts = replicate members 0; line = 1 } → members ≡ length k.keys → p ≡ at_start k
is_at_start k members p new each = new ∙ ap (λ (n : ℕ). let first : Progress = record { fronts = replicate n 0; line = 1 } in first) each

-- an engine that began there writes the text of `check`
pub text_from_start : (k : CheckerFields) (p known : Progress) (input before left after : Option (List ℕ)) (result : Result ⊤ EngineFault)
    → p ≡ at_start k.keys → EngineWrites (checking k) (record { first = []; state = p; input = input; before = before }) (record { state = known; left = left; after = after }) result → WritesCheckText k input left before after result
text_from_start k p known input before left after result start writes = (known, subst (λ (q : Progress). EngineWrites (checking k) (record { first = []; state = q; input = input; before = before }) (record { state = known; left = left; after = after }) result) start writes)
