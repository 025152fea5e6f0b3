-- Why there is no member: by its keys.
use Rattle.std.proofs.Common.{ℕ, List, inl, inr}
use Rattle.payd.specs.Files.{IsKeysFault, IsMemberStop}
use Rattle.payd.specs.declared.stop.Stop.{Stop}

pub keys_stop :
    (holds : List ℕ → List ℕ → Type 0) (genesis keys : List ℕ) (members : ℕ) (bytes : List ℕ) (stop : Stop)
    → holds keys bytes → IsKeysFault keys members bytes stop → IsMemberStop holds genesis keys stop
keys_stop holds genesis keys members bytes stop held fault = inr (inr (inr (inl (members, bytes, held, fault))))
