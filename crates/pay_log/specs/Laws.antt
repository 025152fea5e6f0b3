-- Statements about files of logs. Each is proved as a public law.
use Rattle.std.specs.Prelude.{◌≡◌, ◌⊎◌, ℕ, List, [], ◌∷◌, ◌++◌}
use Rattle.std.specs.List.{All}
use Rattle.pay_log.specs.Chunks.{IsShort}
use Rattle.pay_log.specs.Logs.{IsLog, IsStray, IsWithOrWithout, log_bytes}

-- A file is the log of at most one list of payloads.
abbrev pub OneReading : Type 0
OneReading =
    (key header file : List ℕ) (ps qs : List (List ℕ))
    → IsLog key header file ps → IsLog key header file qs → ps ≡ qs

-- What was written is read again.
abbrev pub ReadAgain : Type 0
ReadAgain =
    (key header : List ℕ) (ps : List (List ℕ)) → All IsShort ps
    → IsLog key header (log_bytes key header ps) ps

-- ys begins with xs
pub record IsBeginning (xs ys : List (List ℕ)) : Type 0 where
  pub rest : List (List ℕ)
  pub is : ys ≡ xs ++ rest

-- What is read of a file that a crash left begins with all that was acknowledged. It is a prefix of
-- all that was written, except if a checksum fits by chance.
abbrev pub AcknowledgedAreRead : Type 0
AcknowledgedAreRead =
    (key header file : List ℕ) (ps qs : List (List ℕ)) (p : List ℕ)
    → IsWithOrWithout key header ps p file → IsLog key header file qs
    → (IsBeginning ps qs × IsBeginning qs (ps ++ p ∷ [])) ⊎ IsStray key header ps p file
