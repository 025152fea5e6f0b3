-- What the calls of a device do to its file, and what a crash may leave between two syncs.
use Rattle.std.specs.Prelude.{◌≡◌, ◌⊎◌, ℕ, ◌≤◌, List, ◌++◌, length}

-- a crash after `n` bytes were written at a file's end: at most as many bytes stand there, of any
-- kind
pub record Torn (n : ℕ) (old new : List ℕ) : Type 0 where
  pub tail : List ℕ
  pub is : new ≡ old ++ tail
  pub no_longer : length tail ≤ n

-- What is said about a device's file: whether its contents are known, what a read returns, and what
-- a crash at this moment may leave.
pub record Storage (D : Type 0) : Type 1 where
  pub is_known : D → Type 0
  pub seen : D → List ℕ
  pub may_leave : D → List ℕ → Type 0

-- each new outcome of a crash is an old outcome after a step
abbrev pub Follows : (List ℕ → List ℕ → Type 0) → (List ℕ → Type 0) → (List ℕ → Type 0) → Type 0
Follows step old new = (c : List ℕ) → new c → (d : List ℕ) × old d × step d c

-- each new outcome is an old one
abbrev pub Stays : (List ℕ → Type 0) → (List ℕ → Type 0) → Type 0
Stays old new = (c : List ℕ) → new c → old c

-- a crash leaves this and nothing else
abbrev pub Only : List ℕ → (List ℕ → Type 0) → Type 0
Only file outcomes = (c : List ℕ) → outcomes c → c ≡ file

-- Time passes: a crash since t might have left what it might have left before, or what it may leave
-- now.
pub record Elapses (before now : ℕ) (past since : ℕ → List ℕ → Type 0) (may_leave : List ℕ → Type 0)
    : Type 0 where
  pub later : before ≤ now
  pub nothing_else : (t : ℕ) (c : List ℕ) → t ≤ before → since t c → past t c ⊎ may_leave c
  pub keeps : (t : ℕ) (c : List ℕ) → t ≤ before → past t c → since t c

-- A crash at any moment since `old` leaves a file with the property P.
pub record LeavesOnly {D : Type 0} (moment : D → ℕ) (left_since : D → ℕ → List ℕ → Type 0)
    (old new : D) (P : List ℕ → Type 0) : Type 0 where
  pub later : moment old ≤ moment new
  pub each : (c : List ℕ) → left_since new (moment old) c → P c
  -- the case of a run that began earlier
  pub before : (t : ℕ) (c : List ℕ) → t ≤ moment old → left_since new t c → left_since old t c ⊎ P c

-- A device was only read: its contents are unchanged, and a crash at any moment leaves what it
-- might have left before.
pub record IsUnchanged {D : Type 0} (is_known : D → Type 0) (seen : D → List ℕ)
    (may_leave : D → List ℕ → Type 0)
    (moment : D → ℕ) (left_since : D → ℕ → List ℕ → Type 0) (old new : D) : Type 0 where
  pub known : is_known new
  pub seen_same : seen new ≡ seen old
  pub crash : Stays (may_leave old) (may_leave new)
  pub time : LeavesOnly moment left_since old new (may_leave old)
