-- What the counts of two devices say about a function that reads from one device and writes to the
-- other.
use Rattle.std.specs.Prelude.{◌≡◌, ℕ, ◌+◌, ◌≤◌, List, Option, Result, IsErrOf}
use Rattle.pay_frame.specs.declared.limits.TheConstants.{MOST_READS}
use Rattle.pay_frame.specs.declared.device.StreamFault.{StreamFault}
use Rattle.pay_frame.specs.declared.device.StreamFault.TheVariants.{Memory, Read, Write, Bound}
use Rattle.pay_frame.specs.Device.{Gave, RoseBy}

-- The counts of a reader and a writer at one time: the reader's calls, its failures, the bytes left
-- to read, and the writer's failures.
pub record Counts : Type 0 where
  pub calls : ℕ
  pub failures : ℕ
  pub left : Option (List ℕ)
  pub lost : ℕ

-- the counts, given how each kind of device counts
abbrev pub counts_of :
    {In Out : Type 0} → (In → ℕ) → (In → ℕ) → (In → Option (List ℕ)) → (Out → ℕ) → In → Out
    → Counts
counts_of calls failures remaining lost reader writer = record {
  calls = calls reader;
  failures = failures reader;
  left = remaining reader;
  lost = lost writer;
}

-- The relation of the counts before and after, according to how the function ended. `fault_of` says
-- which of its own faults is that of a device.
pub record KeepsCounts {T Fault : Type 0} (fault_of : StreamFault → Fault) (before after : Counts)
    (result : Result T Fault) : Type 0 where
  -- a fault of reading comes from a read that failed, and a fault of writing from a write
  pub read : IsErrOf result (fault_of Read) → RoseBy 1 before.failures after.failures
  pub write : IsErrOf result (fault_of Write) → RoseBy 1 before.lost after.lost
  -- after a fault of memory no call failed
  pub memory :
      IsErrOf result (fault_of Memory)
      → (after.failures ≡ before.failures) × (after.lost ≡ before.lost)
  -- at most `MOST_READS` reads are made; if the read limit ended the loop, that many were made, and
  -- each of them gave a byte
  pub most : after.calls ≤ before.calls + MOST_READS
  pub bound : IsErrOf result (fault_of Bound) → RoseBy MOST_READS before.calls after.calls
  pub gave : IsErrOf result (fault_of Bound) → Gave MOST_READS before.left after.left

-- a function that has no faults except those of devices
abbrev pub no_other_faults : StreamFault → StreamFault
no_other_faults fault = fault
