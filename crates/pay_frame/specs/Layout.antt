-- How `Bytes` are stored. No public clause cites this module.
use Rattle.std.specs.Prelude.{ℕ, ◌≤◌, List, take}
use Rattle.pay_frame.specs.declared.body.Layout.{Layout}
use Rattle.pay_frame.specs.declared.body.Layout.TheVariants.{Short, Long}
use Rattle.pay_frame.specs.declared.body.TheConstants.{MOST_SHORT}

abbrev pub bytes_in : Layout → List ℕ
bytes_in (Short len bytes) = take len bytes
bytes_in (Long bytes) = bytes.value.items

abbrev pub IsShortEnough : Layout → Type 0
IsShortEnough (Short len bytes) = len ≤ MOST_SHORT
IsShortEnough (Long bytes) = Unit {0}
