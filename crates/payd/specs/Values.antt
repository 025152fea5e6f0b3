-- How many values of an account are used.
use Rattle.std.specs.Prelude.{ℕ, ◌*◌, nat_le, if◌then◌else◌}
use Rattle.pay_frame.specs.declared.limits.TheConstants.{SEQS}

-- the greatest of 90 and 99 percent that is used of an account's values, or 0
abbrev pub percent_used : ℕ → ℕ
percent_used used =
    if nat_le (99 * SEQS) (100 * used) then 99
    else if nat_le (90 * SEQS) (100 * used) then 90
    else 0
