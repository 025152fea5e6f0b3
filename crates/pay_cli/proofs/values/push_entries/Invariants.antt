use Rattle.std.proofs.Common.{◌≡◌, ◌++◌, take}
use Rattle.std.specs.List.{flat_map}
use Rattle.pay_book.specs.Payment.{entries_in}
use Rattle.pay_cli.specs.Values.{payee_and_amount}
use Rattle.pay_cli.proofs.values.push_entries.Given as goal

-- those of the entries so far
abbrev pub invariant-loop-place : goal.invariant-loop-place
invariant-loop-place l =
    l.out.items ≡ l.fn.out.items ++ flat_map payee_and_amount (take l.place (entries_in l.accounts l.owner l.value))
