use Rattle.std.proofs.Common.{◌≡◌, map, take}
use Rattle.serde_json.specs.View.{view}
use Rattle.pay_audit.specs.Exporting.{export_of, number_data}
use Rattle.pay_audit.proofs.exporting.balances_of.Given as goal

-- those of the accounts so far
abbrev pub invariant-loop-account : goal.invariant-loop-account
invariant-loop-account g l =
    map view l.balances.items ≡ map number_data (take l.account (export_of l.member).balances)
