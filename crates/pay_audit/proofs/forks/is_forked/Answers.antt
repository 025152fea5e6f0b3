use Rattle.std.proofs.Common.{ℕ, List, Option, false, ap, ◌∙◌}
use Rattle.std.specs.List.{list_any}
use Rattle.std.specs.Option.{option_map_or}
use Rattle.pay_audit.specs.Findings.{lists_other}
use Rattle.pay_audit.proofs.forks.is_forked.Goals as goal

pub returns-in-Some : goal.returns-in-Some
returns-in-Some c =
    c.has_other.ensures
    ∙ ap (λ (value : Option (List ℕ)). option_map_or (λ v. list_any (lists_other c.args.owner c.args.seq v) c.args.group.now) value false) c.in-Some.ensures
