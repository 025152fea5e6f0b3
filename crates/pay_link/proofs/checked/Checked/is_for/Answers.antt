use Rattle.std.proofs.Common.{rules}
use Rattle.pay_link.proofs.checked.Checked.is_for.Goals as goal

pub returns-then-owner-members : goal.returns-then-owner-members
returns-then-owner-members c = search rules
