use Rattle.std.proofs.Common.{length, ap, sym, ◌∙◌, arith}
use Rattle.pay_audit.proofs.Rows.{so_many}
use Rattle.pay_audit.proofs.exported.OwnerList.len.Goals as goal

pub returns-clause-value : goal.returns-clause-value
returns-clause-value c =
    let l = c.self.inside in
    c.len.ensures ∙ l.ends.ok.0 ∙ sym (so_many 0 l.bytes.items l.ends.items) ∙ ap length c.self.view_is

pub returns-clause-limit : goal.returns-clause-limit
returns-clause-limit c =
    let l = c.self.inside in
    omega (arith, c.self.invariant.0, so_many 0 l.bytes.items l.ends.items, ap length c.self.view_is)
