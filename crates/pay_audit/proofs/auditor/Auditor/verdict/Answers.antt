use Rattle.std.proofs.Common.{rules, ◌≡◌, None, unwrap_or, ap, sym, ◌∙◌}
use Rattle.pay_audit.specs.declared.auditing.Verdict.TheVariants.{Clean}
use Rattle.pay_audit.proofs.Taking.{of_fork}
use Rattle.pay_audit.proofs.auditor.Auditor.verdict.Goals as goal

pub returns : goal.returns
returns c =
    let w = c.args.self.now.wrong in
    let g : w.genesis ≡ None = search rules in
    let f : w.front ≡ None = search rules in
    let b : w.balance ≡ None = search rules in
    λ exports h. c.unwrap_or.ensures ∙ ap (λ o. unwrap_or o Clean) (c.fork.ensures exports (h.lists (record { genesis = g; front = f; balance = b })))
    ∙ of_fork exports (sym h.wrong.genesis ∙ g) (sym (h.wrong.front g) ∙ f) (sym (h.wrong.balance g f) ∙ b)
