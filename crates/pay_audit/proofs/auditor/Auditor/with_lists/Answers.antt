use Rattle.std.proofs.Common.{rules, arith, [], ◌∷◌, ◌++◌, Some, length-append, unwrap_or, ap, ap₂, subst, sym, ◌∙◌}
use Rattle.std.specs.Prelude.{IsTrue}
use Rattle.pay_link.specs.Genesis.{GenesisFields}
use Rattle.pay_audit.specs.Auditor.{HasComparedBy}
use Rattle.pay_audit.specs.Export.{ExportFields}
use Rattle.pay_audit.proofs.Taking.{first_with_genesis, found_with, nothing_before}
use Rattle.pay_audit.proofs.auditor.Auditor.with_lists.Goals as goal
use Rattle.pay_audit.proofs.auditor.Auditor.with_lists.Goals.{then-is_nothing+in_ok-comparison, else-is_nothing}

pub returns-clause-taken : goal.returns-clause-taken
returns-clause-taken c =
    let self = c.args.self in
    let e = c.args.export.now in
    let now = c.args.wrong in
    let ens = c.requires.wrong in
    λ exports h. record {
      taken = omega (arith, h.taken, length-append exports (e ∷ []));
      genesis =
          ap (λ (g : GenesisFields). Some g) (c.in_ok-first.ensures ∙ ap₂ unwrap_or h.genesis (ap (λ (x : ExportFields). x.genesis) c.export.view_is))
          ∙ first_with_genesis exports e;
      wrong = found_with exports e self.genesis self.taken self.wrong now h.wrong h.genesis h.taken ens.genesis ens.front ens.balance;
      lists = λ nothing.
          (let before = nothing_before exports e self.genesis self.taken self.wrong now h.wrong h.genesis h.taken ens.genesis ens.front ens.balance nothing in
          elim c.if-is_nothing.branch [
            | then-is_nothing+in_ok-comparison w ↦
                subst (λ comparison. HasComparedBy (exports ++ e ∷ []) comparison) (sym w.comparison-is)
                (w.in_ok-comparison.ensures exports e (h.lists before)
                (sym (ap (λ (x : ExportFields). x.lists) c.export.view_is) ∙ sym w.as_slice.ensures.value))
            | else-is_nothing w ↦ absurd (let yes = subst IsTrue w.if-is_nothing.false (c.is_nothing.ensures.1 nothing) in search rules)
          ]);
    }
