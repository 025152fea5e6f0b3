use Rattle.std.proofs.Common.{ℕ, List, ap, map, ◌∙◌, ◌∷◌, [], ◌++◌, arith}
use Rattle.std.proofs.lemmas.Grind.{common_steps}
use Rattle.pay_desk.specs.declared.kept.ById.{ById}
use Rattle.pay_desk.specs.Kept.{kept_under}
use Rattle.pay_desk.proofs.Finding.{kept_behind, kept_of}
use Rattle.pay_desk.proofs.kept.KeptValues.ask.Goals as goal

pub returns-clause-kept : goal.returns-clause-kept
returns-clause-kept g c =
    let payment : ById = record { kept = record { id = c.args.id; value = c.in_ok-copy.copy; seq = c.in_ok-seq.seq } } in
    ap (map kept_of) c.in-Ok.ensures.keys
    ∙ kept_behind c.self.inside.values.keys c.reserve.new.self.keys payment c.reserve.ensures.keys
    (ap (kept_under c.args.id) c.self.view_is ∙ c.requires.fresh)
    ∙ ap (λ ks. ks ++ payment.kept ∷ []) c.self.view_is
    ∙ ap (λ (v : List ℕ). c.args.self.now ++ record { id = c.args.id; value = v; seq = c.in_ok-seq.seq } ∷ []) c.in_ok-copy.ensures.value

pub returns-clause-replied : goal.returns-clause-replied
returns-clause-replied g c = grind (arith, common_steps)

pub returns-in_err-seq-clause-kept : goal.returns-in_err-seq-clause-kept
returns-in_err-seq-clause-kept g c = grind (arith, common_steps)
