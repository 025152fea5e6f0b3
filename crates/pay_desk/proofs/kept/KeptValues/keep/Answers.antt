use Rattle.std.proofs.Common.{ap, map, ◌∙◌, ◌∷◌, [], ◌++◌}
use Rattle.pay_desk.specs.declared.kept.ById.{ById}
use Rattle.pay_desk.specs.Kept.{kept_under}
use Rattle.pay_desk.proofs.Finding.{kept_behind, kept_of}
use Rattle.pay_desk.proofs.kept.KeptValues.keep.Goals as goal

pub returns-clause-kept : goal.returns-clause-kept
returns-clause-kept c =
    let payment : ById = record { kept = c.args.kept } in
    ap (map kept_of) c.in_ok-insert.ensures.keys
    ∙ kept_behind c.self.inside.values.keys c.reserve.new.self.keys payment c.reserve.ensures.keys
    (ap (kept_under c.args.kept.id) c.self.view_is ∙ c.requires)
    ∙ ap (λ ks. ks ++ payment.kept ∷ []) c.self.view_is
