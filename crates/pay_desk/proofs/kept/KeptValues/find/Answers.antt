use Rattle.std.proofs.Common.{ℕ, ap, sym, ◌∙◌}
use Rattle.std.specs.Option.{option_copied, option_map}
use Rattle.std.specs.List.{find}
use Rattle.pay_desk.specs.Kept.{kept_under}
use Rattle.pay_desk.proofs.Finding.{found, has_id, kept_of}
use Rattle.pay_desk.proofs.kept.KeptValues.find.Goals as goal

pub returns-in_err-value : goal.returns-in_err-value
returns-in_err-value c =
    let payments = c.self.inside.values.keys in
    let by_id = ap (λ (id : ℕ). find (has_id id) payments) (sym c.of_id.ensures) ∙ sym c.in_err-value.ensures.key in
    ap option_copied c.from_residual.ensures ∙ sym (found c.args.id payments ∙ ap (option_map kept_of) by_id) ∙ ap (kept_under c.args.id) c.self.view_is

pub returns : goal.returns
returns c =
    let payments = c.self.inside.values.keys in
    let by_id = ap (λ (id : ℕ). find (has_id id) payments) (sym c.of_id.ensures) ∙ sym c.in_ok-value.ensures.key in
    sym (found c.args.id payments ∙ ap (option_map kept_of) by_id) ∙ ap (kept_under c.args.id) c.self.view_is
