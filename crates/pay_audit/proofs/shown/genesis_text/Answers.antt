use Rattle.std.proofs.Common.{ap, ◌∙◌}
use Rattle.serde_json.specs.Written.{compact_text, has_float}
use Rattle.pay_audit.proofs.Text.{genesis_whole}
use Rattle.pay_audit.proofs.shown.genesis_text.Goals as goal

pub returns : goal.returns
returns c =
    let is = c.in_ok-value.ensures in
    c.in_ok-text.ensures.text (ap has_float is ∙ genesis_whole c.args.genesis.now) ∙ ap compact_text is
