use Rattle.std.proofs.Common.{◌≤◌, Some, string_bytes, ap, sym, subst, ◌∙◌}
use Rattle.std.proofs.lemmas.Str.{IsUtf8-string_bytes}
use Rattle.serde_json.specs.Data.{depth}
use Rattle.serde_json.specs.Read.{max_depth}
use Rattle.serde_json.specs.Written.{compact_text, has_float}
use Rattle.pay_audit.specs.Export.{IsExport}
use Rattle.pay_audit.proofs.Text.{shallow, text_back, whole}
use Rattle.pay_audit.proofs.shown.shown_text.Goals as goal

pub returns-clause-text : goal.returns-clause-text
returns-clause-text c =
    let is = c.in_ok-value.ensures in
    c.in_ok-text.ensures.text (ap has_float is ∙ whole c.args.export.now) ∙ ap compact_text is

pub returns-clause-reads_back : goal.returns-clause-reads_back
returns-clause-reads_back c values =
    let e = c.args.export.now in
    let is = c.in_ok-value.ensures in
    let sound : IsExport e = subst IsExport c.export.view_is c.export.invariant in
    let flat = subst (λ d. depth d ≤ max_depth) (sym is) (shallow e) in
    text_back c.export_reads_back.ensures e (string_bytes c.in_ok-text.text) sound (IsUtf8-string_bytes c.in_ok-text.text)
    (c.in_ok-text.ensures.reads_back flat ∙ ap (λ d. Some d) is) values
