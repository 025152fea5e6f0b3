use Rattle.std.proofs.Common.{◌≡◌, ◌∙◌, sym, subst, ap, ◌<◌, ◌++◌, length, get_or, Ok}
use Rattle.std.specs.Prelude.{OnOk}
use Rattle.pay_frame.specs.Frame.{FrameFields}
use Rattle.pay_frame.specs.Lent.{fields_of}
use Rattle.pay_link.specs.Opening.{OpenedFields, judgement}
use Rattle.pay_cli.specs.Lines.{check_words, opened_outcome, fronts_after}
use Rattle.pay_cli.proofs.check.push_judged.Goals as goal

pub push_opened-requires-clause-known : goal.push_opened-requires-clause-known
push_opened-requires-clause-known g c =
    let f = fields_of c.args.frame in
    let told = (c.judgement_opens.ensures c.args.keys.now f c.in-Ok.opened).0 (sym c.in-Ok.ensures) in
    let same : fields_of c.frame.result.now ≡ f = c.frame.ensures.value ∙ ap (λ (o : OpenedFields). o.frame) told.1 in
    subst (λ (h : FrameFields). h.from < length c.args.fronts.now) (sym same) (rw c.requires.members told.0.sender.0)

pub returns-in-Ok-clause-words : goal.returns-in-Ok-clause-words
returns-in-Ok-clause-words g c =
    let f = fields_of c.args.frame in
    let judged : judgement c.args.keys.now f ≡ Ok c.in-Ok.opened = sym c.in-Ok.ensures in
    let told = (c.judgement_opens.ensures c.args.keys.now f c.in-Ok.opened).0 judged in
    let same : fields_of c.frame.result.now ≡ f = c.frame.ensures.value ∙ ap (λ (o : OpenedFields). o.frame) told.1 in
    rw judged (subst (λ (h : FrameFields). OnOk c.push_opened.result (c.push_opened.new.out.items ≡ c.args.out.now.items ++ check_words h (opened_outcome (get_or c.args.fronts.now h.from 0) h h.body.kind))) same c.push_opened.ensures.words)

pub returns-in-Ok-clause-fronts : goal.returns-in-Ok-clause-fronts
returns-in-Ok-clause-fronts g c =
    let f = fields_of c.args.frame in
    let judged : judgement c.args.keys.now f ≡ Ok c.in-Ok.opened = sym c.in-Ok.ensures in
    let told = (c.judgement_opens.ensures c.args.keys.now f c.in-Ok.opened).0 judged in
    let same : fields_of c.frame.result.now ≡ f = c.frame.ensures.value ∙ ap (λ (o : OpenedFields). o.frame) told.1 in
    rw judged (subst (λ (h : FrameFields). OnOk c.push_opened.result (c.push_opened.new.fronts ≡ fronts_after c.args.fronts.now h (opened_outcome (get_or c.args.fronts.now h.from 0) h h.body.kind))) same c.push_opened.ensures.fronts)
