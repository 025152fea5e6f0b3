use Rattle.std.proofs.Common.{◌∙◌, refl}
use Rattle.payd.specs.Metrics.{metric_words, samples_of}
use Rattle.payd.proofs.Tables.{one_row_more}
use Rattle.payd.proofs.metrics.metrics_text.Goals as goal

pub loop-figure-init : goal.loop-figure-init
loop-figure-init c = rw c.new-text.ensures.items refl

pub loop-figure-preserved : goal.loop-figure-preserved
loop-figure-preserved c =
    let samples = c.as_slice.ensures.value ∙ c.in_ok-samples.ensures in
    one_row_more (λ row. metric_words row.1.now row.2.now (samples_of c.args.node.now c.args.own.now row.0)) _ c.loop-figure.figure-index _ c.loop-figure.text.items c.push_metric.new.text.items _ c.loop-figure-test.true (rw samples at c.in_ok-push_metric.ensures) c.loop-figure.invariant
