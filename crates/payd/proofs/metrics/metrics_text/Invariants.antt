use Rattle.std.proofs.Common.{◌≡◌, ◌++◌, drop}
use Rattle.std.specs.List.{flat_map}
use Rattle.payd.specs.Metrics.{metric_words, metrics_words, samples_of}
use Rattle.payd.proofs.metrics.metrics_text.Given as goal

-- with the metrics that are to come the text is that of all
abbrev pub invariant-loop-figure : goal.invariant-loop-figure
invariant-loop-figure l =
    l.text.items ++ flat_map (λ row. metric_words row.1.now row.2.now (samples_of l.node l.own row.0)) (drop l.figure-index l.figure-items) ≡ metrics_words l.node l.own
