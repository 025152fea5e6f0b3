use Rattle.std.proofs.Common.{◌≡◌, ◌++◌, drop}
use Rattle.std.specs.List.{flat_map}
use Rattle.payd.specs.Metrics.{sample_line}
use Rattle.payd.proofs.metrics.push_metric.Given as goal

-- with the samples that are to come the text is that of all
abbrev pub invariant-loop-sample : goal.invariant-loop-sample
invariant-loop-sample l =
    l.text.items ++ flat_map (sample_line l.name) (drop l.sample-index l.samples) ≡ l.initial.text.items ++ flat_map (sample_line l.name) l.samples
