use Rattle.std.proofs.Common.{◌≡◌, ◌++◌, ◌<◌, ℕ, List, [], ◌∷◌, length, codes, sym, ap, ◌∙◌, arith, refl}
use Rattle.std.proofs.lemmas.Grind.{common_steps}
use Rattle.std.proofs.lemmas.List.{drop_all}
use Rattle.std.specs.List.{flat_map}
use Rattle.payd.specs.declared.metrics.Sample.{Sample}
use Rattle.payd.specs.Metrics.{comment_line, metric_words, sample_line, type_of}
use Rattle.payd.proofs.Tables.{after_two}
use Rattle.payd.proofs.metrics.push_metric.Goals as goal

-- a metric that has samples
words_of : (name help : List ℕ) (samples : List Sample) → 0 < length samples → metric_words name help samples ≡ (comment_line (codes "# HELP payd_") name help ++ comment_line (codes "# TYPE payd_") name (type_of name)) ++ flat_map (sample_line name) samples
words_of name help [] some = absurd (omega arith)
words_of name help (s ∷ ss) some = refl

pub returns : goal.returns
returns c =
    let some : 0 < length c.args.samples.now = grind (arith, common_steps) in
    let all = rw (drop_all c.loop-sample.sample-index c.args.samples.now c.loop-sample-test.false) at c.loop-sample.invariant in
    let second = rw c.type_of.ensures at c.in_ok-push_comment-2.ensures in
    after_two (sample_line c.args.name.now) c.args.samples.now c.args.text.now.items _ _ _ _ _ c.in_ok-push_comment.ensures second all ∙ ap (λ (t : List ℕ). c.args.text.now.items ++ t) (sym (words_of c.args.name.now c.args.help.now c.args.samples.now some))
