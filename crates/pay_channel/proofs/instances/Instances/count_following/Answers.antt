use Rattle.std.proofs.Common.{◌-◌, length, arith}
use Rattle.pay_channel.specs.History.{seqs, known_from}
use Rattle.pay_channel.specs.State.{meaning_in}
use Rattle.pay_channel.proofs.Counting.{counted_on, counted_up, counted_all}
use Rattle.pay_channel.proofs.instances.Instances.count_following.Goals as goal

pub loop-seq-init : goal.loop-seq-init
loop-seq-init g c = λ h. omega arith

pub loop-seq-preserved : goal.loop-seq-preserved
loop-seq-preserved g c = λ h.
    counted_on (λ x. x.now) c.delivered.result (λ s. (meaning_in h c.args.self.now c.args.owner s).delivered) c.args.from c.loop-seq.seq seqs (c.delivered.ensures h) c.loop-seq-test.true c.loop-seq.auto.seq
    (length (known_from (λ s. (meaning_in h c.args.self.now c.args.owner s).delivered) c.args.from (seqs - c.args.from))) c.if-is_none.ensures (c.loop-seq.invariant h)

pub returns-then-is_none : goal.returns-then-is_none
returns-then-is_none g c = λ h.
    counted_up (λ x. x.now) c.delivered.result (λ s. (meaning_in h c.args.self.now c.args.owner s).delivered) c.args.from c.loop-seq.seq seqs (c.delivered.ensures h) c.loop-seq-test.true c.loop-seq.auto.seq
    (length (known_from (λ s. (meaning_in h c.args.self.now c.args.owner s).delivered) c.args.from (seqs - c.args.from))) c.if-is_none.ensures (c.loop-seq.invariant h)

pub returns : goal.returns
returns g c = λ h.
    counted_all (λ s. (meaning_in h c.args.self.now c.args.owner s).delivered) c.args.from c.loop-seq.seq seqs
    (length (known_from (λ s. (meaning_in h c.args.self.now c.args.owner s).delivered) c.args.from (seqs - c.args.from))) c.loop-seq-test.false (c.loop-seq.auto.seq-end c.requires) (c.loop-seq.invariant h)
