use Rattle.std.proofs.Common.{◌-◌, inl, inr, arith}
use Rattle.pay_channel.specs.History.{seqs}
use Rattle.pay_channel.specs.State.{meaning_in}
use Rattle.pay_channel.proofs.Counting.{none_follows}
use Rattle.pay_channel.proofs.instances.Instances.count_behind.Goals as goal

pub returns-then-seq-from : goal.returns-then-seq-from
returns-then-seq-from g c = omega (arith, c.count_following.ensures c.args.group)

pub returns-else-delivers : goal.returns-else-delivers
returns-else-delivers g c =
    none_follows (λ s. (meaning_in c.args.group c.args.self.now c.args.owner s).delivered) c.args.from (seqs - c.args.from)
    (λ more. c.requires.none (omega (arith, more))
    (λ same. elim c.else-delivers.either [ inl other ↦ absurd (omega (arith, other.1, same)) | inr quiet ↦ quiet ]))
