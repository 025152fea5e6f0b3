use Rattle.std.proofs.Common.{◌≡◌, ◌+◌, ◌-◌, length}
use Rattle.pay_echo.specs.Broadcast.{Group}
use Rattle.pay_channel.specs.History.{seqs, known_from}
use Rattle.pay_channel.specs.State.{meaning_in}
use Rattle.pay_channel.proofs.instances.Instances.count_following.Given as goal

abbrev pub invariant-loop-seq : goal.invariant-loop-seq
invariant-loop-seq g l =
    (h : Group)
    → (l.seq - l.from) + length (known_from (λ s. (meaning_in h l.self l.owner s).delivered) l.seq (seqs - l.seq))
    ≡ length (known_from (λ s. (meaning_in h l.self l.owner s).delivered) l.from (seqs - l.from))
