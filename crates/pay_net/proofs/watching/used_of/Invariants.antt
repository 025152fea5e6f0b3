use Rattle.std.proofs.Common.{◌≡◌, ◌≢◌, ◌<◌, ◌≤◌, ◌-◌, ℕ, suc}
use Rattle.pay_frame.specs.declared.limits.TheConstants.{SEQS}
use Rattle.pay_member.specs.Events.{events}
use Rattle.pay_member.specs.Reading.{state_of}
use Rattle.pay_member.specs.declared.question.PaymentState.TheVariants.{Unknown}
use Rattle.pay_net.proofs.watching.used_of.Given as goal

-- what is below is known of, and what is from there on isn't
abbrev pub invariant-loop-used : goal.invariant-loop-used
invariant-loop-used l =
    record {
      within : l.used ≤ l.unknown;
      few : l.unknown ≤ SEQS;
      last : (seq : ℕ) → l.used ≡ suc seq → state_of l.member.genesis l.member.keys.own (events l.member.history) l.member.keys.own seq ≢ Unknown;
      next : l.unknown < SEQS → state_of l.member.genesis l.member.keys.own (events l.member.history) l.member.keys.own l.unknown ≡ Unknown;
    }

abbrev pub decreases-loop-used : goal.decreases-loop-used
decreases-loop-used l = l.unknown - l.used
