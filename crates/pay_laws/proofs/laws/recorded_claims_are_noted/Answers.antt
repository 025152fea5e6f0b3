use Rattle.std.proofs.Common.{[], ◌∷◌, Contains, refl, arith}
use Rattle.pay_echo.specs.Broadcast.{value_of, value_if_send, echoed_by, readied_by, first_known, size, is_for, echoed, echo_of, echo_set, other_ready_of, other_ready_set, may_ready, readied, ready_of, ready_set, may_deliver, delivered}
use Rattle.pay_channel.specs.History.{asks, votes_in, votes, says, out, delivered_at}
use Rattle.pay_channel.specs.Taken.{taken_bodies}
use Rattle.pay_frame.specs.Frame.{BodyFields}
use Rattle.pay_world.specs.Examples.{setting_of_four}
use Rattle.pay_laws.specs.Restarts.{history_by_steps}
use Rattle.pay_laws.specs.Challenges.{Claims, all_around, IsUnforged}
use Rattle.pay_laws.specs.CheckExamples.{recorded_claims}
use Rattle.pay_laws.proofs.Splits.{each_from}
use Rattle.pay_laws.proofs.Recorded.{zero_is, fair_a, noted_two}
use Rattle.pay_laws.proofs.laws.recorded_claims_are_noted.Goals as goal

nothing_in : (body : BodyFields) → Contains [] body → ⊥
nothing_in body at = let below = at.1 in omega arith

pub returns-clause-fair : goal.returns-clause-fair
returns-clause-fair c = fair_a

pub returns-clause-unforged : goal.returns-clause-unforged
unfolding value_of value_if_send echoed_by readied_by first_known size is_for echoed echo_of echo_set other_ready_of other_ready_set may_ready readied ready_of ready_set may_deliver delivered asks votes_in votes says out delivered_at taken_bodies history_by_steps
returns-clause-unforged c = record {
  each = each_from (IsUnforged setting_of_four) [] (all_around recorded_claims) (
    tt,
    (
      tt,
      (
        tt,
        (
          tt,
          (
            tt,
            (
              tt,
              (
                tt,
                (
                  tt,
                  (
                    tt,
                    (
                      tt,
                      (
                        (λ correct. record { before = []; after = _; is = refl; exact = refl }),
                        ((λ correct. record { before = Claims 0 3 7 ∷ []; after = _; is = refl; exact = refl }), tt),
                      ),
                    ),
                  ),
                ),
              ),
            ),
          ),
        ),
      ),
    ),
  );
}

pub returns-clause-stale : goal.returns-clause-stale
returns-clause-stale c = λ fresh. fresh 0 7 zero_is (0, omega arith, refl) (0, omega arith, refl)

pub returns-clause-delivered : goal.returns-clause-delivered
unfolding value_of value_if_send echoed_by readied_by first_known size is_for echoed echo_of echo_set other_ready_of other_ready_set may_ready readied ready_of ready_set may_deliver delivered asks votes_in votes says out delivered_at taken_bodies history_by_steps
returns-clause-delivered c = refl

pub returns-clause-noted : goal.returns-clause-noted
returns-clause-noted c = noted_two recorded_claims 0 0 7 refl (0, omega arith, refl) (0, omega arith, refl) (1, omega arith, refl)

pub returns-clause-released : goal.returns-clause-released
returns-clause-released c = refl

pub returns-clause-lacking : goal.returns-clause-lacking
returns-clause-lacking c = λ taken. nothing_in _ taken.taken
