use Rattle.std.proofs.Common.{◌≡◌, [], ◌∷◌, ◌++◌, refl, arith}
use Rattle.std.proofs.lemmas.List.Elements.{All-contains, All-from_recursion}
use Rattle.pay_echo.specs.Broadcast.{value_of, value_if_send, echoed_by, readied_by, first_known, size, is_for, echoed, echo_of, echo_set, other_ready_of, other_ready_set, may_ready, readied, ready_of, ready_set, may_deliver, delivered}
use Rattle.pay_channel.specs.History.{asks, votes_in, votes, says, out, delivered_at}
use Rattle.pay_channel.specs.Taken.{taken_bodies}
use Rattle.pay_world.specs.Examples.{setting_of_four}
use Rattle.pay_laws.specs.Restarts.{history_by_steps}
use Rattle.pay_laws.specs.Challenges.{Starts, Claims, Notes, all_around, IsUnforged}
use Rattle.pay_laws.specs.CheckExamples.{delivers_a, new_claims}
use Rattle.pay_laws.proofs.Splits.{each_from}
use Rattle.pay_laws.proofs.Recorded.{IsStep, fair_a, noted_two}
use Rattle.pay_laws.proofs.laws.new_claims_are_noted.Goals as goal

pub returns-clause-few : goal.returns-clause-few
unfolding size
returns-clause-few c =
    let one : size 4 setting_of_four.faulty ≡ 1 = refl in
    record { few = omega arith; many = omega arith }

pub returns-clause-fair : goal.returns-clause-fair
returns-clause-fair c = fair_a

pub returns-clause-unforged : goal.returns-clause-unforged
unfolding value_of value_if_send echoed_by readied_by first_known size is_for echoed echo_of echo_set other_ready_of other_ready_set may_ready readied ready_of ready_set may_deliver delivered asks votes_in votes says out delivered_at taken_bodies history_by_steps
returns-clause-unforged c = record {
  each = each_from (IsUnforged setting_of_four) [] (all_around new_claims) (
    tt,
    (
      tt,
      (
        tt,
        (
          tt,
          (
            tt,
            (
              tt,
              (
                tt,
                (
                  tt,
                  (
                    tt,
                    (
                      tt,
                      (
                        (λ correct. record { before = delivers_a ++ Starts 3 (7 ∷ []) ∷ []; after = Claims 1 3 7 ∷ []; is = refl; exact = refl }),
                        ((λ correct. record { before = delivers_a ++ Starts 3 (7 ∷ []) ∷ Claims 0 3 7 ∷ []; after = Notes 3 0 7 2 ∷ []; is = refl; exact = refl }), tt),
                      ),
                    ),
                  ),
                ),
              ),
            ),
          ),
        ),
      ),
    ),
  );
}

pub returns-clause-fresh : goal.returns-clause-fresh
returns-clause-fresh c = λ p number correct drawn before.
    All-contains IsStep delivers_a (Claims p 3 number) (All-from_recursion IsStep delivers_a (tt, (tt, (tt, (tt, (tt, (tt, (tt, tt)))))))) before

pub returns-clause-delivered : goal.returns-clause-delivered
unfolding value_of value_if_send echoed_by readied_by first_known size is_for echoed echo_of echo_set other_ready_of other_ready_set may_ready readied ready_of ready_set may_deliver delivered asks votes_in votes says out delivered_at taken_bodies history_by_steps
returns-clause-delivered c = refl

pub returns-clause-noted : goal.returns-clause-noted
returns-clause-noted c = noted_two new_claims 2 2 7 refl (0, omega arith, refl) (2, omega arith, refl) (3, omega arith, refl)

pub returns-clause-released : goal.returns-clause-released
returns-clause-released c = refl

pub returns-clause-noted_by_old : goal.returns-clause-noted_by_old
returns-clause-noted_by_old c = noted_two new_claims 0 2 7 refl (0, omega arith, refl) (2, omega arith, refl) (3, omega arith, refl)

pub returns-clause-lost : goal.returns-clause-lost
returns-clause-lost c = refl
