use Rattle.std.proofs.Common.{◌≡◌, ◌≢◌, ℕ, zero, suc, ◌<◌, length, refl, arith, true≢false}
use Rattle.pay_echo.specs.Broadcast.{value_of, value_if_send, echoed_by, readied_by, first_known, size, is_for, echoed, echo_of, echo_set, other_ready_of, other_ready_set, may_ready, readied, ready_of, ready_set, may_deliver, delivered}
use Rattle.pay_channel.specs.History.{asks, votes_in, votes, says, out, delivered_at}
use Rattle.pay_channel.specs.Taken.{taken_bodies, next}
use Rattle.pay_world.specs.Setting.{group_at, IsCorrect, HasFewFaulty}
use Rattle.pay_world.specs.Actions.{history_by}
use Rattle.pay_world.specs.Examples.{setting_of_four, with_a_liar}
use Rattle.pay_world.proofs.examples.one_liar_of_four.Goals as goal

correct_below : (i : ℕ) → IsCorrect setting_of_four i → i < 3
correct_below zero correct = omega arith
correct_below (suc zero) correct = omega arith
correct_below (suc (suc zero)) correct = omega arith
correct_below (suc (suc (suc zero))) correct = absurd (true≢false correct.honest)
correct_below (suc (suc (suc (suc n)))) correct = let member : suc (suc (suc (suc n))) < 4 = correct.member in absurd (omega arith)

all_taken : (i j : ℕ) → i < 3 → j < 3 → i ≢ j → next j (history_by setting_of_four with_a_liar i) ≡ length (out (group_at setting_of_four j) (history_by setting_of_four with_a_liar j))
unfolding value_of value_if_send echoed_by readied_by first_known size is_for echoed echo_of echo_set other_ready_of other_ready_set may_ready readied ready_of ready_set may_deliver delivered asks votes_in votes says out delivered_at taken_bodies history_by
all_taken zero zero p q differ = absurd (differ refl)
all_taken zero (suc zero) p q differ = refl
all_taken zero (suc (suc zero)) p q differ = refl
all_taken zero (suc (suc (suc n))) p q differ = absurd (omega arith)
all_taken (suc zero) zero p q differ = refl
all_taken (suc zero) (suc zero) p q differ = absurd (differ refl)
all_taken (suc zero) (suc (suc zero)) p q differ = refl
all_taken (suc zero) (suc (suc (suc n))) p q differ = absurd (omega arith)
all_taken (suc (suc zero)) zero p q differ = refl
all_taken (suc (suc zero)) (suc zero) p q differ = refl
all_taken (suc (suc zero)) (suc (suc zero)) p q differ = absurd (differ refl)
all_taken (suc (suc zero)) (suc (suc (suc n))) p q differ = absurd (omega arith)
all_taken (suc (suc (suc n))) j p q differ = absurd (omega arith)

few : HasFewFaulty setting_of_four
unfolding size
few =
    let one : size 4 setting_of_four.faulty ≡ 1 = refl in
    record { few = omega arith; many = omega arith }

pub returns : goal.returns
unfolding value_of value_if_send echoed_by readied_by first_known size is_for echoed echo_of echo_set other_ready_of other_ready_set may_ready readied ready_of ready_set may_deliver delivered asks votes_in votes says out delivered_at taken_bodies history_by
returns c =
    record {
      few = few;
      genuine = (c.forged_is_told.ensures.none setting_of_four with_a_liar).0 refl;
      taken = record { each = λ i j ci cj differ. all_taken i j (correct_below i ci) (correct_below j cj) differ };
      zero = refl;
      one = refl;
      two = refl;
    }
