use Rattle.std.proofs.Common.{◌≡◌, ◌≢◌, ℕ, zero, suc, ◌<◌, List, [], ◌∷◌, length, slice_get, Option, None, Some, refl, sym, ap, ◌∙◌, arith, true≢false}
use Rattle.pay_echo.specs.Broadcast.{value_of, value_if_send, echoed_by, readied_by, first_known, size, is_for, echoed, echo_of, echo_set, other_ready_of, other_ready_set, may_ready, readied, ready_of, ready_set, may_deliver, delivered}
use Rattle.pay_channel.specs.Asked.{asked_values}
use Rattle.pay_channel.specs.History.{Event, asks, votes_in, votes, says, out, known_from, listed_values, delivered_at, list_of}
use Rattle.pay_channel.specs.Taken.{taken_bodies, next}
use Rattle.pay_member.specs.Remembering.{HasForgotten}
use Rattle.pay_world.specs.Setting.{group_at, IsCorrect, HasFewFaulty}
use Rattle.pay_world.specs.Actions.{history_by}
use Rattle.pay_world.specs.Examples.{A, B, setting_of_four, by_a_forgetting_member}
use Rattle.pay_world.proofs.Lists.{prefix_same}
use Rattle.pay_world.proofs.examples.forgetting_member_of_four.Goals as goal

correct_below : (i : ℕ) → IsCorrect setting_of_four i → i < 3
correct_below zero correct = omega arith
correct_below (suc zero) correct = omega arith
correct_below (suc (suc zero)) correct = omega arith
correct_below (suc (suc (suc zero))) correct = absurd (true≢false correct.honest)
correct_below (suc (suc (suc (suc n)))) correct = let member : suc (suc (suc (suc n))) < 4 = correct.member in absurd (omega arith)

all_taken : (i j : ℕ) → i < 3 → j < 3 → i ≢ j → next j (history_by setting_of_four by_a_forgetting_member i) ≡ length (out (group_at setting_of_four j) (history_by setting_of_four by_a_forgetting_member j))
unfolding value_of value_if_send echoed_by readied_by first_known size is_for echoed echo_of echo_set other_ready_of other_ready_set may_ready readied ready_of ready_set may_deliver delivered asks votes_in votes says out delivered_at taken_bodies history_by
all_taken zero zero p q differ = absurd (differ refl)
all_taken zero (suc zero) p q differ = refl
all_taken zero (suc (suc zero)) p q differ = refl
all_taken zero (suc (suc (suc n))) p q differ = absurd (omega arith)
all_taken (suc zero) zero p q differ = refl
all_taken (suc zero) (suc zero) p q differ = absurd (differ refl)
all_taken (suc zero) (suc (suc zero)) p q differ = refl
all_taken (suc zero) (suc (suc (suc n))) p q differ = absurd (omega arith)
all_taken (suc (suc zero)) zero p q differ = refl
all_taken (suc (suc zero)) (suc zero) p q differ = refl
all_taken (suc (suc zero)) (suc (suc zero)) p q differ = absurd (differ refl)
all_taken (suc (suc zero)) (suc (suc (suc n))) p q differ = absurd (omega arith)
all_taken (suc (suc (suc n))) j p q differ = absurd (omega arith)

all_heard : (k : ℕ) → k < 3 → taken_bodies k (history_by setting_of_four by_a_forgetting_member 3) ≡ out (group_at setting_of_four k) (history_by setting_of_four by_a_forgetting_member k)
unfolding value_of value_if_send echoed_by readied_by first_known size is_for echoed echo_of echo_set other_ready_of other_ready_set may_ready readied ready_of ready_set may_deliver delivered asks votes_in votes says out delivered_at taken_bodies history_by
all_heard zero below = refl
all_heard (suc zero) below = refl
all_heard (suc (suc zero)) below = refl
all_heard (suc (suc (suc n))) below = absurd (omega arith)

few : HasFewFaulty setting_of_four
unfolding size
few =
    let one : size 4 setting_of_four.faulty ≡ 1 = refl in
    record { few = omega arith; many = omega arith }

abbrev first_byte : Option (List ℕ) → ℕ
first_byte None = 0
first_byte (Some []) = 0
first_byte (Some (x ∷ xs)) = x

two_bytes : (x y : ℕ) → x ≡ y → x ≡ 66 → y ≡ 65 → ⊥
two_bytes x y same p q = omega arith

two_values : Some B ≡ Some A → ⊥
two_values same = two_bytes (first_byte (Some B)) (first_byte (Some A)) (ap first_byte same) refl refl

own_list : slice_get (list_of (group_at setting_of_four 3) (history_by setting_of_four by_a_forgetting_member 3) 3) 0 ≡ Some A
unfolding value_of value_if_send echoed_by readied_by first_known size is_for echoed echo_of echo_set other_ready_of other_ready_set may_ready readied ready_of ready_set may_deliver delivered asks votes_in votes known_from listed_values delivered_at list_of taken_bodies history_by
own_list = refl

own_ask : slice_get (asked_values (history_by setting_of_four by_a_forgetting_member 3)) 0 ≡ Some B
unfolding asks asked_values taken_bodies history_by
own_ask = refl

evidence : HasForgotten (group_at setting_of_four 3) (history_by setting_of_four by_a_forgetting_member 3)
evidence =
    let history : List Event = history_by setting_of_four by_a_forgetting_member 3 in
    record {
      before = history;
      earlier = prefix_same history history refl;
      seq = 0;
      value = A;
      listed = own_list;
      unasked = λ asked. two_values (sym own_ask ∙ asked);
    }

pub returns : goal.returns
unfolding value_of value_if_send echoed_by readied_by first_known size is_for echoed echo_of echo_set other_ready_of other_ready_set may_ready readied ready_of ready_set may_deliver delivered asks votes_in votes says out known_from listed_values delivered_at list_of asked_values taken_bodies history_by
returns c =
    record {
      few = few;
      genuine = (c.forged_is_told.ensures.none setting_of_four by_a_forgetting_member).0 refl;
      taken = record { each = λ i j ci cj differ. all_taken i j (correct_below i ci) (correct_below j cj) differ };
      heard = λ k ck. all_heard k (correct_below k ck);
      listed = refl;
      asked = refl;
      evidence = evidence;
    }
