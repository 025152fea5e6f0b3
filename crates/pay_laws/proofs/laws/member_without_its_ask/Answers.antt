use Rattle.std.proofs.Common.{◌≡◌, ℕ, List, [], ◌∷◌, slice_get, Option, None, Some, refl, sym, ap, ◌∙◌, arith, append-nil}
use Rattle.pay_echo.specs.Broadcast.{value_of, value_if_send, echoed_by, readied_by, first_known, size, is_for, echoed, echo_of, echo_set, other_ready_of, other_ready_set, may_ready, readied, ready_of, ready_set, may_deliver, delivered}
use Rattle.pay_channel.specs.Asked.{asked_values}
use Rattle.pay_channel.specs.History.{asks, votes_in, votes, known_from, listed_values, delivered_at, list_of}
use Rattle.pay_channel.specs.Taken.{taken_bodies}
use Rattle.pay_world.specs.Examples.{A, B, setting_of_four}
use Rattle.pay_laws.specs.Restarts.{history_by_steps}
use Rattle.pay_laws.specs.Examples.{without_its_ask, own_list, own_asks}
use Rattle.pay_laws.proofs.laws.member_without_its_ask.Goals as goal

abbrev first_byte : Option (List ℕ) → ℕ
first_byte None = 0
first_byte (Some []) = 0
first_byte (Some (x ∷ xs)) = x

two_bytes : (x y : ℕ) → x ≡ y → x ≡ 66 → y ≡ 65 → ⊥
two_bytes x y same p q = omega arith

two_values : Some B ≡ Some A → ⊥
two_values same = two_bytes (first_byte (Some B)) (first_byte (Some A)) (ap first_byte same) refl refl

own_value : slice_get (own_list without_its_ask) 0 ≡ Some A
unfolding value_of value_if_send echoed_by readied_by first_known size is_for echoed echo_of echo_set other_ready_of other_ready_set may_ready readied ready_of ready_set may_deliver delivered asks votes_in votes known_from listed_values delivered_at list_of taken_bodies history_by_steps
own_value = refl

own_ask : slice_get (own_asks without_its_ask) 0 ≡ Some B
unfolding asks asked_values taken_bodies history_by_steps
own_ask = refl

pub returns-clause-list : goal.returns-clause-list
unfolding value_of value_if_send echoed_by readied_by first_known size is_for echoed echo_of echo_set other_ready_of other_ready_set may_ready readied ready_of ready_set may_deliver delivered asks votes_in votes known_from listed_values delivered_at list_of taken_bodies history_by_steps
returns-clause-list c = refl

pub returns-clause-asked : goal.returns-clause-asked
unfolding asks asked_values taken_bodies history_by_steps
returns-clause-asked c = refl

pub returns-clause-evidence : goal.returns-clause-evidence
returns-clause-evidence c = record {
  before = history_by_steps setting_of_four without_its_ask 0;
  earlier = record { rest = []; is = sym (append-nil (history_by_steps setting_of_four without_its_ask 0)) };
  seq = 0;
  value = A;
  listed = own_value;
  unasked = λ asked. two_values (sym own_ask ∙ asked);
}
