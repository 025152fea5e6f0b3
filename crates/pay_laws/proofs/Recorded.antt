-- What the worked examples of the rollback check share.
use Rattle.std.proofs.Common.{◌≡◌, ℕ, zero, suc, [], ◌∷◌, slice_get, None, Some, Contains, refl, subst, arith}
use Rattle.std.specs.Prelude.{⊤}
use Rattle.pay_echo.specs.Broadcast.{value_of, value_if_send, echoed_by, readied_by, first_known, size, is_for, echoed, echo_of, echo_set, other_ready_of, other_ready_set, may_ready, readied, ready_of, ready_set, may_deliver, delivered}
use Rattle.pay_channel.specs.History.{asks, votes_in, votes, says, out, delivered_at}
use Rattle.pay_channel.specs.Taken.{taken_bodies}
use Rattle.pay_world.specs.Setting.{IsCorrect}
use Rattle.pay_world.specs.Examples.{setting_of_four}
use Rattle.pay_laws.specs.Restarts.{AreFair, IsFair, history_by_steps}
use Rattle.pay_laws.specs.CheckExamples.{delivers_a, began_with}
use Rattle.pay_laws.specs.Challenges.{Happening, Steps, Starts, Claims, Notes, MemberStart, steps_in, ComparesNoted, HasNoted}
use Rattle.pay_laws.proofs.Splits.{each_from}

pub zero_is : IsCorrect setting_of_four 0
zero_is = record { member = omega arith; honest = refl }

pub three_is_not : IsCorrect setting_of_four 3 → ⊥
three_is_not correct = let clash = correct.honest in absurd cc

-- a step of the group
abbrev pub IsStep : Happening → Type 0
IsStep (Steps s) = ⊤
IsStep (Starts m numbers) = ⊤
IsStep (Claims p m number) = ⊥
IsStep (Notes m p number taken) = ⊤

-- claims of members 0 and 1 were noted
pub noted_two : (t : MemberStart) (sent taken number : ℕ) → t.member ≡ 3 → Contains t.nonces number → Contains t.after (Notes t.member 0 number taken) → Contains t.after (Notes t.member 1 number taken)
    → ComparesNoted setting_of_four t (began_with sent taken)
noted_two t sent taken number three drawn first second = record {
  members = refl;
  faults = refl;
  one_for_each = refl;
  noted = λ p some held. go p some held;
} where
  go : (p some : ℕ) → slice_get (Some taken ∷ Some taken ∷ None ∷ None ∷ []) p ≡ Some (Some some) → HasNoted t p some
  go zero some held =
      let same : taken ≡ some = cc in
      record { other = λ is. omega (arith, is, three); nonce = number; drawn = drawn; noted = subst (λ (n : ℕ). Contains t.after (Notes t.member 0 number n)) same first }
  go (suc zero) some held =
      let same : taken ≡ some = cc in
      record { other = λ is. omega (arith, is, three); nonce = number; drawn = drawn; noted = subst (λ (n : ℕ). Contains t.after (Notes t.member 1 number n)) same second }
  go (suc (suc zero)) some held = absurd cc
  go (suc (suc (suc zero))) some held = absurd cc
  go (suc (suc (suc (suc p)))) some held = absurd cc

pub fair_a : AreFair setting_of_four (steps_in delivers_a)
unfolding value_of value_if_send echoed_by readied_by first_known size is_for echoed echo_of echo_set other_ready_of other_ready_set may_ready readied ready_of ready_set may_deliver delivered asks votes_in votes says out delivered_at taken_bodies history_by_steps
fair_a = record {
  each = each_from (IsFair setting_of_four) [] (steps_in delivers_a) (
    (λ to from. absurd (three_is_not from)),
    (
      (λ to from. absurd (three_is_not from)),
      (
        (λ to from. refl),
        (
          (λ to from. absurd (three_is_not from)),
          ((λ to from. refl), ((λ to from. refl), ((λ to from. absurd (three_is_not from)), tt))),
        ),
      ),
    ),
  );
}
