use Rattle.std.proofs.Common.{◌≡◌, ℕ, length, refl, ap, arith}
use Rattle.pay_channel.specs.History.{asks}
use Rattle.pay_channel.specs.Taken.{taken_bodies}
use Rattle.pay_member.specs.Events.{events}
use Rattle.pay_world.specs.Actions.{history_by, actions_in}
use Rattle.pay_world.specs.Examples.{setting_of_four, stored_at_1}
use Rattle.pay_world.proofs.examples.stored_history_of_four.Goals as goal

-- two events are held, and one of them is taken
early : events (stored_at_1 1) ≡ history_by setting_of_four (actions_in 1 (stored_at_1 1)) 1 → ⊥
unfolding asks taken_bodies events history_by actions_in
early same =
    let lengths : ◌≡◌ {A = ℕ} 2 1 = ap length same in
    absurd (omega arith)

pub returns : goal.returns
unfolding asks taken_bodies events history_by actions_in
returns c = record { actions = refl; same = refl; early = early }
