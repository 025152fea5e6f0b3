-- Starts in a group of four for the worked examples of a rollback check.
use Rattle.std.specs.Prelude.{ℕ, List, [], ◌∷◌, Option, Some, None}
use Rattle.pay_frame.specs.declared.body.Kind.TheVariants.{Send, Echo, Ready}
use Rattle.pay_channel.specs.History.{delivered_at}
use Rattle.pay_node.specs.Comparing.{ComparingFields}
use Rattle.pay_world.specs.Setting.{group_at}
use Rattle.pay_world.specs.Actions.{Action}
use Rattle.pay_world.specs.Examples.{A, of_3, setting_of_four}
use Rattle.pay_laws.specs.Restarts.{Happens, history_by_steps}
use Rattle.pay_laws.specs.Challenges.{Happening, Steps, Claims, Notes, MemberStart}
use Rattle.pay_laws.specs.Challenges.{steps_in}

abbrev pub acts : Action → Happening
acts d = Steps (Happens d)

-- Member 3 sends A to members 0 and 1, and they echo it. Member 1 is READY for it, member 3 too,
-- and member 0 delivers it.
abbrev pub delivers_a : List Happening
delivers_a =
    acts (of_3 Send 0 3 0 A) ∷ acts (of_3 Send 1 3 0 A)
    ∷ acts (of_3 Echo 1 0 0 A) ∷ acts (of_3 Echo 1 3 1 A)
    ∷ acts (of_3 Echo 0 1 0 A) ∷ acts (of_3 Ready 0 1 1 A) ∷ acts (of_3 Ready 0 3 1 A)
    ∷ []

-- Then member 3 starts with the nonce 7. Members 0 and 1 claim that they accepted two bodies from
-- it.
abbrev pub new_claims : MemberStart
new_claims =
    record {
      before = delivers_a;
      member = 3;
      nonces = 7 ∷ [];
      after = Claims 0 3 7 ∷ Claims 1 3 7 ∷ Notes 3 0 7 2 ∷ Notes 3 1 7 2 ∷ [];
    }

-- Members 0 and 1 claimed on 7 before they accepted anything from member 3, and somebody recorded
-- these claims. Later member 3 starts with 7 again, and they are replayed to it.
abbrev pub recorded_claims : MemberStart
recorded_claims =
    record {
      before = Claims 0 3 7 ∷ Claims 1 3 7 ∷ delivers_a;
      member = 3;
      nonces = 7 ∷ [];
      after = Notes 3 0 7 0 ∷ Notes 3 1 7 0 ∷ [];
    }

-- member 3 began with `sent` sent bodies, and compares itself with claims of `taken` by 0 and 1
abbrev pub began_with : ℕ → ℕ → ComparingFields
began_with sent taken =
    record {
      members = 4;
      faults = 1;
      sent = sent;
      claims = Some taken ∷ Some taken ∷ None ∷ None ∷ [];
    }

-- what member 0 has delivered under number 0 of account 3 by the start
abbrev pub delivered_by_0 : MemberStart → Option (List ℕ)
delivered_by_0 t =
    delivered_at (group_at setting_of_four 0)
    (history_by_steps setting_of_four (steps_in t.before) 0) 3 0
