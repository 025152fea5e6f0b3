-- Steps of a group of four for the worked examples.
use Rattle.std.specs.Prelude.{ℕ, List, [], ◌∷◌, ◌++◌}
use Rattle.pay_frame.specs.declared.body.Kind.TheVariants.{Send, Echo, Ready}
use Rattle.pay_channel.specs.History.{list_of}
use Rattle.pay_channel.specs.Asked.{asked_values}
use Rattle.pay_world.specs.Setting.{group_at}
use Rattle.pay_world.specs.Actions.{Asks}
use Rattle.pay_world.specs.Examples.{A, B, of_0, setting_of_four}
use Rattle.pay_laws.specs.Restarts.{Step, Happens, Restarts, history_by_steps}

-- member 0 submits A
abbrev pub ask_steps : List Step
ask_steps = Happens (Asks 0 A) ∷ []

-- then member 1 receives it
abbrev pub told_steps : List Step
told_steps = ask_steps ++ Happens (of_0 Send 1 0 0 A) ∷ []

-- Member 0 starts again with nothing, submits B, and member 2 receives it.
abbrev pub asked_again : List Step
asked_again = Restarts 0 0 ∷ Happens (Asks 0 B) ∷ Happens (of_0 Send 2 0 0 B) ∷ []

-- Members 1 and 2 echo A and are READY for it.
abbrev pub settled_steps : List Step
settled_steps =
    told_steps ++ Happens (of_0 Send 2 0 0 A)
    ∷ Happens (of_0 Echo 1 0 1 A) ∷ Happens (of_0 Echo 1 2 0 A)
    ∷ Happens (of_0 Echo 2 0 1 A) ∷ Happens (of_0 Echo 2 1 0 A)
    ∷ []

-- Member 0 receives what they sent, from the first frame on.
abbrev pub heard_steps : List Step
heard_steps =
    Happens (of_0 Echo 0 1 0 A) ∷ Happens (of_0 Ready 0 1 1 A)
    ∷ Happens (of_0 Echo 0 2 0 A) ∷ Happens (of_0 Ready 0 2 1 A)
    ∷ []

-- Before that it starts again with its value,
abbrev pub with_its_ask : List Step
with_its_ask = settled_steps ++ Restarts 0 1 ∷ heard_steps

-- or with nothing, and submits B.
abbrev pub without_its_ask : List Step
without_its_ask = settled_steps ++ Restarts 0 0 ∷ Happens (Asks 0 B) ∷ heard_steps

-- the list of account 0 at member 0, and the values that member 0 submitted
abbrev pub own_list : List Step → List (List ℕ)
own_list steps = list_of (group_at setting_of_four 0) (history_by_steps setting_of_four steps 0) 0

abbrev pub own_asks : List Step → List (List ℕ)
own_asks steps = asked_values (history_by_steps setting_of_four steps 0)
