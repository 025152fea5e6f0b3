-- A group, values and a history for the worked example.
use Rattle.std.specs.Prelude.{ℕ, List, [], ◌∷◌, ◌++◌}
use Rattle.pay_frame.specs.declared.body.Kind.TheVariants.{Send, Ready}
use Rattle.pay_echo.specs.Broadcast.{Group}
use Rattle.pay_channel.specs.History.{Event, Ask, From, body_of}

abbrev pub A : List ℕ
A = 65 ∷ []

abbrev pub X : List ℕ
X = 88 ∷ []

abbrev pub Y : List ℕ
Y = 89 ∷ []

-- member 0 of four, and up to one of them may be faulty
abbrev pub four : Group
four = record { members = 4; faults = 1; own = 0 }

-- two members' READYs for number 1 of account 3, then for number 0, a SEND of another member, a
-- submitted value
abbrev pub late_first_number : List Event
late_first_number =
    From 1 (body_of Ready 3 1 X) ∷ From 2 (body_of Ready 3 1 X)
    ∷ From 1 (body_of Ready 3 0 Y) ∷ From 2 (body_of Ready 3 0 Y)
    ∷ From 1 (body_of Send 3 0 Y) ∷ Ask A ∷ []

-- then another member's SEND for number 1 of this member's account, and a submitted value that gets
-- that number
abbrev pub forestalled_ask : List Event
forestalled_ask = late_first_number ++ From 1 (body_of Send 0 1 Y) ∷ Ask X ∷ []
