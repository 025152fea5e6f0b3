-- What a vote makes known.
use Rattle.std.specs.Prelude.{◌≡◌, List, [], ◌∷◌, ◌++◌}
use Rattle.pay_echo.specs.Broadcast.{Group, Vote}
use Rattle.pay_echo.specs.Meaning.{Meaning, meaning_of, became}
use Rattle.pay_echo.specs.declared.instance.Moves.{Moves}

pub record IsMoves (old new : Meaning) (moves : Moves) : Type 0 where
  pub echo : moves.echo ≡ became old.echoed new.echoed
  pub ready : moves.ready ≡ became old.readied new.readied
  pub deliver : moves.deliver ≡ became old.delivered new.delivered

-- What this vote would make known, whatever votes came before.
abbrev pub Foresees : Meaning → Vote → Moves → Type 0
Foresees m x moves =
    (g : Group) (votes : List Vote) → m ≡ meaning_of g votes
    → IsMoves m (meaning_of g (votes ++ x ∷ [])) moves
