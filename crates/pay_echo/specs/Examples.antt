-- Groups, values and a word for the worked examples.
use Rattle.std.specs.Prelude.{◌≡◌, ℕ, List, [], ◌∷◌, ◌++◌, Option}
use Rattle.pay_echo.specs.Broadcast.{Group, Vote, Send, Echo, Ready, echoed, readied, delivered}

abbrev pub A : List ℕ
A = 65 ∷ []

abbrev pub B : List ℕ
B = 66 ∷ []

-- process 0 of four, and up to one of them may be faulty
abbrev pub four : Group
four = record { members = 4; faults = 1; own = 0 }

abbrev pub alone : Group
alone = record { members = 1; faults = 0; own = 0 }

-- what was echoed, readied and delivered by these votes
pub record Knows (g : Group) (votes : List Vote) (echo ready deliver : Option (List ℕ))
    : Type 0 where
  pub echoes : echoed votes ≡ echo
  pub readies : readied g votes ≡ ready
  pub delivers : delivered g votes ≡ deliver

-- A from its sender and from process 1, then B and A from process 2
abbrev pub two_echoes : List Vote
two_echoes = Send A ∷ Echo 1 A ∷ Echo 2 B ∷ Echo 2 A ∷ []

abbrev pub three_echoes : List Vote
three_echoes = two_echoes ++ Echo 3 A ∷ []

-- one READY, twice
abbrev pub one_ready : List Vote
one_ready = three_echoes ++ Ready 1 A ∷ Ready 1 A ∷ []

abbrev pub two_readys : List Vote
two_readys = one_ready ++ Ready 2 A ∷ []

-- three ECHOs of A by others, and no SEND
abbrev pub echoes_of_others : List Vote
echoes_of_others = Echo 1 A ∷ Echo 2 A ∷ Echo 3 A ∷ []

-- process 1 is READY for B, and then for A, which doesn't count
abbrev pub readys_of_two : List Vote
readys_of_two = Ready 1 B ∷ Ready 1 A ∷ Ready 2 A ∷ []
