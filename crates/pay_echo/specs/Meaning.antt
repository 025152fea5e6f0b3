-- What an instance knows: the answers of `Broadcast` to the votes that came.
use Rattle.std.specs.Prelude.{◌≡◌, ℕ, Bool, ◌&&◌, List, [], ◌∷◌, ◌++◌, map, Option, is_none}
use Rattle.std.specs.Prelude.{is_some}
use Rattle.std.specs.List.{range_with_len}
use Rattle.pay_echo.specs.Broadcast.{Group, Vote, echoed, echo_of, readied, ready_of, delivered}

-- page: `Meaning`: all of this for one list of votes. In the book: the local variables
pub record Meaning : Type 0 where
  pub group : Group
  pub echoed : Option (List ℕ)
  -- at place p the ECHO of process p, at the process's own place the value echoed
  pub echoes : List (Option (List ℕ))
  pub readied : Option (List ℕ)
  -- at place p the READY of process p, at the process's own place the value readied
  pub readys : List (Option (List ℕ))
  pub delivered : Option (List ℕ)

unfoldable pub meaning_of : Group → List Vote → Meaning
meaning_of g votes =
    record {
      group = g;
      echoed = echoed votes;
      echoes = map (echo_of g votes) (range_with_len 0 g.members);
      readied = readied g votes;
      readys = map (ready_of g votes) (range_with_len 0 g.members);
      delivered = delivered g votes;
    }

-- One more vote, whatever votes came before.
abbrev pub Sees : Meaning → Meaning → Vote → Type 0
Sees old new x =
    (g : Group) (votes : List Vote) → old ≡ meaning_of g votes
    → new ≡ meaning_of g (votes ++ x ∷ [])

-- what wasn't known and now is
abbrev pub became : Option (List ℕ) → Option (List ℕ) → Bool
became old new = is_none old && is_some new
