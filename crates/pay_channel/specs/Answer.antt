-- The answer to an event, as a function of the history before it.
use Rattle.std.specs.Prelude.{◌≡◌, ℕ, ◌+◌, List, [], ◌∷◌, ◌++◌, length, Option}
use Rattle.pay_echo.specs.Broadcast.{Group, echoed, readied}
use Rattle.pay_echo.specs.Meaning.{became}
use Rattle.pay_channel.specs.History.{Event, asks, owner_of, seq_of, votes, delivered_at, list_of}
use Rattle.pay_channel.specs.declared.channel.Applied.{Applied}

-- what was echoed and readied in the broadcast s of account a
abbrev pub echoed_at : Group → List Event → ℕ → ℕ → Option (List ℕ)
echoed_at g history a s = echoed (votes g.own a s history)

abbrev pub readied_at : Group → List Event → ℕ → ℕ → Option (List ℕ)
readied_at g history a s = readied g (votes g.own a s history)

-- what became known by the event in the broadcast s of account a, and by how much the list of a
-- grew
pub record IsAnswerAt (g : Group) (history : List Event) (e : Event) (a s : ℕ) (applied : Applied)
    : Type 0 where
  pub echo :
      applied.echo ≡ became (echoed_at g history a s) (echoed_at g (history ++ e ∷ []) a s)
  pub ready :
      applied.ready ≡ became (readied_at g history a s) (readied_at g (history ++ e ∷ []) a s)
  pub deliver :
      applied.deliver ≡ became (delivered_at g history a s) (delivered_at g (history ++ e ∷ []) a s)
  pub grown :
      length (list_of g history a) + applied.grown ≡ length (list_of g (history ++ e ∷ []) a)

abbrev pub IsChannelAnswer : Group → List Event → Event → Applied → Type 0
IsChannelAnswer g history e applied =
    IsAnswerAt g history e (owner_of g.own e) (seq_of (asks history) e) applied
