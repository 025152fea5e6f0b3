-- One event more, and longer histories.
use Rattle.std.proofs.Common.{◌≡◌, ℕ, List, [], ◌∷◌, ◌++◌, refl, sym, ap, ◌∙◌, append_assoc, append-nil}
use Rattle.pay_frame.specs.Frame.{BodyFields}
use Rattle.pay_echo.specs.Broadcast.{Group, Vote}
use Rattle.pay_channel.specs.History.{Event, asks, votes_in, votes, says, out}
use Rattle.pay_channel.specs.VoteLaws.{NoAsksAtFirst, VotesByOneMore, AsksByOneMore, OthersUntouched, VotesGrow}
use Rattle.pay_channel.specs.SentLaws.{NothingSentAtFirst, OutByOneMore, OutGrows}
use Rattle.pay_channel.proofs.Project.{votes-push, asks-push, out-push, votes_in-other}

pub no_asks_at_first : NoAsksAtFirst
unfolding asks
no_asks_at_first = refl

pub nothing_sent_at_first : NothingSentAtFirst
unfolding out
nothing_sent_at_first g = refl

pub votes_by_one_more : VotesByOneMore
votes_by_one_more own a s history e = votes-push own a s history e

pub asks_by_one_more : AsksByOneMore
asks_by_one_more history e = asks-push history e

pub out_by_one_more : OutByOneMore
out_by_one_more g history e = out-push g history e

pub others_untouched : OthersUntouched
others_untouched own a s history e other =
    votes-push own a s history e
    ∙ ap (λ vs. votes own a s history ++ vs) (votes_in-other own a s (asks history) e other)
    ∙ append-nil (votes own a s history)

longer_votes : (own a s : ℕ) (history more : List Event) → (rest : List Vote) × (votes own a s (history ++ more) ≡ votes own a s history ++ rest)
longer_votes own a s history [] = ([], ap (votes own a s) (append-nil history) ∙ sym (append-nil (votes own a s history)))
longer_votes own a s history (e ∷ more) =
    let rest = longer_votes own a s (history ++ e ∷ []) more in (
      votes_in own a s (asks history) e ++ rest.0,
      ap (votes own a s) (sym (append_assoc history (e ∷ []) more)) ∙ rest.1
          ∙ ap (λ vs. vs ++ rest.0) (votes-push own a s history e)
          ∙ append_assoc (votes own a s history) (votes_in own a s (asks history) e) rest.0,
    )

pub votes_grow : VotesGrow
votes_grow own a s history more = let longer = longer_votes own a s history more in record { rest = longer.0; is = longer.1 }

longer_out : (g : Group) (history more : List Event) → (rest : List BodyFields) × (out g (history ++ more) ≡ out g history ++ rest)
longer_out g history [] = ([], ap (out g) (append-nil history) ∙ sym (append-nil (out g history)))
longer_out g history (e ∷ more) =
    let rest = longer_out g (history ++ e ∷ []) more in (
      says g history e ++ rest.0,
      ap (out g) (sym (append_assoc history (e ∷ []) more)) ∙ rest.1
          ∙ ap (λ bs. bs ++ rest.0) (out-push g history e)
          ∙ append_assoc (out g history) (says g history e) rest.0,
    )

pub out_grows : OutGrows
out_grows g history more = let longer = longer_out g history more in record { rest = longer.0; is = longer.1 }
