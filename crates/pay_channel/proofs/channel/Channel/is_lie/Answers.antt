use Rattle.std.proofs.Common.{ℕ, is_some, sym, ap, ap₂, ◌∙◌}
use Rattle.std.specs.Option.{option_map}
use Rattle.pay_echo.specs.Step.{vote_before}
use Rattle.pay_echo.specs.Votes.{vote_of_ref}
use Rattle.pay_channel.specs.Lies.{is_lie_behind}
use Rattle.pay_channel.specs.State.{State, meaning_at, meaning_in}
use Rattle.pay_channel.proofs.channel.Channel.is_lie.Goals as goal

pub has_voted-requires-clause-reached : goal.has_voted-requires-clause-reached
unfolding meaning_at
has_voted-requires-clause-reached g c = c.self.invariant.reached c.owner.result c.seq.result

pub returns-in-Some : goal.returns-in-Some
unfolding meaning_at
returns-in-Some g c =
    c.has_voted.ensures
    ∙ ap (λ (s : State). is_some (vote_before (meaning_in s.group s.slots c.owner.result c.seq.result) (vote_of_ref c.in-Some.vote))) c.self.view_is
    ∙ ap₂ (λ (a s : ℕ). is_some (vote_before (meaning_in c.args.self.now.group c.args.self.now.slots a s) (vote_of_ref c.in-Some.vote))) c.owner.ensures.value c.seq.ensures.value
    ∙ ap (is_lie_behind c.args.self.now c.args.body.now) (sym (ap (option_map vote_of_ref) c.in-Some.is) ∙ c.vote_in.ensures.vote)
