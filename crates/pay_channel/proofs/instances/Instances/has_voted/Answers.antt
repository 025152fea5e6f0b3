use Rattle.std.proofs.Common.{is_some, sym, ap, ◌∙◌}
use Rattle.pay_echo.specs.Meaning.{Meaning}
use Rattle.pay_echo.specs.Step.{vote_before}
use Rattle.pay_echo.specs.Votes.{vote_of_ref}
use Rattle.pay_channel.specs.State.{meaning_in}
use Rattle.pay_channel.proofs.LieLemmas.{none_voted_at_first}
use Rattle.pay_channel.proofs.SlotLemmas.{key_cmp-is, meaning_in-lookup, meaning_in-absent, foreign_at}
use Rattle.pay_channel.proofs.instances.Instances.has_voted.Goals as goal

pub has_voted-requires : goal.has_voted-requires
has_voted-requires g c =
    let found = meaning_in-lookup g.I.Instance.meaning c.args.group c.args.owner c.args.seq _ (key_cmp-is c.args.owner c.args.seq) c.self.inside.by_broadcast.entries c.in-Some.instance.now (sym c.in-Some.ensures.value) in
    let shown = ap (λ l. meaning_in c.args.group l c.args.owner c.args.seq) c.self.view_is in
    record { foreign = foreign_at c.args.group c.requires.reached.0 (g.I.Instance.meaning c.in-Some.instance.now) (vote_of_ref c.args.vote) (sym found ∙ shown ∙ c.requires.reached.1) c.requires.foreign }

pub returns-in-Some : goal.returns-in-Some
returns-in-Some g c =
    let found = meaning_in-lookup g.I.Instance.meaning c.args.group c.args.owner c.args.seq _ (key_cmp-is c.args.owner c.args.seq) c.self.inside.by_broadcast.entries c.in-Some.instance.now (sym c.in-Some.ensures.value) in
    let shown = ap (λ l. meaning_in c.args.group l c.args.owner c.args.seq) c.self.view_is in
    c.has_voted.ensures ∙ ap (λ (m : Meaning). is_some (vote_before m (vote_of_ref c.args.vote))) (sym found ∙ shown)

pub returns-in-None : goal.returns-in-None
returns-in-None g c =
    let absent = meaning_in-absent g.I.Instance.meaning c.args.group c.args.owner c.args.seq _ (key_cmp-is c.args.owner c.args.seq) c.self.inside.by_broadcast.entries (sym c.in-None.ensures.value) in
    let shown = ap (λ l. meaning_in c.args.group l c.args.owner c.args.seq) c.self.view_is in
    sym (none_voted_at_first c.votes_came.ensures.voted c.args.group (vote_of_ref c.args.vote) c.requires.foreign)
    ∙ ap (λ (m : Meaning). is_some (vote_before m (vote_of_ref c.args.vote))) (sym absent ∙ shown)
