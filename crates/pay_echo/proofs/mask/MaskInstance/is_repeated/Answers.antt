use Rattle.std.proofs.Common.{ap, ◌∙◌, sym, subst, is_some}
use Rattle.pay_echo.specs.Broadcast.{IsForeign}
use Rattle.pay_echo.specs.Meaning.{Meaning}
use Rattle.pay_echo.specs.Votes.{vote_of_ref}
use Rattle.pay_echo.specs.declared.instance.VoteRef.{VoteRef}
use Rattle.pay_echo.specs.declared.instance.VoteKind.TheVariants as kind
use Rattle.pay_echo.proofs.MaskLemmas.{voted-value, is_some-copied}
use Rattle.pay_echo.proofs.mask.MaskInstance.is_repeated.Goals as goal

pub returns-in-Echo-clause-voted : goal.returns-in-Echo-clause-voted
returns-in-Echo-clause-voted c =
    let foreign = subst (λ (x : VoteRef). IsForeign c.self.inside.group (vote_of_ref x)) c.in-Echo.is (subst (λ (m : Meaning). IsForeign m.group (vote_of_ref c.args.vote)) (sym c.self.view_is) c.requires) in
    rw (c.in-Echo.is, ← c.self.view_is)
    (c.is_some-in-Echo.ensures ∙ is_some-copied c.vote_at.result
    ∙ ap is_some (voted-value c.self.inside.group.members c.self.inside.candidates.items c.deref.result.now kind.Echo c.in-Echo.process _ foreign.0 c.deref.ensures.value c.vote_at.ensures))

pub returns-in-Ready-clause-voted : goal.returns-in-Ready-clause-voted
returns-in-Ready-clause-voted c =
    let foreign = subst (λ (x : VoteRef). IsForeign c.self.inside.group (vote_of_ref x)) c.in-Ready.is (subst (λ (m : Meaning). IsForeign m.group (vote_of_ref c.args.vote)) (sym c.self.view_is) c.requires) in
    rw (c.in-Ready.is, ← c.self.view_is)
    (c.is_some-in-Ready.ensures ∙ is_some-copied c.vote_at-in-Ready.result
    ∙ ap is_some (voted-value c.self.inside.group.members c.self.inside.candidates.items c.deref-in-Ready.result.now kind.Ready c.in-Ready.process _ foreign.0 c.deref-in-Ready.ensures.value c.vote_at-in-Ready.ensures))
