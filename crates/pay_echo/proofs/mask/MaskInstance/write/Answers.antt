use Rattle.std.proofs.Common.{ℕ, List, Some, ap, ◌∙◌}
use Rattle.std.specs.Option.{option_or}
use Rattle.pay_echo.specs.Votes.{vote_of_ref}
use Rattle.pay_echo.proofs.MaskLemmas.{counted-IsTallied, counted-view}
use Rattle.pay_echo.proofs.mask.MaskInstance.write.Goals as goal

pub invariant_of-self-2 : goal.invariant_of-self-2
invariant_of-self-2 c =
    let old = c.self.inside in
    let place = c.in_ok-place.place in
    let is = c.in_ok-place.ensures.place ∙ ap (λ (v : List ℕ). Some v) c.value.ensures.value in
    let delivered = c.or-self-inside.ensures ∙ ap (λ o. option_or o old.delivered) c.then_some.ensures in
    rw (c.add_ready_if.ensures, c.add.ensures)
    (counted-IsTallied old.group old.candidates.items c.keep.new.candidates.items old.delivered c.or-self-inside.result c.args.self.now (vote_of_ref c.args.vote) place c.index_mut-candidate.result.now c.args.ready c.args.deliver
    c.self.invariant c.self.view_is c.in_ok-place.ensures.grown c.in_ok-place.ensures.distinct is c.index_mut-candidate.ensures.value c.requires.foreign c.requires.first c.requires.ready delivered)

pub returns-clause-after : goal.returns-clause-after
returns-clause-after c =
    let old = c.self.inside in
    let place = c.in_ok-place.place in
    let is = c.in_ok-place.ensures.place ∙ ap (λ (v : List ℕ). Some v) c.value.ensures.value in
    let delivered = c.or-self-inside.ensures ∙ ap (λ o. option_or o old.delivered) c.then_some.ensures in
    rw (c.add_ready_if.ensures, c.add.ensures)
    (counted-view old.group old.candidates.items c.keep.new.candidates.items old.delivered c.or-self-inside.result c.args.self.now (vote_of_ref c.args.vote) place c.index_mut-candidate.result.now c.args.ready c.args.deliver
    c.self.invariant c.self.view_is c.in_ok-place.ensures.grown c.in_ok-place.ensures.distinct is c.index_mut-candidate.ensures.value c.requires.foreign c.requires.first c.requires.ready delivered)
