use Rattle.std.proofs.Common.{◌<◌, List, length, slice_get, ap, sym, subst, ◌∙◌, arith}
use Rattle.std.specs.Prelude.{None}
use Rattle.std.proofs.lemmas.Option.{slice_get_within}
use Rattle.pay_echo.specs.Plain.{IsPlaceOf}
use Rattle.pay_echo.specs.Masks.{values_of, votes_of}
use Rattle.pay_echo.specs.declared.candidate.Candidate.{Candidate}
use Rattle.pay_echo.specs.declared.instance.VoteKind.TheVariants as kind
use Rattle.pay_echo.proofs.Candidates.{length-values, count-at_place}
use Rattle.pay_echo.proofs.Places.{count-at, count-none}
use Rattle.pay_echo.proofs.mask.MaskInstance.counts_for.Goals as goal

pub returns-in-Some-clause-echoes : goal.returns-in-Some-clause-echoes
returns-in-Some-clause-echoes c =
    let candidates = c.self.inside.candidates.items in
    let is = ap (λ (cs : List Candidate). slice_get (values_of cs) c.in-Some.place) (sym c.deref.ensures.value) ∙ c.in-Some.ensures in
    let below : c.in-Some.place < length candidates = omega (arith, slice_get_within (values_of candidates) c.in-Some.place c.args.value.now is, length-values candidates) in
    rw (← c.self.view_is)
    (count-at_place c.self.inside.group.members candidates c.in-Some.place c.index.result.now kind.Echo (c.self.invariant.masks kind.Echo) below c.index.ensures
    ∙ count-at (values_of candidates) c.args.value.now c.self.invariant.are.distinct c.in-Some.place is (votes_of c.self.inside.group.members kind.Echo candidates))

pub returns-in-Some-clause-readys : goal.returns-in-Some-clause-readys
returns-in-Some-clause-readys c =
    let candidates = c.self.inside.candidates.items in
    let is = ap (λ (cs : List Candidate). slice_get (values_of cs) c.in-Some.place) (sym c.deref.ensures.value) ∙ c.in-Some.ensures in
    let below : c.in-Some.place < length candidates = omega (arith, slice_get_within (values_of candidates) c.in-Some.place c.args.value.now is, length-values candidates) in
    rw (← c.self.view_is)
    (count-at_place c.self.inside.group.members candidates c.in-Some.place c.index-in-Some.result.now kind.Ready (c.self.invariant.masks kind.Ready) below c.index-in-Some.ensures
    ∙ count-at (values_of candidates) c.args.value.now c.self.invariant.are.distinct c.in-Some.place is (votes_of c.self.inside.group.members kind.Ready candidates))

pub returns-in-None-clause-echoes : goal.returns-in-None-clause-echoes
returns-in-None-clause-echoes c =
    let candidates = c.self.inside.candidates.items in
    let absent = subst (λ (cs : List Candidate). IsPlaceOf c.args.value.now (values_of cs) None) c.deref.ensures.value c.in-None.ensures in
    rw (← c.self.view_is) (count-none (values_of candidates) c.args.value.now absent (votes_of c.self.inside.group.members kind.Echo candidates))

pub returns-in-None-clause-readys : goal.returns-in-None-clause-readys
returns-in-None-clause-readys c =
    let candidates = c.self.inside.candidates.items in
    let absent = subst (λ (cs : List Candidate). IsPlaceOf c.args.value.now (values_of cs) None) c.deref.ensures.value c.in-None.ensures in
    rw (← c.self.view_is) (count-none (values_of candidates) c.args.value.now absent (votes_of c.self.inside.group.members kind.Ready candidates))
