use Rattle.std.proofs.Common.{◌≡◌, ◌<◌, ◌≤◌, ℕ, List, length, map, take, Bor, refl, sym, ap, subst, ◌∙◌, arith}
use Rattle.std.specs.List.{filter}
use Rattle.pay_group.specs.Backing.{IsGroupList, IsSplit, has_at}
use Rattle.pay_group.specs.declared.texts.GroupFault.{GroupFault}
use Rattle.pay_group.specs.declared.texts.GroupFault.TheVariants.{Memory, Split}
use Rattle.pay_group.proofs.Agreed.{Agree, as_much, first_of, is_group_list, none_longer, none_yet, next_backers, one_more_agreed, short_lists, split_at}
use Rattle.pay_group.proofs.listing.group_list.Goals as goal

abbrev owner_in : GroupFault → ℕ
owner_in Memory = 0
owner_in (Split owner seq) = owner

abbrev seq_in : GroupFault → ℕ
seq_in Memory = 0
seq_in (Split owner seq) = seq

pub loop-place-init : goal.loop-place-init
loop-place-init g c =
    let lists = λ (s : Bor g.row.S.Denot). g.S.Source.lists s.now c.args.owner in
    subst (Agree lists c.args.sources.now c.args.faults 0) (sym c.in_ok-agreeing.ensures.items) (none_yet lists c.args.sources.now c.args.faults c.requires)

pub returns-in_default-clause-list : goal.returns-in_default-clause-list
returns-in_default-clause-list g c =
    let lists = λ (s : Bor g.row.S.Denot). g.S.Source.lists s.now c.args.owner in
    let a = c.loop-place.invariant in
    let much = as_much lists c.args.sources.now c.args.faults c.loop-place.place c.loop-place.agreeing.items a c.index.result.now (first_of a c.index.result.now c.index.ensures) in
    subst (IsGroupList c.args.faults (map lists c.args.sources.now)) (sym much.1)
    (is_group_list lists c.args.sources.now c.args.faults c.loop-place.place c.loop-place.agreeing.items a
    (λ v. subst (λ l. next_backers lists c.loop-place.place l v ≤ c.args.faults) c.as_slice.ensures.value (c.in_default.ensures.none v)))

pub returns-then-is_disputed-clause-split : goal.returns-then-is_disputed-clause-split
returns-then-is_disputed-clause-split g c of place is =
    let lists = λ (s : Bor g.row.S.Denot). g.S.Source.lists s.now c.args.owner in
    let yes = c.if-is_disputed.ensures.yes refl in
    let backed : (l : List (Bor g.row.S.Denot)) → l ≡ c.loop-place.agreeing.items → (v : List ℕ) → c.args.faults < next_backers lists c.loop-place.place l v → c.args.faults < next_backers lists c.loop-place.place c.loop-place.agreeing.items v =
    λ l same v many. subst (λ l. c.args.faults < next_backers lists c.loop-place.place l v) same many in (
      sym (ap owner_in is),
      subst (IsSplit c.args.faults (map lists c.args.sources.now)) (ap seq_in is)
          (split_at lists c.args.sources.now c.args.faults c.loop-place.place c.loop-place.agreeing.items c.in-Some.value.now yes.0 c.loop-place.invariant yes.1
          (backed c.as_slice.result.now c.as_slice.ensures.value c.in-Some.value.now c.in-Some.ensures.some)
          (backed c.as_slice-in-loop-place.result.now c.as_slice-in-loop-place.ensures.value yes.0 yes.2)),
    )

pub loop-place-preserved : goal.loop-place-preserved
loop-place-preserved g c =
    let lists = λ (s : Bor g.row.S.Denot). g.S.Source.lists s.now c.args.owner in
    let one = c.as_slice.ensures.value in
    let two = c.as_slice-in-loop-place.ensures.value in
    let three = c.as_slice-in-loop-place-2.ensures.value in
    one_more_agreed lists c.args.sources.now c.args.faults c.loop-place.place c.loop-place.agreeing.items c.in_ok-agreeing-2.agreeing.items c.in-Some.value.now c.loop-place.invariant
    (subst (λ l. c.args.faults < next_backers lists c.loop-place.place l c.in-Some.value.now) one c.in-Some.ensures.some)
    (λ w differs. subst (λ l. next_backers lists c.loop-place.place l w ≤ c.args.faults) two (c.if-is_disputed.ensures.no refl w differs))
    (c.in_ok-agreeing-2.ensures ∙ ap (filter (λ s. has_at c.loop-place.place c.in-Some.value.now (lists s))) three)

pub returns-clause-list : goal.returns-clause-list
returns-clause-list g c =
    let lists = λ (s : Bor g.row.S.Denot). g.S.Source.lists s.now c.args.owner in
    let a = c.loop-place.invariant in
    let at_end : c.loop-place.place ≡ c.longest-end.result = omega (arith, c.loop-place-test.false, c.loop-place.auto.place-end) in
    let much = as_much lists c.args.sources.now c.args.faults c.loop-place.place c.loop-place.agreeing.items a c.index-2.result.now (first_of a c.index-2.result.now c.index-2.ensures) in
    let short = short_lists lists c.args.sources.now c.args.faults c.loop-place.place c.loop-place.agreeing.items a c.longest-end.result c.longest-end.ensures in
    let none = none_longer lists c.loop-place.agreeing.items c.args.faults c.loop-place.place (λ i x at. subst (λ n. length (lists x) ≤ n) (sym at_end) (short i x at)) in
    subst (λ n. IsGroupList c.args.faults (map lists c.args.sources.now) (take n (lists c.index-2.result.now))) at_end
    (subst (IsGroupList c.args.faults (map lists c.args.sources.now)) (sym much.1)
    (is_group_list lists c.args.sources.now c.args.faults c.loop-place.place c.loop-place.agreeing.items a none))

pub invariant_of-result : goal.invariant_of-result
invariant_of-result g c =
    (as_much (λ (s : Bor g.row.S.Denot). g.S.Source.lists s.now c.args.owner) c.args.sources.now c.args.faults c.loop-place.place c.loop-place.agreeing.items c.loop-place.invariant c.index.result.now
    (first_of c.loop-place.invariant c.index.result.now c.index.ensures)).0

pub invariant_of-result-2 : goal.invariant_of-result-2
invariant_of-result-2 g c =
    let at_end : c.loop-place.place ≡ c.longest-end.result = omega (arith, c.loop-place-test.false, c.loop-place.auto.place-end) in
    subst (λ n. n ≤ length (g.S.Source.lists c.index-2.result.now.now c.args.owner)) at_end
    (as_much (λ (s : Bor g.row.S.Denot). g.S.Source.lists s.now c.args.owner) c.args.sources.now c.args.faults c.loop-place.place c.loop-place.agreeing.items c.loop-place.invariant c.index-2.result.now
    (first_of c.loop-place.invariant c.index-2.result.now c.index-2.ensures)).0
