use Rattle.std.proofs.Common.{◌≡◌, List, [], ◌∷◌, ◌++◌, take, Bool, true, false, ap, sym, subst, ◌∙◌}
use Rattle.std.specs.Bool.{OnTrue}
use Rattle.std.proofs.lemmas.List.{take_all, take_more}
use Rattle.pay_member.specs.Events.{events}
use Rattle.pay_member.specs.Legal.{IsOwed, Legal}
use Rattle.pay_member.specs.Member.{MemberFields, with_entry}
use Rattle.pay_member.specs.declared.event.HistoryEntry.{HistoryEntry}
use Rattle.pay_audit.proofs.replaying.take_all_again.Goals as goal

with_history : MemberFields → List HistoryEntry → MemberFields
with_history m history = record m { history = history }

where_true : {P : Type 0} (b : Bool) → b ≡ true → OnTrue b P → P
where_true true is p = p
where_true false is p = absurd cc

pub loop-place-preserved : goal.loop-place-preserved
unfolding with_history
loop-place-preserved g c =
    let m = c.args.member.now in
    let entry = c.index-entries-place.result in
    let before = take c.loop-place.place c.args.entries.now in
    let more = take_more c.args.entries.now c.loop-place.place entry c.loop-place-test.true ∙ ap (λ e. before ++ e ∷ []) (sym c.index-entries-place.is) in
    let owed = subst (λ x. IsOwed x.genesis x.keys (events x.history) entry) c.loop-place.invariant.member (c.in_ok-take_again.ensures.owed.0 c.if-not-branch.false) in
    record {
      member =
          where_true {P = c.take_again.new.member ≡ with_entry c.loop-place.member entry} c.in_ok-take_again.field-0 c.if-not-branch.false c.in_ok-take_again.ensures.taken
          ∙ ap (λ x. with_entry x entry) c.loop-place.invariant.member ∙ ap (with_history m) (sym more);
      legal = subst (Legal m.genesis m.keys) (sym more) (c.legal_histories.ensures.more m.genesis m.keys before entry c.loop-place.invariant.legal owed);
    }

pub returns : goal.returns
unfolding with_history
returns g c =
    let m = c.args.member.now in
    let all = take_all c.loop-place.place c.args.entries.now c.loop-place-test.false in
    record {
      taken = c.loop-place.invariant.member ∙ ap (with_history m) all;
      legal = subst (Legal m.genesis m.keys) all c.loop-place.invariant.legal;
      illegal = tt;
    }
