use Rattle.std.proofs.Common.{◌<◌, ◌≤◌, length, vec_len, refl, arith}
use Rattle.std.specs.Result.{is_ok}
use Rattle.std.proofs.lemmas.List.Elements.{All-set}
use Rattle.pay_frame.specs.declared.limits.TheConstants.{SEQS}
use Rattle.pay_library_tests.proofs.ListValues.{owner_values-append, owner_values-kept, length_at-read, pushed_len, OnErr-from, Values}
use Rattle.pay_library_tests.proofs.book.lists.Lists.append.Goals as goal

pub invariant_of-self : goal.invariant_of-self
invariant_of-self c =
    let items = c.args.self.now.values.items in
    let there : c.args.owner < length items = omega (arith, c.args.self.now.values.ok.0) in
    let len = length_at-read items items c.args.owner c.index_mut.result.now (vec_len c.index_mut.result.now) refl there c.index_mut.ensures.value refl in
    let room : vec_len c.index_mut.result.now < SEQS = omega (arith, c.requires.room) in
    record { short = All-set (λ (list : Values). vec_len list ≤ SEQS) items c.args.owner c.push.new.self (pushed_len (is_ok c.push.result) (vec_len c.index_mut.result.now) (vec_len c.push.new.self) SEQS c.push.ensures.len room) c.args.self.now.short }

pub returns-in_err-push-clause-err : goal.returns-in_err-push-clause-err
returns-in_err-push-clause-err c =
    OnErr-from c.from_residual.result
    (owner_values-kept c.args.self.now.values.items c.args.owner c.index_mut.result.now c.push.new.self (omega (arith, c.args.self.now.values.ok.0)) c.index_mut.ensures.value c.in_err-push.ensures.items)

pub returns-clause-ok : goal.returns-clause-ok
returns-clause-ok c =
    owner_values-append c.args.self.now.values.items c.args.owner c.index_mut.result.now c.push.new.self c.args.value (omega (arith, c.args.self.now.values.ok.0)) c.index_mut.ensures.value c.in_ok-push.ensures.items
