use Rattle.std.proofs.Common.{◌+◌, ℕ, length, sym, subst, arith}
use Rattle.std.specs.Prelude.{List}
use Rattle.pay_book.specs.Book.{Standing}
use Rattle.pay_pending.specs.Waiting.{IsWaitingList}
use Rattle.pay_pending.proofs.Listing.{IsWaitingList-pop}
use Rattle.pay_pending.proofs.Settling.{IsSettling, started, is_there, passed_over, stepped, ended, less_work, fewer_waiting, count_fits}
use Rattle.pay_pending.proofs.waiting.WaitingBookSettle.settle.Goals as goal

pub loop-account-init : goal.loop-account-init
loop-account-init g c =
    started (g.S.Source.lists c.args.source.now) c.args.self.now.accounts c.put.new.self.accounts c.args.owner c.put.new.self.waiting.items
    c.put.ensures.accounts c.requires c.put.ensures.list c.put.ensures.there

pub try_step-requires-clause-account : goal.try_step-requires-clause-account
try_step-requires-clause-account g c =
    is_there (g.S.Source.lists c.args.source.now) c.args.self.now.accounts c.loop-account.self.accounts c.loop-account.self.waiting.items c.pop.new.self.items c.loop-account.settled c.in-Some.account
    c.loop-account.invariant c.in-Some.ensures.items

pub overflow_add-settled : goal.overflow_add-settled
overflow_add-settled g c =
    let fits = count_fits c.what_a_step_does.ensures.one_more c.settled_are_listed.ensures (g.S.Source.lists c.args.source.now) c.args.self.now.accounts c.loop-account.self.accounts c.try_step.new.self c.loop-account.self.waiting.items c.loop-account.settled c.in-Some.account c.in-Some-try_step.entry
    c.loop-account.invariant c.try_step.ensures.book c.in-Some-try_step.ensures.step in
    omega arith

pub wake-requires-clause-payee : goal.wake-requires-clause-payee
wake-requires-clause-payee g c =
    c.what_a_step_does.ensures.payee (g.S.Source.lists c.args.source.now) c.loop-account.self.accounts c.try_step.new.self c.in-Some.account c.in-Some-try_step.entry c.in-Some-try_step.ensures.step

pub wake-requires-clause-list : goal.wake-requires-clause-list
wake-requires-clause-list g c =
    let P : List ℕ → Type 0 = λ o. IsWaitingList (length o) c.pop.new.self.items in
    subst P (sym c.in-Some-try_step.ensures.step.same_opening)
    (IsWaitingList-pop (length c.loop-account.self.accounts.opening) c.loop-account.self.waiting.items c.pop.new.self.items c.in-Some.account c.in-Some.ensures.items c.loop-account.invariant.list)

pub loop-account-smaller-in-Some-try_step : goal.loop-account-smaller-in-Some-try_step
loop-account-smaller-in-Some-try_step g c =
    less_work c.what_a_step_does.ensures.one_more c.settled_are_listed.ensures (g.S.Source.lists c.args.source.now) c.loop-account.self.accounts c.try_step.new.self c.wake.new.self.accounts c.in-Some.account c.in-Some-try_step.entry c.loop-account.self.waiting.items c.pop.new.self.items c.wake.new.self.waiting.items
    c.wake.ensures.accounts c.loop-account.invariant.is c.try_step.ensures.book c.in-Some-try_step.ensures.step c.in-Some.ensures.items c.wake.ensures.longer

pub loop-account-preserved-in-Some-try_step : goal.loop-account-preserved-in-Some-try_step
loop-account-preserved-in-Some-try_step g c =
    let lists = g.S.Source.lists c.args.source.now in
    let P : Standing → Type 0 = λ b. IsSettling lists c.args.self.now.accounts b c.wake.new.self.waiting.items (c.loop-account.settled + 1) in
    subst P (sym c.wake.ensures.accounts)
    (stepped c.what_a_step_does.ensures.one_more c.what_a_step_does.ensures.others lists c.args.self.now.accounts c.loop-account.self.accounts c.try_step.new.self c.loop-account.self.waiting.items c.pop.new.self.items c.wake.new.self.waiting.items c.loop-account.settled c.in-Some.account c.in-Some-try_step.entry
    c.loop-account.invariant c.in-Some.ensures.items c.try_step.ensures.book c.in-Some-try_step.ensures.step c.wake.ensures.list c.wake.ensures.owner c.wake.ensures.payee c.wake.ensures.kept)

pub loop-account-smaller : goal.loop-account-smaller
loop-account-smaller g c =
    fewer_waiting (g.S.Source.lists c.args.source.now) c.loop-account.self.accounts c.try_step.new.self c.loop-account.self.waiting.items c.pop.new.self.items c.in-Some.account
    c.in_default-try_step.ensures.unchanged c.in-Some.ensures.items

pub loop-account-preserved : goal.loop-account-preserved
loop-account-preserved g c =
    passed_over (g.S.Source.lists c.args.source.now) c.args.self.now.accounts c.loop-account.self.accounts c.try_step.new.self c.loop-account.self.waiting.items c.pop.new.self.items c.loop-account.settled c.in-Some.account
    c.loop-account.invariant c.in-Some.ensures.items c.in_default-try_step.ensures.unchanged c.in_default-try_step.ensures.not_allowed

pub returns-clause-settled : goal.returns-clause-settled
returns-clause-settled g c =
    ended c.stuck_book_is_settled.ensures (g.S.Source.lists c.args.source.now) c.args.self.now.accounts c.loop-account.self.accounts c.loop-account.self.waiting.items c.loop-account.settled
    c.loop-account.invariant (omega (arith, c.in_default.ensures.cases.0, c.loop-account.self.waiting.ok))
