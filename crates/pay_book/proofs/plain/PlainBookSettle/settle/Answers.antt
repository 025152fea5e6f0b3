use Rattle.std.proofs.Common.{◌<◌, ◌^◌, ℕ, List, length, ap, sym, subst, ◌∙◌, ⊎_elim, arith}
use Rattle.std.proofs.lemmas.Grind.{common_steps}
use Rattle.std.specs.Bool.{OnFalse}
use Rattle.std.proofs.lemmas.Bool.{cases_eq}
use Rattle.pay_book.specs.Book.{MaySettle}
use Rattle.pay_book.specs.Payment.{entries_of}
use Rattle.pay_book.specs.Front.{entry_count}
use Rattle.pay_book.proofs.Settling.{sum_front-le, settled_from_stuck}
use Rattle.pay_book.proofs.plain.PlainBookSettle.settle.Goals as goal

pub returns-then-not-may_step-clause-settled : goal.returns-then-not-may_step-clause-settled
returns-then-not-may_step-clause-settled g c =
    let lists = g.S.Source.lists c.args.source.now in
    let book = c.args.self.now.accounts in
    let owner_waits : MaySettle lists book c.args.owner → ⊥ =
    subst (λ b. OnFalse b (MaySettle lists book c.args.owner → ⊥)) c.if-not-may_step.true c.may_step.ensures.not_allowed in
    settled_from_stuck lists book c.requires.is
    (λ a may. ⊎_elim (λ same. owner_waits (subst (MaySettle lists book) same may)) (λ other. c.requires.only_owner a other may) (cases_eq a c.args.owner))

pub overflow_add-settled : goal.overflow_add-settled
overflow_add-settled g c =
    let lists = g.S.Source.lists c.args.source.now in
    let listed = sum_front-le lists c.step.new.self.accounts c.step.ensures.book in
    let P : List ℕ → Type 0 = λ o. entry_count (length o) (entries_of (length o) lists) < 2 ^ 32 in
    let countable = subst P (sym (c.step.ensures.opening ∙ c.loop-settled.invariant.same_opening)) c.requires.countable in
    let stepped = c.loop-settled-test.ensures.stepped in
    let count = c.loop-settled.invariant.count in
    omega arith

pub loop-settled-smaller : goal.loop-settled-smaller
loop-settled-smaller g c =
    let lists = g.S.Source.lists c.args.source.now in
    let listed = sum_front-le lists c.step.new.self.accounts c.step.ensures.book in
    let same = ap (λ (o : List ℕ). entry_count (length o) (entries_of (length o) lists)) c.step.ensures.opening in
    let stepped = c.loop-settled-test.ensures.stepped in
    omega arith

pub returns-clause-settled : goal.returns-clause-settled
returns-clause-settled g c =
    settled_from_stuck (g.S.Source.lists c.args.source.now) c.step.new.self.accounts c.step.ensures.book c.loop-settled-test.ensures.stuck

pub returns-clause-count : goal.returns-clause-count
returns-clause-count g c = grind (arith, common_steps)
