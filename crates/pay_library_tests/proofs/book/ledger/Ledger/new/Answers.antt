use Rattle.std.proofs.Common.{vec_len, ◌∙◌, sym, subst, arith}
use Rattle.pay_book.specs.Book.{Standing}
use Rattle.pay_library_tests.specs.Ledger.{IsPlainLedger}
use Rattle.pay_library_tests.specs.Lists.{owner_values}
use Rattle.pay_library_tests.proofs.book.ledger.Ledger.new.Goals as goal

pub invariant_of-result : goal.invariant_of-result
invariant_of-result g c =
    let genesis = c.args.genesis.now in
    let lists = c.in_ok-new.field-0.values in
    let P : Standing → Type 0 = λ book. IsPlainLedger c.members.result (vec_len lists) (owner_values lists.items) book in
    let members = c.members.ensures.value in
    let few = c.members.ensures.limits.few in
    let opening = c.members.ensures.limits.opening in
    subst P (sym c.in_ok-new-2.ensures) (record {
      count = omega arith;
      few = omega arith;
      owners_are = c.in_ok-new.ensures.owners ∙ c.members-2.ensures.value ∙ sym members;
      settled = c.fresh_book_is_settled.ensures genesis.opening (owner_values lists.items) (λ a _. c.in_ok-new.ensures.empty a);
    })
