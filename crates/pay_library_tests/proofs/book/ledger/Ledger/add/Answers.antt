use Rattle.std.proofs.Common.{length, ap, ◌∙◌, sym, arith}
use Rattle.pay_frame.specs.declared.limits.TheConstants.{SEQS}
use Rattle.pay_library_tests.specs.Lists.{owner_values}
use Rattle.pay_library_tests.proofs.ListValues.{owner_values-short}
use Rattle.pay_library_tests.proofs.book.ledger.Ledger.add.Goals as goal

pub settle-requires : goal.settle-requires
settle-requires g c =
    let old = owner_values c.self.inside.lists.values.items in
    let values = c.append.new.self.values.items in
    let book = g.B.Settle.shows c.self.inside.book in
    let count = c.self.invariant.count in
    let few = c.self.invariant.few in
    let short = owner_values-short values SEQS c.append.new.self.short in
    c.grown_list_can_settle.ensures old (owner_values values) book c.args.owner c.self.invariant.settled c.in_ok-append.ensures.ok (omega arith)
    (c.group_lists_are_countable.ensures (owner_values values) book (λ a _. short a) (omega arith))

pub invariant_of-self-2 : goal.invariant_of-self-2
invariant_of-self-2 g c = record {
  count = c.self.invariant.count ∙ ap length (sym c.settle.ensures.opening);
  few = c.self.invariant.few;
  owners_are = c.append.ensures.owners ∙ c.self.invariant.owners_are;
  settled = c.settle.ensures.settled;
}

-- where memory was refused
pub invariant_of-self : goal.invariant_of-self
invariant_of-self g c = record {
  count = c.self.invariant.count;
  few = c.self.invariant.few;
  owners_are = c.append.ensures.owners ∙ c.self.invariant.owners_are;
  settled = c.same_lists_stay_settled.ensures
      (owner_values c.self.inside.lists.values.items) (owner_values c.append.new.self.values.items)
      (g.B.Settle.shows c.self.inside.book) (λ a _. sym (c.in_err-append.ensures.err a))
      c.self.invariant.settled;
}
