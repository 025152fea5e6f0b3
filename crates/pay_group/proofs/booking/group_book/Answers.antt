use Rattle.std.proofs.Common.{◌≡◌, Some, slice_get, ap, rules, sym, ◌∙◌, arith}
use Rattle.pay_link.specs.Genesis.{GenesisFields}
use Rattle.pay_group.proofs.Members.{is_first, other_found, twice_found}
use Rattle.pay_group.proofs.booking.group_book.Goals as goal

pub returns-in-Some-clause-fault : goal.returns-in-Some-clause-fault
returns-in-Some-clause-fault c =
    rw c.other_by.ensures (other_found c.args.exports.now c.in-Some.verdict (sym c.in-Some.is ∙ c.other_genesis.ensures))

pub returns-in-Some-twice-clause-fault : goal.returns-in-Some-twice-clause-fault
returns-in-Some-twice-clause-fault c =
    twice_found c.args.exports.now c.in-Some-twice.fault (sym c.other_genesis.ensures ∙ c.in_default.is) (sym c.in-Some-twice.is ∙ c.twice.ensures)

pub settled_book-requires-clause-are : goal.settled_book-requires-clause-are
settled_book-requires-clause-are c =
    let exports = c.args.exports.now in
    let first = c.in-Some-first.first.now in
    let at : slice_get exports 0 ≡ Some first = search rules in
    let genesis = ap (λ (g : GenesisFields). g.faults) c.genesis.ensures in
    record {
      first = is_first exports first at;
      geneses = sym c.other_genesis.ensures ∙ c.in_default.is;
      members = sym c.twice.ensures ∙ c.in_default-twice.is;
      many = omega (arith, c.if-count-from.false, c.from.ensures, c.faults.ensures.value, genesis);
    }
