use Rattle.std.proofs.Common.{arith}
use Rattle.pay_library_tests.proofs.ListValues.{owner_values-within, place_within, value_at-read}
use Rattle.pay_library_tests.proofs.book.lists.ListsSource.at.Goals as goal

pub index-requires : goal.index-requires
index-requires c =
    let there = owner_values-within c.args.self.now.values.items c.args.owner c.args.k c.requires in
    omega (arith, c.args.self.now.values.ok.0)

pub index-requires-2 : goal.index-requires-2
index-requires-2 c = place_within c.args.self.now.values.items c.args.owner c.args.k c.index.result.now c.requires c.index.ensures

pub returns : goal.returns
returns c =
    value_at-read c.args.self.now.values.items c.args.owner c.args.k c.index.result.now c.index-2.result.now c.as_slice.result.now c.requires c.index.ensures c.index-2.ensures c.as_slice.ensures.value
