use Rattle.pay_library_tests.proofs.ListValues.{length_at-read, length_at-past}
use Rattle.pay_library_tests.proofs.book.lists.ListsSource.length.Goals as goal

pub returns-in-Some : goal.returns-in-Some
returns-in-Some c =
    let look = c.in-Some.ensures.lookup in
    length_at-read c.deref.result.now c.args.self.now.values.items c.args.owner c.in-Some.list.now c.len.result c.deref.ensures.value look.3.0 look.1 c.len.ensures

pub returns-in-None : goal.returns-in-None
returns-in-None c =
    length_at-past c.deref.result.now c.args.self.now.values.items c.args.owner c.deref.ensures.value c.in-None.ensures.lookup.3
