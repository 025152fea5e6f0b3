use Rattle.pay_group.proofs.BookVouching.{vouched_for}
use Rattle.pay_group.proofs.laws.book_is_vouched_for.Goals as goal

pub returns : goal.returns
returns c = vouched_for c.backed_is_vouched_for.ensures c.members_vouch_once.ensures
