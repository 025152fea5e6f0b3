use Rattle.std.proofs.Common.{◌≡◌, ◌++◌, slice_index}
use Rattle.pay_member.specs.Events.{events}
use Rattle.pay_member.specs.Book.{book_after}
use Rattle.pay_sim.specs.Words.{account_number_words}
use Rattle.pay_sim.proofs.words.push_fronts.Given as goal

-- a number for each account so far
abbrev pub invariant-loop-account : goal.invariant-loop-account
invariant-loop-account g l =
    l.out.items
    ≡ l.fn.out.items ++ account_number_words (slice_index (book_after l.member.genesis l.member.keys.own (events l.member.history)).front) l.account
