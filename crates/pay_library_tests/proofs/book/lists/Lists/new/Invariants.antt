use Rattle.std.proofs.Common.{◌≡◌, All, vec_len}
use Rattle.pay_library_tests.proofs.book.lists.Lists.new.Given as goal

abbrev pub invariant-loop-owner : goal.invariant-loop-owner
invariant-loop-owner l = (vec_len l.values ≡ l._owner) × All (λ list. vec_len list ≡ 0) l.values.items
