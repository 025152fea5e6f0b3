use Rattle.std.proofs.Common.{length}
use Rattle.pay_book.specs.Payment.{entries_of}
use Rattle.pay_book.proofs.Entries.{entries_of-grow}
use Rattle.pay_book.proofs.Growing.{largest_grows as grows}
use Rattle.pay_book.proofs.Computing.{largest_front_is_largest}
use Rattle.pay_book.proofs.laws.largest_grows.Goals as goal

pub returns : goal.returns
returns c = λ opening old new grow. let n = length opening in grows opening (entries_of n old) (entries_of n new) _ _ (entries_of-grow n old new grow) (largest_front_is_largest opening (entries_of n old)).1 (largest_front_is_largest opening (entries_of n new)).1
