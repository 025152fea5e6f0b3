use Rattle.std.proofs.Common.{ℕ, ◌-◌, slice_index, slice_set, length-set, arith, rules}
use Rattle.std.proofs.lemmas.List.Sums.{sum_by-set, get_or-le-sum_by}
use Rattle.pay_book.proofs.accounts.transfer.Goals as goal

-- what the payee has together with the amount was in the balances before
pub overflow_add-balances : goal.overflow_add-balances
overflow_add-balances c =
    let old = c.args.balances.now in
    let left = slice_index old c.args.account - c.in-Pay.amount in
    let payee = rw c.in-Pay.is at c.requires.payee in
    let covered = rw c.in-Pay.is at c.requires.covered in
    let taken = sum_by-set (λ (x : ℕ). x) old c.args.account left 0 c.requires.account in
    let part = get_or-le-sum_by (λ (x : ℕ). x) (slice_set old c.args.account left) c.in-Pay.payee 0 (omega (arith, length-set {A = ℕ})) in
    omega arith

pub returns-in-Pay : goal.returns-in-Pay
returns-in-Pay c = search rules
