use Rattle.std.proofs.Common.{sym, slice_index}
use Rattle.std.proofs.lemmas.List.{append-nil}
use Rattle.pay_member.specs.Events.{events}
use Rattle.pay_member.specs.Book.{book_after}
use Rattle.pay_sim.specs.Words.{account_number_words}
use Rattle.pay_sim.proofs.Accounts.{words_more}
use Rattle.pay_sim.proofs.words.push_balances.Goals as goal

pub loop-account-init : goal.loop-account-init
unfolding account_number_words
loop-account-init g c = sym (append-nil c.args.out.now.items)

pub loop-account-preserved : goal.loop-account-preserved
loop-account-preserved g c =
    let member = c.args.member.now in
    words_more (slice_index (book_after member.genesis member.keys.own (events member.history)).balances) c.loop-account.account
    c.balance.result c.args.out.now.items c.loop-account.out.items c.push_word.new.out.items c.push_number.new.out.items
    c.loop-account.invariant c.in_ok-push_word.ensures c.balance.ensures c.in_ok-push_number.ensures
