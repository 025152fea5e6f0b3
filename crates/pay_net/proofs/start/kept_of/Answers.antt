use Rattle.std.proofs.Common.{[], refl, rules, subst, sym, arith}
use Rattle.pay_net.proofs.Starts.{AreKeptSoFar, all_kept, kept_on, nothing_kept, refused_at}
use Rattle.pay_net.proofs.start.kept_of.Goals as goal

pub loop-entry-init : goal.loop-entry-init
loop-entry-init c = subst (AreKeptSoFar [] c.args.ids.now) (sym c.new-kept.ensures) (nothing_kept, refl, omega arith)

pub loop-entry-preserved : goal.loop-entry-preserved
loop-entry-preserved c =
    kept_on c.args.history.now c.loop-entry.entry-index c.entry-item.result c.args.ids.now c.loop-entry.kept c.keep_entry.new.kept
    c.loop-entry-test.true c.entry-item.is c.loop-entry.invariant c.in_ok-keep_entry.ensures.kept

pub returns-clause-kept : goal.returns-clause-kept
returns-clause-kept c =
    (all_kept c.args.history.now c.loop-entry.entry-index c.args.ids.now c.loop-entry.kept (let over = c.loop-entry-test.false in omega arith)
    (search rules) c.loop-entry.invariant).0

pub returns-clause-ids : goal.returns-clause-ids
returns-clause-ids c =
    (all_kept c.args.history.now c.loop-entry.entry-index c.args.ids.now c.loop-entry.kept (let over = c.loop-entry-test.false in omega arith)
    (search rules) c.loop-entry.invariant).1

pub returns-in_err-keep_entry-clause-refused : goal.returns-in_err-keep_entry-clause-refused
returns-in_err-keep_entry-clause-refused c = λ is.
    refused_at c.args.history.now c.loop-entry.entry-index c.entry-item.result c.args.ids.now c.loop-entry.kept
    c.loop-entry-test.true c.entry-item.is c.loop-entry.invariant (c.in_err-keep_entry.ensures.refused (search rules))
