use Rattle.std.proofs.Common.{◌≤◌, ◌++◌, length, map, ap, ◌∙◌, arith}
use Rattle.std.proofs.lemmas.List.{take_all}
use Rattle.pay_book.specs.Payment.{entries_in}
use Rattle.pay_group.proofs.Numbering.{one_entry}
use Rattle.pay_group.proofs.lines.push_entries.Goals as goal

pub loop-place-preserved : goal.loop-place-preserved
loop-place-preserved c =
    one_entry (λ e. (c.args.seq, e)) (entries_in c.args.accounts c.args.account c.args.value.now) c.loop-place.place c.entry_at.result
    c.args.entries.now.items c.loop-place.entries.items c.push.new.self.items c.entry_at.ensures c.loop-place.invariant c.in_ok-push.ensures.items

pub returns : goal.returns
returns c =
    let xs = entries_in c.args.accounts c.args.account c.args.value.now in
    let count = c.values_count_their_entries.ensures c.args.accounts c.args.account c.args.value.now in
    let all : length xs ≤ c.loop-place.place = omega (arith, count, c.loop-place-test.false, c.entries_in-place-end.ensures) in
    c.loop-place.invariant ∙ ap (λ es. c.args.entries.now.items ++ map (λ e. (c.args.seq, e)) es) (take_all c.loop-place.place xs all)
