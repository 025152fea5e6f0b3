use Rattle.std.proofs.Common.{◌≤◌, length, map, ap, ◌∙◌, arith}
use Rattle.std.specs.List.{enumerate_from, flat_map}
use Rattle.std.proofs.lemmas.List.{take_all}
use Rattle.pay_book.specs.Payment.{entries_in}
use Rattle.pay_book.specs.Statement.{numbered_entries_of}
use Rattle.pay_group.proofs.Numbering.{one_value}
use Rattle.pay_group.proofs.lines.numbered_entries.Goals as goal

pub loop-seq-preserved : goal.loop-seq-preserved
loop-seq-preserved g c =
    one_value (λ v. map (λ e. (v.0, e)) (entries_in c.args.accounts c.args.account v.1)) (g.S.Source.lists c.args.source.now c.args.account)
    c.loop-seq.seq c.at.result.now c.loop-seq.entries.items c.push_entries.new.entries.items c.at.ensures c.loop-seq.invariant
    c.in_ok-push_entries.ensures

pub returns : goal.returns
unfolding numbered_entries_of
returns g c =
    let xs = g.S.Source.lists c.args.source.now c.args.account in
    let all : length xs ≤ c.loop-seq.seq = omega (arith, c.loop-seq-test.false, c.length-seq-end.ensures) in
    c.loop-seq.invariant
    ∙ ap (λ vs. flat_map (λ v. map (λ e. (v.0, e)) (entries_in c.args.accounts c.args.account v.1)) (enumerate_from 0 vs)) (take_all c.loop-seq.seq xs all)
