use Rattle.std.proofs.Common.{◌≤◌, ◌++◌, length, ap, ◌∙◌, arith}
use Rattle.std.specs.List.{flat_map}
use Rattle.std.proofs.lemmas.List.{take_all}
use Rattle.pay_book.specs.Payment.{entries_in}
use Rattle.pay_audit.specs.Findings.{payment_or_void}
use Rattle.pay_audit.proofs.Pieces.{element_more}
use Rattle.pay_audit.proofs.findings.push_entries.Goals as goal

pub loop-place-preserved : goal.loop-place-preserved
loop-place-preserved c =
    element_more c.args.out.now.items payment_or_void (entries_in c.args.members c.args.owner c.args.value.now) c.loop-place.place c.entry_at.result
    c.loop-place.out.items _ c.entry_at.ensures c.loop-place.invariant c.in_ok-push_entry.ensures

pub returns : goal.returns
returns c =
    let xs = entries_in c.args.members c.args.owner c.args.value.now in
    let count = c.values_count_their_entries.ensures c.args.members c.args.owner c.args.value.now in
    let all : length xs ≤ c.loop-place.place = omega (arith, count, c.loop-place-test.false, c.entries_in-place-end.ensures) in
    c.loop-place.invariant ∙ ap (λ es. c.args.out.now.items ++ flat_map payment_or_void es) (take_all c.loop-place.place xs all)
