use Rattle.std.proofs.Common.{◌≡◌, ◌+◌, ◌++◌, [], take, ◌∙◌, sym, arith}
use Rattle.std.specs.List.{cons_option}
use Rattle.std.proofs.lemmas.List.{append-nil}
use Rattle.pay_book.specs.Payment.{count_in}
use Rattle.pay_book.specs.Statement.{numbered_entries_of, incoming_line}
use Rattle.pay_book.proofs.Places.{place_zero}
use Rattle.pay_book.proofs.Entries.{count_in-some, value_to_come, place_is_in, next_place_is, place_is_low}
use Rattle.pay_book.proofs.Lines.{take-numbered_more, filter_map_more_entry}
use Rattle.pay_book.proofs.statements.push_incoming.Goals as goal
use Rattle.pay_book.proofs.statements.push_incoming.Goals.{in-Some+in_ok-push, in_default}

pub loop-number-init : goal.loop-number-init
loop-number-init g c = record {
  at = sym (place_zero count_in (g.S.Source.lists c.args.source.now c.args.owner) count_in-some);
  so_far = sym (append-nil c.args.lines.now.items);
}

pub at-value-requires : goal.at-value-requires
at-value-requires g c =
    value_to_come c.args.accounts (g.S.Source.lists c.args.source.now) c.args.owner c.loop-number.number c.loop-number.place c.loop-number.invariant.at (omega (arith, c.requires, c.loop-number-test.true))

pub entry_at-entry-requires : goal.entry_at-entry-requires
entry_at-entry-requires g c =
    place_is_in (g.S.Source.lists c.args.source.now) c.args.owner c.loop-number.number c.loop-number.place c.at-value.result.now c.loop-number.invariant.at c.at-value.ensures

pub place_after-place-requires-clause-entry : goal.place_after-place-requires-clause-entry
place_after-place-requires-clause-entry g c =
    place_is_in (g.S.Source.lists c.args.source.now) c.args.owner c.loop-number.number c.loop-number.place c.at-value.result.now c.loop-number.invariant.at c.at-value.ensures

pub place_after-place-requires-clause-value : goal.place_after-place-requires-clause-value
place_after-place-requires-clause-value g c =
    let low = place_is_low (g.S.Source.lists c.args.source.now) c.args.owner c.loop-number.number c.loop-number.place c.loop-number.invariant.at in
    let before = c.loop-number-test.true in
    let fits = c.ranges.front in
    omega arith

pub loop-number-preserved : goal.loop-number-preserved
loop-number-preserved g c =
    let lists = g.S.Source.lists c.args.source.now in
    let number = c.loop-number.number in
    let place = c.loop-number.place in
    let entries = numbered_entries_of c.args.accounts lists c.args.owner in
    let entry = c.entry_at-entry.result in
    let more = take-numbered_more c.args.accounts lists c.args.owner number place c.at-value.result.now entry c.loop-number.invariant.at c.at-value.ensures c.entry_at-entry.ensures in
    let pushed : c.match-incoming_line.lines.items ≡ c.loop-number.lines.items ++ cons_option c.incoming_line.result [] =
    elim c.match-incoming_line.branch [
      | in-Some+in_ok-push w ↦ rw (w.lines-is, w.in-Some.is) w.in_ok-push.ensures.items
      | in_default w ↦ rw (w.lines-is, w.in_default.is) (sym (append-nil c.loop-number.lines.items))
    ] in
    record {
      at = c.place_after-place.ensures ∙ next_place_is lists c.args.owner number place c.at-value.result.now c.loop-number.invariant.at c.at-value.ensures;
      so_far = filter_map_more_entry c.args.lines.now.items (take number entries) (take (number + 1) entries) place.0 entry more
          (λ e. incoming_line c.args.account c.args.owner e.0 e.1) c.loop-number.lines.items c.match-incoming_line.lines.items c.incoming_line.result
          c.loop-number.invariant.so_far pushed c.incoming_line.ensures;
    }
