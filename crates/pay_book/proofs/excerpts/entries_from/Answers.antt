use Rattle.std.proofs.Common.{◌≡◌, ◌+◌, ◌∷◌, ◌++◌, ℕ, List, Option, [], ap, drop, map, take, ◌∙◌, sym, arith}
use Rattle.std.specs.Option.{option_and_then}
use Rattle.std.proofs.lemmas.List.{map_push}
use Rattle.pay_book.specs.declared.excerpts.ShownEntry.{ShownEntry}
use Rattle.pay_book.specs.declared.payment.Entry.{Entry}
use Rattle.pay_book.specs.Excerpt.{shown_among}
use Rattle.pay_book.specs.Notes.{note_of}
use Rattle.pay_book.specs.Payment.{count_in}
use Rattle.pay_book.specs.Places.{place_in}
use Rattle.pay_book.specs.Statement.{numbered_entries_of}
use Rattle.pay_book.proofs.Entries.{place_is_in, next_place_is}
use Rattle.pay_book.proofs.Lines.{numbered_entry_is, numbered_entries_end}
use Rattle.pay_book.proofs.Pieces.{piece_more, piece_whole}
use Rattle.pay_book.proofs.excerpts.entries_from.Goals as goal

pub entry_at-entry-requires : goal.entry_at-entry-requires
entry_at-entry-requires g c =
    place_is_in (g.S.Source.lists c.args.source.now) c.args.owner (c.args.number + c.loop-shown.shown) c.loop-shown.place c.at-value.result.now c.loop-shown.invariant.at c.at-value.ensures

pub place_after-place-requires-clause-entry : goal.place_after-place-requires-clause-entry
place_after-place-requires-clause-entry g c =
    place_is_in (g.S.Source.lists c.args.source.now) c.args.owner (c.args.number + c.loop-shown.shown) c.loop-shown.place c.at-value.result.now c.loop-shown.invariant.at c.at-value.ensures

pub returns-then-place-length : goal.returns-then-place-length
returns-then-place-length g c =
    let lists = g.S.Source.lists c.args.source.now in
    let number = c.args.number + c.loop-shown.shown in
    let end = numbered_entries_end c.args.accounts lists c.args.owner number c.loop-shown.place c.loop-shown.invariant.at (omega (arith, c.length.ensures)) in
    c.loop-shown.invariant.so_far
    ∙ ap (map (shown_among (lists c.args.owner)))
    (piece_whole (numbered_entries_of c.args.accounts lists c.args.owner) c.args.number c.loop-shown.shown c.args.most end (omega arith))

pub loop-shown-preserved : goal.loop-shown-preserved
loop-shown-preserved g c =
    let lists = g.S.Source.lists c.args.source.now in
    let number = c.args.number + c.loop-shown.shown in
    let place = c.loop-shown.place in
    let value = c.at-value.result.now in
    let all = numbered_entries_of c.args.accounts lists c.args.owner in
    let shown = shown_among (lists c.args.owner) in
    let entry : ℕ × Entry = (place.0, c.entry_at-entry.result) in
    let before = take c.loop-shown.shown (drop c.args.number all) in
    let is = numbered_entry_is c.args.accounts lists c.args.owner number place value c.entry_at-entry.result c.loop-shown.invariant.at c.at-value.ensures c.entry_at-entry.ensures in
    let told : c.in_ok-shown_entry.field-0 ≡ record { seq = place.0; entry = c.entry_at-entry.result; note = note_of value } = c.in_ok-shown_entry.ensures in
    let at_place : shown entry ≡ record { seq = place.0; entry = c.entry_at-entry.result; note = note_of value } =
    ap (λ (v : Option (List ℕ)). record { seq = place.0; entry = c.entry_at-entry.result; note = option_and_then note_of v }) c.at-value.ensures in
    let next : number + 1 ≡ c.args.number + (c.loop-shown.shown + 1) = omega arith in
    record {
      at = c.place_after-place.ensures ∙ next_place_is lists c.args.owner number place value c.loop-shown.invariant.at c.at-value.ensures
          ∙ ap (place_in count_in (lists c.args.owner)) next;
      so_far = c.in_ok-push.ensures.items ∙ ap (λ xs. xs ++ c.in_ok-shown_entry.field-0 ∷ []) c.loop-shown.invariant.so_far
          ∙ ap (λ (e : ShownEntry). map shown before ++ e ∷ []) (told ∙ sym at_place)
          ∙ sym (map_push shown before entry)
          ∙ sym (ap (map shown) (piece_more all c.args.number c.loop-shown.shown entry is));
    }
