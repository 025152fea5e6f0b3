use Rattle.std.proofs.Common.{◌≡◌, ◌+◌, ◌-◌, ◌∙◌, ◌≤◌, ◌++◌, ap, arith, drop, length, take, List, ℕ}
use Rattle.std.proofs.lemmas.List.{length-take, take_all, with_items_is}
use borrow.Rule.Slice.PartMut.{put_mid}
use Rattle.pay_frame.proofs.Slides.{put_filled, put_length}
use Rattle.pay_frame.proofs.sliding_buffer.SlidingBuffer.append.Goals as goal

pub returns-clause-appended : goal.returns-clause-appended
returns-clause-appended c =
    let inside = c.self.inside in
    let moved = c.slide-self-inside in
    let start = moved.result in
    let held_size : ℕ = inside.end - inside.start in
    let end : ℕ = start + held_size in
    let count = c.min-count.result in
    let front : List ℕ = c.deref_mut.result.now in
    let piece : List ℕ = c.copy_from_slice.new.self in
    let same : take held_size (drop start front) ≡ c.args.self.now.bytes = ap (λ xs. take held_size (drop start xs)) c.deref_mut.ensures.value ∙ moved.ensures.kept ∙ ap (λ b. b.bytes) c.self.view_is in
    let size : length front ≡ length moved.new.buffer.items = ap length c.deref_mut.ensures.value in
    let len = moved.ensures.len in
    let taken : piece ≡ take count c.args.piece.now = c.copy_from_slice.ensures.after in
    let few : count ≤ length front - end = omega (arith, size) in
    let filled : length piece ≡ count = ap length taken ∙ length-take count c.args.piece.now ∙ omega arith in
    let whole : List ℕ = put_mid end (end + count - end) front piece in
    let sized : length whole ≡ length front = put_length front piece end (end + count - end) (omega arith) (omega arith) in
    let items = with_items_is moved.new.buffer whole (omega (arith, sized, size, moved.new.buffer.ok.0)) in
    ap (λ xs. take (end + count - start) (drop start xs)) items
    ∙ put_filled front piece c.args.self.now.bytes count start held_size (end + count - end) (omega arith) same (omega arith)
    ∙ ap (λ xs. c.args.self.now.bytes ++ xs) (take_all count piece (omega arith) ∙ taken)
