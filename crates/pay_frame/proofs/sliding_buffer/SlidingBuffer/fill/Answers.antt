use Rattle.std.proofs.Common.{◌≡◌, ◌+◌, ◌-◌, ◌∙◌, ap, arith, drop, length, length-drop, take, sym, List, ℕ}
use Rattle.std.proofs.lemmas.List.{length-take, with_items_is}
use borrow.Rule.Slice.PartMut.{put_mid}
use Rattle.pay_frame.proofs.Slides.{put_filled, put_length}
use Rattle.pay_frame.proofs.sliding_buffer.SlidingBuffer.fill.Goals as goal

pub returns-clause-reads : goal.returns-clause-reads
returns-clause-reads g c =
    let inside = c.self.inside in
    let moved = c.slide-self-inside in
    let start = moved.result in
    let held_size : ℕ = inside.end - inside.start in
    let end : ℕ = start + held_size in
    let count = c.in_ok-count.count in
    let front : List ℕ = c.deref_mut.result.now in
    let piece : List ℕ = c.read.new.buffer in
    let bytes = c.in_ok-count.ensures.bytes in
    let bound = c.in_ok-count.ensures.bound in
    let same : take held_size (drop start front) ≡ c.args.self.now.bytes = ap (λ xs. take held_size (drop start xs)) c.deref_mut.ensures.value ∙ moved.ensures.kept ∙ ap (λ b. b.bytes) c.self.view_is in
    let within = moved.ensures.within in
    let size : length front ≡ length moved.new.buffer.items = ap length c.deref_mut.ensures.value in
    let len = moved.ensures.len in
    let was = inside.buffer.ok in
    let room : length piece ≡ length front - end = c.read.auto.buffer ∙ length-take (length front - end) (drop end front) ∙ omega (arith, length-drop end front) in
    let whole : List ℕ = put_mid end (length front - end) front piece in
    let sized : length whole ≡ length front = put_length front piece end (length front - end) (omega arith) room in
    let items = with_items_is moved.new.buffer whole (omega (arith, sized, size, moved.new.buffer.ok.0)) in
    let held : length c.args.self.now.bytes ≡ held_size = sym (ap (λ b. length b.bytes) c.self.view_is) ∙ length-take held_size (drop inside.start inside.buffer.items) ∙ omega (arith, length-drop inside.start inside.buffer.items, c.self.invariant.begins, c.self.invariant.ends) in
    let whole_room : length inside.buffer.items ≡ c.args.self.now.room = ap (λ b. b.room) c.self.view_is in
    record {
      piece = take count piece;
      sized = length-take count piece ∙ omega arith;
      taken = bytes.0;
      appended = ap (λ xs. take (end + count - start) (drop start xs)) items ∙ put_filled front piece c.args.self.now.bytes count start held_size (length front - end) (omega arith) same (omega arith);
      end = λ zero. bytes.1 zero (omega (arith, room, size, held, whole_room, c.requires.room, moved.ensures.room));
    }
