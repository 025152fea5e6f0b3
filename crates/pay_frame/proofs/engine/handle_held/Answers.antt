use Rattle.std.proofs.Common.{◌≡◌, ◌∙◌, ◌+◌, ap, sym, [], arith, drop, length, Err, Ok, Some, inr, true, false, rules}
use Rattle.std.specs.Io.KnownBytes.{Appends}
use Rattle.std.proofs.KnownBytes.{Consumes-nil}
use Rattle.std.proofs.lemmas.List.{drop_at, length-append}
use Rattle.pay_frame.specs.declared.engine.EngineFault.TheVariants.{Memory, Write}
use Rattle.pay_frame.specs.Device.{WroteBeginning}
use Rattle.pay_frame.specs.Frame.{frame_bytes}
use Rattle.pay_frame.specs.Lent.{fields_of}
use Rattle.pay_frame.specs.Reading.{IsFault, IsReading}
use Rattle.pay_frame.specs.Handling.{HandlesOne, InProgress}
use Rattle.pay_frame.proofs.Handlings.{stage_at, frame_handled, front_written, given_at_fault, memory_refused, some_written, stops, stream_at_fault, waiting_written}
use Rattle.pay_frame.proofs.engine.handle_held.Goals as goal

pub returns-in_err-write_text-in-Ok-None-clause-handles :
    goal.returns-in_err-write_text-in-Ok-None-clause-handles
returns-in_err-write_text-in-Ok-None-clause-handles g c =
    let contents = g.Out.Output.contents in
    let told : WroteBeginning (contents c.frames.writer) (contents c.write_text.new.writer) c.frames.out.items = rw c.deref.ensures.value at c.in_err-write_text-in-Ok-None.ensures.beginning in
    let write : c.from_residual.result ≡ Err Write = search rules in
    rw write (λ start left reads going. some_written _ start c.frames.state left _ _ c.frames.held.bytes c.frames.out.items reads (c.frames.invariant.handles start left reads going) told)

pub returns-in-Ok-None-clause-handles : goal.returns-in-Ok-None-clause-handles
returns-in-Ok-None-clause-handles g c =
    let contents = g.Out.Output.contents in
    let told : Appends (contents c.frames.writer) (contents c.write_text.new.writer) c.frames.out.items = rw c.deref.ensures.value at c.in_ok-write_text-in-Ok-None.ensures.ok in
    λ start left reads going. waiting_written _ start c.frames.state left _ _ c.frames.held.bytes c.frames.out.items reads (c.frames.invariant.handles start left reads going) told

pub returns-in_err-write_text-in-Err-clause-handles :
    goal.returns-in_err-write_text-in-Err-clause-handles
returns-in_err-write_text-in-Err-clause-handles g c =
    let contents = g.Out.Output.contents in
    let told : WroteBeginning (contents c.frames.writer) (contents c.write_text-in-Err.new.writer) c.frames.out.items = rw c.deref-in-Err.ensures.value at c.in_err-write_text-in-Err.ensures.beginning in
    let write : c.from_residual-in_err-write_text-in-Err.result ≡ Err Write = search rules in
    rw write (λ start left reads going. some_written _ start c.frames.state left _ _ c.frames.held.bytes c.frames.out.items reads (c.frames.invariant.handles start left reads going) told)

pub returns-in-Err-clause-handles : goal.returns-in-Err-clause-handles
returns-in-Err-clause-handles g c =
    let h = g.H.FrameHandler.handling c.args.handler.now in
    let contents = g.Out.Output.contents in
    let held = c.frames.held.bytes in
    let told : Appends (contents c.frames.writer) (contents c.write_text-in-Err.new.writer) c.frames.out.items = rw c.deref-in-Err.ensures.value at c.in_ok-write_text-in-Err.ensures.ok in
    let wrong : IsFault held c.in-Err.fault = rw c.bytes.ensures at c.in-Err.ensures.reading in
    λ start left reads going.
    let was : InProgress h start (stage_at c.frames.state left (contents c.write_text-in-Err.new.writer)) held [] reads = waiting_written h start c.frames.state left _ _ held c.frames.out.items reads (c.frames.invariant.handles start left reads going) told in
    c.end_at.ensures.handles start left left held reads was (Consumes-nil left) (given_at_fault was.read held was.frames c.in-Err.fault c.fault_is_for_good.ensures.stream was.cut wrong)
    (stream_at_fault start.input left was.read held was.frames c.in-Err.fault c.fault_is_for_good.ensures.stream was.consumed was.cut wrong)

pub returns-in_err-write_before-clause-handles : goal.returns-in_err-write_before-clause-handles
returns-in_err-write_before-clause-handles g c =
    let write : c.from_residual-in_err-write_before.result ≡ Err Write = search rules in
    rw write (λ start left reads going. some_written _ start c.frames.state left _ _ c.frames.held.bytes c.frames.out.items reads (c.frames.invariant.handles start left reads going) c.in_err-write_before.ensures.beginning)

pub returns-in_err-handle-clause-handles : goal.returns-in_err-handle-clause-handles
returns-in_err-handle-clause-handles g c =
    let h = g.H.FrameHandler.handling c.args.handler.now in
    let held = c.frames.held.bytes in
    let f = fields_of c.in-Ok-Some.found.0 in
    let reading : IsReading held (Ok (Some (f, c.in-Ok-Some.found.1))) = rw c.bytes.ensures at (rw c.in-Ok-Some.field-0-is at c.in-Ok-Some.ensures.reading) in
    let memory : c.from_residual-in_err-handle.result ≡ Err Memory = search rules in
    rw memory (λ start left reads going. memory_refused h start c.frames.state c.handle.new.state left _ held c.write_before.new.out.items f reads c.stream_grows.ensures.frame
    (front_written h start c.frames.state left _ _ held c.frames.out.items _ reads (c.frames.invariant.handles start left reads going) c.in_ok-write_before.ensures.written) reading.0 c.in_err-handle.ensures.handles)

pub returns-in_err-write_text-clause-handles : goal.returns-in_err-write_text-clause-handles
returns-in_err-write_text-clause-handles g c =
    let h = g.H.FrameHandler.handling c.args.handler.now in
    let contents = g.Out.Output.contents in
    let held = c.frames.held.bytes in
    let f = fields_of c.in-Ok-Some.found.0 in
    let off : c.in_ok-handle.field-0 ≡ false = search rules in
    let one : HandlesOne h c.frames.state c.handle.new.state f c.write_before.new.out.items c.handle.new.out.items (Ok false) = rw off at c.in_ok-handle.ensures.handles in
    let told : WroteBeginning (contents c.write_before.new.writer) (contents c.write_text-then-not-branch.new.writer) c.write_before.new.out.items = rw one.2 at (rw c.deref-then-not-branch.ensures.value at c.in_err-write_text.ensures.beginning) in
    let write : c.from_residual-in_err-write_text.result ≡ Err Write = search rules in
    rw write (λ start left reads going. rw one.1 (some_written h start c.frames.state left _ _ held c.write_before.new.out.items reads
    (front_written h start c.frames.state left _ _ held c.frames.out.items _ reads (c.frames.invariant.handles start left reads going) c.in_ok-write_before.ensures.written) told))

pub returns-then-not-branch-clause-handles : goal.returns-then-not-branch-clause-handles
returns-then-not-branch-clause-handles g c =
    let h = g.H.FrameHandler.handling c.args.handler.now in
    let contents = g.Out.Output.contents in
    let held = c.frames.held.bytes in
    let f = fields_of c.in-Ok-Some.found.0 in
    let reading : IsReading held (Ok (Some (f, c.in-Ok-Some.found.1))) = rw c.bytes.ensures at (rw c.in-Ok-Some.field-0-is at c.in-Ok-Some.ensures.reading) in
    let off : c.in_ok-handle.field-0 ≡ false = search rules in
    let one : HandlesOne h c.frames.state c.handle.new.state f c.write_before.new.out.items c.handle.new.out.items (Ok false) = rw off at c.in_ok-handle.ensures.handles in
    let told : Appends (contents c.write_before.new.writer) (contents c.write_text-then-not-branch.new.writer) c.write_before.new.out.items = rw one.2 at (rw c.deref-then-not-branch.ensures.value at c.in_ok-write_text.ensures.ok) in
    λ start left reads going. inr (stops h start c.frames.state c.handle.new.state left _ held f reads c.stream_grows.ensures.frame
    (waiting_written h start c.frames.state left _ _ held c.write_before.new.out.items reads
    (front_written h start c.frames.state left _ _ held c.frames.out.items _ reads (c.frames.invariant.handles start left reads going) c.in_ok-write_before.ensures.written) told) reading.0 one.0 one.1)

pub frames-preserved : goal.frames-preserved
frames-preserved g c =
    let h = g.H.FrameHandler.handling c.args.handler.now in
    let held = c.frames.held.bytes in
    let f = fields_of c.in-Ok-Some.found.0 in
    let reading : IsReading held (Ok (Some (f, c.in-Ok-Some.found.1))) = rw c.bytes.ensures at (rw c.in-Ok-Some.field-0-is at c.in-Ok-Some.ensures.reading) in
    let on : c.in_ok-handle.field-0 ≡ true = search rules in
    let one : HandlesOne h c.frames.state c.handle.new.state f c.write_before.new.out.items c.handle.new.out.items (Ok true) = rw on at c.in_ok-handle.ensures.handles in
    let front = reading.0 in
    let size = c.frame_sizes.ensures.frame f front.is in
    let longer = ap length front.spelled in
    let left_over : c.consume.new.self.bytes ≡ front.rest = c.consume.ensures.left ∙ ap (drop c.in-Ok-Some.found.1) front.spelled ∙ drop_at (frame_bytes f) front.rest c.in-Ok-Some.found.1 (sym reading.1) in
    let shorter = ap length left_over in
    record {
      handles = λ start left reads going. rw left_over (frame_handled h start c.frames.state c.handle.new.state left _ held c.write_before.new.out.items c.handle.new.out.items one.0 f reads c.stream_grows.ensures.frame
          (front_written h start c.frames.state left _ _ held c.frames.out.items _ reads (c.frames.invariant.handles start left reads going) c.in_ok-write_before.ensures.written) front one.1 one.2);
      room = λ n le. g.met.H.FrameHandler.keeps_room c.args.handler.now c.frames.state c.handle.new.state f one.0 n one.1 (c.frames.invariant.room (n + 1) (omega (arith, length-append (frame_bytes f) front.rest)));
      writes = search rules;
      same_room = search rules;
    }
