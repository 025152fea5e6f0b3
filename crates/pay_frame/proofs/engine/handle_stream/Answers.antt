use Rattle.std.proofs.Common.{◌≡◌, ◌∙◌, ◌<◌, ◌≤◌, ap, ℕ, [], Err, Some, None, inl, length, true, false, arith, rules, sym}
use Rattle.std.proofs.lemmas.Grind.{common_steps}
use Rattle.std.specs.Io.KnownBytes.{IsAtEnd}
use Rattle.std.proofs.lemmas.List.{nil_from_length}
use Rattle.pay_frame.specs.declared.engine.EngineFault.{EngineFault}
use Rattle.pay_frame.specs.declared.engine.EngineFault.TheVariants.{Memory, Write}
use Rattle.pay_frame.specs.declared.reading.FrameFault.TheVariants.{Truncated}
use Rattle.pay_frame.specs.Stream.{CutOff, IsStream, Nothing}
use Rattle.pay_frame.specs.declared.limits.TheConstants.{MOST_READS, READ_ROOM}
use Rattle.pay_frame.specs.Handling.{Start}
use Rattle.pay_frame.proofs.Handlings.{all, at_start, fed_piece, first_failed, gave, none_written, nothing_more, nothing_read, read_all, room_after, some_bytes, stream_at_end}
use Rattle.pay_frame.proofs.engine.handle_stream.Goals as goal

pub returns-in_err-held-clause-handled : goal.returns-in_err-held-clause-handled
returns-in_err-held-clause-handled g c =
    let memory : c.from_residual.result ≡ Err Memory = search rules in
    rw memory (first_failed (g.H.FrameHandler.handling c.args.handler.now) _ _ (c.stream_grows.ensures.nothing []) (none_written _ c.args.first.now))

pub returns-in_err-write_text-clause-handled : goal.returns-in_err-write_text-clause-handled
returns-in_err-write_text-clause-handled g c =
    let write : c.from_residual-in_err-write_text.result ≡ Err Write = search rules in
    rw write (first_failed (g.H.FrameHandler.handling c.args.handler.now) _ _ (c.stream_grows.ensures.nothing []) c.in_err-write_text.ensures.beginning)

pub loop-init : goal.loop-init
loop-init g c =
    let contents = g.Out.Output.contents in
    let start : Start g.row.S.Denot = record { first = c.args.first.now; state = c.args.state.now; input = g.In.Input.remaining c.args.reader.now; before = contents c.args.writer.now } in
    let empty : c.in_ok-held.held.bytes ≡ [] = ap (λ b. b.bytes) c.in_ok-held.ensures.empty in
    record {
      handling = at_start (g.H.FrameHandler.handling c.args.handler.now) start (contents c.write_text.new.writer) c.in_ok-held.held.bytes (c.stream_grows.ensures.nothing []) empty c.in_ok-write_text.ensures.ok;
      begins = rw empty c.nothing_is_a_beginning.ensures.law;
      room = search rules;
      calls = search rules;
      most = search rules;
      reads = search rules;
      writes = search rules;
    }

pub returns-in-Err-clause-handled : goal.returns-in-Err-clause-handled
returns-in-Err-clause-handled g c =
    let same : c.fill.new.self.bytes ≡ c.loop.held.bytes = c.in-Err.ensures.kept in
    let going = c.loop.invariant.handling in
    (c.loop.counter, (c.loop.held.bytes, read_all _ _ _ _ _ _ _ c.loop.counter (nothing_read _ _ c.in-Err.ensures.none) going, c.loop.invariant.begins))

pub returns-then-is_empty-clause-handled : goal.returns-then-is_empty-clause-handled
returns-then-is_empty-clause-handled g c =
    let remaining = g.In.Input.remaining in
    let more = c.in-Ok.ensures.reads in
    let zero : c.in-Ok.count ≡ 0 = omega arith in
    let none = nothing_more c.loop.held.bytes c.fill.new.self.bytes (remaining c.loop.reader) (remaining c.fill.new.reader) c.in-Ok.count more zero in
    let end : IsAtEnd (remaining c.fill.new.reader) = more.end zero in
    let short : length c.bytes.result.now ≡ 0 = search rules in
    let empty : c.loop.held.bytes ≡ [] = sym none.1 ∙ sym c.bytes.ensures ∙ nil_from_length c.bytes.result.now short in
    let going = c.loop.invariant.handling in
    let stream : IsStream going.read going.frames None = record { rest = c.loop.held.bytes; cut = going.cut; ends = Nothing empty } in
    inl (all _ _ _ _ _ _ _ c.loop.counter going none.0 stream (stream_at_end _ _ _ going.read going.frames None going.consumed none.0 end stream), end)

pub returns-then-count-eq0-clause-handled : goal.returns-then-count-eq0-clause-handled
returns-then-count-eq0-clause-handled g c =
    let remaining = g.In.Input.remaining in
    let more = c.in-Ok.ensures.reads in
    let zero : c.in-Ok.count ≡ 0 = c.if-count-eq0.true in
    let none = nothing_more c.loop.held.bytes c.fill.new.self.bytes (remaining c.loop.reader) (remaining c.fill.new.reader) c.in-Ok.count more zero in
    let end : IsAtEnd (remaining c.fill.new.reader) = more.end zero in
    let held : c.bytes.result.now ≡ c.loop.held.bytes = c.bytes.ensures ∙ none.1 in
    let some : 0 < length c.loop.held.bytes = some_bytes c.bytes.result.now c.loop.held.bytes (search rules) held in
    let going = c.loop.invariant.handling in
    let stream : IsStream going.read going.frames (Some Truncated) = record { rest = c.loop.held.bytes; cut = going.cut; ends = CutOff some c.loop.invariant.begins } in
    c.end_at.ensures.handles _ _ _ _ c.loop.counter going none.0 stream (stream_at_end _ _ _ going.read going.frames (Some Truncated) going.consumed none.0 end stream)

pub handle_held-requires : goal.handle_held-requires
handle_held-requires g c = record {
  room = λ n le.
      let h = g.H.FrameHandler.handling c.args.handler.now in
      let going = c.loop.invariant.handling in
      let few = going.few in
      let Room : g.row.S.Denot → ℕ → Type 0 = λ s m. g.H.FrameHandler.has_room c.args.handler.now s m in
      let count = c.frame_sizes.ensures.count going.read c.loop.held.bytes going.frames going.cut in
      room_after h Room (λ s t f text m. g.met.H.FrameHandler.keeps_room c.args.handler.now s t f text m) c.args.state.now c.loop.state going.frames going.text n going.handled (c.requires.room _ (omega (arith, c.fill.ensures.most, c.fill.ensures.room, c.loop.invariant.room)));
}

pub returns-in_err-handle_held-clause-handled : goal.returns-in_err-handle_held-clause-handled
returns-in_err-handle_held-clause-handled g c =
    let h = g.H.FrameHandler.handling c.args.handler.now in
    let rest = g.In.Input.remaining c.fill.new.reader in
    let few : length c.fill.new.self.bytes ≤ READ_ROOM = omega (arith, c.fill.ensures.most, c.fill.ensures.room, c.loop.invariant.room) in
    let some : 0 < c.in-Ok.count = omega (arith, c.if-count-eq0.false) in
    let going = fed_piece h _ c.loop.state (g.In.Input.remaining c.loop.reader) rest (g.Out.Output.contents c.loop.writer) c.loop.held.bytes c.fill.new.self.bytes c.in-Ok.count c.loop.counter c.stream_grows.ensures.piece c.in-Ok.ensures.reads few some c.loop.invariant.handling in
    let e : EngineFault = c.in_err-handle_held.field-0.0 in
    let same : c.from_residual-in_err-handle_held.result ≡ Err e = search rules in
    rw same (c.in_err-handle_held.ensures.handles _ _ _ going)

pub returns-then-not-branch-clause-handled : goal.returns-then-not-branch-clause-handled
returns-then-not-branch-clause-handled g c =
    let h = g.H.FrameHandler.handling c.args.handler.now in
    let rest = g.In.Input.remaining c.fill.new.reader in
    let few : length c.fill.new.self.bytes ≤ READ_ROOM = omega (arith, c.fill.ensures.most, c.fill.ensures.room, c.loop.invariant.room) in
    let some : 0 < c.in-Ok.count = omega (arith, c.if-count-eq0.false) in
    let going = fed_piece h _ c.loop.state (g.In.Input.remaining c.loop.reader) rest (g.Out.Output.contents c.loop.writer) c.loop.held.bytes c.fill.new.self.bytes c.in-Ok.count c.loop.counter c.stream_grows.ensures.piece c.in-Ok.ensures.reads few some c.loop.invariant.handling in
    let off : c.in_ok-handle_held.field-0 ≡ false = search rules in
    rw off at (c.in_ok-handle_held.ensures.handles _ _ _ going)

pub loop-preserved : goal.loop-preserved
loop-preserved g c =
    let h = g.H.FrameHandler.handling c.args.handler.now in
    let rest = g.In.Input.remaining c.fill.new.reader in
    let few : length c.fill.new.self.bytes ≤ READ_ROOM = omega (arith, c.fill.ensures.most, c.fill.ensures.room, c.loop.invariant.room) in
    let some : 0 < c.in-Ok.count = omega (arith, c.if-count-eq0.false) in
    let going = fed_piece h _ c.loop.state (g.In.Input.remaining c.loop.reader) rest (g.Out.Output.contents c.loop.writer) c.loop.held.bytes c.fill.new.self.bytes c.in-Ok.count c.loop.counter c.stream_grows.ensures.piece c.in-Ok.ensures.reads few some c.loop.invariant.handling in
    let on : c.in_ok-handle_held.field-0 ≡ true = search rules in
    record {
      handling = rw on at (c.in_ok-handle_held.ensures.handles _ _ _ going);
      begins = c.in_ok-handle_held.ensures.begins on;
      room = search rules;
      calls = search rules;
      most = search rules;
      reads = search rules;
      writes = search rules;
    }

pub returns-clause-handled : goal.returns-clause-handled
returns-clause-handled g c =
    let all : c.loop.counter ≡ MOST_READS = omega arith in
    (_, rw all at c.loop.invariant.handling, c.loop.invariant.begins)

pub returns-clause-counts : goal.returns-clause-counts
returns-clause-counts g c = record {
  read = search rules;
  write = search rules;
  memory = search rules;
  most = search rules;
  bound = search rules;
  gave = λ _. gave _ _ _ _ _ _ _ MOST_READS c.loop.invariant.handling (omega arith);
}

pub returns-in_err-handle_held-clause-counts : goal.returns-in_err-handle_held-clause-counts
returns-in_err-handle_held-clause-counts g c = grind (arith, common_steps)

pub returns-then-not-branch-clause-counts : goal.returns-then-not-branch-clause-counts
returns-then-not-branch-clause-counts g c = grind (arith, common_steps)
