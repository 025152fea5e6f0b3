use Rattle.std.proofs.Common.{◌≡◌, ◌∷◌, ◌++◌, [], List, ℕ, Ok, Err, true, false, rules, arith, ap, subst, sym, ◌∙◌, inl, inr, take, length-take}
use Rattle.std.proofs.lemmas.Grind.{common_steps}
use Rattle.std.specs.Io.KnownBytes.{Consumes, IsAtEnd}
use Rattle.std.specs.Prelude.{OnOk}
use Rattle.pay_frame.specs.declared.device.StreamFault.{StreamFault}
use Rattle.pay_frame.specs.Device.{next_count}
use Rattle.pay_text.specs.Cutting.{is_nothing, lines_after}
use Rattle.pay_text.proofs.Waiting.{goes_from_nothing}
use Rattle.pay_text.proofs.Rounds.{ends_empty, last_goes, last_writes, piece_goes, goes_on}
use Rattle.pay_text.proofs.engine.read_once.Goals as goal

pub returns-then-is_empty-clause-reads : goal.returns-then-is_empty-clause-reads
returns-then-is_empty-clause-reads g c =
    let remaining = g.R.Input.remaining in
    let none : c.in-Ok.count ≡ 0 = omega arith in
    let bytes = c.in-Ok.ensures.bytes in
    let consumed : Consumes (remaining c.args.reader.now) (remaining c.read.new.self) [] = rw none at bytes.0 in
    let end : IsAtEnd (remaining c.read.new.self) = bytes.1 none (omega arith) in
    let nothing : is_nothing c.args.cutter.now.line ≡ true = sym c.is_empty.ensures ∙ c.if-is_empty.true in
    λ old input reads going. (ends_empty g.A.Answerer.says g.A.Answerer.gives_up c.args.cutter.now.bound c.args.cutter.now.line old.answerer c.args.answerer.now input _ _ old.written _ reads going consumed end nothing, end)

pub returns-in_err-may_follow-clause-reads : goal.returns-in_err-may_follow-clause-reads
returns-in_err-may_follow-clause-reads g c =
    let remaining = g.R.Input.remaining in
    let none : c.in-Ok.count ≡ 0 = omega arith in
    let bytes = c.in-Ok.ensures.bytes in
    let consumed : Consumes (remaining c.args.reader.now) (remaining c.read.new.self) [] = rw none at bytes.0 in
    let end : IsAtEnd (remaining c.read.new.self) = bytes.1 none (omega arith) in
    let some : is_nothing c.args.cutter.now.line ≡ false = sym c.is_empty.ensures ∙ c.if-is_empty.false in
    let contents = g.W.Output.contents in
    let made = c.answer_line-answered in
    let e : StreamFault = c.in_err-may_follow.field-0.0 in
    let same : c.from_residual.result ≡ Err e = search rules in
    let goes = (goes_from_nothing g.A.Answerer.says g.A.Answerer.gives_up (c.args.cutter.now.line ∷ []) [] c.args.answerer.now made.new.answerer (contents c.args.writer.now) (contents made.new.writer) _ c.args.outbox.now made.new.outbox made.result (Err e) c.requires (made.ensures.goes []) c.in_err-may_follow.ensures.written) in
    rw same (λ old input reads going. last_goes g.A.Answerer.says g.A.Answerer.gives_up c.args.cutter.now.bound c.args.cutter.now.line old.answerer c.args.answerer.now made.new.answerer input _ _ old.written _ _ reads (Err e) going consumed end some goes)

pub returns-then-count-eq0-clause-reads : goal.returns-then-count-eq0-clause-reads
returns-then-count-eq0-clause-reads g c =
    let remaining = g.R.Input.remaining in
    let none : c.in-Ok.count ≡ 0 = omega arith in
    let bytes = c.in-Ok.ensures.bytes in
    let consumed : Consumes (remaining c.args.reader.now) (remaining c.read.new.self) [] = rw none at bytes.0 in
    let end : IsAtEnd (remaining c.read.new.self) = bytes.1 none (omega arith) in
    let some : is_nothing c.args.cutter.now.line ≡ false = sym c.is_empty.ensures ∙ c.if-is_empty.false in
    let contents = g.W.Output.contents in
    let made = c.answer_line-answered in
    let goes = (goes_from_nothing g.A.Answerer.says g.A.Answerer.gives_up (c.args.cutter.now.line ∷ []) [] c.args.answerer.now made.new.answerer (contents c.args.writer.now) (contents made.new.writer) _ c.args.outbox.now made.new.outbox made.result (Ok c.in_ok-may_follow.may_follow) c.requires (made.ensures.goes []) c.in_ok-may_follow.ensures.written) in
    λ old input reads going. last_writes g.A.Answerer.says g.A.Answerer.gives_up c.args.cutter.now.bound c.args.cutter.now.line old.answerer c.args.answerer.now made.new.answerer input _ _ old.written _ _ reads c.in_ok-may_follow.may_follow going consumed end some goes

pub returns-in_err-finish_writing-clause-reads : goal.returns-in_err-finish_writing-clause-reads
returns-in_err-finish_writing-clause-reads g c =
    let contents = g.W.Output.contents in
    let made = c.answer_lines-answered in
    let piece = take c.in-Ok.count c.read.new.buffer in
    let e : StreamFault = c.in_err-finish_writing.field-0.0 in
    let same : c.from_residual-in_err-finish_writing.result ≡ Err e = search rules in
    let goes = λ (more : List ℕ). goes_from_nothing g.A.Answerer.says g.A.Answerer.gives_up (lines_after c.args.cutter.now.bound c.args.cutter.now.line (piece ++ more)) (lines_after c.args.cutter.now.bound made.new.cutter.line more) c.args.answerer.now made.new.answerer (contents c.args.writer.now) (contents made.new.writer) _ c.args.outbox.now made.new.outbox made.result (Err e) c.requires (made.ensures.goes more) c.in_err-finish_writing.ensures.written in
    rw same (λ old input reads going. piece_goes g.A.Answerer.says g.A.Answerer.gives_up c.args.cutter.now.bound c.args.cutter.now.line made.new.cutter.line old.answerer c.args.answerer.now made.new.answerer input _ _ old.written _ _ reads piece (Err e) going c.in-Ok.ensures.bytes.0 goes)

pub returns-then-branch-clause-reads : goal.returns-then-branch-clause-reads
returns-then-branch-clause-reads g c =
    let contents = g.W.Output.contents in
    let made = c.answer_lines-answered in
    let piece = take c.in-Ok.count c.read.new.buffer in
    let on : c.in_ok-finish_writing.field-0 ≡ true = search rules in
    let count = length-take c.in-Ok.count c.read.new.buffer in
    let bound = c.in-Ok.ensures.bound in
    let goes = λ (more : List ℕ). goes_from_nothing g.A.Answerer.says g.A.Answerer.gives_up (lines_after c.args.cutter.now.bound c.args.cutter.now.line (piece ++ more)) (lines_after c.args.cutter.now.bound made.new.cutter.line more) c.args.answerer.now made.new.answerer (contents c.args.writer.now) (contents made.new.writer) _ c.args.outbox.now made.new.outbox made.result (Ok true) c.requires (made.ensures.goes more) (rw on at c.in_ok-finish_writing.ensures.written) in
    λ old input reads going. goes_on g.A.Answerer.says g.A.Answerer.gives_up c.args.cutter.now.bound c.args.cutter.now.line made.new.cutter.line old.answerer c.args.answerer.now made.new.answerer input _ _ old.written _ _ reads piece going c.in-Ok.ensures.bytes.0 (omega arith) goes

pub returns-else-branch-clause-reads : goal.returns-else-branch-clause-reads
returns-else-branch-clause-reads g c =
    let contents = g.W.Output.contents in
    let made = c.answer_lines-answered in
    let piece = take c.in-Ok.count c.read.new.buffer in
    let off : c.in_ok-finish_writing.field-0 ≡ false = search rules in
    let goes = λ (more : List ℕ). goes_from_nothing g.A.Answerer.says g.A.Answerer.gives_up (lines_after c.args.cutter.now.bound c.args.cutter.now.line (piece ++ more)) (lines_after c.args.cutter.now.bound made.new.cutter.line more) c.args.answerer.now made.new.answerer (contents c.args.writer.now) (contents made.new.writer) _ c.args.outbox.now made.new.outbox made.result (Ok false) c.requires (made.ensures.goes more) (rw off at c.in_ok-finish_writing.ensures.written) in
    λ old input reads going. (piece_goes g.A.Answerer.says g.A.Answerer.gives_up c.args.cutter.now.bound c.args.cutter.now.line made.new.cutter.line old.answerer c.args.answerer.now made.new.answerer input _ _ old.written _ _ reads piece (Ok false) going c.in-Ok.ensures.bytes.0 goes, tt)

pub returns-in_default-clause-reads : goal.returns-in_default-clause-reads
returns-in_default-clause-reads g c = grind (arith, common_steps)

pub returns-in_err-may_follow-clause-write : goal.returns-in_err-may_follow-clause-write
returns-in_err-may_follow-clause-write g c = λ failed.
    elim (c.in_err-may_follow.ensures.write (search rules)) [
      | inl (before, silent) ↦ silent ∙ c.answer_line-answered.ensures.write before
      | inr (inl (memory, rose)) ↦ rose ∙ ap next_count (c.answer_line-answered.ensures.memory memory)
      | inr (inr (on, ok, rose)) ↦ rose ∙ ap next_count (subst (λ r. OnOk r (g.W.Output.failure_count c.answer_line-answered.new.writer ≡ g.W.Output.failure_count c.args.writer.now)) ok c.answer_line-answered.ensures.all_written)
    ]
