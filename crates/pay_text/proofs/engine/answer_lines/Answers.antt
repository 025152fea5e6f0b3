use Rattle.std.proofs.Common.{◌≡◌, ◌+◌, ◌∷◌, ◌++◌, ℕ, List, [], Option, Some, Ok, Err, true, false, rules, subst, sym, ap, ◌∙◌, drop, get_or}
use Rattle.pay_text.specs.Cutting.{Begun, line_with_byte, lines_after}
use Rattle.pay_text.specs.Outbox.{PutsUntil, PutsSome}
use Rattle.pay_text.proofs.Waiting.{put_further, waiting}
use Rattle.pay_text.proofs.Answering.{answering}
use Rattle.pay_text.proofs.Following.{at_feed, at_other, other_byte}
use Rattle.pay_text.proofs.engine.answer_lines.Goals as goal
use Rattle.pay_text.proofs.engine.answer_lines.Goals.{then-byte-ne10, else-byte-ne10+in_ok-answer_line+else-not-branch}

pub returns-in_err-answer_line-clause-goes : goal.returns-in_err-answer_line-clause-goes
returns-in_err-answer_line-clause-goes g c = λ more.
    let bound = c.args.cutter.now.bound in
    let piece = c.args.piece.now in
    let i = c.loop-byte.byte-index in
    let begun = c.loop-byte.cutter.line in
    let left : List (Option (List ℕ)) = lines_after bound (Some []) (drop (i + 1) piece ++ more) in
    let same : c.from_residual.result ≡ Err c.in_err-answer_line.field-0.0 = search rules in
    let next = at_feed bound begun piece more i c.loop-byte-test.true c.if-byte-ne10.false in
    let went = subst (λ (ls : List (Option (List ℕ))). PutsUntil g.A.Answerer.says (lines_after bound c.args.cutter.now.line (piece ++ more)) ls (waiting c.args.answerer.now (g.W.Output.contents c.args.writer.now) c.args.outbox.now) (waiting c.loop-byte.answerer (g.W.Output.contents c.loop-byte.writer) c.loop-byte.outbox)) next (c.loop-byte.invariant.went more) in
    rw same (put_further g.A.Answerer.says g.A.Answerer.gives_up _ (begun ∷ left) left _ _ _ _ _ _ _ _ _ (Err c.in_err-answer_line.field-0.0) went (c.in_err-answer_line.ensures.goes left))

pub returns-then-not-branch-clause-goes : goal.returns-then-not-branch-clause-goes
returns-then-not-branch-clause-goes g c = λ more.
    let bound = c.args.cutter.now.bound in
    let piece = c.args.piece.now in
    let i = c.loop-byte.byte-index in
    let begun = c.loop-byte.cutter.line in
    let left : List (Option (List ℕ)) = lines_after bound (Some []) (drop (i + 1) piece ++ more) in
    let off : c.in_ok-answer_line.field-0 ≡ false = search rules in
    let next = at_feed bound begun piece more i c.loop-byte-test.true c.if-byte-ne10.false in
    let went = subst (λ (ls : List (Option (List ℕ))). PutsUntil g.A.Answerer.says (lines_after bound c.args.cutter.now.line (piece ++ more)) ls (waiting c.args.answerer.now (g.W.Output.contents c.args.writer.now) c.args.outbox.now) (waiting c.loop-byte.answerer (g.W.Output.contents c.loop-byte.writer) c.loop-byte.outbox)) next (c.loop-byte.invariant.went more) in
    let goes : PutsSome (answering g.A.Answerer.says g.A.Answerer.gives_up) (begun ∷ left) left (waiting c.loop-byte.answerer (g.W.Output.contents c.loop-byte.writer) c.loop-byte.outbox) (waiting c.answer_line.new.answerer (g.W.Output.contents c.answer_line.new.writer) c.answer_line.new.outbox) (Ok false) = rw off at c.in_ok-answer_line.ensures.goes left in
    put_further g.A.Answerer.says g.A.Answerer.gives_up _ (begun ∷ left) left _ _ _ _ _ _ _ _ _ (Ok false) went goes

pub loop-byte-preserved : goal.loop-byte-preserved
loop-byte-preserved g c = elim c.if-byte-ne10.branch [
  | then-byte-ne10 w ↦
      let bound = c.args.cutter.now.bound in
      let piece = c.args.piece.now in
      let i = c.loop-byte.byte-index in
      let begun = c.loop-byte.cutter.line in
      let b = get_or piece i 0 in
      let line : c.if-byte-ne10.cutter.line ≡ line_with_byte bound begun b = ap (λ (s : Begun). s.line) (w.cutter-is ∙ w.push.ensures) ∙ ap (λ (n : ℕ). line_with_byte n begun b) c.loop-byte.invariant.bound in
      record {
        went = λ more.
            let next : lines_after bound begun (drop i piece ++ more) ≡ lines_after bound c.if-byte-ne10.cutter.line (drop (i + 1) piece ++ more) =
            at_other bound begun piece more i c.loop-byte-test.true (other_byte b w.if-byte-ne10.true) ∙ ap (λ l. lines_after bound l (drop (i + 1) piece ++ more)) (sym line) in
            rw (w.answerer-is, w.writer-is, w.outbox-is) (subst (λ (ls : List (Option (List ℕ))). PutsUntil g.A.Answerer.says (lines_after bound c.args.cutter.now.line (piece ++ more)) ls (waiting c.args.answerer.now (g.W.Output.contents c.args.writer.now) c.args.outbox.now) (waiting c.loop-byte.answerer (g.W.Output.contents c.loop-byte.writer) c.loop-byte.outbox)) next (c.loop-byte.invariant.went more));
        bound = ap (λ (s : Begun). s.bound) (w.cutter-is ∙ w.push.ensures) ∙ c.loop-byte.invariant.bound;
        written = ap g.W.Output.failure_count w.writer-is ∙ c.loop-byte.invariant.written;
      }
  | else-byte-ne10+in_ok-answer_line+else-not-branch w ↦
      let bound = c.args.cutter.now.bound in
      let piece = c.args.piece.now in
      let i = c.loop-byte.byte-index in
      let begun = c.loop-byte.cutter.line in
      let on : w.in_ok-answer_line.field-0 ≡ true = search rules in
      let line : c.if-byte-ne10.cutter.line ≡ Some [] = ap (λ (s : Begun). s.line) (w.cutter-is ∙ w.in_ok-answer_line.ensures.cutter) in
      record {
        went = λ more.
            let left : List (Option (List ℕ)) = lines_after bound (Some []) (drop (i + 1) piece ++ more) in
            let next = at_feed bound begun piece more i c.loop-byte-test.true w.if-byte-ne10.false in
            let went = subst (λ (ls : List (Option (List ℕ))). PutsUntil g.A.Answerer.says (lines_after bound c.args.cutter.now.line (piece ++ more)) ls (waiting c.args.answerer.now (g.W.Output.contents c.args.writer.now) c.args.outbox.now) (waiting c.loop-byte.answerer (g.W.Output.contents c.loop-byte.writer) c.loop-byte.outbox)) next (c.loop-byte.invariant.went more) in
            let goes : PutsUntil g.A.Answerer.says (begun ∷ left) left (waiting c.loop-byte.answerer (g.W.Output.contents c.loop-byte.writer) c.loop-byte.outbox) (waiting w.answer_line.new.answerer (g.W.Output.contents w.answer_line.new.writer) w.answer_line.new.outbox) = rw on at w.in_ok-answer_line.ensures.goes left in
            rw (w.answerer-is, w.writer-is, w.outbox-is, line) (put_further g.A.Answerer.says g.A.Answerer.gives_up _ (begun ∷ left) left _ _ _ _ _ _ _ _ _ (Ok true) went goes);
        bound = ap (λ (s : Begun). s.bound) (w.cutter-is ∙ w.in_ok-answer_line.ensures.cutter) ∙ c.loop-byte.invariant.bound;
        written = ap g.W.Output.failure_count w.writer-is ∙ w.in_ok-answer_line.ensures.all_written ∙ c.loop-byte.invariant.written;
      }
]
