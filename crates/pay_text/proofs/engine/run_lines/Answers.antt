use Rattle.std.proofs.Common.{◌≡◌, ℕ, Ok, Err, rules, sym, ap, subst, arith}
use Rattle.std.proofs.lemmas.Grind.{common_steps}
use Rattle.pay_frame.specs.declared.device.StreamFault.{StreamFault}
use Rattle.pay_frame.specs.declared.device.StreamFault.TheVariants.{Memory}
use Rattle.pay_text.specs.Cutting.{Begun}
use Rattle.pay_text.specs.Engine.{IsGoing, WritesByEnd}
use Rattle.pay_text.proofs.Answering.{intake, answering, said_by}
use Rattle.pay_text.proofs.Rounds.{going_at_start, broken}
use Rattle.pay_text.proofs.engine.run_lines.Goals as goal

pub loop-init : goal.loop-init
loop-init g c = record {
  going = going_at_start g.A.Answerer.says g.A.Answerer.gives_up c.args.bound c.args.answerer.now (g.R.Input.remaining c.args.reader.now) (g.W.Output.contents c.args.writer.now) c.in_ok-cutter.cutter.line (ap (λ (s : Begun). s.line) c.in_ok-cutter.ensures);
  bound = ap (λ (s : Begun). s.bound) c.in_ok-cutter.ensures;
  empty = c.in_ok-outbox.ensures;
  calls = search rules;
  most = search rules;
  reads = search rules;
  writes = search rules;
}

pub returns-in_err-outbox-clause-text : goal.returns-in_err-outbox-clause-text
returns-in_err-outbox-clause-text g c =
    let says = g.A.Answerer.says in
    let gives_up = g.A.Answerer.gives_up in
    let memory : c.from_residual-in_err-outbox.result ≡ Err Memory = search rules in
    rw memory (broken says gives_up c.args.bound c.in_ok-cutter.cutter.line c.args.answerer.now c.args.answerer.now _ _ _ _ 0
    (going_at_start says gives_up c.args.bound c.args.answerer.now (g.R.Input.remaining c.args.reader.now) (g.W.Output.contents c.args.writer.now) c.in_ok-cutter.cutter.line (ap (λ (s : Begun). s.line) c.in_ok-cutter.ensures)))

pub returns-in_err-at_end-clause-text : goal.returns-in_err-at_end-clause-text
returns-in_err-at_end-clause-text g c =
    let says = g.A.Answerer.says in
    let gives_up = g.A.Answerer.gives_up in
    let remaining = g.R.Input.remaining in
    let contents = g.W.Output.contents in
    let e : StreamFault = c.in_err-at_end.field-0.0 in
    let same : c.from_residual-in_err-at_end.result ≡ Err e = search rules in
    let going = subst (λ (n : ℕ). IsGoing says n c.loop.cutter.line (intake (remaining c.args.reader.now) (remaining c.loop.reader) c.loop.counter) (said_by c.args.answerer.now (contents c.args.writer.now)) (said_by c.loop.answerer (contents c.loop.writer))) (sym c.loop.invariant.bound) c.loop.invariant.going in
    rw same (subst (λ (n : ℕ). WritesByEnd (answering says gives_up) n (said_by c.args.answerer.now (contents c.args.writer.now)) (said_by c.read_once.new.answerer (contents c.read_once.new.writer)) (remaining c.args.reader.now) (remaining c.read_once.new.reader) (Err e)) c.loop.invariant.bound
    (c.in_err-at_end.ensures.reads (said_by c.args.answerer.now (contents c.args.writer.now)) (remaining c.args.reader.now) c.loop.counter going))

pub returns-in-Some-clause-text : goal.returns-in-Some-clause-text
returns-in-Some-clause-text g c =
    let says = g.A.Answerer.says in
    let gives_up = g.A.Answerer.gives_up in
    let remaining = g.R.Input.remaining in
    let contents = g.W.Output.contents in
    let going = subst (λ (n : ℕ). IsGoing says n c.loop.cutter.line (intake (remaining c.args.reader.now) (remaining c.loop.reader) c.loop.counter) (said_by c.args.answerer.now (contents c.args.writer.now)) (said_by c.loop.answerer (contents c.loop.writer))) (sym c.loop.invariant.bound) c.loop.invariant.going in
    let told : WritesByEnd (answering says gives_up) c.loop.cutter.bound (said_by c.args.answerer.now (contents c.args.writer.now)) (said_by c.read_once.new.answerer (contents c.read_once.new.writer)) (remaining c.args.reader.now) (remaining c.read_once.new.reader) (Ok c.in-Some.at_end) =
    rw c.in-Some.is at c.in_ok-at_end.ensures.reads (said_by c.args.answerer.now (contents c.args.writer.now)) (remaining c.args.reader.now) c.loop.counter going
    in
    subst (λ (n : ℕ). WritesByEnd (answering says gives_up) n (said_by c.args.answerer.now (contents c.args.writer.now)) (said_by c.read_once.new.answerer (contents c.read_once.new.writer)) (remaining c.args.reader.now) (remaining c.read_once.new.reader) (Ok c.in-Some.at_end)) c.loop.invariant.bound told

pub returns-clause-text : goal.returns-clause-text
returns-clause-text g c = broken g.A.Answerer.says g.A.Answerer.gives_up c.args.bound c.loop.cutter.line c.args.answerer.now c.loop.answerer _ _ _ _ c.loop.counter c.loop.invariant.going

pub returns-clause-counts : goal.returns-clause-counts
returns-clause-counts g c = grind (arith, common_steps)

pub returns-in-Some-clause-counts : goal.returns-in-Some-clause-counts
returns-in-Some-clause-counts g c = grind (arith, common_steps)

pub returns-in_err-at_end-clause-counts : goal.returns-in_err-at_end-clause-counts
returns-in_err-at_end-clause-counts g c = grind (arith, common_steps)
