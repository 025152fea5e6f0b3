use Rattle.std.proofs.Common.{◌≡◌, ℕ, List, ◌∙◌, subst}
use Rattle.pay_frame.specs.Frame.{frame_bytes}
use Rattle.pay_link.specs.Sealing.{want_frame}
use Rattle.pay_frame.specs.Handling.{Start}
use Rattle.pay_frame.specs.Exact.{TakesFrames, Writes}
use Rattle.pay_member.specs.Member.{MemberFields}
use Rattle.pay_member.specs.Serving.{first_want, serving}
use Rattle.pay_member.proofs.serving.serve.Goals as goal

pub returns-clause-text : goal.returns-clause-text
unfolding first_want
returns-clause-text g c =
    let m = c.args.member.now in
    let from : List ℕ → Start MemberFields = λ xs. record { first = xs; state = m; input = g.R.Input.remaining c.args.reader.now; before = g.W.Output.contents c.args.writer.now } in
    let first : c.want-first.result ≡ first_want m c.args.peer = c.want-first.ensures.bytes ∙ (λ i. frame_bytes (want_frame (c.keys.ensures.value i) c.args.peer (c.next.ensures i))) in
    let text = c.exact_text.ensures.text (serving c.args.stamp) _ _ _ c.handle_stream.ensures.handled in
    subst (λ (xs : List ℕ). Writes (serving c.args.stamp) (from xs) (record { state = c.handle_stream.new.state; left = g.R.Input.remaining c.handle_stream.new.reader; after = g.W.Output.contents c.handle_stream.new.writer }) c.handle_stream.result) first text

pub returns-clause-took : goal.returns-clause-took
unfolding first_want
returns-clause-took g c =
    let m = c.args.member.now in
    let from : List ℕ → Start MemberFields = λ xs. record { first = xs; state = m; input = g.R.Input.remaining c.args.reader.now; before = g.W.Output.contents c.args.writer.now } in
    let first : c.want-first.result ≡ first_want m c.args.peer = c.want-first.ensures.bytes ∙ (λ i. frame_bytes (want_frame (c.keys.ensures.value i) c.args.peer (c.next.ensures i))) in
    let took = c.exact_text.ensures.took (serving c.args.stamp) _ _ _ c.handle_stream.ensures.handled in
    subst (λ (xs : List ℕ). TakesFrames (serving c.args.stamp) (from xs) c.handle_stream.new.state) first took
