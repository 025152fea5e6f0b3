use Rattle.std.proofs.Common.{◌≡◌, ◌∙◌, subst, Err, rules, false}
use Rattle.std.specs.Io.KnownBytes.{Appends}
use Rattle.pay_text.proofs.Waiting.{puts_all, began_further}
use Rattle.pay_text.proofs.engine.Outbox.put.Goals as goal

pub returns-clause-ok : goal.returns-clause-ok
returns-clause-ok g c =
    let contents = g.W.Output.contents in
    let full : c.hold.result ≡ false = search rules in
    let still_full : c.hold-2.result ≡ false = search rules in
    let flushed : Appends (contents c.args.writer.now) (contents c.flush.new.writer) c.args.self.now = subst (λ xs. Appends (contents c.args.writer.now) (contents c.flush.new.writer) xs) (c.hold.ensures.full full) c.in_ok-flush.ensures.ok in
    puts_all _ _ _ c.args.self.now c.hold-2.new.self c.args.text.now flushed c.in_ok-write_text.ensures.ok (c.hold-2.ensures.full still_full ∙ c.in_ok-flush.ensures.empty)

pub returns-in_err-write_text-clause-beginning : goal.returns-in_err-write_text-clause-beginning
returns-in_err-write_text-clause-beginning g c =
    let contents = g.W.Output.contents in
    let full : c.hold.result ≡ false = search rules in
    let flushed : Appends (contents c.args.writer.now) (contents c.flush.new.writer) c.args.self.now = subst (λ xs. Appends (contents c.args.writer.now) (contents c.flush.new.writer) xs) (c.hold.ensures.full full) c.in_ok-flush.ensures.ok in
    let failed : c.from_residual-in_err-write_text.result ≡ Err c.in_err-write_text.field-0.0 = search rules in
    rw failed (began_further _ _ _ c.args.self.now c.args.text.now flushed c.in_err-write_text.ensures.beginning)
