use Rattle.std.proofs.Common.{◌∙◌, Err, sym, ap, subst, refl}
use Rattle.std.specs.Option.{option_copied}
use Rattle.pay_world.specs.Answer.{one_more}
use Rattle.pay_sim.specs.declared.run.Halt.{Halt}
use Rattle.pay_sim.specs.Playing.{IsGameAt, IsRead, PlayFields}
use Rattle.pay_sim.proofs.Reading.{goes_on, stops}
use Rattle.pay_sim.proofs.run.PlayAnswerer.answer.Goals as goal

pub returns-in-Ok-clause-ok : goal.returns-in-Ok-clause-ok
returns-in-Ok-clause-ok g c = λ m going.
    let at = subst (λ (p : PlayFields). IsGameAt p.game m.group m.events) (sym c.self.view_is) going.game in
    let lines = c.saturating_add-self-inside.ensures ∙ ap (λ (p : PlayFields). one_more p.lines) c.self.view_is in
    let stop = ap (λ (p : PlayFields). p.stop) c.self.view_is in
    goes_on c.args.self.now c.obey.new.self _ _ _ _ m going lines c.new-out.ensures.items (c.in-Ok.ensures.read m.group m.events at) c.obey.ensures.lines (c.obey.ensures.stop ∙ stop)

pub returns-clause-ok : goal.returns-clause-ok
returns-clause-ok g c = λ m going.
    let at = subst (λ (p : PlayFields). IsGameAt p.game m.group m.events) (sym c.self.view_is) going.game in
    let lines = c.saturating_add-self-inside.ensures ∙ ap (λ (p : PlayFields). one_more p.lines) c.self.view_is in
    let told = subst (λ (h : Halt). IsRead m.group m.events (option_copied c.args.line) c.new-out.result.items c.obey.new.out.items c.obey.new.self.game (Err h)) c.in-Err-Stop.field-0-is (c.in-Err-Stop.ensures.read m.group m.events at) in
    stops c.args.self.now _ (option_copied c.args.line) c.new-out.result.items c.obey.new.out.items c.in_ok-last_line-in-Err-Stop.field-0.items c.obey.new.self.game c.in-Err-Stop.stop m going told
    (ap (λ (p : PlayFields). p.lines) c.self-2.view_is ∙ c.obey.ensures.lines ∙ lines) refl c.in_ok-last_line-in-Err-Stop.ensures
