use Rattle.std.proofs.Common.{Err, Ok, sym, ◌∙◌}
use Rattle.pay_frame.specs.Lent.{fields_of}
use Rattle.pay_member.specs.Events.{events}
use Rattle.pay_member.proofs.Openings.{frame_in, no_frame_in}
use Rattle.pay_member.proofs.Bringings.{of_fault, of_frame}
use Rattle.pay_member.proofs.Servings.{entry_of_bytes, events_of_bytes, events_of_none, memory_of_bytes, on_err}
use Rattle.pay_member.proofs.member.Member.bring_unanswered.Goals as goal

-- ---- no frame

pub returns-in-Err-clause-outcome : goal.returns-in-Err-clause-outcome
returns-in-Err-clause-outcome g c =
    let m = c.args.self.now in
    record { reading = Err c.in-Err.fault; reads = c.in-Err.ensures.one; is = of_fault m.genesis m.keys (events m.history) c.in-Err.fault }

pub returns-in-Err-clause-events : goal.returns-in-Err-clause-events
returns-in-Err-clause-events g c =
    let k = c.args.self.now.keys in
    events_of_none k (events c.args.self.now.history) c.args.bytes.now (no_frame_in c.one_frame_is.ensures.none k c.args.bytes.now c.in-Err.fault c.in-Err.ensures.one)

-- ---- a frame

pub returns-in_err-bring_frame-in-Ok-clause-memory : goal.returns-in_err-bring_frame-in-Ok-clause-memory
returns-in_err-bring_frame-in-Ok-clause-memory g c =
    let f = fields_of c.in-Ok.frame in
    let m = c.args.self.now in
    let found = frame_in c.one_frame_is.ensures.law m.keys c.args.bytes.now f c.in-Ok.ensures.one in
    on_err c.from_residual.result (memory_of_bytes m.keys (events m.history) f c.args.bytes.now found c.in_err-bring_frame-in-Ok.ensures.memory)

pub returns-in_ok-bring_frame-in-Ok-clause-outcome : goal.returns-in_ok-bring_frame-in-Ok-clause-outcome
returns-in_ok-bring_frame-in-Ok-clause-outcome g c =
    let f = fields_of c.in-Ok.frame in
    let m = c.args.self.now in
    record { reading = Ok f; reads = c.in-Ok.ensures.one; is = c.in_ok-bring_frame-in-Ok.ensures.outcome ∙ sym (of_frame m.genesis m.keys (events m.history) f) }

pub returns-in_ok-bring_frame-in-Ok-clause-entry : goal.returns-in_ok-bring_frame-in-Ok-clause-entry
returns-in_ok-bring_frame-in-Ok-clause-entry g c =
    let f = fields_of c.in-Ok.frame in
    let m = c.args.self.now in
    let found = frame_in c.one_frame_is.ensures.law m.keys c.args.bytes.now f c.in-Ok.ensures.one in
    let is = c.in_ok-bring_frame-in-Ok in
    entry_of_bytes c.args.stamp m c.bring_frame.new.self f c.args.bytes.now is.field-0.outcome is.ensures.after is.ensures.outcome found

pub returns-in_ok-bring_frame-in-Ok-clause-events : goal.returns-in_ok-bring_frame-in-Ok-clause-events
returns-in_ok-bring_frame-in-Ok-clause-events g c =
    let f = fields_of c.in-Ok.frame in
    let m = c.args.self.now in
    let found = frame_in c.one_frame_is.ensures.law m.keys c.args.bytes.now f c.in-Ok.ensures.one in
    events_of_bytes c.args.stamp m c.bring_frame.new.self f c.args.bytes.now c.in_ok-bring_frame-in-Ok.ensures.after found
