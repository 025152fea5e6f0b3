use Rattle.std.proofs.Common.{◌≢◌, Some, None, sym, subst, ap, ◌∙◌}
use Rattle.pay_world.specs.Passing.{MayPass, frame_of}
use Rattle.pay_sim.specs.Made.{sent_frame}
use Rattle.pay_sim.specs.Playing.{GameFields, IsAfter}
use Rattle.pay_sim.proofs.Knowing.{sent_by, sent_by_none, sent_to_itself, untaken_by, untaken_by_none, untaken_unsent}
use Rattle.pay_sim.proofs.Passing.{may_pass, passed_is}
use Rattle.pay_sim.proofs.game.Game.next_untaken.Goals as goal

pub returns-then-to-from-clause-frame : goal.returns-then-to-from-clause-frame
returns-then-to-from-clause-frame g c = λ group es b.
    untaken_unsent group es c.args.from c.args.to (λ number. sent_to_itself group es c.args.from c.args.to number (sym c.if-to-from.true))

pub returns-in_default-clause-frame : goal.returns-in_default-clause-frame
returns-in_default-clause-frame g c = λ group es b.
    let b1 = subst (IsAfter group es) (sym c.self.view_is) b in
    untaken_by_none group es _ b1 c.member.ensures.limits c.args.from c.args.to (sym c.in_default.ensures.value)

pub returns-in_default-member-clause-frame : goal.returns-in_default-member-clause-frame
returns-in_default-member-clause-frame g c = λ group es b.
    let b1 = subst (IsAfter group es) (sym c.self.view_is) b in
    untaken_unsent group es c.args.from c.args.to
    (λ number. sent_by_none group es _ b1 c.member.ensures.limits c.args.from c.args.to number (sym c.in_default-member.ensures.value))

pub returns-in-Some-sent-clause-frame : goal.returns-in-Some-sent-clause-frame
returns-in-Some-sent-clause-frame g c = λ group es b.
    let b1 = subst (IsAfter group es) (sym c.self.view_is) b in
    let sender = c.in-Some-member.sender.now in
    let gives = sym c.in-Some-member.ensures.value in
    let takes = sym c.in-Some.ensures.value in
    let other : c.args.from ≢ c.args.to = λ same. c.if-to-from.false (sym same) in
    let body = c.in-Some-sent.field-0.now in
    sym (ap (λ (x : GameFields). Some (frame_of x.world c.args.from c.args.to c.next-number.result)) c.self.view_is)
    ∙ ap Some (passed_is group es _ b1 c.args.from c.args.to c.next-number.result sender c.in-Some.field-0.now body gives takes other (sym c.in-Some-sent.ensures))
    ∙ sent_by group es _ b1 c.member.ensures.limits c.args.from c.args.to c.next-number.result sender (Some body) gives other c.in-Some-sent.ensures
    ∙ ap (sent_frame group es c.args.from c.args.to) (c.next-number.ensures group es b)
    ∙ untaken_by group es _ b1 c.member.ensures.limits c.args.from c.args.to c.in-Some.field-0.now takes

pub returns-in-Some-sent-clause-there : goal.returns-in-Some-sent-clause-there
returns-in-Some-sent-clause-there g c =
    let game = c.self.invariant.2 in
    let sender = c.in-Some-member.sender.now in
    let gives = sym c.in-Some-member.ensures.value in
    let takes = sym c.in-Some.ensures.value in
    let other : c.args.from ≢ c.args.to = λ same. c.if-to-from.false (sym same) in
    let body = c.in-Some-sent.field-0.now in
    subst (λ (x : GameFields). MayPass x.world c.args.from c.args.to c.next-number.result) c.self.view_is
    (may_pass game.group game.events _ game.behind c.args.from c.args.to c.next-number.result sender c.in-Some.field-0.now body gives takes other (sym c.in-Some-sent.ensures)
    c.shared_test_keys.ensures)

pub returns-in-None-clause-frame : goal.returns-in-None-clause-frame
returns-in-None-clause-frame g c = λ group es b.
    let b1 = subst (IsAfter group es) (sym c.self.view_is) b in
    let sender = c.in-Some-member.sender.now in
    let gives = sym c.in-Some-member.ensures.value in
    let takes = sym c.in-Some.ensures.value in
    let other : c.args.from ≢ c.args.to = λ same. c.if-to-from.false (sym same) in
    sent_by group es _ b1 c.member.ensures.limits c.args.from c.args.to c.next-number.result sender None gives other c.in-None.ensures
    ∙ ap (sent_frame group es c.args.from c.args.to) (c.next-number.ensures group es b)
    ∙ untaken_by group es _ b1 c.member.ensures.limits c.args.from c.args.to c.in-Some.field-0.now takes
