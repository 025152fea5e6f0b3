use Rattle.std.proofs.Common.{◌≡◌, [], Err, inr, sym, ◌∙◌, append-nil, rules, arith}
use Rattle.std.proofs.lemmas.Grind.{common_steps}
use Rattle.pay_frame.specs.Lent.{fields_of}
use Rattle.pay_peers.specs.Ahead.{IsDue}
use Rattle.pay_peers.proofs.Fed.{fed_not, fed_on}
use Rattle.pay_peers.proofs.reading_ahead.FromPeerAheadFrameHandlerPeerReader.handle.Goals as goal

pub returns-in_err-look_for_lie-in-Some : goal.returns-in_err-look_for_lie-in-Some
returns-in_err-look_for_lie-in-Some g c =
    let f = fields_of c.args.frame in
    let due : IsDue c.args.self.now.peer c.args.asking.now f = record {
      sender = sym c.from.ensures.value ∙ c.if-from-self.false;
      number = sym c.number-number.ensures.value ∙ c.if-number-asking.false;
    } in
    let fed = fed_on c.args.self.now.context.now.node.now c.args.self.now.peer c.args.self.now.ahead.count c.args.asking.now c.look_for_lie-in-Some.new.asking c.bring_frame.new.seat f c.in_ok-received.received c.number-number.result c.in-Some.next
    due c.in_ok-received.ensures.received c.look_for_lie-in-Some.ensures.looked c.number-number.ensures.value c.in-Some.ensures (c.look_for_lie-in-Some.ensures.window ∙ c.move_to-asks.ensures.moved) in
    let err : c.from_residual-in_err-look_for_lie-in-Some.result ≡ Err c.in_err-look_for_lie-in-Some.field-0.0 = search rules in
    rw err (record { handles = inr (_, fed) })

pub returns-in_err-ask_for-in-Some : goal.returns-in_err-ask_for-in-Some
returns-in_err-ask_for-in-Some g c =
    let f = fields_of c.args.frame in
    let due : IsDue c.args.self.now.peer c.args.asking.now f = record {
      sender = sym c.from.ensures.value ∙ c.if-from-self.false;
      number = sym c.number-number.ensures.value ∙ c.if-number-asking.false;
    } in
    let fed = fed_on c.args.self.now.context.now.node.now c.args.self.now.peer c.args.self.now.ahead.count c.args.asking.now c.look_for_lie-in-Some.new.asking c.bring_frame.new.seat f c.in_ok-received.received c.number-number.result c.in-Some.next
    due c.in_ok-received.ensures.received c.look_for_lie-in-Some.ensures.looked c.number-number.ensures.value c.in-Some.ensures (c.look_for_lie-in-Some.ensures.window ∙ c.move_to-asks.ensures.moved) in
    let err : c.from_residual-in_err-ask_for-in-Some.result ≡ Err c.in_err-ask_for-in-Some.field-0.0 = search rules in
    rw err (record { handles = inr (_, fed) })

pub returns-in_err-look_for_lie-in-None : goal.returns-in_err-look_for_lie-in-None
returns-in_err-look_for_lie-in-None g c =
    let f = fields_of c.args.frame in
    let due : IsDue c.args.self.now.peer c.args.asking.now f = record {
      sender = sym c.from.ensures.value ∙ c.if-from-self.false;
      number = sym c.number-number.ensures.value ∙ c.if-number-asking.false;
    } in
    let fed = fed_not c.args.self.now.context.now.node.now c.args.self.now.peer c.args.self.now.ahead.count c.args.asking.now c.look_for_lie.new.asking c.bring_frame.new.seat f c.in_ok-received.received c.number-number.result
    due c.in_ok-received.ensures.received c.look_for_lie.ensures.looked c.number-number.ensures.value c.in-None.ensures c.look_for_lie.ensures.window in
    let err : c.from_residual-in_err-look_for_lie-in-None.result ≡ Err c.in_err-look_for_lie-in-None.field-0.0 = search rules in
    rw err (record { handles = inr (_, fed) })

pub returns-in_ok-look_for_lie-in-None : goal.returns-in_ok-look_for_lie-in-None
returns-in_ok-look_for_lie-in-None g c =
    let f = fields_of c.args.frame in
    let due : IsDue c.args.self.now.peer c.args.asking.now f = record {
      sender = sym c.from.ensures.value ∙ c.if-from-self.false;
      number = sym c.number-number.ensures.value ∙ c.if-number-asking.false;
    } in
    let fed = fed_not c.args.self.now.context.now.node.now c.args.self.now.peer c.args.self.now.ahead.count c.args.asking.now c.look_for_lie.new.asking c.bring_frame.new.seat f c.in_ok-received.received c.number-number.result
    due c.in_ok-received.ensures.received c.look_for_lie.ensures.looked c.number-number.ensures.value c.in-None.ensures c.look_for_lie.ensures.window in
    record { handles = ([], fed, sym (append-nil c.args.out.now.items)) }

pub returns-in_ok-ask_for-in-Some : goal.returns-in_ok-ask_for-in-Some
returns-in_ok-ask_for-in-Some g c = grind (arith, common_steps)
