use Rattle.std.proofs.Common.{◌≡◌, ◌+◌, false, arith}
use Rattle.pay_frame.specs.Places.{is_head}
use Rattle.pay_frame.specs.Stream.{IsBytes}
use Rattle.pay_frame.proofs.Answering.{fault_from, beginning_from_short, beginning_from_long, size_of_whole}
use Rattle.pay_frame.proofs.HeadFields.{passing_from_fields, wrong_somewhere}
use Rattle.pay_frame.proofs.reading.size_in_front.Goals as goal
use Rattle.pay_frame.proofs.reading.size_in_front.Goals.{then-bytes-lt-HEAD_LEN-via-then-bytes-lt-HEAD_LEN, then-bytes-lt-HEAD_LEN-via-else-bytes-lt-HEAD_LEN+then-not-is_head}

pub returns-in-Some-clause-fault : goal.returns-in-Some-clause-fault
returns-in-Some-clause-fault c = fault_from c.args.bytes.now c.in-Some.place c.fault_at.result (record { fits = λ i. omega (arith, c.type_inv.bytes i) }) c.in-Some.ensures.some c.fault_at.ensures

pub returns-in-None-clause-beginning : goal.returns-in-None-clause-beginning
returns-in-None-clause-beginning c =
    let is : IsBytes c.args.bytes.now = record { fits = λ i. omega (arith, c.type_inv.bytes i) } in
    elim c.then-bytes-lt-HEAD_LEN.branch [
      | then-bytes-lt-HEAD_LEN-via-then-bytes-lt-HEAD_LEN w ↦ beginning_from_short c.args.bytes.now is (omega (arith, w.if-bytes-lt-HEAD_LEN.true)) c.in-None.ensures.none
      | then-bytes-lt-HEAD_LEN-via-else-bytes-lt-HEAD_LEN+then-not-is_head w ↦
          let wrong : is_head c.args.bytes.now ≡ false = cc (w.is_head.ensures, w.if-not-is_head.true) in
          absurd (wrong_somewhere c.args.bytes.now (omega (arith, w.if-bytes-lt-HEAD_LEN.false)) wrong c.in-None.ensures.none)
    ]

pub returns-then-size-bytes-clause-frame : goal.returns-then-size-bytes-clause-frame
returns-then-size-bytes-clause-frame c =
    let is : IsBytes c.args.bytes.now = record { fits = λ i. omega (arith, c.type_inv.bytes i) } in
    size_of_whole c.args.bytes.now (2 + c.from-size.result) (passing_from_fields c.args.bytes.now is cc) (omega arith) (omega arith)

pub returns-else-size-bytes-clause-beginning : goal.returns-else-size-bytes-clause-beginning
returns-else-size-bytes-clause-beginning c =
    let is : IsBytes c.args.bytes.now = record { fits = λ i. omega (arith, c.type_inv.bytes i) } in
    beginning_from_long c.args.bytes.now is (omega arith) (passing_from_fields c.args.bytes.now is cc) (omega arith)
