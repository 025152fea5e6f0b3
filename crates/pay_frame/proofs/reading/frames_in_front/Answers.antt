use Rattle.std.proofs.Common.{◌-◌, ◌∷◌, ◌++◌, [], Ok, Err, Some, None, drop, take, length, ap, subst, inl, inr, arith, rules}
use Rattle.std.proofs.lemmas.List.{length-append}
use Rattle.pay_frame.specs.Lent.{fields_of}
use Rattle.pay_frame.specs.Reading.{IsReading, IsProperBeginning}
use Rattle.pay_frame.proofs.Fronts.{at_front, one_more, front_at, reading_behind}
use Rattle.pay_frame.proofs.reading.frames_in_front.Goals as goal

pub loop-count-preserved : goal.loop-count-preserved
loop-count-preserved c =
    let bytes = c.args.bytes.now in
    let size = c.loop-count.size in
    let f = fields_of c.in-Ok-Some.field-0-0-0 in
    let next = c.in-Ok-Some.next in
    let sliced : IsReading (take (length bytes - size) (drop size bytes)) (Ok (Some (f, next))) = rw c.in-Ok-Some.field-0-is at c.in-Ok-Some.ensures.reading in
    let was = c.loop-count.invariant.front in
    let more = one_more bytes size next was.0 f c.loop-count.invariant.within was.1 (reading_behind bytes size (Ok (Some (f, next))) sliced) in
    record { within = more.within; front = (was.0 ++ f ∷ [], more.cut, omega (arith, was.2, length-append was.0 (f ∷ []))); none = λ zero. absurd (omega arith) }

pub returns-in-Err-clause-fault : goal.returns-in-Err-clause-fault
returns-in-Err-clause-fault c =
    let bytes = c.args.bytes.now in
    at_front bytes c.loop-count.size c.in-Err.fault (c.loop-count.invariant.none (search rules)) (reading_behind bytes c.loop-count.size (Err c.in-Err.fault) c.in-Err.ensures.reading)

pub returns-in-Err-2-clause-front : goal.returns-in-Err-2-clause-front
returns-in-Err-2-clause-front c =
    let bytes = c.args.bytes.now in
    let was = c.loop-count.invariant.front in
    front_at bytes c.args.most c.loop-count.size c.loop-count.count was.0 c.loop-count.invariant.within was.1 was.2 (omega arith)
    (λ _. inr (c.in-Err-2.field-0, reading_behind bytes c.loop-count.size (Err c.in-Err-2.field-0) c.in-Err-2.ensures.reading)) (λ zero. absurd (search rules))

pub returns-in-Ok-None-clause-front : goal.returns-in-Ok-None-clause-front
returns-in-Ok-None-clause-front c =
    let bytes = c.args.bytes.now in
    let was = c.loop-count.invariant.front in
    let begins = reading_behind bytes c.loop-count.size (Ok None) (rw c.in-Ok-None.field-0-is at c.in-Ok-None.ensures.reading) in
    front_at bytes c.args.most c.loop-count.size c.loop-count.count was.0 c.loop-count.invariant.within was.1 was.2 (omega arith) (λ _. inl begins)
    (λ zero. let none = c.loop-count.invariant.none zero in (none, subst IsProperBeginning (ap (λ n. drop n bytes) none) begins))
