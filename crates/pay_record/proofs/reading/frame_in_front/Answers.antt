use Rattle.std.proofs.Common.{◌≡◌, ℕ, List, ◌++◌, length, ap, ◌∙◌, subst, arith}
use Rattle.std.specs.Int.{w16, w64, to_be_bytes}
use Rattle.pay_record.specs.Loggable.{FrameStandsIn}
use Rattle.pay_record.proofs.Frames.{if_no_frame, no_body_behind, no_body_read, short_part}
use Rattle.pay_record.proofs.reading.frame_in_front.Goals as goal

pub returns-in_default : goal.returns-in_default
returns-in_default c = short_part c.args.keys.now c.args.bytes.now (omega (arith, c.in_default.ensures.none))

pub returns-in_default-eight : goal.returns-in_default-eight
returns-in_default-eight c =
    short_part c.args.keys.now c.args.bytes.now
    (omega (arith, ap (λ (l : List ℕ). length l) c.in-Some.ensures.some, c.in_default-eight.ensures.none))

pub returns-in-Err : goal.returns-in-Err
returns-in-Err c =
    let from = c.in-Some.from in
    let number = c.in-Some-eight.number in
    let rest = c.in-Some-eight.rest.now in
    let is : c.args.bytes.now ≡ to_be_bytes w16 from ++ (to_be_bytes w64 number ++ rest) =
    c.in-Some.ensures.some ∙ ap (λ (l : List ℕ). to_be_bytes w16 from ++ l) c.in-Some-eight.ensures.some in
    if_no_frame c.args.keys.now c.args.bytes.now c.in-Err.fault (λ none f stands.
    no_body_behind c.args.keys.now from number rest (no_body_read rest c.in-Err.fault c.in-Err.ensures none) f
    (subst (λ (l : List ℕ). FrameStandsIn c.args.keys.now l f) is stands))
