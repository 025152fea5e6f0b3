use Rattle.std.proofs.Common.{◌≡◌, ℕ, List, ◌∷◌, ◌++◌, length, sym, ap, ◌∙◌, subst, arith}
use Rattle.std.specs.Int.{w16, w32, to_be_bytes}
use Rattle.pay_record.specs.Records.{LoggedFields}
use Rattle.pay_record.specs.Loggable.{StandsIn}
use Rattle.pay_record.proofs.Inside.{no_bits, no_frame_behind, short_frame}
use Rattle.pay_record.proofs.Stands.{frame_entry, frame_stands, if_none, length-frame, no_frame_read}
use Rattle.pay_record.proofs.reading.read_frame.Goals as goal

pub returns-in_default : goal.returns-in_default
returns-in_default c = short_frame c.args.keys.now c.args.stamp c.args.fields.now (omega (arith, c.in_default.ensures.none))

pub returns-in_default-four : goal.returns-in_default-four
returns-in_default-four c =
    short_frame c.args.keys.now c.args.stamp c.args.fields.now
    (omega (arith, ap (λ (l : List ℕ). length l) c.in-Some.ensures.some, c.in_default-four.ensures.none))

pub returns-in_default-took_of : goal.returns-in_default-took_of
returns-in_default-took_of c l stands =
    no_bits c.args.keys.now c.args.stamp c.in-Some.bits c.in-Some.rest.now c.in_default-took_of.ensures.none l
    (subst (λ (f : List ℕ). StandsIn c.args.keys.now ((4 ∷ to_be_bytes w16 c.args.stamp) ++ f) l) c.in-Some.ensures.some stands)

pub returns-in-Err : goal.returns-in-Err
returns-in-Err c =
    let bits = c.in-Some.bits in
    let settled = c.in-Some-four.settled in
    let is : c.args.fields.now ≡ bits ∷ (to_be_bytes w32 settled ++ c.in-Some-four.rest.now) =
    c.in-Some.ensures.some ∙ ap (λ (l : List ℕ). bits ∷ l) c.in-Some-four.ensures.some in
    if_none c.args.keys.now ((4 ∷ to_be_bytes w16 c.args.stamp) ++ c.args.fields.now) c.in-Err.fault (λ none l stands.
    no_frame_behind c.args.keys.now c.args.stamp bits settled c.in-Some-four.rest.now
    (no_frame_read c.args.keys.now c.in-Some-four.rest.now c.in-Err.fault c.in-Err.ensures none) l
    (subst (λ (f : List ℕ). StandsIn c.args.keys.now ((4 ∷ to_be_bytes w16 c.args.stamp) ++ f) l) is stands))

pub returns : goal.returns
returns c =
    let bits = c.in-Some.bits in
    let settled = c.in-Some-four.settled in
    let took = c.in-Some-took_of.took in
    let checked = c.in-Ok.found.0 in
    let is : c.args.fields.now ≡ bits ∷ (to_be_bytes w32 settled ++ c.in-Some-four.rest.now) =
    c.in-Some.ensures.some ∙ ap (λ (l : List ℕ). bits ∷ l) c.in-Some-four.ensures.some in
    let logged : LoggedFields = record { entry = frame_entry c.args.stamp checked took; id = 0 } in (
      subst (λ (f : List ℕ). StandsIn c.args.keys.now ((4 ∷ to_be_bytes w16 c.args.stamp) ++ f) logged) (sym is)
          (frame_stands c.args.keys.now c.args.stamp bits settled checked took c.in-Some-four.rest.now c.ranges.stamp.fits c.in-Some-four.ensures.range
          c.in-Some-took_of.ensures.some.0 c.in-Some-took_of.ensures.some.1 c.in-Ok.ensures.0),
      omega (arith, c.in-Ok.ensures.1, length-frame c.args.stamp checked took),
    )
