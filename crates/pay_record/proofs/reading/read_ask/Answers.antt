use Rattle.std.proofs.Common.{◌≡◌, ℕ, List, ◌∷◌, ◌++◌, length, drop, Err, sym, ap, ◌∙◌, subst, arith}
use Rattle.std.specs.Int.{w16, w32, w64, to_be_bytes}
use Rattle.pay_record.specs.Records.{LoggedFields}
use Rattle.pay_record.specs.Loggable.{StandsIn}
use Rattle.pay_record.proofs.Inside.{no_value, short_ask}
use Rattle.pay_record.proofs.Stands.{ask_entry, ask_stands, if_none, length-ask}
use Rattle.pay_record.proofs.reading.read_ask.Goals as goal

pub returns-in_default : goal.returns-in_default
returns-in_default c = short_ask c.args.keys.now c.args.stamp c.args.fields.now (omega (arith, c.in_default.ensures.none))

pub returns-in_default-four : goal.returns-in_default-four
returns-in_default-four c =
    short_ask c.args.keys.now c.args.stamp c.args.fields.now
    (omega (arith, ap (λ (l : List ℕ). length l) c.in-Some.ensures.some, c.in_default-four.ensures.none))

pub returns-in_default-two : goal.returns-in_default-two
returns-in_default-two c =
    short_ask c.args.keys.now c.args.stamp c.args.fields.now
    (omega (
      arith,
      ap (λ (l : List ℕ). length l) c.in-Some.ensures.some,
      ap (λ (l : List ℕ). length l) c.in-Some-four.ensures.some,
      c.in_default-two.ensures.none,
    ))

pub returns-in-Err : goal.returns-in-Err
returns-in-Err c =
    let id = c.in-Some.id in
    let seq = c.in-Some-four.seq in
    let len = c.in-Some-two.len in
    let is : c.args.fields.now ≡ to_be_bytes w64 id ++ to_be_bytes w32 seq ++ to_be_bytes w16 len ++ c.in-Some-two.rest.now =
    c.in-Some.ensures.some
    ∙ ap (λ (l : List ℕ). to_be_bytes w64 id ++ l) (c.in-Some-four.ensures.some ∙ ap (λ (l : List ℕ). to_be_bytes w32 seq ++ l) c.in-Some-two.ensures.some) in
    if_none c.args.keys.now ((1 ∷ to_be_bytes w16 c.args.stamp) ++ c.args.fields.now) c.in-Err.fault (λ none l stands.
    no_value c.args.keys.now c.args.stamp id seq len c.in-Some-two.rest.now c.in-Some-two.ensures.range (c.in-Err.ensures.none (ap Err none)) l
    (subst (λ (f : List ℕ). StandsIn c.args.keys.now ((1 ∷ to_be_bytes w16 c.args.stamp) ++ f) l) is stands))

pub returns : goal.returns
returns c =
    let id = c.in-Some.id in
    let seq = c.in-Some-four.seq in
    let len = c.in-Some-two.len in
    let value = c.in-Ok.value in
    let found = c.in-Ok.ensures.value in
    let more : List ℕ = drop len c.in-Some-two.rest.now in
    let is : c.args.fields.now ≡ to_be_bytes w64 id ++ to_be_bytes w32 seq ++ to_be_bytes w16 len ++ value ++ more =
    c.in-Some.ensures.some
    ∙ ap (λ (l : List ℕ). to_be_bytes w64 id ++ l) (c.in-Some-four.ensures.some
    ∙ ap (λ (l : List ℕ). to_be_bytes w32 seq ++ l) (c.in-Some-two.ensures.some ∙ ap (λ (l : List ℕ). to_be_bytes w16 len ++ l) found.2)) in
    let logged : List ℕ → LoggedFields = λ v. record { entry = ask_entry c.args.stamp v seq; id = id } in
    let made : value ≡ c.in_ok-new.field-0 = sym c.in_ok-new.ensures in
    let front : List ℕ = 1 ∷ to_be_bytes w16 c.args.stamp in (
      subst (λ (v : List ℕ). StandsIn c.args.keys.now (front ++ c.args.fields.now) (logged v)) made
          (subst (λ (f : List ℕ). StandsIn c.args.keys.now (front ++ f) (logged value)) (sym is)
          (ask_stands c.args.keys.now c.args.stamp id seq len value more c.ranges.stamp.fits c.in-Some.ensures.range c.in-Some-four.ensures.range found.0 found.1)),
      omega (arith, c.from.ensures, found.0, ap (λ (v : List ℕ). length v) made, length-ask c.args.stamp id seq c.in_ok-new.field-0),
    )
