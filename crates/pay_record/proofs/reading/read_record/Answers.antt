use Rattle.std.proofs.Common.{◌≡◌, ℕ, List, ◌∷◌, ◌++◌, length, ap, ◌∙◌, subst, arith}
use Rattle.std.specs.Int.{w16, to_be_bytes}
use Rattle.pay_record.specs.Loggable.{StandsIn}
use Rattle.pay_record.proofs.Inside.{other_code, too_short}
use Rattle.pay_record.proofs.reading.read_record.Goals as goal

pub returns-in_default : goal.returns-in_default
returns-in_default c = too_short c.args.keys.now c.args.bytes.now (omega (arith, c.in_default.ensures.none))

pub returns-in_default-two : goal.returns-in_default-two
returns-in_default-two c =
    too_short c.args.keys.now c.args.bytes.now
    (omega (arith, ap (λ (l : List ℕ). length l) c.in-Some.ensures.some, c.in_default-two.ensures.none))

pub returns-in_default-code : goal.returns-in_default-code
returns-in_default-code c l stands =
    let code = c.in-Some.code in
    let stamp = c.in-Some-two.stamp in
    let is : c.args.bytes.now ≡ (code ∷ to_be_bytes w16 stamp) ++ c.in-Some-two.fields.now =
    c.in-Some.ensures.some ∙ ap (λ (x : List ℕ). code ∷ x) c.in-Some-two.ensures.some in
    other_code c.args.keys.now code stamp c.in-Some-two.fields.now (λ e. omega (arith, e)) (λ e. omega (arith, e)) (λ e. omega (arith, e)) l
    (subst (λ (f : List ℕ). StandsIn c.args.keys.now f l) is stands)
