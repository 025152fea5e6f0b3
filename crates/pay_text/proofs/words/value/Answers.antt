use Rattle.std.proofs.Common.{arith, ◌≡◌, ◌<◌, ◌≤◌, ℕ, ◌+◌, ◌-◌, ◌*◌, List, get_or, take, length, ap, sym, subst, ◌∙◌}
use Rattle.std.proofs.lemmas.Str.Parse.{digit_at, digits_value-take-le}
use Rattle.std.proofs.lemmas.Str.{digit_value_digit}
use Rattle.std.proofs.lemmas.Int.Digits.{digits_value_more, digits_push}
use Rattle.std.proofs.lemmas.List.{take_all, take_more}
use Rattle.std.specs.Char.{digit_value, IsNotAsciiDigit, IsAsciiDigit}
use Rattle.std.specs.Int.{IsInRange}
use Rattle.std.specs.Str.Parse.{AllDigits, digits_value}
use Rattle.pay_text.proofs.words.value.Goals as goal

-- the value of one digit more is at most the whole
part_le : (ds : List ℕ) (i v : ℕ) → i < length ds → v ≡ digits_value 10 (take i ds) → IsInRange 48 57 (get_or ds i 0) → (v * 10 + (get_or ds i 0 - 48) ≡ digits_value 10 (take (i + 1) ds)) × (v * 10 + (get_or ds i 0 - 48) ≤ digits_value 10 ds)
part_le ds i v lt is digit =
    let more = digits_value_more 10 ds i lt in
    let all = digits_value-take-le 10 ds (i + 1) (omega arith) in
    let value = digit_value_digit (get_or ds i 0) digit in
    (omega arith, omega arith)

pub returns-then-not-is_ascii_digit : goal.returns-then-not-is_ascii_digit
returns-then-not-is_ascii_digit c = λ h. let d = digit_at c.args.digits.now c.loop-byte.byte-index h.0 (omega arith) in let e : IsNotAsciiDigit (get_or c.args.digits.now c.loop-byte.byte-index 0) = rw c.if-not-is_ascii_digit.true at c.is_ascii_digit.ensures.cases in grind arith

pub returns-in_err-checked_mul : goal.returns-in_err-checked_mul
returns-in_err-checked_mul c = rw c.from_residual.ensures (λ h.
    let d = digit_at c.args.digits.now c.loop-byte.byte-index h.0 (omega arith) in
    let part = part_le c.args.digits.now c.loop-byte.byte-index c.loop-byte.value c.loop-byte-test.true c.loop-byte.invariant.value d in
    c.in_err-checked_mul.ensures (omega (arith, part.1, h.1)))

pub returns-in_err-value : goal.returns-in_err-value
returns-in_err-value c = rw c.from_residual-in_err-value.ensures (λ h.
    let d = digit_at c.args.digits.now c.loop-byte.byte-index h.0 (omega arith) in
    let part = part_le c.args.digits.now c.loop-byte.byte-index c.loop-byte.value c.loop-byte-test.true c.loop-byte.invariant.value d in
    c.in_err-value.ensures (omega (arith, part.1, h.1, c.from.ensures, c.in_ok-checked_mul.ensures)))

pub loop-byte-preserved : goal.loop-byte-preserved
loop-byte-preserved c =
    let ds = c.args.digits.now in
    let i = c.loop-byte.byte-index in
    let d : IsAsciiDigit (get_or ds i 0) = rw c.if-not-is_ascii_digit.false at c.is_ascii_digit.ensures.cases in
    let e : digit_value (get_or ds i 0) < 10 = rw c.if-not-is_ascii_digit.false at c.is_ascii_digit.ensures.bound in
    let part = part_le ds i c.loop-byte.value c.loop-byte-test.true c.loop-byte.invariant.value d in
    record {
      value = omega (arith, part.0, c.in_ok-checked_mul.ensures.1, c.from.ensures, c.in_ok-value.ensures.1);
      small = omega (arith, c.in_ok-value.ensures.0, c.in_ok-value.ensures.1);
      digits = subst (AllDigits 10) (sym (take_more ds i 0 c.loop-byte-test.true)) (digits_push 10 (take i ds) (get_or ds i 0) c.loop-byte.invariant.digits e);
    }

pub returns : goal.returns
returns c =
    let all : take c.loop-byte.byte-index c.args.digits.now ≡ c.args.digits.now = take_all c.loop-byte.byte-index c.args.digits.now (omega arith) in
    (subst (AllDigits 10) all c.loop-byte.invariant.digits, omega (arith, sym (c.loop-byte.invariant.value ∙ ap (digits_value 10) all)), c.loop-byte.invariant.value ∙ ap (digits_value 10) all)
