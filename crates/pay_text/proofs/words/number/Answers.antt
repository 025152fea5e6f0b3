use Rattle.std.proofs.Common.{◌≡◌, ◌<◌, ℕ, zero, suc, arith, sym, length, inl, inr, false}
use Rattle.std.specs.Prelude.{◌==◌}
use Rattle.std.proofs.lemmas.Bool.Decides.{Decides-eqb}
use Rattle.pay_text.proofs.Reading.{no_bytes_is_none, zero_first_is_none, value_is}
use Rattle.pay_text.proofs.words.number.Goals as goal

pub returns-then-is_empty : goal.returns-then-is_empty
returns-then-is_empty c =
    let none : length c.args.word.now ≡ 0 = (Decides-eqb (length c.args.word.now) 0).0 (sym c.if-is_empty.ensures) in
    sym (no_bytes_is_none c.args.word.now none)

pub returns-then-word-gt1 : goal.returns-then-word-gt1
returns-then-word-gt1 c = sym (zero_first_is_none c.args.word.now c.if-word-eq48.true c.if-word-gt1.true)

some_from_test : (n : ℕ) → (n == 0) ≡ false → 0 < n
some_from_test zero e = absurd cc
some_from_test (suc n) e = omega arith

pub returns : goal.returns
returns c =
    let word = c.args.word.now in
    let some : 0 < length word = some_from_test (length word) (sym c.if-is_empty.ensures) in
    value_is word c.value.result some (λ first. elim c.else-word-eq48.either [ inl h ↦ omega (arith, h.1) | inr h ↦ absurd (h first) ]) c.value.ensures
