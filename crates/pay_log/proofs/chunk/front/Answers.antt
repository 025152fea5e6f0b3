use Rattle.std.proofs.Common.{◌≡◌, ◌+◌, sym, ◌∙◌, subst, arith, rules, take, drop, ℕ, List, ◌++◌, Bool, true, false}
use Rattle.std.specs.Prelude.{IsTrue}
use Rattle.std.proofs.lemmas.Bool.{false≢true}
use Rattle.pay_hmac.specs.Mac.{mac}
use Rattle.pay_log.specs.Chunks.{length_at}
use Rattle.pay_log.specs.declared.chunk.TheConstants.{HEAD_LEN}
use Rattle.pay_log.specs.Keys.{place_bytes}
use Rattle.pay_log.proofs.Chunks.{headless_end, no_room, other_sum, whole_chunk}
use Rattle.pay_log.proofs.chunk.front.Goals as goal

pub returns-in_default-clause-none : goal.returns-in_default-clause-none
returns-in_default-clause-none c = headless_end c.args.key.now c.args.place c.args.bytes.now c.in_default.ensures.none

pub returns-then-bytes-body_len-clause-none : goal.returns-then-bytes-body_len-clause-none
returns-then-bytes-body_len-clause-none c =
    no_room c.args.key.now c.args.place c.args.bytes.now
    (omega (arith, c.in-Some.ensures.some.is, c.if-bytes-body_len.true))

truth : IsTrue true
truth = search rules

pub returns-then-has_sum-clause-chunk : goal.returns-then-has_sum-clause-chunk
returns-then-has_sum-clause-chunk c =
    let key = c.args.key.now in
    let bytes : List ℕ = c.args.bytes.now in
    let n = c.in-Some.length in
    let head = c.in-Some.ensures.some in
    let stands : take 32 (drop (HEAD_LEN + n) bytes) ≡ c.sum_of-sum.result = c.if-has_sum.ensures.0 truth in
    whole_chunk key c.args.place bytes n head.marked head.is (omega (arith, c.if-bytes-body_len.false))
    (λ i. omega (arith, c.type_inv.bytes i)) (stands ∙ c.sum_of-sum.ensures)

pub returns-else-has_sum-clause-none : goal.returns-else-has_sum-clause-none
returns-else-has_sum-clause-none c =
    let key = c.args.key.now in
    let bytes : List ℕ = c.args.bytes.now in
    let n = c.in-Some.length in
    let P : ℕ → Type 0 = λ m. take 32 (drop m bytes) ≡ mac key (place_bytes c.args.place ++ take m bytes) in
    let width : HEAD_LEN + n ≡ HEAD_LEN + length_at bytes = omega (arith, c.in-Some.ensures.some.is) in
    other_sum key c.args.place bytes
    (λ same. not_true c.has_sum.result (c.has_sum.ensures.1 (subst P (sym width) same ∙ sym c.sum_of-sum.ensures)) c.if-has_sum.false)
  where
    not_true : (b : Bool) → IsTrue b → b ≡ false → ⊥
    not_true true is differ = false≢true (sym differ)
    not_true false is differ = false≢true is
