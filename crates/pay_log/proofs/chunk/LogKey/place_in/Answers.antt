use Rattle.std.proofs.Common.{◌≡◌, ◌++◌, length, take, sym, ap, ◌∙◌, arith, length-append, true, false, Bool}
use Rattle.std.specs.Prelude.{IsTrue}
use Rattle.std.proofs.lemmas.Bool.{false≢true}
use Rattle.std.proofs.lemmas.List.{take_at}
use Rattle.pay_log.specs.Keys.{place_bytes, secret_mark}
use Rattle.pay_log.proofs.Chunks.{mark_long}
use Rattle.pay_log.proofs.chunk.LogKey.place_in.Goals as goal

pub returns-then-bytes-lt-FRONT_LEN : goal.returns-then-bytes-lt-FRONT_LEN
returns-then-bytes-lt-FRONT_LEN c place rest within is =
    let key = c.args.self.now in
    absurd (omega (arith, c.if-bytes-lt-FRONT_LEN.true, ap length is, length-append (secret_mark key) (place_bytes place ++ rest), length-append (place_bytes place) rest, mark_long key))

pub returns-then-not-has_mark : goal.returns-then-not-has_mark
returns-then-not-has_mark c place rest within is =
    let key = c.args.self.now in
    absurd (not_true c.has_mark.result (c.has_mark.ensures.1 (ap (take 8) is ∙ take_at (secret_mark key) (place_bytes place ++ rest) 8 (mark_long key))) c.if-not-has_mark.true)
  where
    not_true : (b : Bool) → IsTrue b → b ≡ false → ⊥
    not_true true is differ = false≢true (sym differ)
    not_true false is differ = false≢true is
