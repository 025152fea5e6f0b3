use Rattle.std.proofs.Common.{bit_xor, rules, sym, ◌∙◌, arith, ◌≤◌, length, append-nil}
use Rattle.std.proofs.lemmas.List.{take_all, drop_all}
use Rattle.std.proofs.lemmas.List.Edits.{map_over_more}
use Rattle.pay_hmac.proofs.Pads.{xor_bytes-block}
use Rattle.pay_hmac.proofs.hmac.xor_with.Goals as goal

pub loop-byte-preserved : goal.loop-byte-preserved
loop-byte-preserved c =
    map_over_more (λ b. bit_xor b c.args.pad) _ _ _ _ (omega arith) c.loop-byte.invariant (search rules)

pub returns : goal.returns
returns c =
    let all : length c.args.block ≤ c.loop-byte.byte-index = omega arith in
    let done = rw (take_all _ _ all, drop_all _ _ all, append-nil) at c.loop-byte.invariant in
    done ∙ sym (xor_bytes-block c.args.block c.args.pad (omega arith))
