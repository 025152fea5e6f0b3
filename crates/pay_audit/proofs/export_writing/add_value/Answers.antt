use Rattle.std.proofs.Common.{slice_index, ◌∷◌, [], ◌≡◌, ap, take, ◌++◌, ◌+◌, ◌∙◌, arith, rules}
use Rattle.std.proofs.lemmas.List.{take_all}
use Rattle.hex.specs.Hex.{encode_lower}
use Rattle.pay_audit.specs.Gathering.{state}
use Rattle.pay_audit.proofs.Digits.{all_digits, next_digits, none_encoded}
use Rattle.pay_audit.proofs.Gathering.{adds_next}
use Rattle.pay_audit.proofs.export_writing.add_value.Goals as goal

pub loop-byte-init : goal.loop-byte-init
loop-byte-init g c = rw none_encoded c.add.ensures

pub loop-byte-preserved : goal.loop-byte-preserved
loop-byte-preserved g c =
    let at = state g.W.Output.contents g.W.Output.failure_count in
    let bytes = c.args.value.now in
    let k = c.loop-byte.byte-index in
    let digits : c.digits_of.result ≡ encode_lower (slice_index bytes k ∷ []) = search rules in
    adds_next (at c.args.text.now c.args.writer.now) (at c.loop-byte.text c.loop-byte.writer) (at c.add-in-loop-byte.new.self c.add-in-loop-byte.new.writer)
    (34 ∷ encode_lower (take k bytes)) c.digits_of.result (34 ∷ encode_lower (take (k + 1) bytes))
    c.loop-byte.invariant c.add-in-loop-byte.ensures
    (ap (λ t. (34 ∷ encode_lower (take k bytes)) ++ t) digits ∙ next_digits bytes k (omega (arith, c.loop-byte-test.true)))

pub returns : goal.returns
returns g c =
    let at = state g.W.Output.contents g.W.Output.failure_count in
    let bytes = c.args.value.now in
    let k = c.loop-byte.byte-index in
    let all : take k bytes ≡ bytes = take_all k bytes (omega (arith, c.loop-byte-test.false)) in
    adds_next (at c.args.text.now c.args.writer.now) (at c.loop-byte.text c.loop-byte.writer) (at c.add-2.new.self c.add-2.new.writer)
    (34 ∷ encode_lower (take k bytes)) (34 ∷ []) _
    c.loop-byte.invariant c.add-2.ensures (all_digits bytes k (λ i. omega (arith, c.type_inv.value i)) all)
