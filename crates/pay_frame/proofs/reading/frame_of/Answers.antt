use Rattle.std.proofs.Common.{◌≡◌, arith, ◌∙◌, ◌++◌, length, drop}
use Rattle.std.proofs.lemmas.List.{take-append-drop}
use Rattle.pay_frame.proofs.Passing.{head_from_passing}
use Rattle.pay_frame.proofs.Starting.{cut_at}
use Rattle.pay_frame.proofs.reading.frame_of.Goals as goal

-- the parts of the bytes are those of a frame
pub invariant_of-result : goal.invariant_of-result
invariant_of-result c =
    let behind : c.split_at-2.result.0.now ++ c.split_at-2.result.1.now ≡ drop 24 c.args.bytes.now = rw (c.split_at-2.ensures.front, c.split_at-2.ensures.back) (take-append-drop _ _ ∙ c.split_at.ensures.back) in
    let least = (head_from_passing c.args.bytes.now c.requires.head).least in
    let tag-len : length c.split_at-2.result.1.now ≡ 32 = omega (arith, c.split_at-2.ensures.back_len, c.split_at.ensures.back_len) in
    let cut =
    cut_at c.args.bytes.now c.split_at.result.0.now c.split_at-2.result.0.now c.split_at-2.result.1.now c.kind_of.result
    c.from_be_bytes.result c.from_be_bytes-2.result c.number_of.result c.from_be_bytes-3.result c.from_be_bytes-4.result
    (record { fits = λ i. omega (arith, c.type_inv.bytes i) }) c.requires.head c.requires.length
    c.kind_of.ensures c.from_be_bytes.ensures c.from_be_bytes-2.ensures c.number_of.ensures c.from_be_bytes-3.ensures c.from_be_bytes-4.ensures
    c.split_at.ensures.front behind tag-len
    in
    record { is_frame = cut.is; head_spelled = cut.head }

pub returns : goal.returns
returns c =
    let behind : c.split_at-2.result.0.now ++ c.split_at-2.result.1.now ≡ drop 24 c.args.bytes.now = rw (c.split_at-2.ensures.front, c.split_at-2.ensures.back) (take-append-drop _ _ ∙ c.split_at.ensures.back) in
    let least = (head_from_passing c.args.bytes.now c.requires.head).least in
    let tag-len : length c.split_at-2.result.1.now ≡ 32 = omega (arith, c.split_at-2.ensures.back_len, c.split_at.ensures.back_len) in
    let cut =
    cut_at c.args.bytes.now c.split_at.result.0.now c.split_at-2.result.0.now c.split_at-2.result.1.now c.kind_of.result
    c.from_be_bytes.result c.from_be_bytes-2.result c.number_of.result c.from_be_bytes-3.result c.from_be_bytes-4.result
    (record { fits = λ i. omega (arith, c.type_inv.bytes i) }) c.requires.head c.requires.length
    c.kind_of.ensures c.from_be_bytes.ensures c.from_be_bytes-2.ensures c.number_of.ensures c.from_be_bytes-3.ensures c.from_be_bytes-4.ensures
    c.split_at.ensures.front behind tag-len
    in
    cut.spelled
