use Rattle.std.proofs.Common.{◌≡◌, ◌+◌, drop, length, Some, slice_get, refl, sym, ◌∙◌, arith}
use Rattle.std.proofs.lemmas.Option.{slice_get_read}
use Rattle.std.proofs.lemmas.List.{take_rest}
use Rattle.pay_audit.specs.Verdict.{first_from}
use Rattle.pay_group.specs.Book.{twice_at}
use Rattle.pay_group.proofs.Members.{twice_is_later, twice_is_next}
use Rattle.pay_group.proofs.booking.twice.Goals as goal

pub loop-place-preserved : goal.loop-place-preserved
loop-place-preserved c =
    let exports = c.args.exports.now in
    let place = c.loop-place.place in
    let e = c.index-exports-place.result in
    let twice = c.twice_after-twice.result in
    let at : slice_get exports place ≡ Some e = slice_get_read exports (length exports) place e refl (omega arith) c.index-exports-place.is in
    let found : twice ≡ first_from (twice_at place e.member) (place + 1) (drop (place + 1) exports) = cc (c.twice_after-twice.ensures, take_rest exports (place + 1)) in
    c.loop-place.invariant ∙ twice_is_later exports place e twice at found c.if-is_some.ensures

pub returns-then-is_some : goal.returns-then-is_some
returns-then-is_some c =
    let exports = c.args.exports.now in
    let place = c.loop-place.place in
    let e = c.index-exports-place.result in
    let twice = c.twice_after-twice.result in
    let at : slice_get exports place ≡ Some e = slice_get_read exports (length exports) place e refl (omega arith) c.index-exports-place.is in
    let found : twice ≡ first_from (twice_at place e.member) (place + 1) (drop (place + 1) exports) = cc (c.twice_after-twice.ensures, take_rest exports (place + 1)) in
    sym (c.loop-place.invariant ∙ twice_is_next exports place e twice at found c.if-is_some.ensures)
