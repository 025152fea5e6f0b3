use Rattle.std.proofs.Common.{◌≡◌, ◌+◌, ◌-◌, ℕ, suc, ap, ◌∙◌, sym, arith}
use Rattle.pay_book.specs.Payment.{count_in}
use Rattle.pay_book.specs.Places.{Place}
use Rattle.pay_book.proofs.Entries.{count_in-some, count_in-few}
use Rattle.pay_book.proofs.Places.{place_rest-le, place_begins, value_is_before, value_before}
use Rattle.pay_book.proofs.excerpts.place_before.Goals as goal

pub overflow_sub-start : goal.overflow_sub-start
overflow_sub-start g c =
    let low = place_rest-le count_in (g.S.Source.lists c.args.source.now c.args.owner) c.args.number in
    let entries = ap (λ (p : Place). p.1) c.requires.place in
    omega (arith, c.from.ensures)

pub loop-start-init : goal.loop-start-init
loop-start-init g c =
    let list = g.S.Source.lists c.args.source.now c.args.owner in
    let start = c.args.number - c.from.result in
    let low = place_rest-le count_in list c.args.number in
    let entries = ap (λ (p : Place). p.1) c.requires.place in
    let adds : start + c.args.place.1 ≡ c.args.number = omega (arith, c.from.ensures) in
    let begins = place_begins count_in list c.args.number start c.args.place c.requires.place adds in
    let none : start - start ≡ 0 = omega arith in
    record {
      within = c.requires.within;
      begins = begins start (omega arith) (omega arith) ∙ ap (λ (k : ℕ). (c.args.place.0, k)) none;
      here = λ h. begins c.args.earlier h c.requires.earlier;
      few = omega (arith, c.requires.earlier, c.from.ensures, c.well_formed);
    }

pub overflow_sub-seq : goal.overflow_sub-seq
overflow_sub-seq g c =
    let list = g.S.Source.lists c.args.source.now c.args.owner in
    value_is_before count_in list c.loop-start.start c.loop-start.seq c.loop-start.invariant.begins (omega (arith, c.loop-start-test.true))

pub at-requires : goal.at-requires
at-requires g c =
    let list = g.S.Source.lists c.args.source.now c.args.owner in
    let some = value_is_before count_in list c.loop-start.start c.loop-start.seq c.loop-start.invariant.begins (omega (arith, c.loop-start-test.true)) in
    omega (arith, c.loop-start.invariant.within)

pub overflow_sub-start-in-loop-start : goal.overflow_sub-start-in-loop-start
overflow_sub-start-in-loop-start g c =
    let list = g.S.Source.lists c.args.source.now c.args.owner in
    let seq = c.loop-start.seq in
    let some = value_is_before count_in list c.loop-start.start seq c.loop-start.invariant.begins (omega (arith, c.loop-start-test.true)) in
    let next : seq ≡ suc (seq - 1) = omega arith in
    let before = value_before count_in list c.loop-start.start seq (seq - 1) c.at.result.now c.loop-start.invariant.begins next c.at.ensures in
    let low = before.0 in
    omega (arith, c.from-start.ensures, c.entries_in.ensures)

pub loop-start-smaller : goal.loop-start-smaller
loop-start-smaller g c =
    let list = g.S.Source.lists c.args.source.now c.args.owner in
    let some = value_is_before count_in list c.loop-start.start c.loop-start.seq c.loop-start.invariant.begins (omega (arith, c.loop-start-test.true)) in
    omega arith

pub loop-start-preserved : goal.loop-start-preserved
loop-start-preserved g c =
    let list = g.S.Source.lists c.args.source.now c.args.owner in
    let seq = c.loop-start.seq in
    let start = c.loop-start.start in
    let value = c.at.result.now in
    let test = c.loop-start-test.true in
    let some = value_is_before count_in list start seq c.loop-start.invariant.begins (omega arith) in
    let next : seq ≡ suc (seq - 1) = omega arith in
    let before = value_before count_in list start seq (seq - 1) value c.loop-start.invariant.begins next c.at.ensures in
    let low = before.0 in
    let count : c.from-start.result ≡ count_in value = c.from-start.ensures ∙ c.entries_in.ensures in
    let first : start - count_in value ≡ start - c.from-start.result = ap (λ n. start - n) (sym count) in
    let one = count_in-some value in
    let few = count_in-few value in
    let none : start - count_in value - (start - count_in value) ≡ 0 = omega arith in
    record {
      within = omega (arith, c.loop-start.invariant.within);
      begins = rw count (before.1 (start - count_in value) (omega arith) (omega arith) ∙ ap (λ (k : ℕ). (seq - 1, k)) none);
      here = λ h. rw count (before.1 c.args.earlier (omega (arith, h)) test);
      few = omega arith;
    }
