use Rattle.std.proofs.Common.{ℕ, zero, suc, refl, sym, subst, arith}
use Rattle.std.specs.Prelude.{nat_lt}
use Rattle.std.proofs.lemmas.Bool.{le-leb}
use Rattle.pay_frame.specs.Cutting.{Held, PassesFrames}
use Rattle.pay_frame.specs.Passing.{Passes}
use Rattle.pay_frame.proofs.Fronts.{first_passed, none_passed}
use Rattle.pay_frame.proofs.cutter.Cutter.pass.Goals as goal

by_count : (old new : Held) (count : ℕ) → PassesFrames old new 1 count → Passes old new (nat_lt 0 count)
by_count old new zero passed = none_passed old new zero passed refl
by_count old new (suc count) passed = subst (Passes old new) (sym (le-leb 1 (suc count) (omega arith))) (first_passed old new (suc count) passed (omega arith))

pub returns-clause-passed : goal.returns-clause-passed
returns-clause-passed c = by_count c.args.self.now c.pass_frames.new.self c.in_ok-pass_frames.field-0 c.in_ok-pass_frames.ensures.passes
