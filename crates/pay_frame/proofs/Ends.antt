-- The end of a stream of which some bytes are held.
use Rattle.std.proofs.Common.{◌≡◌, ℕ, ◌<◌, List, length, refl, arith, inr, Option, Some, None, Ok, Err, eqb, false}
use Rattle.std.proofs.lemmas.Bool.Decides.{nat_tests}
use Rattle.pay_frame.specs.declared.reading.FrameFault.TheVariants.{Truncated}
use Rattle.pay_frame.specs.declared.frame_ref.FrameRef.{FrameRef}
use Rattle.pay_frame.specs.Lent.{fields_of, sized_of}
use Rattle.pay_frame.specs.Reading.{IsReading}
use Rattle.pay_frame.specs.Cutting.{Held, EndsWith, IsDrained}

-- bytes that are held, and no frame: they are cut off
pub cut_off : (held : Held) (answer : Option (FrameRef × ℕ)) → held.met ≡ None → IsDrained held.bytes → IsReading held.bytes (sized_of (Ok answer)) → 0 < length held.bytes → EndsWith held (Err Truncated)
cut_off held (Some (f, size)) met drained reading some = absurd (drained (fields_of f) reading.0)
cut_off held None met drained reading some = inr (met, some, inr (reading, refl))

pub longer : (xs : List ℕ) → eqb (length xs) 0 ≡ false → 0 < length xs
longer xs h = grind (arith, nat_tests)
