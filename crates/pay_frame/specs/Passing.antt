-- What a cutter's private steps do: they move past the complete frames in front, or past one of
-- them.
use Rattle.std.specs.Prelude.{◌≡◌, ◌++◌, Bool, true, false, None}
use Rattle.pay_frame.specs.Places.{IsWhole}
use Rattle.pay_frame.specs.Reading.{IsProperBeginning}
use Rattle.pay_frame.specs.Cutting.{Held}

abbrev pub Passes : Held → Held → Bool → Type 0
Passes old new true =
    (old.met ≡ None) × (old.bytes ≡ new.given ++ new.bytes) × IsWhole new.given × (new.met ≡ None)
Passes old new false =
    (old.met ≡ None) × IsProperBeginning old.bytes × (new.bytes ≡ old.bytes) × (new.met ≡ None)
