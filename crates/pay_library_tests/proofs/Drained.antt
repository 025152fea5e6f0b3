-- When no whole frame is in front of a cutter: after it answered that there is none, and after a fault.
use Rattle.std.proofs.Common.{◌≡◌, ℕ, List, sym, ◌∙◌, subst, inl, inr, None, Ok, Err}
use Rattle.std.proofs.lemmas.Option.{none-some}
use Rattle.pay_frame.specs.declared.reading.FrameFault.{FrameFault}
use Rattle.pay_frame.specs.Reading.{IsProperBeginning}
use Rattle.pay_frame.specs.Cutting.{Held, HandsOut, IsDrained}

pub after_none : (old new : Held) → ((bytes : List ℕ) → IsProperBeginning bytes → IsDrained bytes) → HandsOut old (Ok None) new → IsDrained new.bytes
after_none old new law handed = subst IsDrained (sym handed.2) (law old.bytes handed.1)

pub after_fault : (old new : Held) (fault : FrameFault) → old.met ≡ None → HandsOut old (Err fault) new → IsDrained new.bytes
after_fault old new fault none handed =
    let drained : IsDrained old.bytes = elim handed.0 [ inl met ↦ absurd (none-some fault (sym none ∙ met)) | inr found ↦ found.1.no_frame ] in
    subst IsDrained (sym handed.1) drained
