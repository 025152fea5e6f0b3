-- Bytes alone have the first six faults; and no bytes at all are a proper beginning of a frame.
use Rattle.std.proofs.Common.{◌≡◌, ℕ, ◌≤◌, Bool, true, false, List, [], subst, arith, Option, Some, None, cond}
use Rattle.std.specs.Prelude.{slice_index, nat_lt, ◌==◌}
use Rattle.pay_frame.specs.declared.reading.FrameFault.{FrameFault}
use Rattle.pay_frame.specs.declared.reading.FrameFault.TheVariants.{BadLength, BadVersion, BadKind, BadValueLength, BadSeq, BadWant}
use Rattle.pay_frame.specs.Fault.{fault_number}
use Rattle.pay_frame.specs.Reading.{IsProperBeginning, IsFault, fault_at}
use Rattle.pay_frame.proofs.Lists.{IsBytes-none}
use Rattle.pay_frame.proofs.Answering.{beginning_from_short}

pub nothing_begins : IsProperBeginning []
nothing_begins = beginning_from_short [] IsBytes-none (omega arith) (λ j lt. absurd (omega arith))

abbrev IsEarly : Option FrameFault → Type 0
IsEarly o = (fault : FrameFault) → o ≡ Some fault → fault_number fault ≤ 6

early : (fault : FrameFault) → fault_number fault ≤ 6 → IsEarly (Some fault)
early fault le other e = let same : fault ≡ other = cc in subst (λ (k : FrameFault). fault_number k ≤ 6) same le

early_none : IsEarly None
early_none fault e = absurd (cc)

early_if : (b : Bool) (x y : Option FrameFault) → IsEarly x → IsEarly y → IsEarly (cond b x y)
early_if b x y p q = elim b as (λ v. IsEarly (cond v x y)) [ true ↦ p | false ↦ q ]

early_by : (b : Bool) (j k : FrameFault) → fault_number j ≤ 6 → fault_number k ≤ 6 → IsEarly (Some (cond b j k))
early_by b j k p q = elim b as (λ v. IsEarly (Some (cond v j k))) [ true ↦ early j p | false ↦ early k q ]

early_at : (x : List ℕ) (place : ℕ) → IsEarly (fault_at x place)
early_at x place =
    let want : Bool = slice_index x 3 == 4 in
    early_if (nat_lt place 2) _ _ (early BadLength (omega arith))
    (early_if (place == 2) _ _ (early BadVersion (omega arith))
    (early_if (place == 3) _ _ (early_by want BadWant BadKind (omega arith) (omega arith))
    (early_if (nat_lt place 16) _ _ early_none
    (early_if (nat_lt place 18) _ _ (early BadWant (omega arith))
    (early_if (nat_lt place 22) _ _ (early_by want BadWant BadSeq (omega arith) (omega arith))
    (early_if (nat_lt place 24) _ _ (early BadValueLength (omega arith)) early_none))))))

pub first_six : (x : List ℕ) (fault : FrameFault) → IsFault x fault → fault_number fault ≤ 6
first_six x fault wrong = early_at x wrong.place fault wrong.named
