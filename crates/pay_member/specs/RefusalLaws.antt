-- Statements about the causes of refusals. Each is proved as a public law.
use Rattle.std.specs.Prelude.{◌≡◌, ◌↔◌, ℕ, ◌<◌, ◌≤◌, List, length, Some}
use Rattle.pay_frame.specs.declared.limits.TheConstants.{GREATEST_VALUE, SEQS}
use Rattle.pay_channel.specs.History as channel
use Rattle.pay_channel.specs.History.{asks}
use Rattle.pay_channel.specs.Taken.{next}
use Rattle.pay_link.specs.Checked.{CheckedFields, IsFor}
use Rattle.pay_link.specs.Genesis.{GenesisFields}
use Rattle.pay_link.specs.Keys.{KeyFields}
use Rattle.pay_member.specs.declared.event.Event.TheVariants.{Ask, Taken, Query}
use Rattle.pay_member.specs.declared.fault.MemberFault.TheVariants.{Spent, TooLong, Repeat, Gap}
use Rattle.pay_member.specs.declared.fault.MemberFault.TheVariants.{WrongKey, NoAccount}
use Rattle.pay_member.specs.Refusal.{refusal}

-- a value of its own: no frame has room for it
abbrev pub TooLongCause : Type 0
TooLongCause =
    (g : GenesisFields) (k : KeyFields) (before : List channel.Event) (v : List ℕ)
    → (refusal g k before (Ask v) ≡ Some TooLong) ↔ (GREATEST_VALUE < length v)

-- a value that fits a frame, while every number is used
abbrev pub SpentCause : Type 0
SpentCause =
    (g : GenesisFields) (k : KeyFields) (before : List channel.Event) (v : List ℕ)
    → (refusal g k before (Ask v) ≡ Some Spent)
    ↔ ((length v ≤ GREATEST_VALUE) × (SEQS ≤ asks before))

-- a frame that isn't for this member
abbrev pub WrongKeyCause : Type 0
WrongKeyCause =
    (g : GenesisFields) (k : KeyFields) (before : List channel.Event) (c : CheckedFields)
    → (refusal g k before (Taken c) ≡ Some WrongKey) ↔ (¬ (IsFor k c))

-- a frame for this member with a number below the next one, which is given
abbrev pub RepeatCause : Type 0
RepeatCause =
    (g : GenesisFields) (k : KeyFields) (before : List channel.Event) (c : CheckedFields) (n : ℕ)
    → (refusal g k before (Taken c) ≡ Some (Repeat n))
    ↔ (IsFor k c × (n ≡ next c.frame.from before) × (c.frame.number < n))

-- a frame for this member with a number beyond the next one, which is given
abbrev pub GapCause : Type 0
GapCause =
    (g : GenesisFields) (k : KeyFields) (before : List channel.Event) (c : CheckedFields) (n : ℕ)
    → (refusal g k before (Taken c) ≡ Some (Gap n))
    ↔ (IsFor k c × (n ≡ next c.frame.from before) × (n < c.frame.number))

-- a query of an account that doesn't exist
abbrev pub NoAccountCause : Type 0
NoAccountCause =
    (g : GenesisFields) (k : KeyFields) (before : List channel.Event) (a : ℕ)
    → (refusal g k before (Query a) ≡ Some NoAccount) ↔ (g.members ≤ a)
