-- What opens, as a statement; and that a frame which is a WANT is nothing else.
use Rattle.std.specs.Prelude.{⊤}
use Rattle.std.proofs.Common.{◌≡◌, ◌∙◌, ◌↔◌, ℕ, List, Option, Some, None, Result, Ok, Err, IfSome, ap, subst, sym}
use Rattle.pay_frame.specs.Frame.{FrameFields}
use Rattle.pay_link.specs.Keys.{KeyFields}
use Rattle.pay_link.specs.Opening.{OpenedFields, Opens, judgement, opened_fields}
use Rattle.pay_link.specs.declared.opened.LinkFault.{LinkFault}
use Rattle.pay_member.specs.declared.bringing.Incoming.{Incoming}
use Rattle.pay_member.specs.declared.bringing.Incoming.TheVariants.{Message, Want}
use Rattle.pay_peers.specs.Answering.{HasWrongTag, IsWant}

abbrev pub OpenedIs : Type 0
OpenedIs = (k : KeyFields) (f : FrameFields) (o : OpenedFields) → (judgement k f ≡ Ok o) ↔ (Opens k f × (o ≡ opened_fields k f))

-- how many frames a WANT asks from
abbrev number_of : Result Incoming LinkFault → ℕ
number_of (Ok (Want from number)) = number
number_of (Ok (Message opened)) = 0
number_of (Err fault) = 0

-- a frame is a WANT of one number alone
pub same_number :
    {X : Type 0} (k : KeyFields) (seats : List (ℕ × X)) (f : FrameFields) (from number other later : ℕ)
    → IsWant k seats f from number → IsWant k seats f other later → number ≡ later
same_number k seats f from number other later one two = ap number_of (sym one.opens ∙ two.opens)

abbrev WasOpened : Result Incoming LinkFault → Type 0
WasOpened (Ok incoming) = ⊤
WasOpened (Err fault) = ⊥

-- and has the right tag
pub rightly_tagged : {X : Type 0} (k : KeyFields) (seats : List (ℕ × X)) (f : FrameFields) (from number : ℕ) → IsWant k seats f from number → ¬ (HasWrongTag k f)
rightly_tagged k seats f from number want wrong = subst WasOpened (sym want.opens ∙ wrong) tt

-- what holds in any case
pub if_some : (found : Option ℕ) (P : Type 0) → P → IfSome found (λ _. P)
if_some None P p = tt
if_some (Some x) P p = p
