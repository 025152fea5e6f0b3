-- What is packed in a receipt is unpacked as it was.
use Rattle.std.proofs.Common.{◌≡◌, ℕ, Bool, true, false, Ok, Result, refl, ap, subst, ◌∙◌}
use Rattle.pay_member.specs.declared.event.Reply.{Reply}
use Rattle.pay_member.specs.declared.event.Reply.TheVariants as reply
use Rattle.pay_member.specs.declared.event.Took.{Took}
use Rattle.pay_member.specs.declared.fault.MemberFault.{MemberFault}
use Rattle.pay_node.specs.Receipts.{flags_of, took_in}

packed : (e r d : Bool) (n : ℕ) → Took
packed e r d n = record { echo = e; ready = r; deliver = d; settled = n }

unpacked : (e r d : Bool) (n : ℕ) → packed e r d n ≡ took_in (flags_of (packed e r d n)) n
unfolding packed
unpacked true true true n = refl
unpacked true true false n = refl
unpacked true false true n = refl
unpacked true false false n = refl
unpacked false true true n = refl
unpacked false true false n = refl
unpacked false false true n = refl
unpacked false false false n = refl

pub took_back :
    (answer : Result Reply MemberFault) (t : Took) (flags settled : ℕ)
    → answer ≡ Ok (reply.Took t) → flags ≡ flags_of t → t.settled ≡ settled
    → answer ≡ Ok (reply.Took (took_in flags settled))
unfolding packed
took_back answer t flags settled is packs same =
    is ∙ ap (λ (x : Took). Ok (reply.Took x)) (unpacked t.echo t.ready t.deliver t.settled)
    ∙ ap (λ (m : ℕ). Ok (reply.Took (took_in (flags_of t) m))) same
    ∙ ap (λ (m : ℕ). Ok (reply.Took (took_in m settled))) (subst (λ (m : ℕ). m ≡ flags) packs refl)
