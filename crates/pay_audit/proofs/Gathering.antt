-- Texts added one after the other.
use Rattle.std.proofs.Common.{◌≡◌, ℕ, ◌+◌, List, [], ◌++◌, length, take, Bool, true, false, sym, ap, subst, ◌∙◌, append_assoc, append-nil, arith, Option}
use Rattle.std.specs.Io.KnownBytes.{Appends}
use Rattle.std.proofs.KnownBytes.{Appends-trans}
use Rattle.std.proofs.lemmas.List.{length-append, take-append-le}
use Rattle.std.proofs.Math.Seq.{take-append-add}
use Rattle.pay_frame.specs.Device.{WroteBeginning, next_count}
use Rattle.pay_audit.specs.Gathering.{Adds, AddsAt, PassesOn, OutputState}

-- what was held went out, and then the text
pub passed : (a b c : Option (List ℕ)) (held left text : List ℕ) → Appends a b held → Appends b c text → left ≡ [] → PassesOn a c held left text
passed a b c held left text first second none = record {
  sent = held ++ text;
  written = Appends-trans a b c held text first second;
  parts = sym (append-nil (held ++ text)) ∙ ap (λ xs. (held ++ text) ++ xs) (sym none);
}

-- a beginning of what comes after a text that is written
pub begins : (a b c : Option (List ℕ)) (sent text : List ℕ) → Appends a b sent → WroteBeginning b c text → WroteBeginning a c (sent ++ text)
begins a b c sent text was is =
    let within = is.within in
    let front : take (length sent + is.count) (sent ++ text) ≡ sent ++ take is.count text = take-append-add sent text is.count in
    record {
      count = length sent + is.count;
      within = omega (arith, length-append sent text);
      written = subst (Appends a c) (sym front) (Appends-trans a b c sent (take is.count text) was is.written);
    }

-- a beginning of a text is one of a longer text
extends : (a b : Option (List ℕ)) (text more : List ℕ) → WroteBeginning a b text → WroteBeginning a b (text ++ more)
extends a b text more is =
    let within = is.within in
    record {
      count = is.count;
      within = omega (arith, length-append text more);
      written = subst (Appends a b) (sym (take-append-le is.count text more within)) is.written;
    }

both_move : (a b c : Option (List ℕ)) (h k l s t : List ℕ) → PassesOn a b h k s → PassesOn b c k l t → PassesOn a c h l (s ++ t)
both_move a b c h k l s t first second = record {
  sent = first.sent ++ second.sent;
  written = Appends-trans a b c first.sent second.sent first.written second.written;
  parts = sym (append_assoc h s t) ∙ ap (λ xs. xs ++ t) first.parts ∙ append_assoc first.sent k t
      ∙ ap (λ xs. first.sent ++ xs) second.parts ∙ sym (append_assoc first.sent second.sent l);
}

breaks_later : (a b c : Option (List ℕ)) (h k s t : List ℕ) → PassesOn a b h k s → WroteBeginning b c (k ++ t) → WroteBeginning a c (h ++ (s ++ t))
breaks_later a b c h k s t first second =
    let whole : first.sent ++ (k ++ t) ≡ h ++ (s ++ t) =
    sym (append_assoc first.sent k t) ∙ ap (λ xs. xs ++ t) (sym first.parts) ∙ append_assoc h s t in
    subst (WroteBeginning a c) whole (begins a b c first.sent (k ++ t) first.written second)

breaks_before : (a b c : Option (List ℕ)) (h s t : List ℕ) → WroteBeginning a b (h ++ s) → c ≡ b → WroteBeginning a c (h ++ (s ++ t))
breaks_before a b c h s t first same =
    subst (λ w. WroteBeginning a w (h ++ (s ++ t))) (sym same)
    (subst (WroteBeginning a b) (append_assoc h s t) (extends a b (h ++ s) t first))

at_flags : (f g h : Bool) (a b c : OutputState) (s t : List ℕ) → AddsAt f g a b s → AddsAt g h b c t → AddsAt f h a c (s ++ t)
at_flags false false false a b c s t p q = (both_move a.written b.written c.written a.held b.held c.held s t p.0 q.0, q.1 ∙ p.1)
at_flags false false true a b c s t p q =
    (breaks_later a.written b.written c.written a.held b.held s t p.0 q.0, q.1 ∙ ap next_count p.1)
at_flags false true false a b c s t p q = absurd q
at_flags false true true a b c s t p q = (breaks_before a.written b.written c.written a.held s t p.0 q.0, q.1 ∙ p.1)
at_flags true false h a b c s t p q = absurd p
at_flags true true false a b c s t p q = absurd q
at_flags true true true a b c s t p q = (q.0 ∙ p.0, q.1 ∙ p.1)

-- one text after another
pub adds_then : (a b c : OutputState) (s t : List ℕ) → Adds a b s → Adds b c t → Adds a c (s ++ t)
adds_then a b c s t p q = at_flags a.failed b.failed c.failed a b c s t p q

-- one after those so far, under the name that the whole has
pub adds_next : (a b c : OutputState) (s t whole : List ℕ) → Adds a b s → Adds b c t → s ++ t ≡ whole → Adds a c whole
adds_next a b c s t whole p q is = subst (Adds a c) is (adds_then a b c s t p q)
