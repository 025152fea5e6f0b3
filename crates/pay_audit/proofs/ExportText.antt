-- The text of an export, member by member, and what is written of it at the end.
use Rattle.std.proofs.Common.{◌≡◌, ℕ, List, [], ◌∷◌, ◌++◌, Bool, true, false, Option, Result, Ok, Err, decimal, ap, sym, subst, ◌∙◌}
use Rattle.std.specs.Prelude.{OnOk, OnErr}
use Rattle.std.specs.Bool.{OnFalse, OnTrue}
use Rattle.std.specs.Io.KnownBytes.{Appends}
use Rattle.std.proofs.KnownBytes.{Appends-trans}
use Rattle.json.specs.Print.{escape_byte}
use Rattle.serde_json.specs.Written.{compact_text}
use Rattle.pay_frame.specs.Device.{WroteBeginning, next_count}
use Rattle.pay_audit.specs.Export.{ExportFields}
use Rattle.pay_audit.specs.Exporting.{export_data, lists_data, numbers_data}
use Rattle.pay_audit.specs.Gathering.{AddsAt, OutputState}
use Rattle.pay_audit.proofs.Gathering.{begins}

-- its members in order, with the numbers that stand alone
abbrev members : ExportFields → ℕ → ℕ → ℕ → List ℕ
members e f m n =
    (123 ∷ 34 ∷ 98 ∷ 97 ∷ 108 ∷ 97 ∷ 110 ∷ 99 ∷ 101 ∷ 115 ∷ 34 ∷ 58 ∷ []) ++ (compact_text (numbers_data e.balances) ++ ((44 ∷ 34 ∷ 102 ∷ 97 ∷ 117 ∷ 108 ∷ 116 ∷ 115 ∷ 34 ∷ 58 ∷ []) ++ (decimal f ++ ((44 ∷ 34 ∷ 102 ∷ 114 ∷ 111 ∷ 110 ∷ 116 ∷ 34 ∷ 58 ∷ []) ++ (compact_text (numbers_data e.front) ++ ((44 ∷ 34 ∷ 108 ∷ 105 ∷ 115 ∷ 116 ∷ 115 ∷ 34 ∷ 58 ∷ []) ++ (compact_text (lists_data e.lists) ++ ((44 ∷ 34 ∷ 109 ∷ 101 ∷ 109 ∷ 98 ∷ 101 ∷ 114 ∷ 34 ∷ 58 ∷ []) ++ (decimal m ++ ((44 ∷ 34 ∷ 109 ∷ 101 ∷ 109 ∷ 98 ∷ 101 ∷ 114 ∷ 115 ∷ 34 ∷ 58 ∷ []) ++ (decimal n ++ ((44 ∷ 34 ∷ 111 ∷ 112 ∷ 101 ∷ 110 ∷ 105 ∷ 110 ∷ 103 ∷ 34 ∷ 58 ∷ []) ++ (compact_text (numbers_data e.genesis.opening) ++ (125 ∷ []))))))))))))))

pub whole : (e : ExportFields) (f m n : ℕ) → f ≡ e.genesis.faults → m ≡ e.member → n ≡ e.genesis.members → members e f m n ≡ compact_text (export_data e)
unfolding export_data escape_byte
whole e f m n faults member count =
    ap (λ x. members e x m n) faults ∙ ap (λ x. members e e.genesis.faults x n) member ∙ ap (λ x. members e e.genesis.faults e.member x) count

-- ---- the end

pub both_ok : {A E P Q R : Type 0} (r : Result A E) → (P → Q → R) → OnOk r P → OnOk r Q → OnOk r R
both_ok (Ok x) f p q = f p q
both_ok (Err e) f p q = tt

pub both_err : {A E P Q R : Type 0} (r : Result A E) → (P → Q → R) → OnErr r P → OnErr r Q → OnErr r R
both_err (Ok x) f p q = tt
both_err (Err e) f p q = f p q

-- all of it went out
pub ended : (f g : Bool) (a b : OutputState) (w : Option (List ℕ)) (t : List ℕ) → f ≡ false → a.held ≡ [] → AddsAt f g a b t → g ≡ false → Appends b.written w b.held → Appends a.written w t
ended true g a b w t fresh none adds fine rest = absurd cc
ended false true a b w t fresh none adds fine rest = absurd cc
ended false false a b w t fresh none adds fine rest =
    subst (Appends a.written w) (sym adds.0.parts ∙ ap (λ xs. xs ++ t) none)
    (Appends-trans a.written b.written w adds.0.sent b.held adds.0.written rest)

pub ended_count : (f g : Bool) (a b : OutputState) (count : ℕ) (t : List ℕ) → f ≡ false → AddsAt f g a b t → g ≡ false → count ≡ b.failures → count ≡ a.failures
ended_count true g a b count t fresh adds fine rest = absurd cc
ended_count false true a b count t fresh adds fine rest = absurd cc
ended_count false false a b count t fresh adds fine rest = rest ∙ adds.1

-- a beginning of it went out
pub broke : (f g : Bool) (a b : OutputState) (w : Option (List ℕ)) (t : List ℕ) → f ≡ false → a.held ≡ [] → AddsAt f g a b t
    → OnFalse g (WroteBeginning b.written w b.held) → OnTrue g (w ≡ b.written) → WroteBeginning a.written w t
broke true g a b w t fresh none adds rest same = absurd cc
broke false true a b w t fresh none adds rest same =
    subst (λ v. WroteBeginning a.written v t) (sym same) (subst (WroteBeginning a.written b.written) (ap (λ xs. xs ++ t) none) adds.0)
broke false false a b w t fresh none adds rest same =
    subst (WroteBeginning a.written w) (sym adds.0.parts ∙ ap (λ xs. xs ++ t) none)
    (begins a.written b.written w adds.0.sent b.held adds.0.written rest)

pub broke_count : (f g : Bool) (a b : OutputState) (count : ℕ) (t : List ℕ) → f ≡ false → AddsAt f g a b t
    → OnFalse g (count ≡ next_count b.failures) → OnTrue g (count ≡ b.failures) → count ≡ next_count a.failures
broke_count true g a b count t fresh adds rest same = absurd cc
broke_count false true a b count t fresh adds rest same = same ∙ adds.1
broke_count false false a b count t fresh adds rest same = rest ∙ ap next_count adds.1

pub on_true : {P Q : Type 0} (b : Bool) → (P → Q) → OnTrue b P → OnTrue b Q
on_true true f p = f p
on_true false f p = tt
