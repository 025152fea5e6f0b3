-- Why payments aren't asked for.
use Rattle.std.proofs.lemmas.Bool.Decides.{nat_tests}
use Rattle.std.proofs.Common.{◌≡◌, ◌⊎◌, ◌↔◌, ℕ, suc, zero, ◌<◌, ◌≤◌, Bool, true, false, ◌&&◌, ◌||◌, List, [], ◌∷◌, length, get_or, refl, sym, subst, ◌∙◌, ap, arith, inl, inr, Some, None}
use Rattle.std.specs.Prelude.{◌==◌, nat_lt, All, if◌then◌else◌}
use Rattle.std.specs.List.{Any, list_all, list_any}
use Rattle.std.proofs.lemmas.Bool.{cases_Bool, cond-true, cond-false, ltb-true, eqb-true, eq-eqb, lt-ltb}
use Rattle.std.proofs.lemmas.List.Elements.{All-nil, All-cons, All-get_or}
use Rattle.pay_desk.specs.declared.fault.DeskFault.{DeskFault}
use Rattle.pay_desk.specs.declared.fault.DeskFault.TheVariants.{NoAccount, ZeroOrSelf}
use Rattle.pay_desk.specs.Answers.{is_account, is_void, pay_fault}

abbrev Pair : Type 0
Pair = ℕ × ℕ

-- one that holds somewhere doesn't fail everywhere
any_here : (P : Pair → Type 0) (p : Pair) (ps : List Pair) → P p → Any P (p ∷ ps)
any_here P p ps h = (0, p, omega arith, refl, h)

any_there : (P : Pair → Type 0) (p : Pair) (ps : List Pair) → Any P ps → Any P (p ∷ ps)
any_there P p ps (k, x, within, is, h) = (suc k, x, omega arith, is, h)

clash : (P Q : Pair → Type 0) (ps : List Pair) → ((p : Pair) → P p → Q p → ⊥) → All P ps → Any Q ps → ⊥
clash P Q ps apart all (k, x, within, is, h) =
    apart x (subst P is (All-get_or P ps k x within all)) h

abbrev IsThere : ℕ → Pair → Type 0
IsThere accounts p = p.0 < accounts

abbrev IsNowhere : ℕ → Pair → Type 0
IsNowhere accounts p = accounts ≤ p.0

abbrev IsIdle : ℕ → Pair → Type 0
IsIdle own p = (p.1 ≡ 0) ⊎ (p.0 ≡ own)

-- what each test says
not_there : (accounts : ℕ) (p : Pair) → is_account accounts p ≡ false → IsNowhere accounts p
not_there accounts p fails = grind (arith, nat_tests)

idle : (own : ℕ) (p : Pair) → is_void own p ≡ true → IsIdle own p
idle own p holds =
    elim (cases_Bool (p.1 == 0)) [
      | inl nothing ↦ inl (eqb-true p.1 0 nothing)
      | inr some ↦ inr (eqb-true p.0 own (sym (ap (λ b. b || (p.0 == own)) some) ∙ holds))
    ]

not_idle : (own : ℕ) (p : Pair) → is_void own p ≡ false → IsIdle own p → ⊥
not_idle own p fails (inl nothing) =
    (let holds = ap (λ b. b || (p.0 == own)) (eq-eqb p.1 0 nothing) in cc)
not_idle own p fails (inr self) =
    (let holds = eq-eqb p.0 own self in
    elim (cases_Bool (p.1 == 0)) [
      | inl nothing ↦ (let also = ap (λ b. b || (p.0 == own)) nothing in cc)
      | inr some ↦ (let only = ap (λ b. b || (p.0 == own)) some in cc)
    ])

-- all payees are accounts, or one is none
abbrev AllOrOne : ℕ → List Pair → Type 0
AllOrOne accounts ps =
    ((list_all (is_account accounts) ps ≡ true) × All (IsThere accounts) ps)
    ⊎ ((list_all (is_account accounts) ps ≡ false) × Any (IsNowhere accounts) ps)

all_or_one : (accounts : ℕ) (ps : List Pair) → AllOrOne accounts ps
all_or_one accounts [] = inl (refl, All-nil (IsThere accounts))
all_or_one accounts (p ∷ ps) =
    elim (cases_Bool (is_account accounts p)) [
      | inl here ↦
          elim (all_or_one accounts ps) [
            | inl (all, there) ↦ inl (ap (λ b. b && list_all (is_account accounts) ps) here ∙ all, All-cons (IsThere accounts) p ps (ltb-true p.0 accounts here) there)
            | inr (some, one) ↦ inr (ap (λ b. b && list_all (is_account accounts) ps) here ∙ some, any_there (IsNowhere accounts) p ps one)
          ]
      | inr out ↦ inr (ap (λ b. b && list_all (is_account accounts) ps) out, any_here (IsNowhere accounts) p ps (not_there accounts p out))
    ]

-- one payment is idle, or none
abbrev OneOrNone : ℕ → List Pair → Type 0
OneOrNone own ps =
    ((list_any (is_void own) ps ≡ true) × Any (IsIdle own) ps)
    ⊎ ((list_any (is_void own) ps ≡ false) × (Any (IsIdle own) ps → ⊥))

none_of_more : (P : Pair → Type 0) (p : Pair) (ps : List Pair) → (P p → ⊥) → (Any P ps → ⊥) → Any P (p ∷ ps) → ⊥
none_of_more P p ps here there (zero, x, within, is, h) = here (subst P (sym is) h)
none_of_more P p ps here there (suc k, x, within, is, h) = there (k, x, omega arith, is, h)

one_or_none : (own : ℕ) (ps : List Pair) → OneOrNone own ps
one_or_none own [] = inr (refl, λ (k, x, within, is, h). omega arith)
one_or_none own (p ∷ ps) =
    elim (cases_Bool (is_void own p)) [
      | inl here ↦ inl (ap (λ b. b || list_any (is_void own) ps) here, any_here (IsIdle own) p ps (idle own p here))
      | inr out ↦
          elim (one_or_none own ps) [
            | inl (some, one) ↦ inl (ap (λ b. b || list_any (is_void own) ps) out ∙ some, any_there (IsIdle own) p ps one)
            | inr (fails, none) ↦ inr (ap (λ b. b || list_any (is_void own) ps) out ∙ fails, none_of_more (IsIdle own) p ps (not_idle own p out) none)
          ]
    ]

-- the fault by the two tests
fault_is : (accounts own : ℕ) (ps : List Pair) (a b : Bool) → list_all (is_account accounts) ps ≡ a → list_any (is_void own) ps ≡ b
    → pay_fault accounts own ps ≡ (if a then (if b then Some ZeroOrSelf else None) else Some NoAccount)
fault_is accounts own ps a b all one =
    ap (λ x. if x then (if list_any (is_void own) ps then Some ZeroOrSelf else None) else Some NoAccount) all
    ∙ ap (λ x. if a then (if x then Some ZeroOrSelf else None) else Some NoAccount) one

pub payee_cause : (accounts own : ℕ) (ps : List Pair) → (pay_fault accounts own ps ≡ Some NoAccount) ↔ Any (λ p. accounts ≤ p.0) ps
payee_cause accounts own ps =
    elim (all_or_one accounts ps) [
      | inl (all, there) ↦ (
        λ is. absurd (elim (one_or_none own ps) [
          | inl (some, one) ↦ (let fault = fault_is accounts own ps true true all some in cc)
          | inr (fails, none) ↦ (let fault = fault_is accounts own ps true false all fails in cc)
        ]),
        λ out. absurd (clash (IsThere accounts) (IsNowhere accounts) ps (λ p less more. omega arith) there out),
      )
      | inr (some, one) ↦ (λ is. one, λ out. fault_is accounts own ps false (list_any (is_void own) ps) some refl)
    ]

pub payment_cause : (accounts own : ℕ) (ps : List Pair)
    → (pay_fault accounts own ps ≡ Some ZeroOrSelf) ↔ (All (λ p. p.0 < accounts) ps × Any (λ p. (p.1 ≡ 0) ⊎ (p.0 ≡ own)) ps)
payment_cause accounts own ps =
    elim (all_or_one accounts ps) [
      | inl (all, there) ↦
          elim (one_or_none own ps) [
            | inl (some, one) ↦ (λ is. (there, one), λ both. fault_is accounts own ps true true all some)
            | inr (fails, none) ↦ (
              λ is. absurd (let fault = fault_is accounts own ps true false all fails in cc),
              λ both. absurd (none both.1),
            )
          ]
      | inr (some, one) ↦ (
        λ is. absurd (let fault = fault_is accounts own ps false (list_any (is_void own) ps) some refl in cc),
        λ both. absurd (clash (IsThere accounts) (IsNowhere accounts) ps (λ p less more. omega arith) both.0 one),
      )
    ]
