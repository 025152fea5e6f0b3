-- What is wrong with exports, by what is wrong with all but the last and with that one.
use Rattle.std.proofs.Common.{◌≡◌, ℕ, ◌+◌, List, [], ◌∷◌, ◌++◌, length, Option, Some, None, unwrap_or, if◌then◌else◌, refl, ap, ap₂, sym, ◌∙◌, arith}
use Rattle.std.specs.Option.{option_or}
use Rattle.pay_link.specs.Genesis.{GenesisFields}
use Rattle.pay_audit.specs.Auditor.{HasFound, HasTakenExports, IsNothing, VerdictOfTakenIsOne, first_genesis, other_genesis_than}
use Rattle.pay_audit.specs.Compared.{fork_among}
use Rattle.pay_audit.specs.Export.{ExportFields}
use Rattle.pay_audit.specs.Verdict.{first_from, fork_from, other_genesis, other_genesis_at, verdict_of, wrong_balance_at, wrong_front_at}
use Rattle.pay_audit.specs.declared.auditor.Auditor.{Auditor}
use Rattle.pay_audit.specs.declared.auditing.Verdict.{Verdict}
use Rattle.pay_audit.specs.declared.auditing.Verdict.TheVariants.{Clean, OtherGenesis}
use Rattle.pay_audit.specs.declared.findings.Wrong.{Wrong}
use Rattle.pay_audit.proofs.Firsts.{none_first}
use Rattle.pay_audit.proofs.Comparing.{first_of_both, forks_are, or_none}
use Rattle.pay_audit.proofs.Saying.{same_itself}

pub first_with : {A B : Type 0} (ask : ℕ → A → Option B) (xs : List A) (x : A) → option_or (first_from ask 0 xs) (ask (length xs) x) ≡ first_from ask 0 (xs ++ x ∷ [])
first_with ask xs x =
    sym (first_of_both ask 0 xs (x ∷ [])
    ∙ ap (option_or (first_from ask 0 xs)) (or_none (ask (0 + length xs) x) ∙ ap (λ n. ask n x) (let e : 0 + length xs ≡ length xs = omega arith in e)))

pub other_with : (exports : List ExportFields) (e : ExportFields)
    → option_or (other_genesis exports) (other_genesis_than (first_genesis exports) (length exports) e) ≡ other_genesis (exports ++ e ∷ [])
other_with [] e = sym (or_none (other_genesis_at e.genesis 0 e) ∙ ap (λ b. if b then None else Some (OtherGenesis 0)) (same_itself e.genesis))
other_with (d ∷ exports) e = first_with (other_genesis_at d.genesis) (d ∷ exports) e

pub first_with_genesis : (exports : List ExportFields) (e : ExportFields) → Some (unwrap_or (first_genesis exports) e.genesis) ≡ first_genesis (exports ++ e ∷ [])
first_with_genesis [] e = refl
first_with_genesis (d ∷ exports) e = refl

-- ---- what is wrong, with one more

module _ (exports : List ExportFields) (e : ExportFields) (first : Option GenesisFields) (n : ℕ) (w now : Wrong) (found : HasFound exports w)
    (is_first : first ≡ first_genesis exports) (count : n ≡ length exports)
    (genesis : now.genesis ≡ option_or w.genesis (other_genesis_than first n e))
    (front : now.genesis ≡ None → now.front ≡ option_or w.front (wrong_front_at n e))
    (balance : now.genesis ≡ None → now.front ≡ None → now.balance ≡ option_or w.balance (wrong_balance_at n e)) where
  genesis_before : now.genesis ≡ None → w.genesis ≡ None
  genesis_before h = none_first w.genesis (other_genesis_than first n e) (sym genesis ∙ h)

  front_before : now.genesis ≡ None → now.front ≡ None → w.front ≡ None
  front_before h f = none_first w.front (wrong_front_at n e) (sym (front h) ∙ f)

  pub found_with : HasFound (exports ++ e ∷ []) now
  found_with = record {
    genesis = genesis ∙ ap₂ option_or found.genesis (ap₂ (λ g k. other_genesis_than g k e) is_first count) ∙ other_with exports e;
    front = λ h. front h ∙ ap₂ option_or (found.front (genesis_before h)) (ap (λ k. wrong_front_at k e) count) ∙ first_with wrong_front_at exports e;
    balance = λ h f. balance h f ∙ ap₂ option_or (found.balance (genesis_before h) (front_before h f)) (ap (λ k. wrong_balance_at k e) count)
        ∙ first_with wrong_balance_at exports e;
  }

  pub nothing_before : IsNothing now → IsNothing w
  nothing_before h = record {
    genesis = genesis_before h.genesis;
    front = front_before h.genesis h.front;
    balance = none_first w.balance (wrong_balance_at n e) (sym (balance h.genesis h.front) ∙ h.balance);
  }

-- ---- the verdict

module _ (exports : List ExportFields) where
  pub of_genesis : (v : Verdict) → other_genesis exports ≡ Some v → v ≡ verdict_of exports
  unfolding verdict_of
  of_genesis v h = sym (ap (λ o. unwrap_or (option_or o (option_or (option_or (first_from wrong_front_at 0 exports) (first_from wrong_balance_at 0 exports)) (fork_from 0 exports))) Clean) h)

  pub of_front : (v : Verdict) → other_genesis exports ≡ None → first_from wrong_front_at 0 exports ≡ Some v → v ≡ verdict_of exports
  unfolding verdict_of
  of_front v h f = sym (ap₂ (λ o w. unwrap_or (option_or o (option_or (option_or w (first_from wrong_balance_at 0 exports)) (fork_from 0 exports))) Clean) h f)

  pub of_balance : (v : Verdict) → other_genesis exports ≡ None → first_from wrong_front_at 0 exports ≡ None → first_from wrong_balance_at 0 exports ≡ Some v
      → v ≡ verdict_of exports
  unfolding verdict_of
  of_balance v h f b =
      sym (ap₂ (λ o w. unwrap_or (option_or o (option_or (option_or w (first_from wrong_balance_at 0 exports)) (fork_from 0 exports))) Clean) h f
      ∙ ap (λ w. unwrap_or (option_or w (fork_from 0 exports)) Clean) b)

  pub of_fork : other_genesis exports ≡ None → first_from wrong_front_at 0 exports ≡ None → first_from wrong_balance_at 0 exports ≡ None
      → unwrap_or (fork_from 0 exports) Clean ≡ verdict_of exports
  unfolding verdict_of
  of_fork h f b =
      sym (ap₂ (λ o w. unwrap_or (option_or o (option_or (option_or w (first_from wrong_balance_at 0 exports)) (fork_from 0 exports))) Clean) h f
      ∙ ap (λ w. unwrap_or (option_or w (fork_from 0 exports)) Clean) b)

-- ---- the verdict of an auditor

module _ (exports : List ExportFields) (a : Auditor) (h : HasTakenExports exports a) where
  verdict_by : (g f b : Option Verdict) → a.wrong.genesis ≡ g → a.wrong.front ≡ f → a.wrong.balance ≡ b
      → unwrap_or (option_or g (option_or (option_or f b) (fork_among a.comparison.lengths.items a.comparison.differences.items))) Clean ≡ verdict_of exports
  verdict_by (Some v) f b eg ef eb = of_genesis exports v (sym h.wrong.genesis ∙ eg)
  verdict_by None (Some v) b eg ef eb = of_front exports v (sym h.wrong.genesis ∙ eg) (sym (h.wrong.front eg) ∙ ef)
  verdict_by None None (Some v) eg ef eb =
      of_balance exports v (sym h.wrong.genesis ∙ eg) (sym (h.wrong.front eg) ∙ ef) (sym (h.wrong.balance eg ef) ∙ eb)
  verdict_by None None None eg ef eb =
      ap (λ o. unwrap_or o Clean) (forks_are exports a.comparison.longest.items a.comparison.lengths.items a.comparison.differences.items
      (h.lists (record { genesis = eg; front = ef; balance = eb })))
      ∙ of_fork exports (sym h.wrong.genesis ∙ eg) (sym (h.wrong.front eg) ∙ ef) (sym (h.wrong.balance eg ef) ∙ eb)

pub verdict_of_taken_is_one : VerdictOfTakenIsOne
verdict_of_taken_is_one a one other h k =
    let w = a.wrong in
    sym (verdict_by one a h w.genesis w.front w.balance refl refl refl) ∙ verdict_by other a k w.genesis w.front w.balance refl refl refl
