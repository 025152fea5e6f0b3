-- The next number of a member counts its `ok` lines.
use Rattle.std.proofs.Common.{◌≡◌, ℕ, ◌+◌, ◌<◌, List, [], ◌∷◌, length, get_or, set, sym, ◌∙◌, ap, arith, eqb, cond, true, false, inl, inr, eq-eqb}
use Rattle.std.specs.Prelude.{count_by, replicate}
use Rattle.std.proofs.lemmas.Bool.{cases_eq}
use Rattle.std.proofs.lemmas.Bool.Decides.{nat_tests}
use Rattle.std.proofs.lemmas.List.Sums.{sum_by-cons}
use Rattle.std.proofs.lemmas.List.{length-replicate, get_or-replicate, get_or-set_same, get_or-set_other}
use Rattle.pay_frame.specs.Frame.{FrameFields}
use Rattle.pay_link.specs.Keys.{KeyFields}
use Rattle.pay_cli.specs.declared.check.Progress.{Progress}
use Rattle.pay_cli.specs.Lines.{Outcome, Taken, Wanted, Refused, progress_after, check_outcome, fronts_after}
use Rattle.pay_cli.specs.CheckText.{at_start, known_after, outcomes, is_ok_from}
use Rattle.pay_cli.specs.Values.{CheckerFields}
use Rattle.pay_cli.proofs.Room.{length-fronts_after}

-- one frame's part
abbrev one_of : ℕ → FrameFields × Outcome → ℕ
one_of member x = cond (is_ok_from member x) 1 0

abbrev one_more : ℕ → FrameFields → Outcome → ℕ
one_more member f o = one_of member (f, o)

one_front : (fronts : List ℕ) (f : FrameFields) (o : Outcome) (member : ℕ) → member < length fronts → get_or (fronts_after fronts f o) member 0 ≡ get_or fronts member 0 + one_more member f o
one_front fronts f Wanted member lt = omega arith
one_front fronts f (Refused fault) member lt = omega arith
one_front fronts f Taken member lt =
    elim (cases_eq member f.from) [
      | inl same ↦
          let there : f.from < length fronts = omega arith in
          let moves = get_or-set_same fronts f.from (get_or fronts f.from 0 + 1) 0 there in
          let test : eqb f.from member ≡ true = eq-eqb f.from member (sym same) in
          rw test (ap (λ m. get_or (set fronts f.from (get_or fronts f.from 0 + 1)) m 0) same ∙ moves ∙ ap (λ m. get_or fronts m 0 + 1) (sym same))
      | inr other ↦
          let stays = get_or-set_other fronts f.from member (get_or fronts f.from 0 + 1) 0 other in
          let test : eqb f.from member ≡ false = grind (arith, nat_tests) in
          rw test (omega arith)
    ]

progress_after-front : (k : KeyFields) (p : Progress) (f : FrameFields) (member : ℕ) → member < length p.fronts → get_or (progress_after k p f).fronts member 0 ≡ get_or p.fronts member 0 + one_more member f (check_outcome k p.fronts f)
unfolding progress_after
progress_after-front k p f member lt = one_front p.fronts f (check_outcome k p.fronts f) member lt

progress_after-length : (k : KeyFields) (p : Progress) (f : FrameFields) → length (progress_after k p f).fronts ≡ length p.fronts
unfolding progress_after
progress_after-length k p f = length-fronts_after p.fronts f (check_outcome k p.fronts f)

counts_from : (q : CheckerFields) (p : Progress) (fs : List FrameFields) (member : ℕ) → member < length p.fronts → get_or (known_after q p fs).fronts member 0 ≡ get_or p.fronts member 0 + count_by (is_ok_from member) (outcomes q.keys p fs)
counts_from q p [] member lt = omega arith
counts_from q p (f ∷ fs) member lt =
    let k = q.keys in
    let rest : ℕ = count_by (is_ok_from member) (outcomes k (progress_after k p f) fs) in
    let front = progress_after-front k p f member lt in
    let step : get_or (progress_after k p f).fronts member 0 + rest ≡ get_or p.fronts member 0 + (one_more member f (check_outcome k p.fronts f) + rest) = omega arith in
    counts_from q (progress_after k p f) fs member (omega (arith, progress_after-length k p f)) ∙ step
    ∙ ap (λ n. get_or p.fronts member 0 + n) (sym (sum_by-cons (one_of member) (f, check_outcome k p.fronts f) (outcomes k (progress_after k p f) fs)))

pub counts : (q : CheckerFields) (fs : List FrameFields) (member : ℕ) → member < length q.keys.keys → get_or (known_after q (at_start q.keys) fs).fronts member 0 ≡ count_by (is_ok_from member) (outcomes q.keys (at_start q.keys) fs)
counts q fs member lt =
    let k = q.keys in
    let zero-front : get_or (replicate (length k.keys) 0) member 0 ≡ 0 = get_or-replicate {A = ℕ} (length k.keys) member 0 0 lt in
    omega (arith, counts_from q (at_start k) fs member (omega (arith, length-replicate {A = ℕ} (length k.keys) 0)))
