-- Room for further lines: fronts stay after the lines, and lines are counted.
use Rattle.std.proofs.Common.{◌≡◌, ℕ, zero, suc, ◌+◌, ◌<◌, ◌^◌, List, length, get_or, set, refl, sym, ◌∙◌, subst, arith, inl, inr}
use Rattle.std.specs.Prelude.{replicate}
use Rattle.std.proofs.lemmas.Bool.{cases_eq, cases_lt}
use Rattle.std.proofs.lemmas.List.{length-set, length-replicate, get_or-replicate, get_or-set_same, get_or-set_other, get_or_past}
use Rattle.pay_frame.specs.Frame.{FrameFields}
use Rattle.pay_link.specs.Keys.{KeyFields}
use Rattle.pay_cli.specs.declared.check.Progress.{Progress}
use Rattle.pay_cli.specs.Lines.{Outcome, Taken, Wanted, Refused, progress_after, check_outcome, fronts_after}
use Rattle.pay_cli.specs.CheckText.{at_start}
use Rattle.pay_cli.specs.Engine.{HasRoom}

at_place : (fronts : List ℕ) (place line : ℕ) → ((m : ℕ) → get_or fronts m 0 < line) → get_or (set fronts place (get_or fronts place 0 + 1)) place 0 < line + 1
at_place fronts place line h =
    elim (cases_lt place (length fronts)) [
      | inl lt ↦ let front = h place in rw (get_or-set_same fronts place (get_or fronts place 0 + 1) 0 lt) (omega arith)
      | inr past ↦ rw (get_or_past (set fronts place (get_or fronts place 0 + 1)) place 0 (omega (arith, length-set fronts place (get_or fronts place 0 + 1)))) (omega arith)
    ]

fronts_in_line : (fronts : List ℕ) (f : FrameFields) (o : Outcome) (line : ℕ) → ((m : ℕ) → get_or fronts m 0 < line) → (m : ℕ) → get_or (fronts_after fronts f o) m 0 < line + 1
fronts_in_line fronts f Wanted line h m = let lt = h m in omega arith
fronts_in_line fronts f (Refused fault) line h m = let lt = h m in omega arith
fronts_in_line fronts f Taken line h m =
    elim (cases_eq m f.from) [
      | inl same ↦ subst (λ j. get_or (set fronts f.from (get_or fronts f.from 0 + 1)) j 0 < line + 1) (sym same) (at_place fronts f.from line h)
      | inr other ↦ let lt = h m in rw (get_or-set_other fronts f.from m (get_or fronts f.from 0 + 1) 0 other) (omega arith)
    ]

pub length-fronts_after : (fronts : List ℕ) (f : FrameFields) (o : Outcome) → length (fronts_after fronts f o) ≡ length fronts
length-fronts_after fronts f Taken = length-set fronts f.from (get_or fronts f.from 0 + 1)
length-fronts_after fronts f Wanted = refl
length-fronts_after fronts f (Refused fault) = refl

room_for : (k : KeyFields) (p : Progress) (n : ℕ) → length p.fronts ≡ length k.keys → ((m : ℕ) → get_or p.fronts m 0 < p.line) → p.line + n < 2 ^ 64 → HasRoom k p n
unfolding progress_after
room_for k p zero each below room = tt
room_for k p (suc n) each below room = (
  record { each = each; below = below; more = omega arith },
  λ f.
      let o : Outcome = check_outcome k p.fronts f in
      room_for k (progress_after k p f) n (length-fronts_after p.fronts f o ∙ each) (fronts_in_line p.fronts f o p.line below) (omega arith),
)

zeros_in_line : (members m : ℕ) → get_or (replicate members 0) m 0 < 1
zeros_in_line members m =
    elim (cases_lt m members) [
      | inl lt ↦ rw (get_or-replicate {A = ℕ} members m 0 0 lt) (omega arith)
      | inr past ↦ rw (get_or_past {X = ℕ} (replicate members 0) m 0 (omega (arith, length-replicate {A = ℕ} members 0))) (omega arith)
    ]

pub room_at_start : (k : KeyFields) (n : ℕ) → n < 2 ^ 40 → HasRoom k (at_start k) n
room_at_start k n few = room_for k (at_start k) n (length-replicate {A = ℕ} (length k.keys) 0) (zeros_in_line (length k.keys)) (omega arith)
