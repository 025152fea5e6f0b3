-- A window opens by one with each frame that comes.
use Rattle.std.proofs.Common.{◌≡◌, ◌⊎◌, inl, inr, ℕ, ◌+◌, ◌-◌, ◌^◌, ◌<◌, ◌≤◌, zero, suc, min, max, ◌∷◌, ◌++◌, Some, refl, sym, ap, ◌∙◌, arith}
use Rattle.pay_peers.specs.declared.window.Window.{Window}
use Rattle.pay_peers.specs.AheadLaws.{OpensByOne, window_after}
use Rattle.pay_peers.specs.Window.{asked_behind, count_behind, due_behind, from_behind, row_of}
use Rattle.pay_peers.proofs.Behind.{count_cases, due_cases, room}

-- a row on from where another ends
pub rows_join : (from a b next total : ℕ) → next ≡ from + a → total ≡ a + b → row_of from a ++ row_of next b ≡ row_of from total
rows_join from zero b next total is sum =
    let at : next ≡ from = omega arith in
    let all : b ≡ total = omega arith in
    ap (λ n. row_of n b) at ∙ ap (row_of from) all
rows_join from (suc a) b next total is sum =
    let all : suc (a + b) ≡ total = omega arith in
    ap (λ l. from ∷ l) (rows_join (from + 1) a b next (a + b) (omega arith) refl) ∙ ap (row_of from) all

abbrev pub window_at : ℕ → ℕ → Window
window_at due asked = record { due = due; asked = asked }

-- behind one frame more
pub record IsNext (ahead first came : ℕ) (w : Window) : Type 0 where
  pub due : due_behind w (first + suc came) ≡ first + suc came
  pub from : from_behind w (first + suc came) ≡ first + (came + min ahead (came + 4))
  pub asked : from_behind w (first + suc came) + count_behind ahead w (first + suc came) ≡ first + (suc came + min ahead (suc came + 4))

pub next_of : (ahead first came : ℕ) (w : Window) → 0 < ahead → first + suc came + ahead < 2 ^ 64 - 1
    → w.due ≡ first + came → w.asked ≡ first + (came + min ahead (came + 4)) → IsNext ahead first came w
next_of ahead first came w some numbers due asked = go (due_cases w (first + suc came)) (count_cases ahead w (first + suc came)) where
  go : ((w.due + 1 < w.asked) × (due_behind w (first + suc came) ≡ w.due + 1)) ⊎ ((w.asked ≤ w.due + 1) × (due_behind w (first + suc came) ≡ max w.asked (first + suc came)))
      → ((first + suc came ≤ from_behind w (first + suc came)) × (count_behind ahead w (first + suc came) ≡ room ahead w (first + suc came))) ⊎ ((from_behind w (first + suc came) < first + suc came) × (count_behind ahead w (first + suc came) ≡ 0))
      → IsNext ahead first came w
  go (inl (more, at)) (inl (enough, many)) = record { due = omega arith; from = omega arith; asked = omega arith }
  go (inl (more, at)) (inr (short, none)) = absurd (omega arith)
  go (inr (last, at)) (inl (enough, many)) = record { due = omega arith; from = omega arith; asked = omega arith }
  go (inr (last, at)) (inr (short, none)) = absurd (omega arith)

pub windows_same : (a b c d : ℕ) → a ≡ b → c ≡ d → window_at a c ≡ window_at b d
windows_same a b c d one two = (λ i. window_at (one i) (two i))

pub opens_so : OpensByOne
opens_so ahead first zero some numbers =
    let one : min ahead 4 ≡ 0 + min ahead (0 + 4) = omega arith in
    (windows_same first (first + 0) (first + min ahead 4) (first + (0 + min ahead (0 + 4))) (omega arith) (ap (λ n. first + n) one), ap (row_of first) one)
opens_so ahead first (suc came) some numbers =
    let before = opens_so ahead first came some (omega arith) in
    let w = window_after ahead first came in
    let due : w.due ≡ first + came = ap (λ (x : Window). x.due) before.0 in
    let asked : w.asked ≡ first + (came + min ahead (came + 4)) = ap (λ (x : Window). x.asked) before.0 in
    let next = next_of ahead first came w some numbers due asked in
    let count : (came + min ahead (came + 4)) + count_behind ahead w (first + suc came) ≡ suc came + min ahead (suc came + 4) = omega (arith, next.from, next.asked) in (
      windows_same _ _ _ _ next.due next.asked,
      ap (λ l. l ++ asked_behind ahead w (Some (first + suc came))) before.1
          ∙ ap (λ n. row_of first (came + min ahead (came + 4)) ++ row_of n (count_behind ahead w (first + suc came))) next.from
          ∙ rows_join first (came + min ahead (came + 4)) (count_behind ahead w (first + suc came)) (first + (came + min ahead (came + 4))) (suc came + min ahead (suc came + 4))
          refl (sym count),
    )
