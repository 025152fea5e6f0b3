-- WANTs of numbers in a row.
use Rattle.std.proofs.Common.{◌≡◌, ℕ, ◌+◌, zero, suc, List, [], ◌∷◌, ◌++◌, sym, ap, ◌∙◌, arith, append-nil, append_assoc}
use Rattle.std.proofs.lemmas.Grind.{flat_map-append}
use Rattle.pay_frame.specs.Frame.{frame_bytes}
use Rattle.pay_link.specs.Keys.{KeyFields}
use Rattle.pay_link.specs.Sealing.{want_frame}
use Rattle.pay_peers.specs.Ahead.{wants}
use Rattle.pay_peers.specs.Window.{row_of}

row_more : (from count : ℕ) → row_of from (suc count) ≡ row_of from count ++ (from + count) ∷ []
row_more from zero = let same : from ≡ from + 0 = omega arith in ap (λ n. n ∷ []) same
row_more from (suc count) =
    let same : (from + 1) + count ≡ from + suc count = omega arith in
    ap (λ ns. from ∷ ns) (row_more (from + 1) count ∙ ap (λ n. row_of (from + 1) count ++ n ∷ []) same)

-- one WANT more
pub wants_more : (k : KeyFields) (peer from count : ℕ) (before text : List ℕ) → text ≡ frame_bytes (want_frame k peer (from + count))
    → (before ++ wants k peer (row_of from count)) ++ text ≡ before ++ wants k peer (row_of from (count + 1))
wants_more k peer from count before text is =
    let bytes_of : ℕ → List ℕ = λ number. frame_bytes (want_frame k peer number) in
    let one : count + 1 ≡ suc count = omega arith in
    let row : row_of from (count + 1) ≡ row_of from count ++ (from + count) ∷ [] = ap (row_of from) one ∙ row_more from count in
    let last : wants k peer ((from + count) ∷ []) ≡ text = append-nil (bytes_of (from + count)) ∙ sym is in
    let all : wants k peer (row_of from (count + 1)) ≡ wants k peer (row_of from count) ++ text =
    ap (wants k peer) row ∙ flat_map-append bytes_of (row_of from count) ((from + count) ∷ [])
    ∙ ap (λ xs. wants k peer (row_of from count) ++ xs) last in
    append_assoc before (wants k peer (row_of from count)) text ∙ ap (λ xs. before ++ xs) (sym all)
