-- What stands in a buffer after some bytes were put behind those that it holds.
use Rattle.std.proofs.Common.{◌≡◌, ℕ, ◌+◌, ◌-◌, ◌≤◌, List, ◌++◌, length, take, drop, ◌∙◌, ap, arith, length-drop}
use Rattle.std.proofs.lemmas.List.{take-append-le, length-append, length-take, append-nil, drop-append-le, drop-take}
use Rattle.std.proofs.Math.Seq.{take-append-add}
use borrow.Rule.Slice.PartMut.{post_of, put_mid}

-- what is read stands behind what was held, which begins at a place
filled : (front piece behind : List ℕ) (count start held_size : ℕ) → start + held_size ≤ length front → count ≤ length piece → take (start + held_size + count - start) (drop start (take (start + held_size) front ++ (piece ++ behind))) ≡ take held_size (drop start front) ++ take count piece
filled front piece behind count start held_size fits within =
    let kept : List ℕ = take held_size (drop start front) in
    let rest : List ℕ = piece ++ behind in
    let sized : length kept ≡ held_size = length-take held_size (drop start front) ∙ omega (arith, length-drop start front) in
    let all : start + held_size + count - start ≡ length kept + count = omega (arith, sized) in
    ap (λ n. take n (drop start (take (start + held_size) front ++ rest))) all
    ∙ ap (take (length kept + count)) (drop-append-le start (take (start + held_size) front) rest (omega (arith, length-take (start + held_size) front)) ∙ ap (λ xs. xs ++ rest) (drop-take start held_size front))
    ∙ take-append-add kept rest count ∙ ap (λ xs. kept ++ xs) (take-append-le count piece behind within)

pub put_filled : (front piece held : List ℕ) (count start held_size left : ℕ) → start + held_size ≤ length front → take held_size (drop start front) ≡ held → count ≤ length piece
    → take (start + held_size + count - start) (drop start (put_mid (start + held_size) left front piece)) ≡ held ++ take count piece
put_filled front piece held count start held_size left inside same within = filled front piece (post_of (start + held_size) left front) count start held_size inside within ∙ ap (λ xs. xs ++ take count piece) same

-- what was held stands as it did
pub put_kept : (front piece held : List ℕ) (start held_size left : ℕ) → start + held_size ≤ length front → take held_size (drop start front) ≡ held → take (start + held_size - start) (drop start (put_mid (start + held_size) left front piece)) ≡ held
put_kept front piece held start held_size left inside same =
    let nothing : start + held_size - start ≡ start + held_size + 0 - start = omega arith in
    ap (λ n. take n (drop start (put_mid (start + held_size) left front piece))) nothing ∙ put_filled front piece held 0 start held_size left inside same (omega arith) ∙ append-nil held

pub put_length : (front piece : List ℕ) (at left : ℕ) → at + left ≤ length front → length piece ≡ left → length (put_mid at left front piece) ≡ length front
put_length front piece at left fits sized =
    let behind : List ℕ = drop left (drop at front) in
    omega (arith, sized, length-append (take at front) (piece ++ behind), length-append piece behind, length-take at front, length-drop left (drop at front), length-drop at front)
