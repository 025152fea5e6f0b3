-- A text that goes over a table row by row.
use Rattle.std.proofs.Common.{◌≡◌, ◌++◌, ◌+◌, ◌<◌, ◌∙◌, ℕ, List, [], ap, sym, drop, length, append_assoc}
use Rattle.std.proofs.Math.ListN.{get_or}
use Rattle.std.proofs.lemmas.List.{append-nil, drop_more}
use Rattle.std.specs.List.{flat_map}

-- with one row more the text is followed by the rows that are left
pub one_row_more : {X : Type 0} (f : X → List ℕ) (rows : List X) (i : ℕ) (d : X) (text next whole : List ℕ) → i < length rows → next ≡ text ++ f (get_or rows i d) → text ++ flat_map f (drop i rows) ≡ whole → next ++ flat_map f (drop (i + 1) rows) ≡ whole
one_row_more {X} f rows i d text next whole within is all =
    rw is (append_assoc text (f (get_or rows i d)) (flat_map f (drop (i + 1) rows)) ∙ (ap (λ (rest : List X). text ++ flat_map f rest) (sym (drop_more rows i d within)) ∙ all))

-- a text after which two parts stand, and then all rows
pub after_two : {X : Type 0} (f : X → List ℕ) (rows : List X) (old first second one two last : List ℕ) → one ≡ old ++ first → two ≡ one ++ second → last ++ [] ≡ two ++ flat_map f rows → last ≡ old ++ ((first ++ second) ++ flat_map f rows)
after_two {X} f rows old first second one two last first_is second_is all =
    let twice : two ≡ old ++ (first ++ second) = second_is ∙ ap (λ (t : List ℕ). t ++ second) first_is ∙ append_assoc old first second in
    sym (append-nil last) ∙ (all ∙ (ap (λ (t : List ℕ). t ++ flat_map f rows) twice ∙ append_assoc old (first ++ second) (flat_map f rows)))
