-- Lists of values compared place by place.
use Rattle.std.proofs.Common.{◌≡◌, ◌↔◌, ℕ, zero, suc, ◌+◌, List, [], ◌∷◌, Option, Some, None, refl, sym, option_map}
use Rattle.std.specs.Option.{option_or}
use Rattle.std.specs.List.{zip}
use Rattle.std.specs.Str.{bytes_eq}
use Rattle.std.specs.Cmp.Lexicographic.{same_text}
use Rattle.std.proofs.lemmas.Slice.Eq.{bytes_eq-Decides}
use Rattle.pay_audit.specs.Export.{ExportFields, list_in}
use Rattle.pay_audit.specs.Verdict.{first_from, fork_between, fork_of, fork_place, if_differ}
use Rattle.pay_audit.specs.declared.auditing.Verdict.{Verdict}
use Rattle.pay_audit.specs.Laws.{AgreeWith, Agreeing}
use Rattle.pay_audit.proofs.Judging.{both_none, first_same, rest_none}

-- ---- two lists

pub agree_at : (k : ℕ) (vs ws : List (List ℕ)) → first_from if_differ k (zip vs ws) ≡ None → Agreeing vs ws
agree_at k [] ws h s v w hv hw = absurd cc
agree_at k (x ∷ vs) [] h s v w hv hw = absurd cc
agree_at k (x ∷ vs) (y ∷ ws) h zero v w hv hw =
    let same : x ≡ y = same_text x y (sym (first_same (bytes_eq x y) k (first_from if_differ (k + 1) (zip vs ws)) h)) in cc
agree_at k (x ∷ vs) (y ∷ ws) h (suc s) v w hv hw =
    agree_at (k + 1) vs ws (rest_none (bytes_eq x y) k (first_from if_differ (k + 1) (zip vs ws)) h) s v w hv hw

pub at_agree : (k : ℕ) (vs ws : List (List ℕ)) → Agreeing vs ws → first_from if_differ k (zip vs ws) ≡ None
at_agree k [] ws same = refl
at_agree k (x ∷ vs) [] same = refl
at_agree k (x ∷ vs) (y ∷ ws) same =
    both_none (bytes_eq x y) k (first_from if_differ (k + 1) (zip vs ws)) ((bytes_eq-Decides x y).1 (same 0 x y refl refl))
    (at_agree (k + 1) vs ws (λ s v w hv hw. same (suc s) v w hv hw))

-- ---- all lists of two exports

here_none : (v : Option Verdict) (rest : Option Verdict) → option_or v rest ≡ None → v ≡ None
here_none None rest h = refl
here_none (Some v) rest h = absurd cc

later_none : (v : Option Verdict) (rest : Option Verdict) → option_or v rest ≡ None → rest ≡ None
later_none None rest h = h
later_none (Some v) rest h = absurd cc

none_here : (v : Option Verdict) (rest : Option Verdict) → v ≡ None → rest ≡ None → option_or v rest ≡ None
none_here None rest e h = h
none_here (Some v) rest e h = absurd cc

pub unmapped : (f : ℕ → Verdict) (o : Option ℕ) → option_map f o ≡ None → o ≡ None
unmapped f None h = refl
unmapped f (Some x) h = absurd cc

mapped : (f : ℕ → Verdict) (o : Option ℕ) → o ≡ None → option_map f o ≡ None
mapped f None h = refl
mapped f (Some x) h = absurd cc

lists_at : (x y k : ℕ) (ls ms : List (List (List ℕ))) → first_from (fork_of x y) k (zip ls ms) ≡ None
    → (a : ℕ) → Agreeing (list_in ls a) (list_in ms a)
unfolding fork_place
lists_at x y k [] ms h a = λ s v w hv hw. absurd cc
lists_at x y k (l ∷ ls) [] h a = λ s v w hv hw. absurd cc
lists_at x y k (l ∷ ls) (m ∷ ms) h zero =
    agree_at 0 l m (unmapped _ (fork_place l m) (here_none (fork_of x y k (l, m)) (first_from (fork_of x y) (k + 1) (zip ls ms)) h))
lists_at x y k (l ∷ ls) (m ∷ ms) h (suc a) =
    lists_at x y (k + 1) ls ms (later_none (fork_of x y k (l, m)) (first_from (fork_of x y) (k + 1) (zip ls ms)) h) a

at_lists : (x y k : ℕ) (ls ms : List (List (List ℕ))) → ((a : ℕ) → Agreeing (list_in ls a) (list_in ms a))
    → first_from (fork_of x y) k (zip ls ms) ≡ None
unfolding fork_place
at_lists x y k [] ms same = refl
at_lists x y k (l ∷ ls) [] same = refl
at_lists x y k (l ∷ ls) (m ∷ ms) same =
    none_here (fork_of x y k (l, m)) (first_from (fork_of x y) (k + 1) (zip ls ms))
    (mapped _ (fork_place l m) (at_agree 0 l m (same 0)))
    (at_lists x y (k + 1) ls ms (λ a. same (suc a)))

pub no_fork : (x y : ℕ) (one other : ExportFields) → (fork_between x one y other ≡ None) ↔ AgreeWith one other
unfolding fork_between
no_fork x y one other = (λ h a. lists_at x y 0 one.lists other.lists h a, λ same. at_lists x y 0 one.lists other.lists same)
