-- What the items of an array say, if each of them says something.
use Rattle.std.proofs.Common.{◌≡◌, ℕ, ◌+◌, ◌<◌, ◌≤◌, List, [], ◌∷◌, ◌++◌, drop, length, get_or, Option, Some, None, option_map, refl, ap, sym, ◌∙◌, append-nil, append_assoc}
use Rattle.std.specs.Prelude.{option_and_then}
use Rattle.std.proofs.lemmas.List.{at_drop_all, at_drop_more}
use Rattle.serde_json.specs.Data.{Data, Items, item, no_items}
use Rattle.serde_json.specs.View.{items_view, view}
use Rattle.serde_json.specs.declared.value.Value.{Value}

-- all that items say, by what one says
pub record IsOfEach {A : Type 0} (one : Data → Option A) (all : Items → Option (List A)) : Type 0 where
  pub none : all no_items ≡ Some []
  pub more : (d : Data) (ds : Items) → all (item d ds) ≡ option_and_then (λ a. option_map (λ bs. a ∷ bs) (all ds)) (one d)

-- the item at a place, and those after it
from_place : {A : Type 0} (one : Data → Option A) (all : Items → Option (List A)) → IsOfEach one all
    → (xs : List Value) (k : ℕ) (x : Value) (o : Option A) → k < length xs → x ≡ get_or xs k x → o ≡ one (view x)
    → all (items_view (drop k xs)) ≡ option_and_then (λ a. option_map (λ bs. a ∷ bs) (all (items_view (drop (k + 1) xs)))) o
from_place one all each xs k x o within at is =
    at_drop_more (λ vs. all (items_view vs)) xs k x within ∙ ap (λ v. all (item (view v) (items_view (drop (k + 1) xs)))) (sym at)
    ∙ each.more (view x) (items_view (drop (k + 1) xs))
    ∙ ap (option_and_then (λ a. option_map (λ bs. a ∷ bs) (all (items_view (drop (k + 1) xs))))) (sym is)

one_more : {A : Type 0} (so_far : List A) (a : A) (rest : Option (List A))
    → option_map (λ bs. so_far ++ bs) (option_map (λ bs. a ∷ bs) rest) ≡ option_map (λ bs. (so_far ++ a ∷ []) ++ bs) rest
one_more so_far a None = refl
one_more so_far a (Some bs) = ap (λ all. Some all) (sym (append_assoc so_far (a ∷ []) bs))

-- one item more has said something
pub said_more : {A : Type 0} (one : Data → Option A) (all : Items → Option (List A)) → IsOfEach one all
    → (xs : List Value) (k : ℕ) (x : Value) (o : Option A) (a : A) (olds news : List A)
    → k < length xs → x ≡ get_or xs k x → o ≡ one (view x) → o ≡ Some a → news ≡ olds ++ a ∷ []
    → all (items_view xs) ≡ option_map (λ bs. olds ++ bs) (all (items_view (drop k xs)))
    → all (items_view xs) ≡ option_map (λ bs. news ++ bs) (all (items_view (drop (k + 1) xs)))
said_more one all each xs k x o a olds news within at is says pushed so_far =
    let rest = all (items_view (drop (k + 1) xs)) in
    so_far ∙ ap (option_map (λ bs. olds ++ bs)) (from_place one all each xs k x o within at is ∙ ap (option_and_then (λ a. option_map (λ bs. a ∷ bs) rest)) says)
    ∙ one_more olds a rest ∙ ap (λ ns. option_map (λ bs. ns ++ bs) rest) (sym pushed)

-- an item says nothing
pub said_none : {A : Type 0} (one : Data → Option A) (all : Items → Option (List A)) → IsOfEach one all
    → (xs : List Value) (k : ℕ) (x : Value) (o : Option A) (olds : List A)
    → k < length xs → x ≡ get_or xs k x → o ≡ one (view x) → o ≡ None
    → all (items_view xs) ≡ option_map (λ bs. olds ++ bs) (all (items_view (drop k xs)))
    → None ≡ all (items_view xs)
said_none one all each xs k x o olds within at is none so_far =
    let rest = all (items_view (drop (k + 1) xs)) in
    sym (so_far ∙ ap (option_map (λ bs. olds ++ bs)) (from_place one all each xs k x o within at is ∙ ap (option_and_then (λ a. option_map (λ bs. a ∷ bs) rest)) none))

-- all have
pub said_all : {A : Type 0} (one : Data → Option A) (all : Items → Option (List A)) → IsOfEach one all
    → (xs : List Value) (k : ℕ) (olds : List A) → length xs ≤ k
    → all (items_view xs) ≡ option_map (λ bs. olds ++ bs) (all (items_view (drop k xs)))
    → Some olds ≡ all (items_view xs)
said_all one all each xs k olds done so_far =
    sym (so_far ∙ ap (option_map (λ bs. olds ++ bs)) (at_drop_all (λ vs. all (items_view vs)) xs k done ∙ each.none)
    ∙ ap (λ bs. Some bs) (append-nil olds))
