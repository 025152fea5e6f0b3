-- What entries pay, one after the other.
use Rattle.std.proofs.Common.{◌≡◌, ℕ, ◌+◌, List, [], ◌∷◌, ◌++◌, take, slice_get, Some, ap, sym, ◌∙◌, append-nil, append_assoc}
use Rattle.std.specs.List.{flat_map}
use Rattle.std.proofs.lemmas.List.{take_more}
use Rattle.std.proofs.lemmas.List.Concat.{flat_map-append}
use Rattle.std.proofs.lemmas.Option.{get_or_from_slice_get, slice_get_within}
use Rattle.pay_book.specs.declared.payment.Entry.{Entry}
use Rattle.pay_cli.specs.Values.{payee_and_amount}

-- that of one entry more
pub entry_more : (before : List ℕ) (xs : List Entry) (k : ℕ) (x : Entry) (text after : List ℕ) → slice_get xs k ≡ Some x
    → text ≡ before ++ flat_map payee_and_amount (take k xs) → after ≡ text ++ payee_and_amount x → after ≡ before ++ flat_map payee_and_amount (take (k + 1) xs)
entry_more before xs k x text after at so_far pushed =
    let f = payee_and_amount in
    let longer : take (k + 1) xs ≡ take k xs ++ x ∷ [] =
    take_more xs k x (slice_get_within xs k x at) ∙ ap (λ y. take k xs ++ y ∷ []) (get_or_from_slice_get xs k x x at) in
    let all : flat_map f (take (k + 1) xs) ≡ flat_map f (take k xs) ++ f x = ap (flat_map f) longer ∙ flat_map-append f (take k xs) (x ∷ []) ∙ ap (λ ys. flat_map f (take k xs) ++ ys) (append-nil (f x)) in
    pushed ∙ ap (λ ys. ys ++ f x) so_far ∙ append_assoc before (flat_map f (take k xs)) (f x) ∙ ap (λ ys. before ++ ys) (sym all)
