-- Values of JSON pushed one after the other.
use Rattle.std.proofs.Common.{◌≡◌, ℕ, ◌+◌, ◌<◌, List, [], ◌∷◌, ◌++◌, map, take, length, slice_index, Some, refl, ap, ap₂, sym, zero-add, ◌∙◌}
use Rattle.std.specs.List.{slice_get, range_with_len}
use Rattle.std.proofs.lemmas.List.{map-append, take_more}
use Rattle.std.proofs.lemmas.List.FromFn.{map-range_with_len_more}
use Rattle.std.proofs.lemmas.Option.{slice_get_within, slice_get-get_or, get_or_from_slice_get}
use Rattle.serde_json.specs.Data.{Data}
use Rattle.serde_json.specs.View.{view}
use Rattle.serde_json.specs.declared.value.Value.{Value}
use Rattle.pay_channel.specs.History as channel
use Rattle.pay_link.specs.Genesis.{GenesisFields, IsGenesis}
use Rattle.pay_member.specs.Book.{book_after}
use Rattle.pay_member.specs.Laws.{BookIsSettled}
use Rattle.pay_audit.specs.Exporting.{number_data}

pub take_next : {A : Type 0} (xs : List A) (k : ℕ) (x : A) → slice_get xs k ≡ Some x → take (k + 1) xs ≡ take k xs ++ x ∷ []
take_next xs k x got =
    take_more xs k x (slice_get_within xs k x got) ∙ ap (λ y. take k xs ++ y ∷ []) (get_or_from_slice_get xs k x x got)

-- one item more
pub next_item : {A : Type 0} (f : A → Data) (xs : List A) (k : ℕ) (x : A) (olds news : List Value) (v : Value)
    → slice_get xs k ≡ Some x → map view olds ≡ map f (take k xs) → news ≡ olds ++ v ∷ [] → view v ≡ f x
    → map view news ≡ map f (take (k + 1) xs)
next_item f xs k x olds news v got so_far pushed here =
    ap (map view) pushed ∙ map-append view olds (v ∷ []) ∙ ap₂ (λ a b. a ++ b ∷ []) so_far here
    ∙ sym (map-append f (take k xs) (x ∷ [])) ∙ ap (map f) (sym (take_next xs k x got))

-- one number more
pub next_number : (ns : List ℕ) (k : ℕ) (olds news : List Value) (v : Value)
    → k < length ns → map view olds ≡ map number_data (take k ns) → news ≡ olds ++ v ∷ []
    → view v ≡ number_data (slice_index ns k) → map view news ≡ map number_data (take (k + 1) ns)
next_number ns k olds news v within so_far pushed here =
    next_item number_data ns k (slice_index ns k) olds news v (slice_get-get_or ns k 0 within) so_far pushed here

-- one place of a range more
pub next_place : {A : Type 0} (f : A → Data) (of : ℕ → A) (k : ℕ) (olds news : List Value) (v : Value)
    → map view olds ≡ map f (map of (range_with_len 0 k)) → news ≡ olds ++ v ∷ [] → view v ≡ f (of k)
    → map view news ≡ map f (map of (range_with_len 0 (k + 1)))
next_place f of k olds news v so_far pushed here =
    ap (map view) pushed ∙ map-append view olds (v ∷ []) ∙ ap₂ (λ a b. a ++ b ∷ []) so_far here
    ∙ sym (map-append f (map of (range_with_len 0 k)) (of k ∷ []))
    ∙ ap (map f) (sym (map-range_with_len_more of 0 k k (zero-add k)))

book_opening : (g : GenesisFields) (own : ℕ) (events : List channel.Event) → (book_after g own events).opening ≡ g.opening
unfolding book_after
book_opening g own events = refl

-- a member's book has a front and a balance for each account
pub fronts : BookIsSettled → (g : GenesisFields) (own : ℕ) (events : List channel.Event) → IsGenesis g
    → length (book_after g own events).front ≡ g.members
fronts law g own events sound = (law g own events).is.one_for_each ∙ ap length (book_opening g own events) ∙ sound.opening

pub balances : BookIsSettled → (g : GenesisFields) (own : ℕ) (events : List channel.Event) → IsGenesis g
    → length (book_after g own events).balances ≡ g.members
balances law g own events sound = (law g own events).is.are.one_for_each ∙ ap length (book_opening g own events) ∙ sound.opening
