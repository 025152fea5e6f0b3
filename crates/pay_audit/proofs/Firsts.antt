-- The first answer in a list of which each item is asked with its place.
use Rattle.std.proofs.Common.{◌≡◌, ◌⊎◌, ⊎_elim, ℕ, zero, suc, ◌+◌, ◌<◌, ◌≤◌, List, [], ◌∷◌, drop, length, slice_get, Option, Some, None, refl, ap, ap₂, sym, ◌∙◌, arith}
use Rattle.std.proofs.lemmas.List.{drop_all, drop_more}
use Rattle.std.proofs.lemmas.Option.{get_or_from_slice_get, same_Some, slice_get_within}
use Rattle.std.specs.List.{zip}
use Rattle.std.specs.Option.{option_or}
use Rattle.pay_audit.specs.Verdict.{first_from}

pub record FirstAt {A B : Type 0} (ask : ℕ → A → Option B) (k : ℕ) (xs : List A) (b : B) : Type 0 where
  pub place : ℕ
  pub item : A
  pub at : slice_get xs place ≡ Some item
  pub answer : ask (k + place) item ≡ Some b
  pub before : (p : ℕ) (y : A) → p < place → slice_get xs p ≡ Some y → ask (k + p) y ≡ None

pub none_first : {B : Type 0} (o rest : Option B) → option_or o rest ≡ None → o ≡ None
none_first None rest h = refl
none_first (Some b) rest h = absurd cc

pub none_rest : {B : Type 0} (o rest : Option B) → option_or o rest ≡ None → rest ≡ None
none_rest None rest h = h
none_rest (Some b) rest h = absurd cc

asked_at : {A B : Type 0} (ask : ℕ → A → Option B) (x : A) (o : Option B) (i j : ℕ) → i ≡ j → ask j x ≡ o → ask i x ≡ o
asked_at ask x o i j e h = ap (λ n. ask n x) e ∙ h

-- nobody answers
pub nobody : {A B : Type 0} (ask : ℕ → A → Option B) (k : ℕ) (xs : List A) → first_from ask k xs ≡ None
    → (p : ℕ) (y : A) → slice_get xs p ≡ Some y → ask (k + p) y ≡ None
nobody ask k [] h p y got = absurd cc
nobody ask k (x ∷ xs) h zero y got =
    ap (ask (k + 0)) (sym (same_Some x y got))
    ∙ asked_at ask x None (k + 0) k (omega arith) (none_first (ask k x) (first_from ask (k + 1) xs) h)
nobody ask k (x ∷ xs) h (suc p) y got =
    asked_at ask y None (k + suc p) (k + 1 + p) (omega arith)
    (nobody ask (k + 1) xs (none_rest (ask k x) (first_from ask (k + 1) xs) h) p y got)

pub first_is : {A B : Type 0} (ask : ℕ → A → Option B) (k : ℕ) (xs : List A) (b : B) → first_from ask k xs ≡ Some b
    → FirstAt ask k xs b
first_is ask k [] b h = absurd cc
first_is {A} {B} ask k (x ∷ xs) b h = go (ask k x) refl h (first_is ask (k + 1) xs b) where
  go : (o : Option B) → ask k x ≡ o → option_or o (first_from ask (k + 1) xs) ≡ Some b
      → (first_from ask (k + 1) xs ≡ Some b → FirstAt ask (k + 1) xs b) → FirstAt ask k (x ∷ xs) b
  go (Some c) here e rest = record {
    place = 0;
    item = x;
    at = refl;
    answer = asked_at ask x (Some b) (k + 0) k (omega arith) (here ∙ e);
    before = λ p y below got. absurd (omega (arith, below));
  }
  go None here e rest =
      let r = rest e in
      record {
        place = suc r.place;
        item = r.item;
        at = r.at;
        answer = asked_at ask r.item (Some b) (k + suc r.place) (k + 1 + r.place) (omega arith) r.answer;
        before = earlier r;
      } where
        earlier : (r : FirstAt ask (k + 1) xs b) (p : ℕ) (y : A) → p < suc r.place → slice_get (x ∷ xs) p ≡ Some y → ask (k + p) y ≡ None
        earlier r zero y below got = ap (ask (k + 0)) (sym (same_Some x y got)) ∙ asked_at ask x None (k + 0) k (omega arith) here
        earlier r (suc p) y below got =
            asked_at ask y None (k + suc p) (k + 1 + p) (omega arith) (r.before p y (omega (arith, below)) got)

-- ---- none of those asked answers

pub no_answer : {B : Type 0} (o rest : Option B) → o ≡ None → rest ≡ None → option_or o rest ≡ None
no_answer None rest e h = h
no_answer (Some b) rest e h = absurd cc

pub unanswered : {A B : Type 0} (ask : ℕ → A → Option B) (k : ℕ) (xs : List A) → ((p : ℕ) (y : A) → slice_get xs p ≡ Some y → ask (k + p) y ≡ None)
    → first_from ask k xs ≡ None
unanswered ask k [] none = refl
unanswered ask k (x ∷ xs) none =
    no_answer (ask k x) (first_from ask (k + 1) xs) (asked_at ask x None k (k + 0) (omega arith) (none 0 x refl))
    (unanswered ask (k + 1) xs (λ p y got. asked_at ask y None (k + 1 + p) (k + suc p) (omega arith) (none (suc p) y got)))

-- ---- from a place on

pub from_here : {A : Type 0} (n : ℕ) (xs : List A) (x : A) → slice_get xs n ≡ Some x → drop n xs ≡ x ∷ drop (n + 1) xs
from_here n xs x at = drop_more xs n x (slice_get_within xs n x at) ∙ ap (λ y. y ∷ drop (n + 1) xs) (get_or_from_slice_get xs n x x at)

-- the next pair of two lists
pub next_pair : {A B C : Type 0} (ask : ℕ → A × B → Option C) (n : ℕ) (xs : List A) (ys : List B) (x : A) (y : B)
    → slice_get xs n ≡ Some x → slice_get ys n ≡ Some y
    → first_from ask n (zip (drop n xs) (drop n ys)) ≡ option_or (ask n (x, y)) (first_from ask (n + 1) (zip (drop (n + 1) xs) (drop (n + 1) ys)))
next_pair ask n xs ys x y hx hy = ap₂ (λ ls ms. first_from ask n (zip ls ms)) (from_here n xs x hx) (from_here n ys y hy)

no_first : {A B C : Type 0} (ask : ℕ → A × B → Option C) (n : ℕ) (xs : List A) (ys : List B) → xs ≡ [] → first_from ask n (zip xs ys) ≡ None
no_first ask n [] ys none = refl
no_first ask n (x ∷ xs) ys none = absurd cc

no_second : {A B C : Type 0} (ask : ℕ → A × B → Option C) (n : ℕ) (xs : List A) (ys : List B) → ys ≡ [] → first_from ask n (zip xs ys) ≡ None
no_second ask n [] ys none = refl
no_second ask n (x ∷ xs) [] none = refl
no_second ask n (x ∷ xs) (y ∷ ys) none = absurd cc

-- past the end of one of them there is none
pub no_more_pairs : {A B C : Type 0} (ask : ℕ → A × B → Option C) (n : ℕ) (xs : List A) (ys : List B) → (length xs ≤ n) ⊎ (length ys ≤ n)
    → first_from ask n (zip (drop n xs) (drop n ys)) ≡ None
no_more_pairs ask n xs ys short =
    ⊎_elim (λ first. no_first ask n (drop n xs) (drop n ys) (drop_all n xs first)) (λ second. no_second ask n (drop n xs) (drop n ys) (drop_all n ys second)) short
