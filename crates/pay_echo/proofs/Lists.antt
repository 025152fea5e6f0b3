-- Lists and counts, over plain functions.
use Rattle.std.proofs.Common.{◌≡◌, ◌≢◌, ℕ, ◌+◌, ◌<◌, Bool, true, false, cond, ◌⊎◌, List, [], ◌∷◌, ◌++◌, map, get_or, set, length, Option, None, Some, count_by, find, refl, sym, ap, ◌∙◌, bytes_eq, ⊎_elim, get_or-set_same, get_or-set_other, length-set, append-nil, zero-add}
use Rattle.std.specs.Option.{option_or}
use Rattle.std.specs.List.{range_with_len}
use Rattle.std.proofs.lemmas.List.Sums.{sum_by-cons}
use Rattle.std.proofs.lemmas.List.{map-append, append_assoc}
use Rattle.std.proofs.lemmas.List.FromFn.{fill_by_all, get_or-map-range_with_len, length-map-range_with_len}
use Rattle.std.proofs.lemmas.Bool.{cond-true, cond-false, cases_Bool, cases_eq}
use Rattle.std.proofs.lemmas.Slice.Eq.{bytes_eq-Decides}
use Rattle.pay_echo.specs.Broadcast.{find_map, beginnings}

-- one of two cases
pub either : {P Q R : Type 0} → P ⊎ Q → (P → R) → (Q → R) → R
either c p q = ⊎_elim p q c

-- an induction by one item more at the end
pub by_push : {X : Type 0} (P : List X → Type 0) → P [] → ((xs : List X) (x : X) → P xs → P (xs ++ x ∷ [])) → (xs : List X) → P xs
by_push {X} P none more xs = go [] xs none where
  go : (done rest : List X) → P done → P (done ++ rest)
  go done [] h = rw (append-nil done) h
  go done (x ∷ rest) h = rw (← append_assoc done (x ∷ []) rest) (go (done ++ x ∷ []) rest (more done x h))

pub option_or-None : {X : Type 0} (o : Option X) → option_or o None ≡ o
option_or-None None = refl
option_or-None (Some x) = refl

pub find_map-push : {X : Type 0} (f : X → Option (List ℕ)) (xs : List X) (x : X) → find_map f (xs ++ x ∷ []) ≡ option_or (find_map f xs) (f x)
find_map-push f [] x = option_or-None (f x)
find_map-push f (y ∷ xs) x = go (f y) (find_map-push f xs x) where
  go : (o : Option (List ℕ)) → find_map f (xs ++ x ∷ []) ≡ option_or (find_map f xs) (f x) → option_or o (find_map f (xs ++ x ∷ [])) ≡ option_or (option_or o (find_map f xs)) (f x)
  go None e = e
  go (Some v) e = refl

pub beginnings-push : {X : Type 0} (xs : List X) (x : X) → beginnings (xs ++ x ∷ []) ≡ beginnings xs ++ (xs ++ x ∷ []) ∷ []
beginnings-push [] x = refl
beginnings-push (y ∷ xs) x =
    ap (λ bs. [] ∷ map (λ b. y ∷ b) bs) (beginnings-push xs x) ∙ ap (λ bs. [] ∷ bs) (map-append (λ b. y ∷ b) (beginnings xs) ((xs ++ x ∷ []) ∷ []))

-- a count, one item at a time
abbrev pub one : Bool → ℕ
one b = cond b 1 0

pub count_by-cons : {X : Type 0} (p : X → Bool) (x : X) (xs : List X) → count_by p (x ∷ xs) ≡ one (p x) + count_by p xs
count_by-cons p x xs = sum_by-cons (λ y. cond (p y) 1 0) x xs

-- tests that agree everywhere count alike
pub count_by-same : {X : Type 0} (p q : X → Bool) → ((x : X) → p x ≡ q x) → (xs : List X) → count_by p xs ≡ count_by q xs
count_by-same {X} p q same xs = ap (λ (t : X → Bool). count_by t xs) (λ i x. same x i)

pub count_by-none : {X : Type 0} (p : X → Bool) → ((x : X) → p x ≡ false) → (xs : List X) → count_by p xs ≡ 0
count_by-none p none [] = refl
count_by-none p none (x ∷ xs) = count_by-cons p x xs ∙ ap (λ b. one b + count_by p xs) (none x) ∙ ap (λ n. 0 + n) (count_by-none p none xs)

pub count_by-map : {X Y : Type 0} (p : Y → Bool) (f : X → Y) (xs : List X) → count_by p (map f xs) ≡ count_by (λ x. p (f x)) xs
count_by-map p f [] = refl
count_by-map p f (x ∷ xs) =
    count_by-cons p (f x) (map f xs) ∙ ap (λ n. one (p (f x)) + n) (count_by-map p f xs) ∙ sym (count_by-cons (λ y. p (f y)) x xs)

-- two functions that differ at one place give lists that differ at that place
pub map-range-set : {X : Type 0} (f h : ℕ → X) (n k : ℕ) (y : X) → k < n → ((i : ℕ) → i ≢ k → h i ≡ f i) → h k ≡ y → map h (range_with_len 0 n) ≡ set (map f (range_with_len 0 n)) k y
map-range-set f h n k y below others here =
    sym (fill_by_all h (set (map f (range_with_len 0 n)) k y) n y (length-set (map f (range_with_len 0 n)) k y ∙ length-map-range_with_len f 0 n) each) where
      each : (i : ℕ) → i < n → get_or (set (map f (range_with_len 0 n)) k y) i y ≡ h i
      each i lt = either (cases_eq i k)
          (λ e. let in_list : k < length (map f (range_with_len 0 n)) = rw (length-map-range_with_len f 0 n) below in
          rw e (get_or-set_same (map f (range_with_len 0 n)) k y y in_list ∙ sym here))
          (λ ne. get_or-set_other (map f (range_with_len 0 n)) k i y y ne ∙ get_or-map-range_with_len f 0 n i i y lt (zero-add i) ∙ sym (others i ne))

pub map-same : {X Y : Type 0} (f h : X → Y) → ((x : X) → f x ≡ h x) → (xs : List X) → map f xs ≡ map h xs
map-same {X} {Y} f h same xs = ap (λ (k : X → Y). map k xs) (λ i x. same x i)

pub bytes_eq-true : (v w : List ℕ) → bytes_eq v w ≡ true → v ≡ w
bytes_eq-true v w h = (bytes_eq-Decides v w).0 h

pub bytes_eq-same : (v : List ℕ) → bytes_eq v v ≡ true
bytes_eq-same v = (bytes_eq-Decides v v).1 refl

-- where only v may pass the test, it is v that is found
pub find-only : (t : List ℕ → Bool) (v : List ℕ) → ((w : List ℕ) → bytes_eq w v ≡ false → t w ≡ false) → (xs : List (List ℕ)) → find t (xs ++ v ∷ []) ≡ cond (t v) (Some v) None
find-only t v only [] = refl
find-only t v only (x ∷ xs) = either (cases_Bool (bytes_eq x v))
    (λ e. rw (bytes_eq-true x v e) (either (cases_Bool (t v))
    (λ yes. cond-true (t v) (Some v) (find t (xs ++ v ∷ [])) yes ∙ sym (cond-true (t v) (Some v) None yes))
    (λ no. cond-false (t v) (Some v) (find t (xs ++ v ∷ [])) no ∙ find-only t v only xs)))
    (λ e. cond-false (t x) (Some x) (find t (xs ++ v ∷ [])) (only x e) ∙ find-only t v only xs)
