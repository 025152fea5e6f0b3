-- Lists that begin with one another, and options.
use Rattle.std.proofs.Common.{◌≡◌, ◌≢◌, List, [], ◌∷◌, ◌++◌, length, slice_get, Option, None, Some, Contains, refl, sym, ap, ◌∙◌, subst, arith, append_assoc, append-nil, length-append}
use Rattle.std.proofs.lemmas.List.{nil_from_length}
use Rattle.std.proofs.lemmas.List.Elements.{Contains-append_left}
use Rattle.pay_channel.specs.Prefix.{IsPrefix}

pub none_some : {X : Type 0} (x : X) → None ≡ Some x → ⊥
none_some x e = cc

pub some_same : {X : Type 0} (x y : X) → Some x ≡ Some y → x ≡ y
some_same x y e = cc

-- what is there has a value
pub there : {X : Type 0} (o : Option X) → o ≢ None → (x : X) × (o ≡ Some x)
there None known = absurd (known refl)
there (Some x) known = (x, refl)

-- an induction by one item more at the end
pub by_push : {X : Type 0} (P : List X → Type 0) → P [] → ((xs : List X) (x : X) → P xs → P (xs ++ x ∷ [])) → (xs : List X) → P xs
by_push {X} P none more xs = go [] xs none where
  go : (done rest : List X) → P done → P (done ++ rest)
  go done [] h = rw (append-nil done) h
  go done (x ∷ rest) h = rw (← append_assoc done (x ∷ []) rest) (go (done ++ x ∷ []) rest (more done x h))

-- ---- prefixes

pub prefix_same : {X : Type 0} (xs ys : List X) → xs ≡ ys → IsPrefix xs ys
prefix_same xs ys same = record { rest = []; is = sym same ∙ sym (append-nil xs) }

pub prefix_trans : {X : Type 0} (xs ys zs : List X) → IsPrefix xs ys → IsPrefix ys zs → IsPrefix xs zs
prefix_trans xs ys zs p q = record { rest = p.rest ++ q.rest; is = q.is ∙ ap (λ l. l ++ q.rest) p.is ∙ append_assoc xs p.rest q.rest }

slice_get-behind : {X : Type 0} (xs more : List X) → slice_get (xs ++ more) (length xs) ≡ slice_get more 0
slice_get-behind [] more = refl
slice_get-behind (x ∷ xs) more = slice_get-behind xs more

-- the item after a prefix makes it longer
pub prefix_push : {X : Type 0} (xs ys : List X) (x : X) → IsPrefix xs ys → slice_get ys (length xs) ≡ Some x → IsPrefix (xs ++ x ∷ []) ys
prefix_push {X} xs ys x p at = go p.rest p.is where
  go : (rest : List X) → ys ≡ xs ++ rest → IsPrefix (xs ++ x ∷ []) ys
  go rest is = next rest is (sym (slice_get-behind xs rest) ∙ sym (ap (λ l. slice_get l (length xs)) is) ∙ at) where
    next : (more : List X) → ys ≡ xs ++ more → slice_get more 0 ≡ Some x → IsPrefix (xs ++ x ∷ []) ys
    next [] here e = absurd (none_some x e)
    next (y ∷ more) here e = record {
      rest = more;
      is = here ∙ ap (λ z. xs ++ z ∷ more) (some_same y x e) ∙ sym (append_assoc xs (x ∷ []) more);
    }

-- a prefix that is no shorter is the whole
pub prefix_whole : {X : Type 0} (xs ys : List X) → IsPrefix xs ys → length xs ≡ length ys → xs ≡ ys
prefix_whole xs ys p long =
    let none : length p.rest ≡ 0 = omega (arith, ap length p.is, length-append xs p.rest, long) in
    sym (append-nil xs) ∙ ap (λ l. xs ++ l) (sym (nil_from_length p.rest none)) ∙ sym p.is

pub prefix_Contains : {X : Type 0} (xs ys : List X) (x : X) → IsPrefix xs ys → Contains xs x → Contains ys x
prefix_Contains {X} xs ys x p at =
    let P : List X → Type 0 = λ l. Contains l x in
    subst P (sym p.is) (Contains-append_left xs p.rest x at)
