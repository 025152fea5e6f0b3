-- The slots of a map of instances, where an entry is written or put in.
use Rattle.std.proofs.Common.{◌≡◌, ℕ, Bool, true, false, cond, ◌&&◌, eqb, List, [], ◌∷◌, map, None, Some, Ordering, Less, Equal, Greater, refl, sym, ap, ap₂, ◌∙◌, subst, eqb-true, eq-eqb, arith}
use Rattle.std.specs.Map.{lookup, set_value}
use Rattle.std.specs.BTreeMap.{insert_entry}
use Rattle.std.specs.Ordering.{is_eq, match_ordering, ordering_then, nat_cmp}
use Rattle.std.proofs.lemmas.Bool.Decides.{nat_tests}
use Rattle.std.proofs.lemmas.Bool.{cond-true, cond-false, cases_Bool, and_parts, and_from}
use Rattle.pay_echo.specs.Broadcast.{Group, Vote, IsForeign}
use Rattle.pay_echo.specs.Meaning.{Meaning, meaning_of}
use Rattle.pay_channel.specs.State.{Slot, meaning_in}
use Rattle.pay_channel.proofs.Lists.{either}

abbrev pub Key : Type 0
Key = ℕ × ℕ

abbrev pub is_key : ℕ → ℕ → Key → Bool
is_key a s k = eqb k.0 a && eqb k.1 s

is_key-same : (a s : ℕ) (k : Key) → is_key a s k ≡ true → (k.0 ≡ a) × (k.1 ≡ s)
is_key-same a s k e = let both = and_parts (eqb k.0 a) (eqb k.1 s) e in (eqb-true k.0 a both.0, eqb-true k.1 s both.1)

is_key-self : (a s : ℕ) → is_key a s (a, s) ≡ true
is_key-self a s = and_from (eqb a a) (eqb s s) (eq-eqb a a refl) (eq-eqb s s refl)

-- a key that is this one isn't another
is_key-other : (a s b r : ℕ) (k : Key) → is_key a s k ≡ true → (eqb a b && eqb s r) ≡ false → is_key b r k ≡ false
is_key-other a s b r k e other = let same = is_key-same a s k e in ap₂ (λ m n. eqb m b && eqb n r) same.0 same.1 ∙ other

-- the entries as slots
abbrev pub slots_of : {X : Type 0} → (X → Meaning) → List (Key × X) → List Slot
slots_of meaning es = map (λ e. record { owner = e.0.0; seq = e.0.1; meaning = meaning e.1 }) es

some_same : {X : Type 0} (x y : X) → Some x ≡ Some y → x ≡ y
some_same x y e = cc

some_none : {X : Type 0} (x : X) → Some x ≡ None → ⊥
some_none x e = cc

module _ {X : Type 0} (meaning : X → Meaning) (g : Group) (a s : ℕ) (test : Key → Bool) (is : (k : Key) → test k ≡ is_key a s k) where
  pub meaning_in-lookup : (es : List (Key × X)) (x : X) → lookup test es ≡ Some x → meaning_in g (slots_of meaning es) a s ≡ meaning x
  meaning_in-lookup [] x e = cc
  meaning_in-lookup (y ∷ es) x e =
      either (cases_Bool (test y.0))
      (λ t. let found : y.1 ≡ x = some_same y.1 x (sym (cond-true (test y.0) (Some y.1) (lookup test es) t) ∙ e) in
      cond-true (is_key a s y.0) (meaning y.1) (meaning_in g (slots_of meaning es) a s) (sym (is y.0) ∙ t) ∙ ap meaning found)
      (λ t. cond-false (is_key a s y.0) (meaning y.1) (meaning_in g (slots_of meaning es) a s) (sym (is y.0) ∙ t)
      ∙ meaning_in-lookup es x (sym (cond-false (test y.0) (Some y.1) (lookup test es) t) ∙ e))

  pub meaning_in-absent : (es : List (Key × X)) → lookup test es ≡ None → meaning_in g (slots_of meaning es) a s ≡ meaning_of g []
  meaning_in-absent [] e = refl
  meaning_in-absent (y ∷ es) e =
      either (cases_Bool (test y.0))
      (λ t. absurd (some_none y.1 (sym (cond-true (test y.0) (Some y.1) (lookup test es) t) ∙ e)))
      (λ t. cond-false (is_key a s y.0) (meaning y.1) (meaning_in g (slots_of meaning es) a s) (sym (is y.0) ∙ t)
      ∙ meaning_in-absent es (sym (cond-false (test y.0) (Some y.1) (lookup test es) t) ∙ e))

  pub meaning_in-written : (es : List (Key × X)) (x w : X) → lookup test es ≡ Some x → meaning_in g (slots_of meaning (set_value test es w)) a s ≡ meaning w
  meaning_in-written [] x w e = cc
  meaning_in-written (y ∷ es) x w e =
      either (cases_Bool (test y.0))
      (λ t. ap (λ (l : List (Key × X)). meaning_in g (slots_of meaning l) a s) (cond-true (test y.0) ((y.0, w) ∷ es) (y ∷ set_value test es w) t)
      ∙ cond-true (is_key a s y.0) (meaning w) (meaning_in g (slots_of meaning es) a s) (sym (is y.0) ∙ t))
      (λ t. ap (λ (l : List (Key × X)). meaning_in g (slots_of meaning l) a s) (cond-false (test y.0) ((y.0, w) ∷ es) (y ∷ set_value test es w) t)
      ∙ cond-false (is_key a s y.0) (meaning y.1) (meaning_in g (slots_of meaning (set_value test es w)) a s) (sym (is y.0) ∙ t)
      ∙ meaning_in-written es x w (sym (cond-false (test y.0) (Some y.1) (lookup test es) t) ∙ e))

  pub meaning_in-written_other : (es : List (Key × X)) (w : X) (b r : ℕ) → (eqb a b && eqb s r) ≡ false → meaning_in g (slots_of meaning (set_value test es w)) b r ≡ meaning_in g (slots_of meaning es) b r
  meaning_in-written_other [] w b r other = refl
  meaning_in-written_other (y ∷ es) w b r other =
      either (cases_Bool (test y.0))
      (λ t. let no = is_key-other a s b r y.0 (sym (is y.0) ∙ t) other in
      ap (λ (l : List (Key × X)). meaning_in g (slots_of meaning l) b r) (cond-true (test y.0) ((y.0, w) ∷ es) (y ∷ set_value test es w) t)
      ∙ cond-false (is_key b r y.0) (meaning w) (meaning_in g (slots_of meaning es) b r) no
      ∙ sym (cond-false (is_key b r y.0) (meaning y.1) (meaning_in g (slots_of meaning es) b r) no))
      (λ t. ap (λ (l : List (Key × X)). meaning_in g (slots_of meaning l) b r) (cond-false (test y.0) ((y.0, w) ∷ es) (y ∷ set_value test es w) t)
      ∙ ap (λ m. cond (is_key b r y.0) (meaning y.1) m) (meaning_in-written_other es w b r other))

-- an entry put in at its place in the order
module _ {X : Type 0} (meaning : X → Meaning) (g : Group) (a s : ℕ) (cmp : Key → Key → Ordering) (is : (k : Key) → is_eq (cmp (a, s) k) ≡ is_key a s k) where
  pub meaning_in-inserted : (es : List (Key × X)) (v : X) → meaning_in g (slots_of meaning (insert_entry cmp es (a, s) v)) a s ≡ meaning v
  meaning_in-inserted [] v = cond-true (is_key a s (a, s)) (meaning v) (meaning_of g []) (is_key-self a s)
  meaning_in-inserted (y ∷ es) v = go (cmp (a, s) y.0) (is y.0) (meaning_in-inserted es v) where
    go : (o : Ordering) → is_eq o ≡ is_key a s y.0 → meaning_in g (slots_of meaning (insert_entry cmp es (a, s) v)) a s ≡ meaning v → meaning_in g (slots_of meaning (match_ordering o (((a, s), v) ∷ y ∷ es) ((y.0, v) ∷ es) (y ∷ insert_entry cmp es (a, s) v))) a s ≡ meaning v
    go Less e rest = cond-true (is_key a s (a, s)) (meaning v) (meaning_in g (slots_of meaning (y ∷ es)) a s) (is_key-self a s)
    go Equal e rest = cond-true (is_key a s y.0) (meaning v) (meaning_in g (slots_of meaning es) a s) (sym e)
    go Greater e rest = cond-false (is_key a s y.0) (meaning y.1) (meaning_in g (slots_of meaning (insert_entry cmp es (a, s) v)) a s) (sym e) ∙ rest

  pub meaning_in-inserted_other : (es : List (Key × X)) (v : X) (b r : ℕ) → (eqb a b && eqb s r) ≡ false → meaning_in g (slots_of meaning (insert_entry cmp es (a, s) v)) b r ≡ meaning_in g (slots_of meaning es) b r
  meaning_in-inserted_other [] v b r other = cond-false (is_key b r (a, s)) (meaning v) (meaning_of g []) other
  meaning_in-inserted_other (y ∷ es) v b r other = go (cmp (a, s) y.0) (is y.0) (meaning_in-inserted_other es v b r other) where
    go : (o : Ordering) → is_eq o ≡ is_key a s y.0 → meaning_in g (slots_of meaning (insert_entry cmp es (a, s) v)) b r ≡ meaning_in g (slots_of meaning es) b r → meaning_in g (slots_of meaning (match_ordering o (((a, s), v) ∷ y ∷ es) ((y.0, v) ∷ es) (y ∷ insert_entry cmp es (a, s) v))) b r ≡ meaning_in g (slots_of meaning (y ∷ es)) b r
    go Less e rest = cond-false (is_key b r (a, s)) (meaning v) (meaning_in g (slots_of meaning (y ∷ es)) b r) other
    go Equal e rest =
        let no = is_key-other a s b r y.0 (sym e) other in
        cond-false (is_key b r y.0) (meaning v) (meaning_in g (slots_of meaning es) b r) no ∙ sym (cond-false (is_key b r y.0) (meaning y.1) (meaning_in g (slots_of meaning es) b r) no)
    go Greater e rest = ap (λ m. cond (is_key b r y.0) (meaning y.1) m) rest

-- the order of the keys
abbrev pub key_cmp : Key → Key → Ordering
key_cmp x y = ordering_then (nat_cmp x.0 y.0) (nat_cmp x.1 y.1)

is_eq-then : (o p : Ordering) → is_eq (ordering_then o p) ≡ (is_eq o && is_eq p)
is_eq-then Less p = refl
is_eq-then Equal p = refl
is_eq-then Greater p = refl

is_eq-nat_cmp : (x y : ℕ) → is_eq (nat_cmp x y) ≡ eqb y x
is_eq-nat_cmp x y = grind (arith, nat_tests)

pub key_cmp-is : (a s : ℕ) (k : Key) → is_eq (key_cmp (a, s) k) ≡ is_key a s k
key_cmp-is a s k = is_eq-then (nat_cmp a k.0) (nat_cmp s k.1) ∙ ap₂ ◌&&◌ (is_eq-nat_cmp a k.0) (is_eq-nat_cmp s k.1)

-- at one place and at the others
pub everywhere : (f h : ℕ → ℕ → Meaning) (a s : ℕ) → f a s ≡ h a s → ((b r : ℕ) → (eqb a b && eqb s r) ≡ false → f b r ≡ h b r) → (b r : ℕ) → f b r ≡ h b r
everywhere f h a s here others b r =
    either (cases_Bool (eqb a b && eqb s r))
    (λ e. let same = and_parts (eqb a b) (eqb s r) e in
    let P : ℕ → ℕ → Type 0 = λ m n. f m n ≡ h m n in
    subst (P b) (eqb-true s r same.1) (subst (λ m. P m s) (eqb-true a b same.0) here))
    (λ e. others b r e)

-- a vote that is foreign to the group is to what is known in it
pub foreign_at : (g : Group) (votes : List Vote) (m : Meaning) (x : Vote) → m ≡ meaning_of g votes → IsForeign g x → IsForeign m.group x
unfolding meaning_of
foreign_at g votes m x e foreign =
    let same : m.group ≡ g = ap (λ (n : Meaning). n.group) e in
    subst (λ h. IsForeign h x) (sym same) foreign
