-- What one vote more does to the lists, and that a channel stays sound.
use Rattle.std.proofs.Common.{◌≡◌, ◌≢◌, ℕ, zero, suc, ◌+◌, ◌-◌, ◌<◌, ◌≤◌, true, false, cond, ◌&&◌, eqb, ltb, List, [], ◌∷◌, ◌++◌, length, get_or, set, Option, None, Some, refl, sym, ap, ap₂, ◌∙◌, subst, arith, eqb-true, ne_eqb, lt-ltb, append-nil, length-append, length-set, get_or-set_same, get_or-set_other, zero-add}
use Rattle.std.proofs.lemmas.Bool.{cond-true, cases_Bool, cases_eq, and_left, and_parts}
use Rattle.pay_frame.specs.declared.limits.TheConstants.{MOST_MEMBERS}
use Rattle.pay_echo.specs.Broadcast.{Group, Vote}
use Rattle.pay_echo.specs.Meaning.{Meaning, meaning_of}
use Rattle.pay_echo.specs.Laws.{DeliveredStays}
use Rattle.pay_channel.specs.Source.{GrowsOnly}
use Rattle.pay_channel.specs.History.{seqs, known_from, listed_values}
use Rattle.pay_channel.specs.State.{State, IsSound, meaning_at, delivered_value_at, channel_lists}
use Rattle.pay_channel.specs.Applied.{SeesIfVote, IsAsBefore}
use Rattle.pay_channel.proofs.Lists.{either}

-- ---- values up to the first that is missing

abbrev pub Keeps : (ℕ → Option (List ℕ)) → (ℕ → Option (List ℕ)) → Type 0
Keeps old new = (s : ℕ) (v : List ℕ) → old s ≡ Some v → new s ≡ Some v

pub known_from-some : (at : ℕ → Option (List ℕ)) (s n : ℕ) (v : List ℕ) → at s ≡ Some v → known_from at s (suc n) ≡ v ∷ known_from at (s + 1) n
unfolding known_from
known_from-some at s n v e = ap (λ o. elim o as (λ _. List (List ℕ)) [ None ↦ [] | Some w ↦ w ∷ known_from at (s + 1) n ]) e

pub known_from-none : (at : ℕ → Option (List ℕ)) (s n : ℕ) → at s ≡ None → known_from at s (suc n) ≡ []
unfolding known_from
known_from-none at s n e = ap (λ o. elim o as (λ _. List (List ℕ)) [ None ↦ [] | Some w ↦ w ∷ known_from at (s + 1) n ]) e

pub known_from-short : (at : ℕ → Option (List ℕ)) (s n : ℕ) → length (known_from at s n) ≤ n
unfolding known_from
known_from-short at s zero = omega arith
known_from-short at s (suc n) = go (at s) refl (known_from-short at (s + 1) n) where
  go : (o : Option (List ℕ)) → at s ≡ o → length (known_from at (s + 1) n) ≤ n → length (known_from at s (suc n)) ≤ suc n
  go None e rest = omega (arith, ap length (known_from-none at s n e))
  go (Some v) e rest = omega (arith, ap length (known_from-some at s n v e))

-- a longer list goes on where the shorter one ends
pub known_from-grows : (old new : ℕ → Option (List ℕ)) (s n : ℕ) → Keeps old new → known_from new s n ≡ known_from old s n ++ known_from new (s + length (known_from old s n)) (n - length (known_from old s n))
unfolding known_from
known_from-grows old new s zero keeps = refl
known_from-grows old new s (suc n) keeps = go (old s) refl (known_from-grows old new (s + 1) n keeps) where
  go : (o : Option (List ℕ)) → old s ≡ o → known_from new (s + 1) n ≡ known_from old (s + 1) n ++ known_from new ((s + 1) + length (known_from old (s + 1) n)) (n - length (known_from old (s + 1) n)) → known_from new s (suc n) ≡ known_from old s (suc n) ++ known_from new (s + length (known_from old s (suc n))) (suc n - length (known_from old s (suc n)))
  go None e rest =
      let none : List (List ℕ) = [] in
      let start : s ≡ s + length none = omega arith in
      let all : suc n ≡ suc n - length none = omega arith in
      ap₂ (λ (t m : ℕ). known_from new t m) start all
      ∙ ap (λ (xs : List (List ℕ)). xs ++ known_from new (s + length xs) (suc n - length xs)) (sym (known_from-none old s n e))
  go (Some v) e rest =
      let tail = known_from old (s + 1) n in
      let here : (s + 1) + length tail ≡ s + length (v ∷ tail) = omega arith in
      let left : n - length tail ≡ suc n - length (v ∷ tail) = omega arith in
      known_from-some new s n v (keeps s v e)
      ∙ ap (λ (xs : List (List ℕ)). v ∷ xs) rest
      ∙ ap₂ (λ (t m : ℕ). (v ∷ tail) ++ known_from new t m) here left
      ∙ ap (λ (xs : List (List ℕ)). xs ++ known_from new (s + length xs) (suc n - length xs)) (sym (known_from-some old s n v e))

-- ---- states that nothing tells apart

pub lists-same : (old new : State) → new.group ≡ old.group → ((a s : ℕ) → meaning_at new a s ≡ meaning_at old a s) → (a : ℕ) → channel_lists new a ≡ channel_lists old a
unfolding channel_lists delivered_value_at
lists-same old new group same a =
    let values : delivered_value_at new ≡ delivered_value_at old = λ i b s. (same b s i).delivered in
    ap₂ (λ (g : Group) (at : ℕ → ℕ → Option (List ℕ)). listed_values g at a) group values

pub IsSound-same : (old new : State) (lengths : List ℕ) → IsAsBefore old new → IsSound old lengths → IsSound new lengths
IsSound-same old new lengths same sound =
    let Few : Group → Type 0 = λ g. g.members ≤ MOST_MEMBERS in
    let Own : Group → Type 0 = λ g. g.own < g.members in
    record {
      few = subst Few (sym same.group) sound.few;
      own = subst Own (sym same.group) sound.own;
      reached = λ a s. let was = sound.reached a s in (was.0, same.meanings a s ∙ was.1 ∙ ap (λ g. meaning_of g was.0) (sym same.group));
      places = sound.places ∙ ap (λ (g : Group). g.members) (sym same.group);
      counted = λ a below. sound.counted a (subst (λ (g : Group). a < g.members) same.group below) ∙ ap length (sym (lists-same old new same.group same.meanings a));
    }

-- ---- one vote more about the broadcast s of account a

module _ (delivered_stays : DeliveredStays) (old new : State) (lengths : List ℕ) (a s : ℕ) (vote : Option Vote) (sound : IsSound old lengths) (group : new.group ≡ old.group) (here : SeesIfVote (meaning_at old a s) (meaning_at new a s) vote) (others : (b t : ℕ) → (eqb a b && eqb s t) ≡ false → meaning_at new b t ≡ meaning_at old b t) where
  -- votes that reach what is known now
  reached_here : (votes : List Vote) → meaning_at old a s ≡ meaning_of old.group votes → (o : Option Vote) → SeesIfVote (meaning_at old a s) (meaning_at new a s) o → (more : List Vote) × (meaning_at new a s ≡ meaning_of old.group (votes ++ more))
  reached_here votes e None same = ([], same ∙ e ∙ ap (meaning_of old.group) (sym (append-nil votes)))
  reached_here votes e (Some x) sees = (x ∷ [], sees old.group votes e)

  abbrev At : ℕ → ℕ → Type 0
  At b t = (votes : List Vote) × (more : List Vote) × (meaning_at old b t ≡ meaning_of old.group votes) × (meaning_at new b t ≡ meaning_of old.group (votes ++ more))

  longer : (b t : ℕ) → At b t
  longer b t =
      either (cases_Bool (eqb a b && eqb s t))
      (λ e. let same = and_parts (eqb a b) (eqb s t) e in
      let was = sound.reached a s in
      let now = reached_here was.0 was.1 vote here in
      let there : At a s = (was.0, now.0, was.1, now.1) in
      subst (At b) (eqb-true s t same.1) (subst (λ m. At m s) (eqb-true a b same.0) there))
      (λ e. let was = sound.reached b t in
      (was.0, [], was.1, others b t e ∙ was.1 ∙ ap (meaning_of old.group) (sym (append-nil was.0))))

  delivered_keeps : (b : ℕ) → Keeps (delivered_value_at old b) (delivered_value_at new b)
  unfolding delivered_value_at meaning_of
  delivered_keeps b t v e =
      let l = longer b t in
      ap (λ (m : Meaning). m.delivered) l.3
      ∙ delivered_stays old.group l.0 l.1 v (sym (ap (λ (m : Meaning). m.delivered) l.2) ∙ e)

  lists-others : (b : ℕ) → b ≢ a → channel_lists new b ≡ channel_lists old b
  unfolding channel_lists listed_values delivered_value_at
  lists-others b ne =
      let values : delivered_value_at new b ≡ delivered_value_at old b = λ i t. (others b t (and_left (eqb a b) (eqb s t) (ne_eqb a b (λ e. ne (sym e)))) i).delivered in
      ap₂ (λ (g : Group) (at : ℕ → Option (List ℕ)). cond (ltb b g.members) (known_from at 0 seqs) []) group values

  module _ (member : a < old.group.members) where
    -- the values that follow the old list
    abbrev pub following : List (List ℕ)
    following = known_from (delivered_value_at new a) (length (channel_lists old a)) (seqs - length (channel_lists old a))

    lists-old : channel_lists old a ≡ known_from (delivered_value_at old a) 0 seqs
    unfolding channel_lists listed_values
    lists-old = cond-true (ltb a old.group.members) (known_from (delivered_value_at old a) 0 seqs) [] (lt-ltb a old.group.members member)

    lists-new : channel_lists new a ≡ known_from (delivered_value_at new a) 0 seqs
    unfolding channel_lists listed_values
    lists-new =
        let below : ltb a new.group.members ≡ true = ap (λ (g : Group). ltb a g.members) group ∙ lt-ltb a old.group.members member in
        cond-true (ltb a new.group.members) (known_from (delivered_value_at new a) 0 seqs) [] below

    pub lists-grown : channel_lists new a ≡ channel_lists old a ++ following
    lists-grown =
        lists-new ∙ known_from-grows (delivered_value_at old a) (delivered_value_at new a) 0 seqs (delivered_keeps a)
        ∙ ap₂ (λ (xs : List (List ℕ)) (n : ℕ). xs ++ known_from (delivered_value_at new a) n (seqs - length xs)) (sym lists-old) (zero-add (length (known_from (delivered_value_at old a) 0 seqs)) ∙ ap length (sym lists-old))

    pub lists-grow : GrowsOnly (channel_lists old) (channel_lists new) a
    lists-grow = record { grown = (following, lists-grown); others = lists-others }

    -- the lengths with that many more at a
    pub IsSound-voted : (more : ℕ) → more ≡ length following → IsSound new (set lengths a (get_or lengths a 0 + more))
    IsSound-voted more e =
        let Few : Group → Type 0 = λ g. g.members ≤ MOST_MEMBERS in
        let Own : Group → Type 0 = λ g. g.own < g.members in
        let inside : a < length lengths = rw sound.places member in
        let total : get_or lengths a 0 + more ≡ length (channel_lists new a) = omega (arith, sound.counted a member, e, ap length lists-grown, length-append (channel_lists old a) following) in
        record {
          few = subst Few (sym group) sound.few;
          own = subst Own (sym group) sound.own;
          reached = λ b t. let l = longer b t in (l.0 ++ l.1, l.3 ∙ ap (λ g. meaning_of g (l.0 ++ l.1)) (sym group));
          places = length-set lengths a (get_or lengths a 0 + more) ∙ sound.places ∙ ap (λ (g : Group). g.members) (sym group);
          counted = λ b below. either (cases_eq b a)
              (λ same. rw same (get_or-set_same lengths a (get_or lengths a 0 + more) 0 inside ∙ total))
              (λ ne. get_or-set_other lengths a b (get_or lengths a 0 + more) 0 ne ∙ sound.counted b (subst (λ (g : Group). b < g.members) group below) ∙ ap length (sym (lists-others b ne)));
        }
