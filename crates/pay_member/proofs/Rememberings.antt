-- What a member can tell of what it has forgotten, with one event more.
use Rattle.std.proofs.Common.{◌≡◌, ◌↔◌, ◌⊎◌, inl, inr, ⊎_elim, ℕ, zero, suc, ◌<◌, ◌≤◌, Bool, true, false, Some, None, List, [], ◌∷◌, ◌++◌, length, slice_get, refl, sym, ap, ◌∙◌, subst, arith, append_assoc, append-nil, ltb, true≢false}
use Rattle.std.specs.List.{All}
use Rattle.std.proofs.lemmas.Bool.{cases_Bool}
use Rattle.std.proofs.lemmas.Bool.Decides.{nat_tests}
use Rattle.pay_echo.specs.Broadcast.{Group}
use Rattle.pay_echo.specs.Meaning.{Meaning, meaning_of}
use Rattle.pay_channel.specs.History.{Event, IsEvent, list_of}
use Rattle.pay_channel.specs.Asked.{asked_values}
use Rattle.pay_channel.specs.Prefix.{IsPrefix}
use Rattle.pay_channel.specs.FollowLaws.{ListsFollow}
use Rattle.pay_channel.specs.ListLaws.{ListsGrow, EmptyAtFirst}
use Rattle.pay_channel.specs.SentLaws.{AskedGrows, OwnEchoIsAsk}
use Rattle.pay_channel.specs.State.{State, IsStateBy, channel_lists, meaning_at}
use Rattle.pay_member.specs.Ledger.{IsListedAsEchoed, IsNoticed}
use Rattle.pay_member.specs.Remembering.{Remembers, HasForgotten, TellsForgetting}

-- ---- lists and their beginnings

none_some : {X : Type 0} (x : X) → None ≡ Some x → ⊥
none_some x e = cc

some_same : {X : Type 0} (x y : X) → Some x ≡ Some y → x ≡ y
some_same x y e = cc

cons_head : {X : Type 0} (x y : X) (xs ys : List X) → x ∷ xs ≡ y ∷ ys → x ≡ y
cons_head x y xs ys same = cc

cons_tail : {X : Type 0} (x y : X) (xs ys : List X) → x ∷ xs ≡ y ∷ ys → xs ≡ ys
cons_tail x y xs ys same = cc

nil_cons : {X : Type 0} (x : X) (xs : List X) → [] ≡ x ∷ xs → ⊥
nil_cons x xs same = cc

get_some : {X : Type 0} (xs : List X) (k : ℕ) → k < length xs → (v : X) × (slice_get xs k ≡ Some v)
get_some [] k below = absurd (omega arith)
get_some (x ∷ xs) zero below = (x, refl)
get_some (x ∷ xs) (suc k) below = get_some xs k (omega arith)

get_inside : {X : Type 0} (xs : List X) (k : ℕ) (v : X) → slice_get xs k ≡ Some v → k < length xs
get_inside [] k v e = absurd (none_some v e)
get_inside (x ∷ xs) zero v e = omega arith
get_inside (x ∷ xs) (suc k) v e = let rest = get_inside xs k v e in omega arith

get_front : {X : Type 0} (xs more : List X) (k : ℕ) → k < length xs → slice_get (xs ++ more) k ≡ slice_get xs k
get_front [] more k below = absurd (omega arith)
get_front (x ∷ xs) more zero below = refl
get_front (x ∷ xs) more (suc k) below = get_front xs more k (omega arith)

get_longer : {X : Type 0} (xs ys : List X) (k : ℕ) (v : X) → IsPrefix xs ys → slice_get xs k ≡ Some v → slice_get ys k ≡ Some v
get_longer {X} xs ys k v begins is =
    ap (λ (l : List X). slice_get l k) begins.is ∙ get_front xs begins.rest k (get_inside xs k v is) ∙ is

by_place : {X : Type 0} (xs ys : List X) → ((k : ℕ) (v : X) → slice_get xs k ≡ Some v → slice_get ys k ≡ Some v) → IsPrefix xs ys
by_place [] ys same = record { rest = ys; is = refl }
by_place (x ∷ xs) [] same = absurd (none_some x (same zero x refl))
by_place (x ∷ xs) (y ∷ ys) same =
    let here : y ≡ x = some_same y x (same zero x refl) in
    let later = by_place xs ys (λ k v e. same (suc k) v e) in
    record { rest = later.rest; is = ap (λ z. z ∷ ys) here ∙ ap (λ zs. x ∷ zs) later.is }

pub prefix_self : {X : Type 0} (xs : List X) → IsPrefix xs xs
prefix_self xs = record { rest = []; is = sym (append-nil xs) }

prefix_longer : {X : Type 0} (xs ys more : List X) → IsPrefix xs ys → IsPrefix xs (ys ++ more)
prefix_longer {X} xs ys more begins = record { rest = begins.rest ++ more; is = ap (λ (l : List X). l ++ more) begins.is ∙ append_assoc xs begins.rest more }

-- a beginning of a list with one more at its end is all of it, or one of the list
prefix_cons : {X : Type 0} (x y : X) (xs ys zs : List X) → y ≡ x → IsPrefix xs ys ⊎ (xs ≡ zs) → IsPrefix (x ∷ xs) (y ∷ ys) ⊎ (x ∷ xs ≡ y ∷ zs)
prefix_cons x y xs ys zs e (inl p) = inl (record { rest = p.rest; is = ap (λ z. z ∷ ys) e ∙ ap (λ l. x ∷ l) p.is })
prefix_cons x y xs ys zs e (inr same) = inr (ap (λ z. z ∷ xs) (sym e) ∙ ap (λ l. y ∷ l) same)

prefix_push : {X : Type 0} (xs ys : List X) (y : X) → IsPrefix xs (ys ++ y ∷ []) → IsPrefix xs ys ⊎ (xs ≡ ys ++ y ∷ [])
prefix_push [] ys y begins = inl (record { rest = ys; is = refl })
prefix_push (x ∷ []) [] y begins = inr (ap (λ z. z ∷ []) (sym (cons_head y x [] begins.rest begins.is)))
prefix_push (x ∷ z ∷ xs) [] y begins = absurd (nil_cons z (xs ++ begins.rest) (cons_tail y x [] (z ∷ xs ++ begins.rest) begins.is))
prefix_push (x ∷ xs) (z ∷ ys) y begins =
    prefix_cons x z xs ys (ys ++ y ∷ []) (cons_head z x (ys ++ y ∷ []) (xs ++ begins.rest) begins.is)
    (prefix_push xs ys y (record { rest = begins.rest; is = cons_tail z x (ys ++ y ∷ []) (xs ++ begins.rest) begins.is }))

-- ---- of no event, and of one more

pub remembers_none : EmptyAtFirst → (g : Group) → Remembers g []
remembers_none empty g = record { each = λ before begins. at before (prefix_nil before begins) } where
  prefix_nil : (xs : List Event) → IsPrefix xs [] → xs ≡ []
  prefix_nil [] begins = refl
  prefix_nil (x ∷ xs) begins = absurd (nil_cons x (xs ++ begins.rest) begins.is)

  at : (before : List Event) → before ≡ [] → IsPrefix (list_of g before g.own) (asked_values before)
  at before is =
      let none : list_of g before g.own ≡ [] = ap (λ (h : List Event). list_of g h g.own) is ∙ empty g g.own in
      record { rest = asked_values before; is = sym (ap (λ (l : List (List ℕ)). l ++ asked_values before) none) }

pub remembers_more :
    (g : Group) (history : List Event) (e : Event) → Remembers g history
    → IsPrefix (list_of g (history ++ e ∷ []) g.own) (asked_values (history ++ e ∷ [])) → Remembers g (history ++ e ∷ [])
remembers_more g history e all last = record { each = λ before begins. at before (prefix_push before history e begins) } where
  at : (before : List Event) → IsPrefix before history ⊎ (before ≡ history ++ e ∷ []) → IsPrefix (list_of g before g.own) (asked_values before)
  at before (inl begins) = all.each before begins
  at before (inr is) = subst (λ (h : List Event). IsPrefix (list_of g h g.own) (asked_values h)) (sym is) last

pub forgot_longer : (g : Group) (history more : List Event) → HasForgotten g history → HasForgotten g (history ++ more)
forgot_longer g history more forgot = record {
  before = forgot.before;
  earlier = prefix_longer forgot.before history more forgot.earlier;
  seq = forgot.seq;
  value = forgot.value;
  listed = forgot.listed;
  unasked = forgot.unasked;
}

pub not_both : (g : Group) (history : List Event) → Remembers g history → HasForgotten g history → ⊥
not_both g history all forgot =
    forgot.unasked (get_longer (list_of g forgot.before g.own) (asked_values forgot.before) forgot.seq forgot.value (all.each forgot.before forgot.earlier) forgot.listed)

-- ---- an answer that tells which

pub true_as_forgotten :
    (g : Group) (history : List Event) (told answer : Bool) → answer ≡ told → TellsForgetting g history told → (answer ≡ true) ↔ HasForgotten g history
true_as_forgotten g history told answer is tells = (λ yes. tells.forgot (sym is ∙ yes), λ forgot. go answer refl forgot) where
  go : (b : Bool) → answer ≡ b → HasForgotten g history → answer ≡ true
  go true was forgot = was
  go false was forgot = absurd (not_both g history (tells.remembers (sym is ∙ was)) forgot)

pub false_as_remembered :
    (g : Group) (history : List Event) (told answer : Bool) → answer ≡ told → TellsForgetting g history told → (answer ≡ false) ↔ Remembers g history
false_as_remembered g history told answer is tells = (λ no. tells.remembers (sym is ∙ no), λ all. go answer refl all) where
  go : (b : Bool) → answer ≡ b → Remembers g history → answer ≡ false
  go false was all = was
  go true was all = absurd (not_both g history all (tells.forgot (sym is ∙ was)))

-- ---- as a channel's lists tell it

module _ (lists_grow : ListsGrow) (asked_grows : AskedGrows) (follow : ListsFollow) (echo : OwnEchoIsAsk)
    (old new : State) (history : List Event) (e : Event)
    (was : IsStateBy old history) (is : IsStateBy new (history ++ e ∷ [])) (group : new.group ≡ old.group)
    (may_come : All (IsEvent new.group) (history ++ e ∷ [])) where
  listed_is : channel_lists new new.group.own ≡ list_of new.group (history ++ e ∷ []) new.group.own
  listed_is = follow new (history ++ e ∷ []) is new.group.own

  listed_was : channel_lists old old.group.own ≡ list_of new.group history new.group.own
  listed_was = follow old history was old.group.own ∙ ap (λ (g : Group). list_of g history g.own) (sym group)

  echoed_is : (k : ℕ) → (meaning_at new new.group.own k).echoed ≡ slice_get (asked_values (history ++ e ∷ [])) k
  unfolding meaning_of
  echoed_is k = ap (λ (m : Meaning). m.echoed) (is.meanings new.group.own k) ∙ echo new.group (history ++ e ∷ []) k may_come

  -- a value that stood there before, and one that came
  place_is :
      Remembers new.group history
      → ((k : ℕ) → length (channel_lists old old.group.own) ≤ k → k < length (channel_lists new new.group.own) → IsListedAsEchoed new new.group.own k)
      → (k : ℕ) (v : List ℕ) → slice_get (list_of new.group (history ++ e ∷ []) new.group.own) k ≡ Some v
      → slice_get (asked_values (history ++ e ∷ [])) k ≡ Some v
  place_is remembers none k v there = ⊎_elim first last (decide k (length (list_of new.group history new.group.own))) where
    decide : (m n : ℕ) → (m < n) ⊎ (n ≤ m)
    decide m n = elim (cases_Bool (ltb m n)) [ inl is ↦ inl (grind (arith, nat_tests)) | inr is ↦ inr (grind (arith, nat_tests)) ]

    first : k < length (list_of new.group history new.group.own) → slice_get (asked_values (history ++ e ∷ [])) k ≡ Some v
    first below =
        let L : List (List ℕ) = list_of new.group history new.group.own in
        let u = get_some L k below in
        let same : u.0 ≡ v = some_same u.0 v (sym (get_longer L (list_of new.group (history ++ e ∷ []) new.group.own) k u.0 (lists_grow new.group history (e ∷ []) new.group.own) u.1) ∙ there) in
        let asked = get_longer L (asked_values history) k u.0 (remembers.each history (prefix_self history)) u.1 in
        get_longer (asked_values history) (asked_values (history ++ e ∷ [])) k u.0 (record { rest = asked_values (e ∷ []); is = asked_grows history (e ∷ []) }) asked
        ∙ ap Some same

    last : length (list_of new.group history new.group.own) ≤ k → slice_get (asked_values (history ++ e ∷ [])) k ≡ Some v
    last past =
        let inside = get_inside (list_of new.group (history ++ e ∷ []) new.group.own) k v there in
        let was_long = ap length listed_was in
        let is_long = ap length listed_is in
        sym (echoed_is k) ∙ none k (omega arith) (omega arith) ∙ ap (λ (l : List (List ℕ)). slice_get l k) listed_is ∙ there

  pub tells_more :
      (before after : Bool) → TellsForgetting new.group history before
      → IsNoticed new new.group.own (length (channel_lists old old.group.own)) before after → TellsForgetting new.group (history ++ e ∷ []) after
  tells_more before after told noticed = go before refl told noticed where
    go : (b : Bool) → before ≡ b → TellsForgetting new.group history b → IsNoticed new new.group.own (length (channel_lists old old.group.own)) b after → TellsForgetting new.group (history ++ e ∷ []) after
    go true known t n = record {
      remembers = λ no. absurd (true≢false (sym (n.still refl) ∙ no));
      forgot = λ _. forgot_longer new.group history (e ∷ []) (t.forgot refl);
    }
    go false known t n = record {
      remembers = λ no.
          remembers_more new.group history e (t.remembers refl)
          (by_place (list_of new.group (history ++ e ∷ []) new.group.own) (asked_values (history ++ e ∷ [])) (place_is (t.remembers refl) (n.none no)));
      forgot = λ yes.
          let some = n.some refl yes in
          let there = get_some (list_of new.group (history ++ e ∷ []) new.group.own) some.0 (let is_long = ap length listed_is in let below = some.1 in omega arith) in
          record {
            before = history ++ e ∷ [];
            earlier = prefix_self (history ++ e ∷ []);
            seq = some.0;
            value = there.0;
            listed = there.1;
            unasked = λ asked. some.2 (echoed_is some.0 ∙ asked ∙ sym there.1 ∙ sym (ap (λ (l : List (List ℕ)). slice_get l some.0) listed_is));
          };
    }
