-- The values that a member knows of an account.
use Rattle.std.proofs.Common.{Bor, ◌≡◌, ℕ, zero, suc, ◌<◌, ◌≤◌, max, eqb, cond, true, false, Bool, List, [], ◌∷◌, ◌++◌, length, length-append, length-drop, drop, refl, ap, ◌∙◌, sym, subst, arith, inl, inr}
use Rattle.std.specs.Prelude.{slice_get, All, Option, Some, None}
use Rattle.std.specs.Option.{IsSome, option_copied}
use Rattle.std.proofs.lemmas.Option.{slice_get-get_or}
use Rattle.std.proofs.lemmas.Bool.{cases_eq, eq-eqb, ne_eqb, cond-true, cond-false}
use Rattle.pay_echo.specs.Broadcast.{Group}
use Rattle.pay_echo.specs.Meaning.{Meaning, meaning_of}
use Rattle.pay_channel.specs.Asked.{asked_values}
use Rattle.pay_channel.specs.FollowLaws.{ListsFollow}
use Rattle.pay_channel.specs.History as channel
use Rattle.pay_channel.specs.History.{IsEvent, asks, list_of, votes}
use Rattle.pay_channel.specs.Prefix.{IsPrefix}
use Rattle.pay_channel.specs.SentLaws.{AsksAreCounted, OwnEchoIsAsk}
use Rattle.pay_channel.specs.State.{channel_lists, meaning_at}
use Rattle.pay_link.specs.Genesis.{GenesisFields}
use Rattle.pay_member.specs.Group.{group_in}
use Rattle.pay_member.specs.Ledger.{LedgerFields, Tracks}
use Rattle.pay_member.specs.Reading.{values_known}
use Rattle.pay_member.proofs.Ledgers.{lists_are}

-- they begin with the account's list
pub known_grow : ListsFollow → (g : GenesisFields) (own : ℕ) (events : List channel.Event) (l : LedgerFields) → Tracks g own events l → (a : ℕ) → IsPrefix (channel_lists l.channel a) (values_known g own events a)
unfolding values_known
known_grow follow g own events l tracks a =
    let rest : List (List ℕ) = cond (eqb a own) (drop (length (list_of (group_in g own) events a)) (asked_values events)) [] in
    record { rest = rest; is = ap (λ values. values ++ rest) (sym (lists_are follow g own events l tracks a)) }

-- ---- a list, and behind it the rest of another one

count_of : (xs ys : List (List ℕ)) (own : Bool) (n : ℕ) → n ≡ cond own (max (length xs) (length ys)) (length xs) → n ≡ length (xs ++ cond own (drop (length xs) ys) [])
count_of xs ys true n is =
    let both = length-append xs (drop (length xs) ys) in
    let rest = length-drop (length xs) ys in
    omega arith
count_of xs ys false n is =
    let both = length-append {A = List ℕ} xs [] in
    omega arith

-- in the first list
get_first : (xs more : List (List ℕ)) (k : ℕ) → k < length xs → slice_get (xs ++ more) k ≡ slice_get xs k
get_first [] more k h = absurd (omega arith)
get_first (x ∷ xs) more zero h = refl
get_first (x ∷ xs) more (suc k) h = get_first xs more k (omega arith)

-- behind it
get_rest : (xs ys : List (List ℕ)) (k : ℕ) → length xs ≤ k → slice_get (xs ++ drop (length xs) ys) k ≡ slice_get ys k
get_rest [] ys k h = refl
get_rest (x ∷ xs) ys zero h = absurd (omega arith)
get_rest (x ∷ xs) [] (suc k) h = ap (λ more. slice_get (xs ++ more) k) (sym (none_left (length xs))) ∙ get_rest xs [] k (omega arith) ∙ none_there k where
  none_left : (n : ℕ) → drop {A = List ℕ} n [] ≡ []
  none_left zero = refl
  none_left (suc n) = refl

  none_there : (n : ℕ) → slice_get {X = List ℕ} [] n ≡ None
  none_there zero = refl
  none_there (suc n) = refl
get_rest (x ∷ xs) (y ∷ ys) (suc k) h = get_rest xs ys k (omega arith)

-- ---- as a ledger has them

module _ (g : GenesisFields) (own : ℕ) (events : List channel.Event) (l : LedgerFields) (tracks : Tracks g own events l) (follow : ListsFollow) (a : ℕ) where
  pub known_count_is : AsksAreCounted → (n : ℕ) → n ≡ cond (eqb a own) (max (length (channel_lists l.channel a)) l.channel.asks) (length (channel_lists l.channel a)) → n ≡ length (values_known g own events a)
  unfolding values_known
  known_count_is counted n is =
      let list : List (List ℕ) = list_of (group_in g own) events a in
      let listed = ap length (lists_are follow g own events l tracks a) in
      let all : l.channel.asks ≡ length (asked_values events) = tracks.follows.asks ∙ counted events in
      count_of list (asked_values events) (eqb a own) n
      (is ∙ ap (λ (k : ℕ). cond (eqb a own) (max k l.channel.asks) k) listed ∙ ap (λ (k : ℕ). cond (eqb a own) (max (length list) k) (length list)) all)

  pub known_in_list : (k : ℕ) → k < length (channel_lists l.channel a) → slice_get (values_known g own events a) k ≡ slice_get (channel_lists l.channel a) k
  unfolding values_known
  known_in_list k below =
      let list : List (List ℕ) = list_of (group_in g own) events a in
      let same = lists_are follow g own events l tracks a in
      let listed = ap length same in
      get_first list (cond (eqb a own) (drop (length list) (asked_values events)) []) k (omega arith) ∙ ap (λ values. slice_get values k) (sym same)

  -- what isn't listed was asked for, and is what the own broadcast echoed
  pub known_behind_list : OwnEchoIsAsk → All (IsEvent (group_in g own)) events → (k : ℕ) → length (channel_lists l.channel a) ≤ k → k < length (values_known g own events a) → (meaning_at l.channel a k).echoed ≡ slice_get (values_known g own events a) k
  unfolding values_known meaning_of
  known_behind_list echo all k past below =
      let list : List (List ℕ) = list_of (group_in g own) events a in
      let rest : List (List ℕ) = drop (length list) (asked_values events) in
      let listed = ap length (lists_are follow g own events l tracks a) in
      let own_is : l.channel.group.own ≡ own = ap (λ (x : Group). x.own) tracks.group in
      let may_come : All (IsEvent l.channel.group) events = subst (λ (x : Group). All (IsEvent x) events) (sym tracks.group) all in
      let echoed_is : (meaning_at l.channel l.channel.group.own k).echoed ≡ slice_get (asked_values events) k =
      ap (λ (m : Meaning). m.echoed) (tracks.follows.meanings l.channel.group.own k) ∙ echo l.channel.group events k may_come in
      elim (cases_eq a own) [
        | inl e ↦
            ap (λ (o : ℕ). (meaning_at l.channel o k).echoed) (e ∙ sym own_is) ∙ echoed_is
            ∙ sym (get_rest list (asked_values events) k (omega arith))
            ∙ ap (λ more. slice_get (list ++ more) k) (sym (cond-true (eqb a own) rest [] (eq-eqb a own e)))
        | inr ne ↦
            (let none = ap (λ more. length (list ++ more)) (cond-false (eqb a own) rest [] (ne_eqb a own ne)) in
            let both = length-append {A = List ℕ} list [] in
            absurd (omega arith))
      ]

-- where a list has a value, an option that is known as that isn't none
pub known_is_there : (values : List (List ℕ)) (k : ℕ) (found : Option (Bor (List ℕ))) → k < length values → option_copied found ≡ slice_get values k → IsSome found
known_is_there values k (Some value) below is = refl
known_is_there values k None below is =
    let some = slice_get-get_or values k [] below in
    absurd (cc (is, some))
