-- The least stamp that isn't settled, found by going over stamps, seats and entries.
use Rattle.std.proofs.Common.{◌≡◌, ◌≢◌, ◌⊎◌, inl, inr, ℕ, ◌<◌, ◌≤◌, ◌&&◌, ltb, true, false, cond, Option, Some, None, IfSome, List, [], ◌∷◌, drop, refl, sym, ap, ◌∙◌, subst, arith}
use Rattle.std.specs.Prelude.{nat_le}
use Rattle.std.specs.List.{All, fold}
use Rattle.std.proofs.lemmas.Bool.{cases_Bool, leb-true, leb-false, ltb-true, ltb-false}
use Rattle.std.proofs.lemmas.List.Elements.{All-nil, All-cons, All-head, All-tail, All-weaker}
use Rattle.pay_member.specs.declared.event.HistoryEntry.{HistoryEntry}
use Rattle.pay_member.specs.Member.{MemberFields}
use Rattle.pay_node.specs.Seats.{SeatFields}
use Rattle.pay_node.specs.Closing.{IsVerdictBy, lesser}

-- ---- the least from a number on

some_none : {X : Type 0} (x : X) → Some x ≡ None → ⊥
some_none x same = cc

some_is : {X : Type 0} (x y : X) → Some x ≡ Some y → x ≡ y
some_is x y same = cc

-- what one stamp more makes of the least so far
record IsLesser (count n : ℕ) (start after : Option ℕ) : Type 0 where
  none : after ≡ None → (start ≡ None) × (n < count)
  from : (s : ℕ) → after ≡ Some s → n ≢ s → start ≡ Some s
  below : (s : ℕ) → IfSome after (λ t. s ≤ t) → IfSome start (λ t. s ≤ t) × (count ≤ n → s ≤ n)
  above : IfSome start (λ t. count ≤ t) → IfSome after (λ t. count ≤ t)

taken : (count n : ℕ) (start : Option ℕ) → count ≤ n → IfSome start (λ t. n ≤ t) → IsLesser count n start (Some n)
taken count n None enough least =
    record { none = λ same. absurd (some_none n same); from = λ s same other. absurd (other (some_is n s same)); below = λ s is. (tt, λ _. is); above = λ _. enough }
taken count n (Some t) enough least =
    record { none = λ same. absurd (some_none n same); from = λ s same other. absurd (other (some_is n s same)); below = λ s is. (omega arith, λ _. is); above = λ _. enough }

passed : (count n : ℕ) → n < count → IsLesser count n None None
passed count n below = record { none = λ _. (refl, below); from = λ s same other. same; below = λ s _. (tt, λ enough. absurd (omega arith)); above = λ _. tt }

stays : (count n t : ℕ) → (count ≤ n → t ≤ n) → IsLesser count n (Some t) (Some t)
stays count n t least =
    record { none = λ same. absurd (some_none t same); from = λ s same other. same; below = λ s is. (is, λ enough. (let h = least enough in omega arith)); above = λ is. is }

is_lesser : (count n : ℕ) (start : Option ℕ) → IsLesser count n start (lesser count start n)
is_lesser count n None = go (cases_Bool (nat_le count n)) where
  go : (nat_le count n ≡ true) ⊎ (nat_le count n ≡ false) → IsLesser count n None (cond (nat_le count n) (Some n) None)
  go (inl enough) = rw enough (taken count n None (leb-true count n enough) tt)
  go (inr past) = rw past (passed count n (leb-false count n past))
is_lesser count n (Some t) = go (cases_Bool (nat_le count n)) (cases_Bool (ltb n t)) where
  go : (nat_le count n ≡ true) ⊎ (nat_le count n ≡ false) → (ltb n t ≡ true) ⊎ (ltb n t ≡ false) → IsLesser count n (Some t) (cond (nat_le count n && ltb n t) (Some n) (Some t))
  go (inl enough) (inl less) = rw (enough, less) (taken count n (Some t) (leb-true count n enough) (let h = ltb-true n t less in omega arith))
  go (inl enough) (inr more) = rw (enough, more) (stays count n t (λ _. ltb-false n t more))
  go (inr past) _ = rw past (stays count n t (λ enough. (let less = leb-false count n past in absurd (omega arith))))

abbrev least_in : {X : Type 0} → ℕ → (X → ℕ) → Option ℕ → List X → Option ℕ
least_in count f start xs = fold (λ least x. lesser count least (f x)) start xs

-- what the least of a list is, from one that was found before
abbrev Found : {X : Type 0} → ℕ → (X → ℕ) → Option ℕ → List X → Option ℕ → Type 0
Found count f start xs None = (start ≡ None) × All (λ x. f x < count) xs
Found count f start xs (Some s) = (All (λ x. f x ≢ s) xs → start ≡ Some s) × IfSome start (λ t. s ≤ t) × All (λ x. count ≤ f x → s ≤ f x) xs

found_here : {X : Type 0} (count : ℕ) (f : X → ℕ) (start : Option ℕ) → Found count f start [] start
found_here count f None = (refl, All-nil _)
found_here count f (Some s) = ((λ _. refl), omega arith, All-nil _)

found_more :
    {X : Type 0} (count : ℕ) (f : X → ℕ) (start after : Option ℕ) (x : X) (xs : List X) (r : Option ℕ)
    → IsLesser count (f x) start after → Found count f after xs r → Found count f start (x ∷ xs) r
found_more count f start after x xs None is found = ((is.none found.0).0, All-cons (λ y. f y < count) x xs (is.none found.0).1 found.1)
found_more count f start after x xs (Some s) is found = (
  (λ others. is.from s (found.0 (All-tail (λ y. f y ≢ s) x xs others)) (All-head (λ y. f y ≢ s) x xs others)),
  (is.below s found.1).0,
  All-cons (λ y. count ≤ f y → s ≤ f y) x xs (is.below s found.1).1 found.2,
)

found_in : {X : Type 0} (count : ℕ) (f : X → ℕ) (start : Option ℕ) (xs : List X) → Found count f start xs (least_in count f start xs)
found_in count f start [] = found_here count f start
found_in count f start (x ∷ xs) =
    found_more count f start (lesser count start (f x)) x xs (least_in count f start (x ∷ xs)) (is_lesser count (f x) start) (found_in count f (lesser count start (f x)) xs)

found_from : {X : Type 0} (count : ℕ) (f : X → ℕ) (start : Option ℕ) (xs : List X) → IfSome start (λ t. count ≤ t) → IfSome (least_in count f start xs) (λ t. count ≤ t)
found_from count f start [] from = from
found_from count f start (x ∷ xs) from = found_from count f (lesser count start (f x)) xs ((is_lesser count (f x) start).above from)

-- ---- verdicts

abbrev stamp_of : SeatFields → ℕ
stamp_of s = s.stamp

abbrev entry_stamp : HistoryEntry → ℕ
entry_stamp e = e.stamp

apart_below : (count n t : ℕ) → n < count → count ≤ t → n ≢ t
apart_below count n t less above same = absurd (omega arith)

apart_least : (count s n t : ℕ) → (count ≤ n → s ≤ n) → t < s → count ≤ t → n ≢ t
apart_least count s n t least less above same = (let h = least (omega arith) in absurd (omega arith))

verdict_of :
    (holds : ℕ → Type 0) (m : MemberFields) (base count : ℕ) (seats : List SeatFields) (first found : Option ℕ) → ((lower : ℕ) → lower < count → holds lower)
    → Found count stamp_of None seats first → Found count entry_stamp first (drop base m.history) found → IfSome found (λ s. count ≤ s)
    → IsVerdictBy holds m base count seats found
verdict_of holds m base count seats (Some q) None kept of_seats of_entries from = absurd (some_none q of_entries.0)
verdict_of holds m base count seats None None kept of_seats of_entries from = λ stamp. record {
  own = λ below. kept stamp below;
  other = λ above. record {
    unseated = All-weaker (λ s. s.stamp < count) (λ s. s.stamp ≢ stamp) (λ s less. apart_below count s.stamp stamp less above) seats of_seats.1;
    nowhere = All-weaker (λ e. e.stamp < count) (λ e. e.stamp ≢ stamp) (λ e less. apart_below count e.stamp stamp less above) (drop base m.history) of_entries.1;
  };
}
verdict_of holds m base count seats None (Some s) kept of_seats of_entries from = record {
  wrong = λ settled. (let unused = settled.other from in absurd (some_none s (sym (of_entries.0 unused.nowhere))));
  least = λ stamp less. record {
    own = λ below. kept stamp below;
    other = λ above. record {
      unseated = All-weaker (λ x. x.stamp < count) (λ x. x.stamp ≢ stamp) (λ x under. apart_below count x.stamp stamp under above) seats of_seats.1;
      nowhere = All-weaker (λ e. count ≤ e.stamp → s ≤ e.stamp) (λ e. e.stamp ≢ stamp) (λ e least. apart_least count s e.stamp stamp least less above) (drop base m.history) of_entries.2;
    };
  };
}
verdict_of holds m base count seats (Some q) (Some s) kept of_seats of_entries from = record {
  wrong = λ settled. (
      let unused = settled.other from in
      let same : q ≡ s = some_is q s (of_entries.0 unused.nowhere) in
      absurd (some_none q (sym (of_seats.0 (subst (λ n. All (λ (x : SeatFields). x.stamp ≢ n) seats) (sym same) unused.unseated)))));
  least = λ stamp less. record {
    own = λ below. kept stamp below;
    other = λ above. record {
      unseated = All-weaker (λ x. count ≤ x.stamp → q ≤ x.stamp) (λ x. x.stamp ≢ stamp) (λ x least. (let over = of_entries.1 in apart_least count q x.stamp stamp least (omega arith) above)) seats of_seats.2;
      nowhere = All-weaker (λ e. count ≤ e.stamp → s ≤ e.stamp) (λ e. e.stamp ≢ stamp) (λ e least. apart_least count s e.stamp stamp least less above) (drop base m.history) of_entries.2;
    };
  };
}

pub verdict :
    (holds : ℕ → Type 0) (m : MemberFields) (base count : ℕ) (seats : List SeatFields) (history : List HistoryEntry) (first found : Option ℕ)
    → ((lower : ℕ) → lower < count → holds lower)
    → first ≡ fold (λ least (s : SeatFields). lesser count least s.stamp) None seats → history ≡ drop base m.history
    → found ≡ fold (λ least (e : HistoryEntry). lesser count least e.stamp) first history → IsVerdictBy holds m base count seats found
verdict holds m base count seats history first found kept is_first at is_found =
    let of_seats = subst (Found count stamp_of None seats) (sym is_first) (found_in count stamp_of None seats) in
    let found_there : found ≡ least_in count entry_stamp first (drop base m.history) = is_found ∙ ap (least_in count entry_stamp first) at in
    let of_entries = subst (Found count entry_stamp first (drop base m.history)) (sym found_there) (found_in count entry_stamp first (drop base m.history)) in
    let from = subst (λ o. IfSome o (λ s. count ≤ s)) (sym is_first) (found_from count stamp_of None seats tt) in
    verdict_of holds m base count seats first found kept of_seats of_entries (subst (λ o. IfSome o (λ s. count ≤ s)) (sym found_there) (found_from count entry_stamp first (drop base m.history) from))
