-- What a WANT can do that came before.
use Rattle.std.proofs.Common.{◌≡◌, ◌≢◌, ℕ, ◌<◌, ◌≤◌, ◌==◌, ◌&&◌, Bool, true, false, cond, nat_lt, List, length, get_or, Some, None, Option, refl, sym, ap, subst, ◌∙◌, arith}
use Rattle.std.specs.Prelude.{position, slice_get, slice_set}
use Rattle.std.specs.Option.{option_map_or}
use Rattle.std.proofs.Math.ListN.{length-set}
use Rattle.std.proofs.lemmas.Bool.{eqb-true, eqb-false}
use Rattle.std.proofs.lemmas.Bool.Decides.{nat_tests}
use Rattle.std.proofs.lemmas.List.{get_or-set_other, get_or-set_same}
use Rattle.std.proofs.lemmas.List.Quantifiers.{position-Some}
use Rattle.std.proofs.lemmas.Option.{get_or_from_slice_get, slice_get-get_or, slice_get_within}
use Rattle.pay_net.specs.Inbound.{InboundState, is_current_of, is_new, is_nobody, list_with_claim, list_with_current, list_with_owner, standing_after, stands_at}
use Rattle.pay_net.specs.InboundLaws.{HasAskedFor}
use Rattle.pay_net.specs.declared.inbound.Inbound.{Inbound}
use Rattle.pay_net.specs.declared.inbound.Owner.{Owner}
use Rattle.pay_net.specs.declared.inbound.Owner.TheVariants.{Nobody, Peer, Current}
use Rattle.pay_net.proofs.Currents.{nobody, set_owner_at}

-- ---- one element set

set_same : {X : Type 0} (xs : List X) (i : ℕ) (y d : X) → i < length xs → slice_get (slice_set xs i y) i ≡ Some y
set_same xs i y d within =
    slice_get-get_or (slice_set xs i y) i d (simp length-set within) ∙ ap Some (get_or-set_same xs i y d within)

set_other : {X : Type 0} (xs : List X) (i j : ℕ) (y x : X) → j ≢ i → slice_get xs j ≡ Some x → slice_get (slice_set xs i y) j ≡ Some x
set_other xs i j y x apart at =
    let within = slice_get_within xs j x at in
    slice_get-get_or (slice_set xs i y) j x (simp length-set within) ∙ ap Some (get_or-set_other xs i j y x apart ∙ get_or_from_slice_get xs j x x at)

was_other : {X : Type 0} (xs : List X) (i j : ℕ) (y x : X) → j ≢ i → slice_get (slice_set xs i y) j ≡ Some x → slice_get xs j ≡ Some x
was_other xs i j y x apart at =
    let within : j < length xs = simp length-set at (slice_get_within (slice_set xs i y) j x at) in
    slice_get-get_or xs j x within ∙ ap Some (sym (get_or-set_other xs i j y x apart) ∙ get_or_from_slice_get (slice_set xs i y) j x x at)

-- ---- the greatest number

not_new : (peer number : ℕ) (s : InboundState) → HasAskedFor peer number s → is_new peer number s.greatest ≡ false
not_new peer number s asked =
    let at = asked.asked in
    let most = asked.within in
    rw at (grind (arith, nat_tests))

old_by : (number : ℕ) (most : Option ℕ) → option_map_or (λ n. nat_lt n number) most true ≡ false
    → (n : ℕ) × (most ≡ Some n) × (number ≤ n)
old_by number None is = cc
old_by number (Some n) is = (n, refl, grind (arith, nat_tests))

asked_by : (s : InboundState) (place peer number : ℕ) (new : Bool) → peer < length s.greatest → is_new peer number s.greatest ≡ new
    → HasAskedFor peer number (standing_after place peer number s)
asked_by s place peer number true within is =
    rw is (record { most = number; asked = set_same s.greatest peer (Some number) None within; within = omega arith })
asked_by s place peer number false within is =
    let at = slice_get-get_or s.greatest peer None within in
    let old = old_by number (get_or s.greatest peer None) (rw at at is) in
    rw is (record { most = old.0; asked = at ∙ ap Some old.1; within = old.2 })

new_by : (n most more : ℕ) (greatest : List (Option ℕ)) (peer : ℕ) → slice_get greatest peer ≡ Some (Some most) → is_new peer more greatest ≡ true
    → n ≤ most → n ≤ more
new_by n most more greatest peer at new within = let above = rw at at new in grind (arith, nat_tests)

stays_for : (s : InboundState) (place other peer n more : ℕ) (same : Bool) → (other == peer) ≡ same → is_new other more s.greatest ≡ true
    → HasAskedFor peer n s → HasAskedFor peer n (record { inbound = s.inbound; greatest = slice_set s.greatest other (Some more) })
stays_for s place other peer n more true is new asked =
    let here : other ≡ peer = eqb-true other peer is in
    let new_here = subst (λ (q : ℕ). is_new q more s.greatest ≡ true) here new in
    let within = slice_get_within s.greatest peer (Some asked.most) asked.asked in
    let set = set_same s.greatest peer (Some more) None within in
    record {
      most = more;
      asked = subst (λ (q : ℕ). slice_get (slice_set s.greatest q (Some more)) peer ≡ Some (Some more)) (sym here) set;
      within = new_by n asked.most more s.greatest peer asked.asked new_here asked.within;
    }
stays_for s place other peer n more false is new asked =
    let apart : peer ≢ other = λ e. let not = eqb-false other peer is in not (sym e) in
    record { most = asked.most; asked = set_other s.greatest other peer (Some more) (Some asked.most) apart asked.asked; within = asked.within }

stays_by : (s : InboundState) (at other peer n more : ℕ) (new : Bool) → is_new other more s.greatest ≡ new → HasAskedFor peer n s
    → HasAskedFor peer n (standing_after at other more s)
stays_by s at other peer n more true is asked =
    let stays = stays_for s at other peer n more (other == peer) refl is asked in
    rw is (record { most = stays.most; asked = stays.asked; within = stays.within })
stays_by s at other peer n more false is asked = rw is (record { most = asked.most; asked = asked.asked; within = asked.within })

pub asked_stays : (s : InboundState) (place peer number : ℕ) → peer < length s.greatest
    → HasAskedFor peer number (standing_after place peer number s)
    × ((at other more : ℕ) → HasAskedFor peer number s → HasAskedFor peer number (standing_after at other more s))
asked_stays s place peer number within = (
  asked_by s place peer number (is_new peer number s.greatest) within refl,
  λ at other more asked. stays_by s at other peer number more (is_new other more s.greatest) refl asked,
)

-- ---- what is current

differ : false ≡ true → ⊥
differ is = cc

-- what becomes of a WANT that is new, or isn't
abbrev after_by : ℕ → ℕ → ℕ → InboundState → Bool → InboundState
after_by place peer number s new =
    cond new
    (record { inbound = list_with_current place peer s.inbound; greatest = slice_set s.greatest peer (Some number) })
    (record { inbound = list_with_claim place peer s.inbound; greatest = s.greatest })

abbrev stranger_at : ℕ → Inbound → Bool
stranger_at place g = is_nobody g.owner && stands_at place g

nobodys_by : (a b : Bool) → (a && b) ≡ true → a ≡ true
nobodys_by true b is = refl
nobodys_by false b is = is

apart_by : (owner : Owner) (other : ℕ) → is_nobody owner ≡ true → is_current_of other owner ≡ true → ⊥
apart_by Nobody other is current = cc
apart_by (Peer p) other is current = cc
apart_by (Current p) other is current = cc

made_at : (xs : List Inbound) (peer i j other : ℕ) (g : Inbound) (same : Bool) → (i == j) ≡ same → j < length xs
    → slice_get (slice_set xs j (record (get_or xs j nobody) { owner = Peer peer })) i ≡ Some g → is_current_of other g.owner ≡ true
    → slice_get xs i ≡ Some g
made_at xs peer i j other g true is within at current =
    let here : i ≡ j = eqb-true i j is in
    let there = subst (λ (k : ℕ). slice_get (slice_set xs j (record (get_or xs j nobody) { owner = Peer peer })) k ≡ Some g) here at in
    let set = set_same xs j (record (get_or xs j nobody) { owner = Peer peer }) nobody within in
    let is_it : Some (record (get_or xs j nobody) { owner = Peer peer }) ≡ Some g = sym set ∙ there in
    let not = subst (λ (o : Option Inbound). option_map_or (λ (h : Inbound). is_current_of other h.owner) o true ≡ false) is_it refl in
    absurd (differ (sym not ∙ current))
made_at xs peer i j other g false is within at current =
    let apart : i ≢ j = eqb-false i j is in
    was_other xs j i (record (get_or xs j nobody) { owner = Peer peer }) g apart at

made_by : (xs : List Inbound) (place peer i other : ℕ) (g : Inbound) (at : Option ℕ) → position (stranger_at place) xs ≡ at
    → slice_get (list_with_owner at (Peer peer) xs) i ≡ Some g → is_current_of other g.owner ≡ true → slice_get xs i ≡ Some g
made_by xs place peer i other g None first at current = at
made_by xs place peer i other g (Some j) first at current =
    let found = position-Some (stranger_at place) xs j nobody first in
    let set = set_owner_at xs j (Peer peer) found.0 in
    made_at xs peer i j other g (i == j) refl found.0
    (subst (λ (ys : List Inbound). slice_get ys i ≡ Some g) set at) current

left_at : (xs : List Inbound) (peer i j other : ℕ) (g : Inbound) (same : Bool) → (i == j) ≡ same → is_nobody (get_or xs j nobody).owner ≡ true
    → slice_get xs i ≡ Some g → is_current_of other g.owner ≡ true
    → slice_get (slice_set xs j (record (get_or xs j nobody) { owner = Peer peer })) i ≡ Some g
left_at xs peer i j other g true is stranger at current =
    let here : i ≡ j = eqb-true i j is in
    let there = subst (λ (k : ℕ). slice_get xs k ≡ Some g) here at in
    let is_it = get_or_from_slice_get xs j g nobody there in
    absurd (apart_by g.owner other (subst (λ (h : Inbound). is_nobody h.owner ≡ true) is_it stranger) current)
left_at xs peer i j other g false is stranger at current =
    let apart : i ≢ j = eqb-false i j is in
    set_other xs j i (record (get_or xs j nobody) { owner = Peer peer }) g apart at

left_by : (xs : List Inbound) (place peer i other : ℕ) (g : Inbound) (at : Option ℕ) → position (stranger_at place) xs ≡ at
    → slice_get xs i ≡ Some g → is_current_of other g.owner ≡ true → slice_get (list_with_owner at (Peer peer) xs) i ≡ Some g
left_by xs place peer i other g None first at current = at
left_by xs place peer i other g (Some j) first at current =
    let found = position-Some (stranger_at place) xs j nobody first in
    let set = set_owner_at xs j (Peer peer) found.0 in
    let stranger = nobodys_by _ _ found.1 in
    subst (λ (ys : List Inbound). slice_get ys i ≡ Some g) (sym set) (left_at xs peer i j other g (i == j) refl stranger at current)

pub old_makes_none : (s : InboundState) (place peer number i other : ℕ) (g : Inbound) → HasAskedFor peer number s
    → slice_get (standing_after place peer number s).inbound i ≡ Some g → is_current_of other g.owner ≡ true → slice_get s.inbound i ≡ Some g
old_makes_none s place peer number i other g asked at current =
    let claimed = subst (λ (new : Bool). slice_get (after_by place peer number s new).inbound i ≡ Some g) (not_new peer number s asked) at in
    made_by s.inbound place peer i other g (position (stranger_at place) s.inbound) refl claimed current

pub old_leaves_current : (s : InboundState) (place peer number i other : ℕ) (g : Inbound) → HasAskedFor peer number s
    → slice_get s.inbound i ≡ Some g → is_current_of other g.owner ≡ true → slice_get (standing_after place peer number s).inbound i ≡ Some g
old_leaves_current s place peer number i other g asked at current =
    let stays = left_by s.inbound place peer i other g (position (stranger_at place) s.inbound) refl at current in
    subst (λ (new : Bool). slice_get (after_by place peer number s new).inbound i ≡ Some g) (sym (not_new peer number s asked)) stays
