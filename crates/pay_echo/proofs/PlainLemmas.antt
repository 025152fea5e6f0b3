-- Votes as places in a list of values: a value put at the list's end changes no vote, and a place written is
-- a vote written.
use Rattle.std.proofs.Common.{◌≡◌, ℕ, zero, suc, ◌<◌, ◌≤◌, Bool, true, false, cond, List, [], ◌∷◌, ◌++◌, length, set, replicate, slice_get, Option, None, Some, All, refl, sym, ap, ap₂, ◌∙◌, subst, arith, length-set, length-append, get_or-set_same, get_or-set_other}
use Rattle.std.specs.Option.{option_or}
use Rattle.std.specs.Bool.{then_some}
use Rattle.std.proofs.lemmas.List.{map-set, length-map, length-replicate, get_or-replicate, get_or_append_left}
use Rattle.std.proofs.lemmas.List.Elements.{All-set, All-weaker}
use Rattle.std.proofs.lemmas.Option.{slice_get-get_or, slice_get_within}
use Rattle.pay_frame.specs.declared.limits.TheConstants.{MOST_MEMBERS}
use Rattle.pay_echo.specs.Broadcast.{Group, Vote, Send, Echo, Ready, IsForeign, value_of}
use Rattle.pay_echo.specs.Step.{vote_at, is_send, put_echo, put_ready, put_if, with_moves}
use Rattle.pay_echo.specs.Plain.{value_at, votes_at_places, IsPlace, meaning_by, AreVotePlaces, AreDistinct}
use Rattle.pay_echo.specs.declared.instance.Moves.{Moves}

pub votes_at_places-none : (values : List (List ℕ)) (n : ℕ) → votes_at_places values (replicate n None) ≡ replicate n None
votes_at_places-none values zero = refl
votes_at_places-none values (suc n) = ap (λ (votes : List (Option (List ℕ))). None ∷ votes) (votes_at_places-none values n)

pub AreVotePlaces-none : (g : Group) (values : List (List ℕ)) → values ≡ [] → g.members ≤ MOST_MEMBERS → g.own < g.members → AreVotePlaces g values (replicate g.members None) (replicate g.members None) None
AreVotePlaces-none g values empty few member =
    let Place : Option ℕ → Type 0 = IsPlace (length values) in
    let none : Place None = tt in
    let places : All Place (replicate g.members None) = λ k d below. subst Place (sym (get_or-replicate g.members k None d (subst (λ n. k < n) (length-replicate g.members None) below))) none in
    record {
      few = few;
      own = member;
      distinct = rw empty (λ j k v one other. cc);
      echoed = length-replicate g.members None;
      readied = length-replicate g.members None;
      echo_places = places;
      ready_places = places;
      delivered_place = tt;
    }

-- ---- values that stay where they are

value_at-more : (values more : List (List ℕ)) (o : Option ℕ) → IsPlace (length values) o → value_at (values ++ more) o ≡ value_at values o
value_at-more values more None place = refl
value_at-more values more (Some k) place =
    let none : List ℕ = [] in
    slice_get-get_or (values ++ more) k none (omega (arith, place, length-append values more))
    ∙ ap (λ (v : List ℕ). Some v) (get_or_append_left values more none k place)
    ∙ sym (slice_get-get_or values k none place)

votes_at_places-more : (values more : List (List ℕ)) (places : List (Option ℕ)) → All (IsPlace (length values)) places → votes_at_places (values ++ more) places ≡ votes_at_places values places
votes_at_places-more values more [] all = refl
votes_at_places-more values more (o ∷ places) all =
    ap₂ (λ (v : Option (List ℕ)) (votes : List (Option (List ℕ))). v ∷ votes) (value_at-more values more o (all 0 None (omega arith))) (votes_at_places-more values more places (λ k d below. all (suc k) d (omega arith)))

IsPlace-more : (n m : ℕ) → n ≤ m → (o : Option ℕ) → IsPlace n o → IsPlace m o
IsPlace-more n m le None place = tt
IsPlace-more n m le (Some k) place = omega (arith, place)

-- ---- a place written

module _ (values : List (List ℕ)) (place : ℕ) (v : List ℕ) (is : slice_get values place ≡ Some v) where
  votes_at-set : (places : List (Option ℕ)) (p : ℕ) → votes_at_places values (set places p (Some place)) ≡ set (votes_at_places values places) p (Some v)
  votes_at-set places p = map-set (value_at values) places p (Some place) ∙ ap (λ o. set (votes_at_places values places) p o) is

  votes_at-put_echo : (own : ℕ) (x : Vote) (places : List (Option ℕ)) → votes_at_places values (put_echo own x place places) ≡ put_echo own x v (votes_at_places values places)
  votes_at-put_echo own (Send w) places = votes_at-set places own
  votes_at-put_echo own (Echo p w) places = votes_at-set places p
  votes_at-put_echo own (Ready p w) places = refl

  votes_at-put_ready : (x : Vote) (places : List (Option ℕ)) → votes_at_places values (put_ready x place places) ≡ put_ready x v (votes_at_places values places)
  votes_at-put_ready (Send w) places = refl
  votes_at-put_ready (Echo p w) places = refl
  votes_at-put_ready (Ready p w) places = votes_at-set places p

  votes_at-put_if : (due : Bool) (p : ℕ) (places : List (Option ℕ)) → votes_at_places values (put_if due p place places) ≡ put_if due p v (votes_at_places values places)
  votes_at-put_if true p places = votes_at-set places p
  votes_at-put_if false p places = refl

own_echo-put : (g : Group) (x : Vote) (v : List ℕ) (votes : List (Option (List ℕ))) → g.own < length votes → IsForeign g x → vote_at (put_echo g.own x v votes) g.own ≡ cond (is_send x) (Some v) (vote_at votes g.own)
own_echo-put g (Send w) v votes below foreign = get_or-set_same votes g.own (Some v) None below
own_echo-put g (Echo p w) v votes below foreign = get_or-set_other votes p g.own (Some v) None (λ e. foreign.1 (sym e))
own_echo-put g (Ready p w) v votes below foreign = refl

own_ready-put : (g : Group) (x : Vote) (v : List ℕ) (votes : List (Option (List ℕ))) → IsForeign g x → vote_at (put_ready x v votes) g.own ≡ vote_at votes g.own
own_ready-put g (Send w) v votes foreign = refl
own_ready-put g (Echo p w) v votes foreign = refl
own_ready-put g (Ready p w) v votes foreign = get_or-set_other votes p g.own (Some v) None (λ e. foreign.1 (sym e))

pub length-put_ready : {X : Type 0} (x : Vote) (y : X) (votes : List (Option X)) → length (put_ready x y votes) ≡ length votes
length-put_ready (Send w) y votes = refl
length-put_ready (Echo p w) y votes = refl
length-put_ready (Ready p w) y votes = length-set votes p (Some y)

length-put_echo : {X : Type 0} (own : ℕ) (x : Vote) (y : X) (votes : List (Option X)) → length (put_echo own x y votes) ≡ length votes
length-put_echo own (Send w) y votes = length-set votes own (Some y)
length-put_echo own (Echo p w) y votes = length-set votes p (Some y)
length-put_echo own (Ready p w) y votes = refl

length-put_if : {X : Type 0} (due : Bool) (p : ℕ) (y : X) (votes : List (Option X)) → length (put_if due p y votes) ≡ length votes
length-put_if true p y votes = length-set votes p (Some y)
length-put_if false p y votes = refl

own-put_if : (due : Bool) (own : ℕ) (v : List ℕ) (votes : List (Option (List ℕ))) → own < length votes → vote_at (put_if due own v votes) own ≡ cond due (Some v) (vote_at votes own)
own-put_if true own v votes below = get_or-set_same votes own (Some v) None below
own-put_if false own v votes below = refl

All-put_echo : (P : Option ℕ → Type 0) (own : ℕ) (x : Vote) (place : ℕ) (places : List (Option ℕ)) → P (Some place) → All P places → All P (put_echo own x place places)
All-put_echo P own (Send w) place places p all = All-set P places own (Some place) p all
All-put_echo P own (Echo q w) place places p all = All-set P places q (Some place) p all
All-put_echo P own (Ready q w) place places p all = all

All-put_ready : (P : Option ℕ → Type 0) (x : Vote) (place : ℕ) (places : List (Option ℕ)) → P (Some place) → All P places → All P (put_ready x place places)
All-put_ready P (Send w) place places p all = all
All-put_ready P (Echo q w) place places p all = all
All-put_ready P (Ready q w) place places p all = All-set P places q (Some place) p all

All-put_if : (P : Option ℕ → Type 0) (due : Bool) (q place : ℕ) (places : List (Option ℕ)) → P (Some place) → All P places → All P (put_if due q place places)
All-put_if P true q place places p all = All-set P places q (Some place) p all
All-put_if P false q place places p all = all

-- ---- a vote counted

module _ (g : Group) (values more : List (List ℕ)) (echoes readys : List (Option ℕ)) (delivered : Option ℕ) (x : Vote) (place : ℕ) (moves : Moves) (are : AreVotePlaces g values echoes readys delivered) (distinct : AreDistinct (values ++ more)) (is : slice_get (values ++ more) place ≡ Some (value_of x)) where
  abbrev kept : List (List ℕ)
  kept = values ++ more

  longer : length values ≤ length kept
  longer = omega (arith, length-append values more)

  inside : IsPlace (length kept) (Some place)
  inside = slice_get_within kept place (value_of x) is

  abbrev echoes_now : List (Option ℕ)
  echoes_now = put_echo g.own x place echoes

  abbrev readys_now : List (Option ℕ)
  readys_now = put_if moves.ready g.own place (put_ready x place readys)

  abbrev delivered_now : Option ℕ
  delivered_now = option_or (then_some moves.deliver place) delivered

  pub counted-ArePlaces : AreVotePlaces g kept echoes_now readys_now delivered_now
  counted-ArePlaces =
      let Place : Option ℕ → Type 0 = IsPlace (length kept) in
      let weaker = IsPlace-more (length values) (length kept) longer in
      record {
        few = are.few;
        own = are.own;
        distinct = distinct;
        echoed = length-put_echo g.own x place echoes ∙ are.echoed;
        readied = length-put_if moves.ready g.own place (put_ready x place readys) ∙ length-put_ready x place readys ∙ are.readied;
        echo_places = All-put_echo Place g.own x place echoes inside (All-weaker (IsPlace (length values)) Place weaker echoes are.echo_places);
        ready_places = All-put_if Place moves.ready g.own place (put_ready x place readys) inside (All-put_ready Place x place readys inside (All-weaker (IsPlace (length values)) Place weaker readys are.ready_places));
        delivered_place = placed moves.deliver (weaker delivered are.delivered_place);
      } where
        placed : (due : Bool) → IsPlace (length kept) delivered → IsPlace (length kept) (option_or (then_some due place) delivered)
        placed true before = inside
        placed false before = before

  pub counted-meaning : IsForeign g x → meaning_by g kept echoes_now readys_now delivered_now ≡ with_moves (meaning_by g values echoes readys delivered) x moves
  counted-meaning foreign =
      let v = value_of x in
      let echo_votes : votes_at_places kept echoes_now ≡ put_echo g.own x v (votes_at_places values echoes) =
      votes_at-put_echo kept place v is g.own x echoes ∙ ap (put_echo g.own x v) (votes_at_places-more values more echoes are.echo_places) in
      let ready_votes : votes_at_places kept readys_now ≡ put_if moves.ready g.own v (put_ready x v (votes_at_places values readys)) =
      votes_at-put_if kept place v is moves.ready g.own (put_ready x place readys)
      ∙ ap (put_if moves.ready g.own v) (votes_at-put_ready kept place v is x readys ∙ ap (put_ready x v) (votes_at_places-more values more readys are.ready_places)) in
      let below : g.own < length (votes_at_places values echoes) = rw (length-map echoes (value_at values), are.echoed) are.own in
      let below_ready : g.own < length (put_ready x v (votes_at_places values readys)) = rw (length-put_ready x v (votes_at_places values readys), length-map readys (value_at values), are.readied) are.own in
      let echoed = ap (λ votes. vote_at votes g.own) echo_votes ∙ own_echo-put g x v (votes_at_places values echoes) below foreign in
      let readied = ap (λ votes. vote_at votes g.own) ready_votes ∙ own-put_if moves.ready g.own v (put_ready x v (votes_at_places values readys)) below_ready ∙ ap (cond moves.ready (Some v)) (own_ready-put g x v (votes_at_places values readys) foreign) in
      λ i. record { group = g; echoed = echoed i; echoes = echo_votes i; readied = readied i; readys = ready_votes i; delivered = handed moves.deliver i } where
        handed : (due : Bool) → value_at kept (option_or (then_some due place) delivered) ≡ cond due (Some (value_of x)) (value_at values delivered)
        handed true = is
        handed false = value_at-more values more delivered are.delivered_place
