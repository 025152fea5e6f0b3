-- The members of a world: at first, and after one of them changed.
use Rattle.std.proofs.Common.{◌≡◌, ◌≢◌, ◌⊎◌, inl, inr, ⊎_elim, ℕ, zero, suc, ◌+◌, ◌<◌, ◌≤◌, Bool, true, false, not, cond, ltb, ◌&&◌, List, [], ◌∷◌, ◌++◌, length, get_or, map, set, slice_get, take, Option, None, Some, is_some, option_map, option_and_then, refl, sym, ap, ◌∙◌, subst, arith, append-nil}
use Rattle.std.specs.Option.{option_map_or}
use Rattle.std.proofs.lemmas.List.{length-map, length-set, map_more, get_or-set_same, set-get_or}
use Rattle.std.proofs.lemmas.Bool.{cases_eq}
use Rattle.std.proofs.lemmas.Bool.Decides.{nat_tests}
use Rattle.std.proofs.lemmas.Option.{slice_get-map, slice_get_within, slice_get_cases, slice_get-get_or, get_or_from_slice_get, option_and_then_some, none-some, same_Some}
use Rattle.pay_echo.specs.Quorums.{SizeOfListed}
use Rattle.pay_link.specs.Genesis.{GenesisFields, IsGenesis}
use Rattle.pay_link.specs.Keys.{KeyFields, IsKeysOf}
use Rattle.pay_member.specs.Events.{events}
use Rattle.pay_member.specs.Member.{MemberFields}
use Rattle.pay_world.specs.Setting.{Setting, is_correct, HasFewFaulty}
use Rattle.pay_world.specs.Actions.{Action, member_of, adds}
use Rattle.pay_world.specs.Stands.{Stands}
use Rattle.pay_world.specs.StandLaws.{StandsAtFirst}
use Rattle.pay_world.specs.Liars.{LiarFields, AreLiars, AreLiarsOf, is_listed, setting_of}
use Rattle.pay_world.specs.World.{WorldFields, setting_in, member_at, events_at, IsMemberAt, IsWorld, AreKeysOf, fresh_place, fresh_world}
use Rattle.pay_world.proofs.Taking.{adds-elsewhere}

-- ---- places of a list

pub none_past : {X : Type 0} (xs : List X) (i : ℕ) → slice_get xs i ≡ None → length xs ≤ i
none_past xs i is = ⊎_elim (λ inside. absurd (none-some inside.0 (sym is ∙ inside.2))) (λ past. past.0) (slice_get_cases xs i).1

get-set_same : {X : Type 0} (xs : List X) (i : ℕ) (y : X) → i < length xs → slice_get (set xs i y) i ≡ Some y
get-set_same xs i y inside =
    slice_get-get_or (set xs i y) i y (subst (λ n. i < n) (sym (length-set xs i y)) inside) ∙ ap Some (get_or-set_same xs i y y inside)

get-set_other : {X : Type 0} (xs : List X) (i j : ℕ) (y : X) → j ≢ i → slice_get (set xs i y) j ≡ slice_get xs j
get-set_other [] i j y differs = refl
get-set_other (x ∷ xs) zero zero y differs = absurd (differs refl)
get-set_other (x ∷ xs) zero (suc j) y differs = refl
get-set_other (x ∷ xs) (suc i) zero y differs = refl
get-set_other (x ∷ xs) (suc i) (suc j) y differs = get-set_other xs i j y (λ same. differs (ap suc same))

-- past the end there is nobody
pub past_is_none : (members : List (Option MemberFields)) (i : ℕ) → length members ≤ i → member_at members i ≡ None
past_is_none members i past = ap (option_and_then (λ m. m)) (go (slice_get members i) refl) where
  go : (o : Option (Option MemberFields)) → slice_get members i ≡ o → slice_get members i ≡ None
  go None is = is
  go (Some o) is = absurd (let inside = slice_get_within members i o is in omega arith)

-- a place more of what comes of each element
pub placed_more :
    {X Y : Type 0} (f : X → Y) (xs : List X) (i : ℕ) (d : X) (before after : List Y) (y : Y)
    → i < length xs → before ≡ map f (take i xs) → y ≡ f (get_or xs i d) → after ≡ before ++ y ∷ [] → after ≡ map f (take (i + 1) xs)
placed_more f xs i d before after y inside so_far here more =
    more
    ∙ ap (λ l. l ++ y ∷ []) so_far
    ∙ ap (λ z. map f (take i xs) ++ z ∷ []) here
    ∙ sym (map_more f xs i d inside)

-- writing what is there changes nothing
pub set_same : {X : Type 0} (xs : List X) (i : ℕ) (y : X) → slice_get xs i ≡ Some y → set xs i y ≡ xs
set_same xs i y is = sym (ap (set xs i) (get_or_from_slice_get xs i y y is)) ∙ set-get_or xs i y

-- ---- few lie

pub few_lie :
    SizeOfListed → (g : GenesisFields) (l : LiarFields) → IsGenesis g → AreLiars l → AreLiarsOf g l → HasFewFaulty (setting_of l)
few_lie listed g l limits are of =
    let most = listed l.members l.liars in
    let few = are.few in
    let honest = limits.honest in
    let members = of.members in
    let faults = of.faults in
    record { few = omega arith; many = omega arith }

-- ---- a new world

place_some : (b : Bool) (x m : MemberFields) → cond b None (Some x) ≡ Some m → x ≡ m
place_some true x m is = absurd (none-some m is)
place_some false x m is = same_Some x m is

place_there : (b : Bool) (x : MemberFields) → is_some (cond b None (Some x)) ≡ not b
place_there true x = refl
place_there false x = refl

place_empty : (b : Bool) (g : GenesisFields) (k : KeyFields) → option_map_or (λ (m : MemberFields). events m.history) (cond b None (Some (record { genesis = g; keys = k; history = [] }))) [] ≡ []
unfolding events
place_empty true g k = refl
place_empty false g k = refl

module _ (g : GenesisFields) (keys : List KeyFields) (l : LiarFields) where
  pub placed : (i : ℕ) (o : Option KeyFields) → slice_get keys i ≡ o → member_at (map (fresh_place g l) keys) i ≡ option_and_then (fresh_place g l) o
  placed i o is = go o (slice_get-map (fresh_place g l) keys i ∙ ap (option_map (fresh_place g l)) is) where
    go : (x : Option KeyFields) → slice_get (map (fresh_place g l) keys) i ≡ option_map (fresh_place g l) x → member_at (map (fresh_place g l) keys) i ≡ option_and_then (fresh_place g l) x
    go None at = ap (option_and_then (λ m. m)) at
    go (Some k) at = ap (option_and_then (λ m. m)) at

  pub fresh_empty : (i : ℕ) → events_at (map (fresh_place g l) keys) i ≡ []
  fresh_empty i = go (slice_get keys i) refl where
    go : (o : Option KeyFields) → slice_get keys i ≡ o → events_at (map (fresh_place g l) keys) i ≡ []
    go None is = ap (λ (x : Option MemberFields). option_map_or (λ (m : MemberFields). events m.history) x []) (placed i None is)
    go (Some k) is =
        ap (λ (x : Option MemberFields). option_map_or (λ (m : MemberFields). events m.history) x []) (placed i (Some k) is)
        ∙ place_empty (is_listed l.liars k.own) g k

module _ (g : GenesisFields) (keys : List KeyFields) (l : LiarFields) (limits : IsGenesis g) (are : AreLiars l) (of : AreLiarsOf g l) (given : AreKeysOf g keys) where
  fresh_there : (i : ℕ) → is_some (member_at (map (fresh_place g l) keys) i) ≡ is_correct (setting_of l) i
  fresh_there i = go (slice_get keys i) refl where
    members : l.members ≡ length keys
    members = of.members ∙ sym given.one_for_each

    go : (o : Option KeyFields) → slice_get keys i ≡ o → is_some (member_at (map (fresh_place g l) keys) i) ≡ is_correct (setting_of l) i
    go None is =
        let past : length keys ≤ i = none_past keys i is in
        let same = members in
        let test : ltb i l.members ≡ false = grind (arith, nat_tests) in
        ap is_some (placed g keys l i None is) ∙ sym (ap (λ b. b && not (is_listed l.liars i)) test)
    go (Some k) is =
        let inside : i < length keys = slice_get_within keys i k is in
        let same = members in
        let test : ltb i l.members ≡ true = grind (arith, nat_tests) in
        ap is_some (placed g keys l i (Some k) is)
        ∙ place_there (is_listed l.liars k.own) (record { genesis = g; keys = k; history = [] })
        ∙ ap (λ n. not (is_listed l.liars n)) (given.own i k is)
        ∙ sym (ap (λ b. b && not (is_listed l.liars i)) test)

  fresh_each : (i : ℕ) (m : MemberFields) → member_at (map (fresh_place g l) keys) i ≡ Some m → IsMemberAt g i m
  fresh_each i m there = go (slice_get keys i) refl where
    go : (o : Option KeyFields) → slice_get keys i ≡ o → IsMemberAt g i m
    go None is = absurd (none-some m (sym (placed g keys l i None is) ∙ there))
    go (Some k) is =
        subst (IsMemberAt g i)
        (place_some (is_listed l.liars k.own) (record { genesis = g; keys = k; history = [] }) m (sym (placed g keys l i (Some k) is) ∙ there))
        (record { genesis = refl; own = given.own i k is; keys = given.of i k is })

  pub fresh_is_world : StandsAtFirst → IsWorld (fresh_world g keys l)
  fresh_is_world first = record {
    genesis = limits;
    liars = are;
    group = of;
    places = length-map keys (fresh_place g l) ∙ given.one_for_each;
    there = fresh_there;
    each = fresh_each;
    stands = subst (Stands (setting_of l)) (λ t i. sym (fresh_empty g keys l i) t) (first (setting_of l));
  }

-- ---- one member changed

-- the place of a member that is there
pub place_of : (members : List (Option MemberFields)) (i : ℕ) (m : MemberFields) → member_at members i ≡ Some m → slice_get members i ≡ Some (Some m)
place_of members i m there =
    option_and_then_some {P = slice_get members i ≡ Some (Some m)} (λ x. x) (slice_get members i) m there (λ x is at. is ∙ ap Some at)

module _ (members : List (Option MemberFields)) (i : ℕ) (old new : MemberFields) (here : slice_get members i ≡ Some (Some old)) where
  inside : i < length members
  inside = slice_get_within members i (Some old) here

  pub member_here : member_at (set members i (Some new)) i ≡ Some new
  member_here = ap (option_and_then (λ m. m)) (get-set_same members i (Some new) inside)

  pub member_elsewhere : (j : ℕ) → j ≢ i → member_at (set members i (Some new)) j ≡ member_at members j
  member_elsewhere j differs = ap (option_and_then (λ m. m)) (get-set_other members i j (Some new) differs)

  was_here : member_at members i ≡ Some old
  was_here = ap (option_and_then (λ m. m)) here

  history_here : events_at (set members i (Some new)) i ≡ events new.history
  history_here = ap (λ (x : Option MemberFields). option_map_or (λ (m : MemberFields). events m.history) x []) member_here

  history_elsewhere : (j : ℕ) → j ≢ i → events_at (set members i (Some new)) j ≡ events_at members j
  history_elsewhere j differs = ap (λ (x : Option MemberFields). option_map_or (λ (m : MemberFields). events m.history) x []) (member_elsewhere j differs)

  history_was : events_at members i ≡ events old.history
  history_was = ap (λ (x : Option MemberFields). option_map_or (λ (m : MemberFields). events m.history) x []) was_here

  -- the histories grow by what the action adds
  pub histories_by :
      (w : Setting) (d : Action) → member_of d ≡ i → events new.history ≡ events old.history ++ adds w i (events old.history) d
      → (j : ℕ) → events_at (set members i (Some new)) j ≡ events_at members j ++ adds w j (events_at members j) d
  histories_by w d to grown j = go (cases_eq j i) where
    go : ((j ≡ i) ⊎ (j ≢ i)) → events_at (set members i (Some new)) j ≡ events_at members j ++ adds w j (events_at members j) d
    go (inl same) =
        let At : ℕ → Type 0 = λ k. events_at (set members i (Some new)) k ≡ events_at members k ++ adds w k (events_at members k) d in
        subst At (sym same) (history_here ∙ grown ∙ sym (ap (λ l. l ++ adds w i l d) history_was))
    go (inr differs) =
        history_elsewhere j differs
        ∙ sym (append-nil (events_at members j))
        ∙ sym (ap (λ l. events_at members j ++ l) (adds-elsewhere w j (events_at members j) d (λ same. differs (same ∙ to))))

-- one member changed, and it still stands between the histories
pub changed_is_world :
    (w : WorldFields) (i : ℕ) (old new : MemberFields) (n : ℕ) → IsWorld w → slice_get w.members i ≡ Some (Some old)
    → new.genesis ≡ old.genesis → new.keys ≡ old.keys → Stands (setting_in w) (events_at (set w.members i (Some new)))
    → IsWorld (record { genesis = w.genesis; liars = w.liars; members = set w.members i (Some new); answered = n })
changed_is_world w i old new n is here genesis keys stands = record {
  genesis = is.genesis;
  liars = is.liars;
  group = is.group;
  places = length-set w.members i (Some new) ∙ is.places;
  there = λ j. there j (cases_eq j i);
  each = λ j m at. each j m at (cases_eq j i);
  stands = stands;
} where
  was : member_at w.members i ≡ Some old
  was = ap (option_and_then (λ m. m)) here

  there : (j : ℕ) → ((j ≡ i) ⊎ (j ≢ i)) → is_some (member_at (set w.members i (Some new)) j) ≡ is_correct (setting_in w) j
  there j (inl same) =
      let At : ℕ → Type 0 = λ k. is_some (member_at (set w.members i (Some new)) k) ≡ is_correct (setting_in w) k in
      subst At (sym same) (ap is_some (member_here w.members i old new here) ∙ sym (ap is_some was) ∙ is.there i)
  there j (inr differs) = ap is_some (member_elsewhere w.members i old new here j differs) ∙ is.there j

  each : (j : ℕ) (m : MemberFields) → member_at (set w.members i (Some new)) j ≡ Some m → ((j ≡ i) ⊎ (j ≢ i)) → IsMemberAt w.genesis j m
  each j m at (inr differs) = is.each j m (sym (member_elsewhere w.members i old new here j differs) ∙ at)
  each j m at (inl same) =
      let before : IsMemberAt w.genesis i old = is.each i old was in
      let now : new ≡ m = same_Some new m (sym (member_here w.members i old new here) ∙ sym (ap (member_at (set w.members i (Some new))) same) ∙ at) in
      let after : IsMemberAt w.genesis i new = record {
        genesis = genesis ∙ before.genesis;
        own = ap (λ (k : KeyFields). k.own) keys ∙ before.own;
        keys = subst (IsKeysOf w.genesis) (sym keys) before.keys;
      } in
      subst (λ x. IsMemberAt w.genesis x m) (sym same) (subst (IsMemberAt w.genesis i) now after)

-- the same world but for its count
pub counted_is_world :
    (w : WorldFields) (n : ℕ) → IsWorld w → IsWorld (record { genesis = w.genesis; liars = w.liars; members = w.members; answered = n })
counted_is_world w n is = record {
  genesis = is.genesis;
  liars = is.liars;
  group = is.group;
  places = is.places;
  there = is.there;
  each = is.each;
  stands = is.stands;
}
