-- What a desk keeps of a history, entry by entry.
use Rattle.std.proofs.Common.{◌≡◌, ℕ, ◌==◌, ◌+◌, ◌<◌, ◌≤◌, Bool, true, false, zero, suc, Some, None, List, [], ◌∷◌, ◌++◌, length, map, take, drop, get_or, slice_get, refl, sym, ap, ◌∙◌, subst, arith, inl, inr, append-nil, append_assoc, length-append, take-append-drop}
use Rattle.std.specs.List.{filter_map}
use Rattle.std.proofs.lemmas.List.{length-map, length_push, map_push, take_all, take_more}
use Rattle.std.proofs.lemmas.List.Elements.{filter_map-append}
use Rattle.std.proofs.lemmas.Option.{slice_get_within, get_or_from_slice_get}
use Rattle.pay_channel.specs.Asked.{ask_of, asked_values}
use Rattle.pay_desk.specs.declared.kept.Kept.{Kept}
use Rattle.pay_desk.specs.Kept.{kept_under}
use Rattle.pay_desk.specs.Laws.{AreUnderFreeIds}
use Rattle.pay_link.specs.Checked.{CheckedFields}
use Rattle.pay_member.specs.declared.event.HistoryEntry.{HistoryEntry}
use Rattle.pay_member.specs.declared.event.Event.{Event}
use Rattle.pay_member.specs.declared.event.Event.TheVariants.{Ask, Taken, Query}
use Rattle.pay_member.specs.Events.{channel_event, events}
use Rattle.pay_net.specs.Starting.{AreNoIdsOf, IsKeptOf, KeepsEntry, KeepsNext, LacksId, RefusesEntry}

-- ---- what an entry asked for

asked_both : (h g : List HistoryEntry) → asked_values (events (h ++ g)) ≡ asked_values (events h) ++ asked_values (events g)
unfolding asked_values events
asked_both h g =
    ap (filter_map ask_of) (filter_map-append (λ (x : HistoryEntry). channel_event x.event) h g)
    ∙ filter_map-append ask_of (events h) (events g)

value_asked : (e : HistoryEntry) (value : List ℕ) → e.event ≡ Ask value → asked_values (events (e ∷ [])) ≡ value ∷ []
unfolding asked_values events
value_asked e value is = rw is refl

frame_asked : (e : HistoryEntry) → (checked : CheckedFields) → e.event ≡ Taken checked → asked_values (events (e ∷ [])) ≡ []
unfolding asked_values events
frame_asked e checked is = rw is refl

query_asked : (e : HistoryEntry) (account : ℕ) → e.event ≡ Query account → asked_values (events (e ∷ [])) ≡ []
unfolding asked_values events
query_asked e account is = rw is refl

-- ---- one value more

free_more : (front more : List Kept) (k : Kept) → AreUnderFreeIds front more → kept_under k.id (front ++ more) ≡ None → AreUnderFreeIds front (more ++ k ∷ [])
free_more front [] k free none = (subst (λ (ks : List Kept). kept_under k.id ks ≡ None) (append-nil front) none, tt)
free_more front (x ∷ more) k (first, free) none =
    (first, free_more (front ++ x ∷ []) more k free (subst (λ (ks : List Kept). kept_under k.id ks ≡ None) (sym (append_assoc front (x ∷ []) more)) none))

abbrev NumberedFrom : ℕ → List Kept → Type 0
NumberedFrom first kept = (seq : ℕ) (k : Kept) → slice_get kept seq ≡ Some k → k.seq ≡ first + seq

some_same : (x y : Kept) → Some x ≡ Some y → x ≡ y
some_same x y is = cc

numbered_more : (first : ℕ) (kept : List Kept) (k : Kept) → k.seq ≡ first + length kept → NumberedFrom first kept → NumberedFrom first (kept ++ k ∷ [])
numbered_more first [] k is all zero x at = sym (ap (λ (y : Kept). y.seq) (some_same k x at)) ∙ is
numbered_more first [] k is all (suc seq) x at = cc
numbered_more first (y ∷ kept) k is all zero x at = all zero x at
numbered_more first (y ∷ kept) k is all (suc seq) x at =
    let rest : NumberedFrom (suc first) kept = λ s z there. (let one = all (suc s) z there in omega arith) in
    let here = numbered_more (suc first) kept k (omega arith) rest seq x at in
    omega arith

-- what is kept so far, under the first ids
abbrev pub AreKeptSoFar : List HistoryEntry → List ℕ → List Kept → Type 0
AreKeptSoFar h ids kept = IsKeptOf h kept × (map (λ (k : Kept). k.id) kept ≡ take (length kept) ids) × (length kept ≤ length ids)

value_more : (h : List HistoryEntry) (e : HistoryEntry) (ids value : List ℕ) (old new : List Kept) → e.event ≡ Ask value → AreKeptSoFar h ids old
    → KeepsNext ids value old new → AreKeptSoFar (h ++ e ∷ []) ids new
value_more h e ids value old new is so_far next =
    let k : Kept = record { id = next.id; value = value; seq = length old } in
    let within = slice_get_within ids (length old) next.id next.given in
    let long = length_push old k in
    let count : length new ≡ length old + 1 = ap length next.is ∙ long in
    let kept : IsKeptOf (h ++ e ∷ []) (old ++ k ∷ []) = record {
      values = map_push (λ (x : Kept). x.value) old k ∙ ap (λ (vs : List (List ℕ)). vs ++ value ∷ []) so_far.0.values
          ∙ ap (λ (vs : List (List ℕ)). asked_values (events h) ++ vs) (sym (value_asked e value is)) ∙ sym (asked_both h (e ∷ []));
      numbered = λ seq x at. (let here = numbered_more 0 old k (omega arith) (λ s z there. (let one = so_far.0.numbered s z there in omega arith)) seq x at in omega arith);
      free = free_more [] old k so_far.0.free next.free;
    } in
    let ids_are : map (λ (x : Kept). x.id) (old ++ k ∷ []) ≡ take (length old + 1) ids =
    map_push (λ (x : Kept). x.id) old k ∙ ap (λ (l : List ℕ). l ++ next.id ∷ []) so_far.1
    ∙ ap (λ (n : ℕ). take (length old) ids ++ n ∷ []) (sym (get_or_from_slice_get ids (length old) next.id next.id next.given))
    ∙ sym (take_more ids (length old) next.id within)
    in (
      subst (IsKeptOf (h ++ e ∷ [])) (sym next.is) kept,
      ap (map (λ (x : Kept). x.id)) next.is ∙ ids_are ∙ ap (λ n. take n ids) (sym count),
      omega arith,
    )

nothing_more : (h : List HistoryEntry) (e : HistoryEntry) (ids : List ℕ) (old new : List Kept) → asked_values (events (e ∷ [])) ≡ [] → AreKeptSoFar h ids old
    → new ≡ old → AreKeptSoFar (h ++ e ∷ []) ids new
nothing_more h e ids old new none so_far same =
    subst (AreKeptSoFar (h ++ e ∷ []) ids) (sym same) (
      record {
        values = so_far.0.values ∙ sym (append-nil (asked_values (events h))) ∙ ap (λ (vs : List (List ℕ)). asked_values (events h) ++ vs) (sym none) ∙ sym (asked_both h (e ∷ []));
        numbered = so_far.0.numbered;
        free = so_far.0.free;
      },
      so_far.1,
      so_far.2,
    )

entry_more : (h : List HistoryEntry) (e : HistoryEntry) (ids : List ℕ) (old new : List Kept) → AreKeptSoFar h ids old
    → KeepsEntry ids e.event old new → AreKeptSoFar (h ++ e ∷ []) ids new
entry_more h e ids old new so_far keeps = go e.event refl keeps where
  go : (event : Event) → e.event ≡ event → KeepsEntry ids event old new → AreKeptSoFar (h ++ e ∷ []) ids new
  go (Ask value) is next = value_more h e ids value old new is so_far next
  go (Taken checked) is same = nothing_more h e ids old new (frame_asked e checked is) so_far same
  go (Query account) is same = nothing_more h e ids old new (query_asked e account is) so_far same

pub kept_on : (h : List HistoryEntry) (i : ℕ) (e : HistoryEntry) (ids : List ℕ) (old new : List Kept) → i < length h → e ≡ get_or h i e
    → AreKeptSoFar (take i h) ids old → KeepsEntry ids e.event old new → AreKeptSoFar (take (i + 1) h) ids new
kept_on h i e ids old new below is so_far keeps =
    subst (λ (l : List HistoryEntry). AreKeptSoFar l ids new)
    (sym (take_more h i e below ∙ ap (λ (x : HistoryEntry). take i h ++ x ∷ []) (sym is)))
    (entry_more (take i h) e ids old new so_far keeps)

-- ---- a whole history

pub nothing_kept : IsKeptOf [] []
unfolding asked_values events
nothing_kept = record { values = refl; numbered = none_there; free = tt } where
  none_there : (seq : ℕ) (k : Kept) → slice_get [] seq ≡ Some k → k.seq ≡ seq
  none_there zero k is = cc
  none_there (suc seq) k is = cc

pub all_kept : (h : List HistoryEntry) (i : ℕ) (ids : List ℕ) (kept : List Kept) → length h ≤ i → length kept ≡ length ids
    → AreKeptSoFar (take i h) ids kept → IsKeptOf h kept × (map (λ (k : Kept). k.id) kept ≡ ids)
all_kept h i ids kept whole same so_far = (
  subst (λ (l : List HistoryEntry). IsKeptOf l kept) (take_all i h whole) so_far.0,
  so_far.1 ∙ ap (λ n. take n ids) same ∙ take_all (length ids) ids (omega arith),
)

-- ---- where no desk can go on so

-- before an ask fewer values were asked for
asked_here : (h : List HistoryEntry) (i : ℕ) (e : HistoryEntry) (value : List ℕ) → i < length h → e ≡ get_or h i e → e.event ≡ Ask value
    → length (asked_values (events (take i h))) + 1 ≤ length (asked_values (events h))
asked_here h i e value below is ask =
    let next : take (i + 1) h ≡ take i h ++ e ∷ [] = take_more h i e below ∙ ap (λ (x : HistoryEntry). take i h ++ x ∷ []) (sym is) in
    let both = asked_both (take (i + 1) h) (drop (i + 1) h) in
    let whole : asked_values (events h) ≡ asked_values (events (take (i + 1) h)) ++ asked_values (events (drop (i + 1) h)) =
    ap (λ (l : List HistoryEntry). asked_values (events l)) (sym (take-append-drop (i + 1) h)) ∙ both in
    let one : asked_values (events (take (i + 1) h)) ≡ asked_values (events (take i h)) ++ value ∷ [] =
    ap (λ (l : List HistoryEntry). asked_values (events l)) next ∙ asked_both (take i h) (e ∷ [])
    ∙ ap (λ (vs : List (List ℕ)). asked_values (events (take i h)) ++ vs) (value_asked e value ask) in
    let l1 : length (asked_values (events h)) ≡ length (asked_values (events (take (i + 1) h))) + length (asked_values (events (drop (i + 1) h))) = ap length whole ∙ length-append (asked_values (events (take (i + 1) h))) (asked_values (events (drop (i + 1) h))) in
    let l2 : length (asked_values (events (take (i + 1) h))) ≡ length (asked_values (events (take i h))) + 1 = ap length one ∙ length-append (asked_values (events (take i h))) (value ∷ []) in
    omega arith

-- of each value one is kept, under one id
many_kept : (h : List HistoryEntry) (kept : List Kept) → IsKeptOf h kept → length kept ≡ length (asked_values (events h))
many_kept h kept is = sym (length-map kept (λ (k : Kept). k.value)) ∙ ap length is.values

many_ids : (kept : List Kept) (ids : List ℕ) → map (λ (k : Kept). k.id) kept ≡ ids → length kept ≡ length ids
many_ids kept ids are = sym (length-map kept (λ (k : Kept). k.id)) ∙ ap length are

none_within : (ids : List ℕ) (n : ℕ) → slice_get ids n ≡ None → length ids ≤ n
none_within [] n none = omega arith
none_within (x ∷ ids) zero none = cc
none_within (x ∷ ids) (suc n) none = let rest = none_within ids n none in omega arith

-- what is kept under an id follows from the ids
same_find : (id : ℕ) (x y : Kept) (xs ys : List Kept) (b : Bool) → (y.id == id) ≡ b → x.id ≡ y.id → (kept_under id ys ≡ None → kept_under id xs ≡ None)
    → kept_under id (y ∷ ys) ≡ None → kept_under id (x ∷ xs) ≡ None
unfolding kept_under
same_find id x y xs ys true is same rest none = absurd (let found : Some y ≡ None = sym (rw is refl) ∙ none in cc)
same_find id x y xs ys false is same rest none =
    let other : (x.id == id) ≡ false = ap (λ i. i == id) same ∙ is in
    let below : kept_under id ys ≡ None = rw is at none in
    rw other (rest below)

none_by_ids : (id : ℕ) (xs ys : List Kept) → map (λ (k : Kept). k.id) xs ≡ map (λ (k : Kept). k.id) ys → kept_under id ys ≡ None → kept_under id xs ≡ None
none_by_ids id [] [] same none = none
none_by_ids id [] (y ∷ ys) same none = cc
none_by_ids id (x ∷ xs) [] same none = cc
none_by_ids id (x ∷ xs) (y ∷ ys) same none =
    let first : x.id ≡ y.id = cc in
    let others : map (λ (k : Kept). k.id) xs ≡ map (λ (k : Kept). k.id) ys = cc in
    same_find id x y xs ys (y.id == id) refl first (none_by_ids id xs ys others) none

-- each is kept under an id that was free until then
free_at : (front more : List Kept) (n : ℕ) (k : Kept) → AreUnderFreeIds front more → slice_get more n ≡ Some k → kept_under k.id (front ++ take n more) ≡ None
free_at front [] zero k free at = cc
free_at front [] (suc n) k free at = cc
free_at front (x ∷ more) zero k free at =
    let same : x ≡ k = cc in
    subst (λ (ks : List Kept). kept_under k.id ks ≡ None) (sym (append-nil front)) (subst (λ (y : Kept). kept_under y.id front ≡ None) same free.0)
free_at front (x ∷ more) (suc n) k free at =
    subst (λ (ks : List Kept). kept_under k.id ks ≡ None) (append_assoc front (x ∷ []) (take n more)) (free_at (front ++ x ∷ []) more n k free.1 at)

id_at : (xs : List Kept) (n id : ℕ) → slice_get (map (λ (k : Kept). k.id) xs) n ≡ Some id → (k : Kept) × (slice_get xs n ≡ Some k) × (k.id ≡ id)
id_at [] zero id at = cc
id_at [] (suc n) id at = cc
id_at (x ∷ xs) zero id at = (x, refl, cc)
id_at (x ∷ xs) (suc n) id at = id_at xs n id at

ids_of_front : (xs : List Kept) (n : ℕ) → map (λ (k : Kept). k.id) (take n xs) ≡ take n (map (λ (k : Kept). k.id) xs)
ids_of_front xs zero = refl
ids_of_front [] (suc n) = refl
ids_of_front (x ∷ xs) (suc n) = ap (λ l. x.id ∷ l) (ids_of_front xs n)

-- an id that is kept can't be next
used_twice : (ids : List ℕ) (old all : List Kept) (id : ℕ) → map (λ (k : Kept). k.id) old ≡ take (length old) ids → map (λ (k : Kept). k.id) all ≡ ids → AreUnderFreeIds [] all
    → slice_get ids (length old) ≡ Some id → kept_under id old ≡ None
used_twice ids old all id are whole free at =
    let there = id_at all (length old) id (subst (λ (l : List ℕ). slice_get l (length old) ≡ Some id) (sym whole) at) in
    let none : kept_under there.0.id (take (length old) all) ≡ None = free_at [] all (length old) there.0 free there.1 in
    let same : map (λ (k : Kept). k.id) old ≡ map (λ (k : Kept). k.id) (take (length old) all) = are ∙ ap (take (length old)) (sym whole) ∙ sym (ids_of_front all (length old)) in
    none_by_ids id old (take (length old) all) same (subst (λ i. kept_under i (take (length old) all) ≡ None) there.2 none)

lacks : (h : List HistoryEntry) (i : ℕ) (ids : List ℕ) (old : List Kept) → length (asked_values (events (take i h))) + 1 ≤ length (asked_values (events h))
    → AreKeptSoFar (take i h) ids old → LacksId ids old → AreNoIdsOf h ids
lacks h i ids old fewer so_far (inl none) = inl (λ kept is are.
    (let a = many_kept h kept is in let b = many_ids kept ids are in let c = none_within ids (length old) none in let d = many_kept (take i h) old so_far.0 in omega arith))
lacks h i ids old fewer so_far (inr (inl used)) = inl (λ kept is are. used.2 (used_twice ids old kept used.0 so_far.1 are is.free used.1))
lacks h i ids old fewer so_far (inr (inr many)) = inr (let d = many_kept (take i h) old so_far.0 in omega arith)

pub refused_at : (h : List HistoryEntry) (i : ℕ) (e : HistoryEntry) (ids : List ℕ) (old : List Kept) → i < length h → e ≡ get_or h i e
    → AreKeptSoFar (take i h) ids old → RefusesEntry ids e.event old → AreNoIdsOf h ids
refused_at h i e ids old below is so_far refuses = go e.event refl refuses where
  go : (event : Event) → e.event ≡ event → RefusesEntry ids event old → AreNoIdsOf h ids
  go (Ask value) ask lack = lacks h i ids old (asked_here h i e value below is ask) so_far lack
  go (Taken checked) ask lack = absurd lack
  go (Query account) ask lack = absurd lack
