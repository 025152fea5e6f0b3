-- Which faults files have, and when.
use Rattle.std.proofs.Common.{◌≡◌, ◌≢◌, ℕ, zero, suc, ◌+◌, ◌*◌, ◌<◌, ◌==◌, ◌||◌, nat_le, nat_lt, Bool, true, false, List, [], ◌∷◌, length, sum, ◌⊎◌, inl, inr, add-zero, zero-add, Option, Some, None, Result, Ok, Err, refl, sym, ap, ◌∙◌, ◌↔◌, arith, if◌then◌else◌, slice_index_or}
use Rattle.std.specs.Prelude.{IsSome, ok_or}
use Rattle.std.specs.Option.{option_map_or}
use Rattle.pay_frame.specs.declared.limits.TheConstants.{MOST_MEMBERS}
use Rattle.pay_link.specs.declared.limits.TheConstants.{GREATEST_TOTAL}
use Rattle.pay_link.specs.Json.{Data, value_in}
use Rattle.pay_link.specs.Files.{IsLeastBad, KeysSaid, SaysKeys, genesis_in, genesis_said, key_at, keys_from, keys_in_file, keys_judged, keys_said, ◌>>=◌}
use Rattle.pay_link.specs.Genesis.{GenesisFields, genesis_fault}
use Rattle.pay_link.specs.Keys.{KeyFields, no_key, place_fault}
use Rattle.pay_link.specs.declared.genesis.GenesisFault.{GenesisFault}
use Rattle.pay_link.specs.declared.genesis.GenesisFault.TheVariants as genesis
use Rattle.pay_link.specs.declared.keys.KeysFault.{KeysFault}
use Rattle.pay_link.specs.declared.keys.KeysFault.TheVariants as keys

-- the four tests of a genesis in their order
abbrev tested : Bool → Bool → Bool → Bool → Option GenesisFault
tested count faults opening total =
    if count then Some genesis.BadCount
    else if faults then Some genesis.BadFaults
    else if opening
    then (if total then None else Some genesis.BadTotal)
    else Some genesis.BadOpening

tested-no_json : (a b c d : Bool) → tested a b c d ≡ Some genesis.BadJson → ⊥
tested-no_json true b c d h = cc
tested-no_json false true c d h = cc
tested-no_json false false true true h = cc
tested-no_json false false true false h = cc
tested-no_json false false false d h = cc

tested-no_shape : (a b c d : Bool) → tested a b c d ≡ Some genesis.BadShape → ⊥
tested-no_shape true b c d h = cc
tested-no_shape false true c d h = cc
tested-no_shape false false true true h = cc
tested-no_shape false false true false h = cc
tested-no_shape false false false d h = cc

genesis_fault-no_json : (g : GenesisFields) → genesis_fault g ≢ Some genesis.BadJson
genesis_fault-no_json g = tested-no_json (g.members == 0 || nat_lt MOST_MEMBERS g.members)
    (nat_le g.members (3 * g.faults)) (length g.opening == g.members) (nat_le (sum g.opening) GREATEST_TOTAL)

genesis_fault-no_shape : (g : GenesisFields) → genesis_fault g ≢ Some genesis.BadShape
genesis_fault-no_shape g = tested-no_shape (g.members == 0 || nat_lt MOST_MEMBERS g.members)
    (nat_le g.members (3 * g.faults)) (length g.opening == g.members) (nat_le (sum g.opening) GREATEST_TOTAL)

-- what is judged after the shape answers a fault of its own, or what was judged
abbrev judged : {A E : Type 0} → Option E → A → Result A E
judged fault a = option_map_or Err fault (Ok a)

judged-err : {A E : Type 0} (fault : Option E) (a : A) (e : E) → judged fault a ≡ Err e → fault ≡ Some e
judged-err None a e h = absurd cc
judged-err (Some x) a e h = cc

-- a file in its steps: whether it has a value, whether the value has a shape, and what is judged of it
abbrev steps : {A B E : Type 0} → E → E → (Data → Option A) → (A → Result B E) → Option Data → Result B E
steps json shape said rest o = ok_or o json >>= λ d. (ok_or (said d) shape >>= rest)

steps-json : {A B E : Type 0} (json shape : E) (said : Data → Option A) (rest : A → Result B E) (o : Option Data)
    → (json ≢ shape) → ((a : A) → rest a ≢ Err json) → (steps json shape said rest o ≡ Err json) ↔ (o ≡ None)
steps-json json shape said rest None apart other = (λ h. refl, λ h. refl)
steps-json json shape said rest (Some d) apart other = (
  λ h. absurd (elim (said d) as (λ s. (ok_or s shape >>= rest) ≡ Err json → ⊥) [ None ↦ λ e. apart cc | Some a ↦ other a ] h),
  λ h. absurd cc,
)

steps-shape : {A B E : Type 0} (json shape : E) (said : Data → Option A) (rest : A → Result B E) (o : Option Data)
    → (json ≢ shape) → ((a : A) → rest a ≢ Err shape)
    → (steps json shape said rest o ≡ Err shape) ↔ ((d : Data) × ((o ≡ Some d) × (said d ≡ None)))
steps-shape json shape said rest None apart other = (λ h. absurd (apart cc), λ h. absurd cc)
steps-shape json shape said rest (Some d) apart other = (
  λ h. (d, (refl, elim (said d) as (λ s. (ok_or s shape >>= rest) ≡ Err shape → s ≡ None) [ None ↦ λ e. refl | Some a ↦ λ e. absurd (other a e) ] h)),
  λ h. let same : d ≡ h.0 = cc in rw (same, h.1.1) refl,
)

pub genesis_json_law : (bytes : List ℕ) → (genesis_in bytes ≡ Err genesis.BadJson) ↔ (value_in bytes ≡ None)
genesis_json_law bytes =
    steps-json genesis.BadJson genesis.BadShape genesis_said (λ g. judged (genesis_fault g) g) (value_in bytes) (λ e. cc)
    (λ g h. genesis_fault-no_json g (judged-err _ g _ h))

pub genesis_shape_law : (bytes : List ℕ) → (genesis_in bytes ≡ Err genesis.BadShape)
    ↔ ((d : Data) × ((value_in bytes ≡ Some d) × (genesis_said d ≡ None)))
genesis_shape_law bytes =
    steps-shape genesis.BadJson genesis.BadShape genesis_said (λ g. judged (genesis_fault g) g) (value_in bytes) (λ e. cc)
    (λ g h. genesis_fault-no_shape g (judged-err _ g _ h))

place_tested-no_json : (own count : Bool) → (if own then Some keys.BadOwn else if count then None else Some keys.BadKeyCount) ≡ Some keys.BadJson → ⊥
place_tested-no_json true count h = cc
place_tested-no_json false true h = cc
place_tested-no_json false false h = cc

place_tested-no_shape : (own count : Bool) → (if own then Some keys.BadOwn else if count then None else Some keys.BadKeyCount) ≡ Some keys.BadShape → ⊥
place_tested-no_shape true count h = cc
place_tested-no_shape false true h = cc
place_tested-no_shape false false h = cc

place_tested-no_key : (own count : Bool) (p : ℕ) → (if own then Some keys.BadOwn else if count then None else Some keys.BadKeyCount) ≡ Some (keys.BadKey p) → ⊥
place_tested-no_key true count p h = cc
place_tested-no_key false true p h = cc
place_tested-no_key false false p h = cc

-- one text, and the others
abbrev said_step : ℕ → Option (List ℕ) → Result (List (List ℕ)) KeysFault → Result (List (List ℕ)) KeysFault
said_step place o r = ok_or o (keys.BadKey place) >>= λ key. (r >>= λ others. Ok (key ∷ others))

said_step-err : (place : ℕ) (e : KeysFault) (o : Option (List ℕ)) (r : Result (List (List ℕ)) KeysFault) →
    said_step place o r ≡ Err e → ((o ≡ None) × (e ≡ keys.BadKey place)) ⊎ (IsSome o × (r ≡ Err e))
said_step-err place e None r h = inl (refl, cc)
said_step-err place e (Some k) (Ok ks) h = absurd cc
said_step-err place e (Some k) (Err x) h = inr (refl, cc)

said_step-later : (place : ℕ) (e : KeysFault) (o : Option (List ℕ)) (r : Result (List (List ℕ)) KeysFault) →
    IsSome o → r ≡ Err e → said_step place o r ≡ Err e
said_step-later place e None r some h = absurd cc
said_step-later place e (Some k) r some h = rw h refl

-- the texts from a place on say no key first at the i-th of them
record IsBadFrom (own place : ℕ) (texts : List (List ℕ)) (i : ℕ) : Type 0 where
  within : i < length texts
  bad : key_at own (place + i) (slice_index_or texts i []) ≡ None
  least : (q : ℕ) → q < i → IsSome (key_at own (place + q) (slice_index_or texts q []))

least-more : (own place : ℕ) (t : List ℕ) (ts : List (List ℕ)) (i : ℕ) → IsSome (key_at own place t) →
    ((q : ℕ) → q < i → IsSome (key_at own (place + 1 + q) (slice_index_or ts q []))) →
    (q : ℕ) → q < suc i → IsSome (key_at own (place + q) (slice_index_or (t ∷ ts) q []))
least-more own place t ts i some least zero h = rw (add-zero place) some
least-more own place t ts i some least (suc q) h =
    let e : place + suc q ≡ place + 1 + q = omega arith in
    rw e (least q (omega arith))

bad_from : (own place : ℕ) (texts : List (List ℕ)) (p : ℕ) → keys_from own place texts ≡ Err (keys.BadKey p) →
    (i : ℕ) × ((p ≡ place + i) × IsBadFrom own place texts i)
bad_from own place [] p h = absurd cc
bad_from own place (t ∷ ts) p h =
    elim (said_step-err place _ (key_at own place t) (keys_from own (place + 1) ts) h) [
      | inl w ↦ (
        0,
        (
          let same : p ≡ place = cc in omega arith,
          record { within = omega arith; bad = rw (add-zero place) w.0; least = λ q lt. absurd (omega arith) },
        ),
      )
      | inr w ↦
          let rest = bad_from own (place + 1) ts p w.1 in
          let is = rest.1.1 in
          let e : place + suc rest.0 ≡ place + 1 + rest.0 = omega arith in (
            suc rest.0,
            (
              omega (arith, rest.1.0),
              record {
                within = omega (arith, is.within);
                bad = rw e is.bad;
                least = least-more own place t ts rest.0 w.0 is.least;
              },
            ),
          )
    ]

from_bad : (own place : ℕ) (texts : List (List ℕ)) (i : ℕ) → IsBadFrom own place texts i →
    keys_from own place texts ≡ Err (keys.BadKey (place + i))
from_bad own place [] i is = absurd (omega (arith, is.within))
from_bad own place (t ∷ ts) zero is =
    let none : key_at own place t ≡ None = rw (add-zero place) at is.bad in
    rw (none, add-zero place) refl
from_bad own place (t ∷ ts) (suc i) is =
    let e : place + suc i ≡ place + 1 + i = omega arith in
    let first : IsSome (key_at own place t) = rw (add-zero place) at (is.least 0 (omega arith)) in
    let later : IsBadFrom own (place + 1) ts i = record {
      within = omega (arith, is.within);
      bad = rw e at is.bad;
      least = λ q lt. let f : place + suc q ≡ place + 1 + q = omega arith in rw f at (is.least (suc q) (omega arith));
    } in
    rw e (said_step-later place _ (key_at own place t) (keys_from own (place + 1) ts) first (from_bad own (place + 1) ts i later))

-- these are the keys of the texts from a place on
record IsKeysFrom (own place : ℕ) (texts ks : List (List ℕ)) : Type 0 where
  count : length ks ≡ length texts
  each : (q : ℕ) → q < length texts → key_at own (place + q) (slice_index_or texts q []) ≡ Some (slice_index_or ks q no_key)

said_step-ok : (place : ℕ) (o : Option (List ℕ)) (r : Result (List (List ℕ)) KeysFault) (ks : List (List ℕ)) →
    said_step place o r ≡ Ok ks → (k : List ℕ) × (others : List (List ℕ)) × ((o ≡ Some k) × (r ≡ Ok others) × (ks ≡ k ∷ others))
said_step-ok place None r ks h = absurd cc
said_step-ok place (Some k) (Ok others) ks h = (k, others, (refl, refl, cc))
said_step-ok place (Some k) (Err e) ks h = absurd cc

each-more : (own place : ℕ) (t k : List ℕ) (ts ks : List (List ℕ)) → key_at own place t ≡ Some k →
    ((q : ℕ) → q < length ts → key_at own (place + 1 + q) (slice_index_or ts q []) ≡ Some (slice_index_or ks q no_key)) →
    (q : ℕ) → q < length (t ∷ ts) → key_at own (place + q) (slice_index_or (t ∷ ts) q []) ≡ Some (slice_index_or (k ∷ ks) q no_key)
each-more own place t k ts ks first rest zero h = rw (add-zero place) first
each-more own place t k ts ks first rest (suc q) h =
    let e : place + suc q ≡ place + 1 + q = omega arith in
    rw e (rest q (omega arith))

keys_from-ok : (own place : ℕ) (texts ks : List (List ℕ)) → keys_from own place texts ≡ Ok ks → IsKeysFrom own place texts ks
keys_from-ok own place [] ks h = record { count = let e : ks ≡ [] = cc in rw e refl; each = λ q lt. absurd (omega arith) }
keys_from-ok own place (t ∷ ts) ks h =
    let parts = said_step-ok place (key_at own place t) (keys_from own (place + 1) ts) ks h in
    let rest = keys_from-ok own (place + 1) ts parts.1 parts.2.1 in
    rw parts.2.2 (record {
      count = omega (arith, rest.count);
      each = each-more own place t parts.0 ts parts.1 parts.2.0 rest.each;
    })

ok-keys_from : (own place : ℕ) (texts ks : List (List ℕ)) → IsKeysFrom own place texts ks → keys_from own place texts ≡ Ok ks
ok-keys_from own place [] [] is = refl
ok-keys_from own place [] (k ∷ ks) is = absurd (omega (arith, is.count))
ok-keys_from own place (t ∷ ts) [] is = absurd (omega (arith, is.count))
ok-keys_from own place (t ∷ ts) (k ∷ ks) is =
    let first : key_at own place t ≡ Some k = rw (add-zero place) at (is.each 0 (omega arith)) in
    let later : IsKeysFrom own (place + 1) ts ks = record {
      count = omega (arith, is.count);
      each = λ q lt. let f : place + suc q ≡ place + 1 + q = omega arith in rw f at (is.each (suc q) (omega arith));
    } in
    rw (first, ok-keys_from own (place + 1) ts ks later) refl

-- texts have no fault but BadKey
keys_from-no : (own place : ℕ) (texts : List (List ℕ)) (e : KeysFault) → ((p : ℕ) → e ≢ keys.BadKey p) → keys_from own place texts ≢ Err e
keys_from-no own place [] e other h = cc
keys_from-no own place (t ∷ ts) e other h =
    elim (said_step-err place e (key_at own place t) (keys_from own (place + 1) ts) h) [
      | inl w ↦ other place w.1
      | inr w ↦ keys_from-no own (place + 1) ts e other w.1
    ]

least-from : (said : KeysSaid) (p : ℕ) → (i : ℕ) × ((p ≡ 0 + i) × IsBadFrom said.own 0 said.texts i) → IsLeastBad said p
least-from said p h =
    let same : p ≡ h.0 = omega (arith, h.1.0) in
    let is = h.1.1 in
    rw same (record {
      within = is.within;
      bad = rw (zero-add h.0) at is.bad;
      least = λ q lt. rw (zero-add q) at (is.least q lt);
    })

from-least : (said : KeysSaid) (p : ℕ) → IsLeastBad said p → keys_from said.own 0 said.texts ≡ Err (keys.BadKey p)
from-least said p h =
    let is : IsBadFrom said.own 0 said.texts p = record {
      within = h.within;
      bad = rw (zero-add p) h.bad;
      least = λ q lt. rw (zero-add q) (h.least q lt);
    } in
    from_bad said.own 0 said.texts p is ∙ ap (λ n. Err (keys.BadKey n)) (zero-add p)

-- the texts where no earlier fault stands
abbrev judged_keys : Option KeysFault → ℕ → Result (List (List ℕ)) KeysFault → Result KeyFields KeysFault
judged_keys fault own r = option_map_or Err fault (r >>= λ kept. Ok (record { own = own; keys = kept }))

judged_keys-err : (fault : Option KeysFault) (own : ℕ) (r : Result (List (List ℕ)) KeysFault) (e : KeysFault) →
    judged_keys fault own r ≡ Err e → (fault ≡ Some e) ⊎ ((fault ≡ None) × (r ≡ Err e))
judged_keys-err None own (Ok ks) e h = absurd cc
judged_keys-err None own (Err x) e h = inr (refl, cc)
judged_keys-err (Some x) own r e h = inl cc

judged_keys-ok : (fault : Option KeysFault) (own : ℕ) (r : Result (List (List ℕ)) KeysFault) (k : KeyFields) →
    judged_keys fault own r ≡ Ok k → (fault ≡ None) × (r ≡ Ok k.keys) × (k.own ≡ own)
judged_keys-ok None own (Ok ks) k h =
    let e : record { own = own; keys = ks } ≡ k = cc in (refl, ap (λ x. Ok x.keys) e, sym (ap (λ x. x.own) e))
judged_keys-ok None own (Err x) k h = absurd cc
judged_keys-ok (Some x) own r k h = absurd cc

place_fault-no_json : (members own count : ℕ) → place_fault members own count ≢ Some keys.BadJson
place_fault-no_json members own count = place_tested-no_json (nat_le members own) (count == members)

place_fault-no_shape : (members own count : ℕ) → place_fault members own count ≢ Some keys.BadShape
place_fault-no_shape members own count = place_tested-no_shape (nat_le members own) (count == members)

place_fault-no_key : (members own count p : ℕ) → place_fault members own count ≢ Some (keys.BadKey p)
place_fault-no_key members own count p = place_tested-no_key (nat_le members own) (count == members) p

keys_judged-no_json : (members : ℕ) (said : KeysSaid) → keys_judged members said ≢ Err keys.BadJson
keys_judged-no_json members said h =
    elim (judged_keys-err (place_fault members said.own (length said.texts)) said.own (keys_from said.own 0 said.texts) _ h) [
      | inl w ↦ place_fault-no_json members said.own (length said.texts) w
      | inr w ↦ keys_from-no said.own 0 said.texts _ (λ p e. cc) w.1
    ]

keys_judged-no_shape : (members : ℕ) (said : KeysSaid) → keys_judged members said ≢ Err keys.BadShape
keys_judged-no_shape members said h =
    elim (judged_keys-err (place_fault members said.own (length said.texts)) said.own (keys_from said.own 0 said.texts) _ h) [
      | inl w ↦ place_fault-no_shape members said.own (length said.texts) w
      | inr w ↦ keys_from-no said.own 0 said.texts _ (λ p e. cc) w.1
    ]

pub keys_json_law : (members : ℕ) (bytes : List ℕ) → (keys_in_file members bytes ≡ Err keys.BadJson) ↔ (value_in bytes ≡ None)
keys_json_law members bytes =
    steps-json keys.BadJson keys.BadShape keys_said (keys_judged members) (value_in bytes) (λ e. cc) (keys_judged-no_json members)

pub keys_shape_law : (members : ℕ) (bytes : List ℕ) → (keys_in_file members bytes ≡ Err keys.BadShape)
    ↔ ((d : Data) × ((value_in bytes ≡ Some d) × (keys_said d ≡ None)))
keys_shape_law members bytes =
    steps-shape keys.BadJson keys.BadShape keys_said (keys_judged members) (value_in bytes) (λ e. cc) (keys_judged-no_shape members)

pub bad_key_law : (members : ℕ) (said : KeysSaid) (p : ℕ) → (keys_judged members said ≡ Err (keys.BadKey p))
    ↔ ((place_fault members said.own (length said.texts) ≡ None) × IsLeastBad said p)
bad_key_law members said p = (
  λ h. elim (judged_keys-err (place_fault members said.own (length said.texts)) said.own (keys_from said.own 0 said.texts) _ h) [
    | inl w ↦ absurd (place_fault-no_key members said.own (length said.texts) p w)
    | inr w ↦ (w.0, least-from said p (bad_from said.own 0 said.texts p w.1))
  ],
  λ h. rw (h.0, from-least said p h.1) refl,
)

pub said_keys_law : (members : ℕ) (said : KeysSaid) (k : KeyFields) → (keys_judged members said ≡ Ok k)
    ↔ ((place_fault members said.own (length said.texts) ≡ None) × SaysKeys said k)
said_keys_law members said k = (
  λ h.
      let parts = judged_keys-ok (place_fault members said.own (length said.texts)) said.own (keys_from said.own 0 said.texts) k h in
      let is = keys_from-ok said.own 0 said.texts k.keys parts.1 in
      (parts.0, record { own = parts.2; count = is.count; each = λ q lt. rw (zero-add q) at (is.each q lt) }),
  λ h.
      let is : IsKeysFrom said.own 0 said.texts k.keys = record {
        count = h.1.count;
        each = λ q lt. rw (zero-add q) (h.1.each q lt);
      } in
      rw (h.0, ok-keys_from said.own 0 said.texts k.keys is, ← h.1.own) refl,
)
