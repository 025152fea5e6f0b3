-- The first fork between exports.
use Rattle.std.proofs.Common.{◌≡◌, ℕ, zero, suc, ◌+◌, ◌<◌, List, [], ◌∷◌, slice_get, Bool, true, false, Option, Some, None, option_map, if◌then◌else◌, refl, ap, sym, subst, ◌∙◌, arith}
use Rattle.std.specs.Option.{option_or}
use Rattle.std.specs.List.{zip}
use Rattle.std.specs.Str.{bytes_eq}
use Rattle.std.specs.Cmp.Lexicographic.{same_text}
use Rattle.std.proofs.lemmas.Option.{same_Some}
use Rattle.std.proofs.lemmas.Slice.Eq.{bytes_eq-Decides}
use Rattle.pay_audit.specs.Export.{ExportFields, list_in}
use Rattle.pay_audit.specs.Laws.{AgreeWith, Agreeing, HasRightBalances, HasRightFront}
use Rattle.pay_audit.specs.Said.{BeginAlike, Each, EachTwo, IsFirstDifference, IsSaid}
use Rattle.pay_audit.specs.Verdict.{first_from, fork_between, fork_from, fork_of, fork_place, if_differ}
use Rattle.pay_audit.specs.declared.auditing.Verdict.{Verdict}
use Rattle.pay_audit.specs.declared.auditing.Verdict.TheVariants.{Fork}
use Rattle.pay_audit.proofs.Firsts.{FirstAt, first_is, no_answer, nobody, none_first, none_rest, unanswered}
use Rattle.pay_audit.proofs.Forking.{agree_at, no_fork}

-- ---- two lists

record DifferAt (k : ℕ) (vs ws : List (List ℕ)) (s : ℕ) : Type 0 where
  place : ℕ
  is : s ≡ k + place
  found : IsFirstDifference vs ws place

one_further : (v w : List ℕ) (vs ws : List (List ℕ)) (place : ℕ) → v ≡ w → IsFirstDifference vs ws place → IsFirstDifference (v ∷ vs) (w ∷ ws) (suc place)
one_further v w vs ws place same d = record {
  value = d.value;
  against = d.against;
  at_one = d.at_one;
  at_other = d.at_other;
  differ = d.differ;
  before = earlier;
} where
  earlier : (s : ℕ) (a b : List ℕ) → s < suc place → slice_get (v ∷ vs) s ≡ Some a → slice_get (w ∷ ws) s ≡ Some b → a ≡ b
  earlier zero a b below ha hb = sym (same_Some v a ha) ∙ same ∙ same_Some w b hb
  earlier (suc s) a b below ha hb = d.before s a b (omega (arith, below)) ha hb

differ_at : (k : ℕ) (vs ws : List (List ℕ)) (s : ℕ) → first_from if_differ k (zip vs ws) ≡ Some s → DifferAt k vs ws s
differ_at k [] ws s h = absurd cc
differ_at k (v ∷ vs) [] s h = absurd cc
differ_at k (v ∷ vs) (w ∷ ws) s h = go (bytes_eq v w) refl h (differ_at (k + 1) vs ws s) where
  go : (b : Bool) → bytes_eq v w ≡ b → option_or (if b then None else Some k) (first_from if_differ (k + 1) (zip vs ws)) ≡ Some s
      → (first_from if_differ (k + 1) (zip vs ws) ≡ Some s → DifferAt (k + 1) vs ws s) → DifferAt k (v ∷ vs) (w ∷ ws) s
  go false here e rest = record {
    place = 0;
    is = omega (arith, same_Some k s e);
    found = record {
      value = v;
      against = w;
      at_one = refl;
      at_other = refl;
      differ = λ same. (let yes = (bytes_eq-Decides v w).1 same in absurd cc);
      before = λ t a b below ha hb. absurd (omega (arith, below));
    };
  }
  go true here e rest =
      let r = rest e in
      record {
        place = suc r.place;
        is = omega (arith, r.is);
        found = one_further v w vs ws r.place (same_text v w (sym here)) r.found;
      }

place_found : (l m : List (List ℕ)) (s : ℕ) → fork_place l m ≡ Some s → IsFirstDifference l m s
unfolding fork_place
place_found l m s h =
    let r = differ_at 0 l m s h in
    let is : r.place ≡ s = omega (arith, r.is) in
    subst (IsFirstDifference l m) is r.found

place_none : (l m : List (List ℕ)) → fork_place l m ≡ None → Agreeing l m
unfolding fork_place
place_none l m h = agree_at 0 l m h

-- ---- all lists of two exports

pub record ForkedAt (x y k : ℕ) (ls ms : List (List (List ℕ))) (v : Verdict) : Type 0 where
  pub owner : ℕ
  pub seq : ℕ
  pub is : v ≡ Fork x y (k + owner) seq
  pub found : IsFirstDifference (list_in ls owner) (list_in ms owner) seq
  pub before : (a : ℕ) → a < owner → Agreeing (list_in ls a) (list_in ms a)

forked_at : (x y k : ℕ) (ls ms : List (List (List ℕ))) (v : Verdict) → first_from (fork_of x y) k (zip ls ms) ≡ Some v → ForkedAt x y k ls ms v
forked_at x y k [] ms v h = absurd cc
forked_at x y k (l ∷ ls) [] v h = absurd cc
forked_at x y k (l ∷ ls) (m ∷ ms) v h = go (fork_place l m) refl h (forked_at x y (k + 1) ls ms v) where
  go : (o : Option ℕ) → fork_place l m ≡ o → option_or (option_map (Fork x y k) o) (first_from (fork_of x y) (k + 1) (zip ls ms)) ≡ Some v
      → (first_from (fork_of x y) (k + 1) (zip ls ms) ≡ Some v → ForkedAt x y (k + 1) ls ms v) → ForkedAt x y k (l ∷ ls) (m ∷ ms) v
  go (Some s) here e rest = record {
    owner = 0;
    seq = s;
    is = sym (same_Some (Fork x y k s) v e) ∙ ap (λ a. Fork x y a s) (let e : k ≡ k + 0 = omega arith in e);
    found = place_found l m s here;
    before = λ a below. absurd (omega (arith, below));
  }
  go None here e rest =
      let r = rest e in
      record {
        owner = suc r.owner;
        seq = r.seq;
        is = r.is ∙ ap (λ a. Fork x y a r.seq) (let e : k + 1 + r.owner ≡ k + suc r.owner = omega arith in e);
        found = r.found;
        before = earlier r.owner r.before;
      } where
        earlier : (owner : ℕ) → ((a : ℕ) → a < owner → Agreeing (list_in ls a) (list_in ms a))
            → (a : ℕ) → a < suc owner → Agreeing (list_in (l ∷ ls) a) (list_in (m ∷ ms) a)
        earlier owner same zero below = place_none l m here
        earlier owner same (suc a) below = same a (omega (arith, below))

fork_found : (x y : ℕ) (one other : ExportFields) (v : Verdict) → fork_between x one y other ≡ Some v → ForkedAt x y 0 one.lists other.lists v
unfolding fork_between
fork_found x y one other v h = forked_at x y 0 one.lists other.lists v h

-- ---- all exports

record FirstFork (k : ℕ) (exports : List ExportFields) (v : Verdict) : Type 0 where
  x : ℕ
  y : ℕ
  one : ExportFields
  other : ExportFields
  order : x < y
  at_one : slice_get exports x ≡ Some one
  at_other : slice_get exports y ≡ Some other
  fork : fork_between (k + x) one (k + y) other ≡ Some v
  between : (z : ℕ) (e : ExportFields) → x < z → z < y → slice_get exports z ≡ Some e → AgreeWith one e
  earlier :
      (u z : ℕ) (d e : ExportFields) → u < x → u < z → slice_get exports u ≡ Some d → slice_get exports z ≡ Some e → AgreeWith d e

agree_none : (x y : ℕ) (one other : ExportFields) → fork_between x one y other ≡ None → AgreeWith one other
agree_none x y one other h = (no_fork x y one other).0 h

fork_at_places : (v : Verdict) (one other : ExportFields) (x y x' y' : ℕ) → x ≡ x' → y ≡ y' → fork_between x' one y' other ≡ Some v → fork_between x one y other ≡ Some v
fork_at_places v one other x y x' y' ex ey h = ap (λ n. fork_between n one y other) ex ∙ ap (λ n. fork_between x' one n other) ey ∙ h

first_fork : (k : ℕ) (exports : List ExportFields) (v : Verdict) → fork_from k exports ≡ Some v → FirstFork k exports v
first_fork k [] v h = absurd cc
first_fork k (first ∷ es) v h = go (first_from (fork_between k first) (k + 1) es) refl h (first_fork (k + 1) es v) where
  go : (o : Option Verdict) → first_from (fork_between k first) (k + 1) es ≡ o → option_or o (fork_from (k + 1) es) ≡ Some v
      → (fork_from (k + 1) es ≡ Some v → FirstFork (k + 1) es v) → FirstFork k (first ∷ es) v
  go (Some w) here e rest =
      let r = first_is (fork_between k first) (k + 1) es v (here ∙ e) in
      record {
        x = 0;
        y = suc r.place;
        one = first;
        other = r.item;
        order = omega arith;
        at_one = refl;
        at_other = r.at;
        fork = fork_at_places v first r.item (k + 0) (k + suc r.place) k (k + 1 + r.place) (omega arith) (omega arith) r.answer;
        between = nearer r;
        earlier = λ u z d f before behind at_d at_f. absurd (omega (arith, before));
      } where
        nearer : (r : FirstAt (fork_between k first) (k + 1) es v) (z : ℕ) (f : ExportFields) → 0 < z → z < suc r.place
            → slice_get (first ∷ es) z ≡ Some f → AgreeWith first f
        nearer r zero f above below got = absurd (omega (arith, above))
        nearer r (suc z) f above below got =
            agree_none k (k + 1 + z) first f (r.before z f (omega (arith, below)) got)
  go None here e rest =
      let r = rest e in
      record {
        x = suc r.x;
        y = suc r.y;
        one = r.one;
        other = r.other;
        order = omega (arith, r.order);
        at_one = r.at_one;
        at_other = r.at_other;
        fork = fork_at_places v r.one r.other (k + suc r.x) (k + suc r.y) (k + 1 + r.x) (k + 1 + r.y) (omega arith) (omega arith) r.fork;
        between = nearer r;
        earlier = before r;
      } where
        nearer : (r : FirstFork (k + 1) es v) (z : ℕ) (f : ExportFields) → suc r.x < z → z < suc r.y
            → slice_get (first ∷ es) z ≡ Some f → AgreeWith r.one f
        nearer r zero f above below got = absurd (omega (arith, above))
        nearer r (suc z) f above below got = r.between z f (omega (arith, above)) (omega (arith, below)) got

        before : (r : FirstFork (k + 1) es v) (u z : ℕ) (d f : ExportFields) → u < suc r.x → u < z
            → slice_get (first ∷ es) u ≡ Some d → slice_get (first ∷ es) z ≡ Some f → AgreeWith d f
        before r u zero d f below behind at_d at_f = absurd (omega (arith, behind))
        before r zero (suc z) d f below behind at_d at_f =
            subst (λ g. AgreeWith g f) (same_Some first d at_d)
            (agree_none k (k + 1 + z) first f (nobody (fork_between k first) (k + 1) es here z f at_f))
        before r (suc u) (suc z) d f below behind at_d at_f = r.earlier u z d f (omega (arith, below)) (omega (arith, behind)) at_d at_f

pub fork_said :
    (exports : List ExportFields) → EachTwo BeginAlike exports → Each HasRightFront exports → Each HasRightBalances exports
    → (v : Verdict) → fork_from 0 exports ≡ Some v → IsSaid exports v
fork_said exports alike fronts balances v h =
    let r = first_fork 0 exports v h in
    let f = fork_found (0 + r.x) (0 + r.y) r.one r.other v r.fork in
    let is : v ≡ Fork r.x r.y f.owner f.seq =
    f.is ∙ ap (λ n. Fork n (0 + r.y) (0 + f.owner) f.seq) (let e : 0 + r.x ≡ r.x = omega arith in e)
    ∙ ap (λ n. Fork r.x n (0 + f.owner) f.seq) (let e : 0 + r.y ≡ r.y = omega arith in e)
    ∙ ap (λ n. Fork r.x r.y n f.seq) (let e : 0 + f.owner ≡ f.owner = omega arith in e) in
    subst (IsSaid exports) (sym is) (record {
      geneses = alike;
      fronts = fronts;
      balances = balances;
      one = r.one;
      other = r.other;
      order = r.order;
      at_one = r.at_one;
      at_other = r.at_other;
      fork = record { difference = f.found; before = f.before };
      between = r.between;
      earlier = r.earlier;
    })

-- ---- no fork

agree_swapped : (one other : ExportFields) → AgreeWith one other → AgreeWith other one
agree_swapped one other same a s v w hv hw = sym (same a s w v hw hv)

agree_itself : (e : ExportFields) → AgreeWith e e
agree_itself e a s v w hv hw = same_Some v w (sym hv ∙ hw)

pub all_agree : (k : ℕ) (exports : List ExportFields) → fork_from k exports ≡ None → EachTwo AgreeWith exports
all_agree k [] h x y one other at_one at_other = absurd cc
all_agree k (first ∷ es) h zero zero one other at_one at_other =
    subst (λ d. AgreeWith one d) (sym (same_Some first one at_one) ∙ same_Some first other at_other) (agree_itself one)
all_agree k (first ∷ es) h zero (suc y) one other at_one at_other =
    subst (λ d. AgreeWith d other) (same_Some first one at_one)
    (agree_none k (k + 1 + y) first other
    (nobody (fork_between k first) (k + 1) es (none_first (first_from (fork_between k first) (k + 1) es) (fork_from (k + 1) es) h) y other at_other))
all_agree k (first ∷ es) h (suc x) zero one other at_one at_other =
    agree_swapped other one
    (subst (λ d. AgreeWith d one) (same_Some first other at_other)
    (agree_none k (k + 1 + x) first one
    (nobody (fork_between k first) (k + 1) es (none_first (first_from (fork_between k first) (k + 1) es) (fork_from (k + 1) es) h) x one at_one)))
all_agree k (first ∷ es) h (suc x) (suc y) one other at_one at_other =
    all_agree (k + 1) es (none_rest (first_from (fork_between k first) (k + 1) es) (fork_from (k + 1) es) h) x y one other at_one at_other

pub none_agrees : (k : ℕ) (exports : List ExportFields) → EachTwo AgreeWith exports → fork_from k exports ≡ None
none_agrees k [] same = refl
none_agrees k (first ∷ es) same =
    no_answer (first_from (fork_between k first) (k + 1) es) (fork_from (k + 1) es)
    (unanswered (fork_between k first) (k + 1) es (λ p e got. (no_fork k (k + 1 + p) first e).1 (same 0 (suc p) first e refl got)))
    (none_agrees (k + 1) es (λ x y one other at_one at_other. same (suc x) (suc y) one other at_one at_other))
