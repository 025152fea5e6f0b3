-- What a judge of receipts finds, one after the other, is what makes a seat right.
use Rattle.std.proofs.Common.{◌≡◌, ◌↔◌, ℕ, ◌+◌, ◌<◌, ◌≤◌, zero, suc, Bool, eqb, false, rules, Result, Ok, Err, IfOk, IsTrue, List, [], ◌∷◌, ◌++◌, ⊎_elim, length, take, drop, get_or, sym, ap, ◌∙◌, subst, arith}
use Rattle.std.specs.List.{All, AllPairs}
use Rattle.std.proofs.lemmas.Bool.{cases_eq, eq-eqb, eqb-true}
use Rattle.std.proofs.lemmas.List.{length-take-le, drop_more, get_or-take, get_or_default, take_more}
use Rattle.std.proofs.lemmas.List.Quantifiers.{all_pairs_push}
use Rattle.std.proofs.lemmas.List.Elements.{All-nil, All-cons, All-head, All-tail, All-weaker}
use Rattle.pay_member.specs.Member.{MemberFields}
use Rattle.pay_member.specs.Replay.{ReplayFields}
use Rattle.pay_node.specs.Receipts.{ReceiptFields}
use Rattle.pay_node.specs.Receipts.{IsConsistent, entries_after}
use Rattle.pay_node.specs.Judging.{AreConsistent, IsNextConsistent}
use Rattle.pay_node.specs.Seats.{HasItsEntries, SeatFields, Right, entries_told, entries_under, since}

-- ---- pairs

pairs_none : {X : Type 0} (R : X → X → Type 0) → AllPairs R []
pairs_none R i j d below within = absurd (omega arith)

pairs_cons : {X : Type 0} (R : X → X → Type 0) (x : X) (xs : List X) → All (R x) xs → AllPairs R xs → AllPairs R (x ∷ xs)
pairs_cons R x xs first rest zero zero d below within = absurd (omega arith)
pairs_cons R x xs first rest zero (suc j) d below within = first j d (omega arith)
pairs_cons R x xs first rest (suc i) zero d below within = absurd (omega arith)
pairs_cons R x xs first rest (suc i) (suc j) d below within = rest i j d (omega arith) (omega arith)

pairs_first : {X : Type 0} (R : X → X → Type 0) (x : X) (xs : List X) → AllPairs R (x ∷ xs) → All (R x) xs
pairs_first R x xs pairs k d within = pairs zero (suc k) d (omega arith) (omega arith)

pairs_rest : {X : Type 0} (R : X → X → Type 0) (x : X) (xs : List X) → AllPairs R (x ∷ xs) → AllPairs R xs
pairs_rest R x xs pairs i j d below within = pairs (suc i) (suc j) d (omega arith) (omega arith)

-- ---- all receipts of a seat

abbrev Follows : ReceiptFields → ReceiptFields → Type 0
Follows r later = entries_after r ≤ later.seen

seen_first : (r : ReceiptFields) → r.seen ≤ entries_after r
seen_first r = search rules

-- one receipt more, behind all that those before it left
pub ordered_on :
    (rs : List ReceiptFields) (i least after : ℕ) (r : ReceiptFields) → AllPairs Follows (take i rs)
    → ((k : ℕ) (d : ReceiptFields) → k < i → entries_after (get_or rs k d) ≤ least) → i < length rs → r ≡ get_or rs i r → after ≡ entries_after r → least ≤ r.seen
    → AllPairs Follows (take (i + 1) rs) × ((k : ℕ) (d : ReceiptFields) → k < i + 1 → entries_after (get_or rs k d) ≤ after)
ordered_on rs i least after r pairs before below is left ahead =
    let long = length-take-le i rs (omega arith) in (
      subst (AllPairs Follows) (sym (take_more rs i r below ∙ ap (λ (x : ReceiptFields). take i rs ++ x ∷ []) (sym is)))
          (all_pairs_push Follows (take i rs) r pairs
          (λ k d within. (let early : k < i = omega arith in
          let told = before k d early in
          subst (λ (x : ReceiptFields). entries_after x ≤ r.seen) (sym (get_or-take i rs k d early)) (omega arith)))),
      (λ k d within. ⊎_elim
          (λ same. (let last : get_or rs k d ≡ r = ap (λ n. get_or rs n d) same ∙ get_or_default rs i d r below ∙ sym is in
          subst (λ (x : ReceiptFields). entries_after x ≤ after) (sym last) (omega (arith, left))))
          (λ other. (let told = before k d (omega arith) in let first = seen_first r in omega (arith, left)))
          (cases_eq k i)),
    )

-- none saw less than a base, as the first didn't
pub since_on :
    (rs : List ReceiptFields) (i base least after : ℕ) (r : ReceiptFields) → base ≤ least → ((k : ℕ) (d : ReceiptFields) → k < i → base ≤ (get_or rs k d).seen)
    → i < length rs → r ≡ get_or rs i r → after ≡ entries_after r → least ≤ r.seen
    → (base ≤ after) × ((k : ℕ) (d : ReceiptFields) → k < i + 1 → base ≤ (get_or rs k d).seen)
since_on rs i base least after r far before below is left ahead =
    let first = seen_first r in (
      omega (arith, left),
      (λ k d within. ⊎_elim
          (λ same. (let last : get_or rs k d ≡ r = ap (λ n. get_or rs n d) same ∙ get_or_default rs i d r below ∙ sym is in
          subst (λ (x : ReceiptFields). base ≤ x.seen) (sym last) (omega arith)))
          (λ other. before k d (omega arith))
          (cases_eq k i)),
    )

-- receipts that are consistent in order, the first behind so many entries
record AreInOrder (m : MemberFields) (stamp least : ℕ) (rs : List ReceiptFields) : Type 0 where
  ahead : All (λ (r : ReceiptFields). least ≤ r.seen) rs
  each : All (λ (r : ReceiptFields). IsConsistent m stamp r.seen r.call) rs
  ordered : AllPairs Follows rs

in_order_from : (m : MemberFields) (stamp least : ℕ) (rs : List ReceiptFields) → AreConsistent m stamp least rs → AreInOrder m stamp least rs
in_order_from m stamp least [] are = record { ahead = All-nil _; each = All-nil _; ordered = pairs_none Follows }
in_order_from m stamp least (r ∷ rs) are =
    let rest = in_order_from m stamp (entries_after r) rs are.1 in
    let first = seen_first r in
    record {
      ahead = All-cons (λ (x : ReceiptFields). least ≤ x.seen) r rs are.0.ahead
          (All-weaker (λ (x : ReceiptFields). entries_after r ≤ x.seen) (λ (x : ReceiptFields). least ≤ x.seen) (λ x above. (let below = are.0.ahead in omega arith)) rs rest.ahead);
      each = All-cons (λ (x : ReceiptFields). IsConsistent m stamp x.seen x.call) r rs are.0.is rest.each;
      ordered = pairs_cons Follows r rs rest.ahead rest.ordered;
    }

in_order_to : (m : MemberFields) (stamp least : ℕ) (rs : List ReceiptFields) → AreInOrder m stamp least rs → AreConsistent m stamp least rs
in_order_to m stamp least [] are = tt
in_order_to m stamp least (r ∷ rs) are = (
  record {
    ahead = All-head (λ (x : ReceiptFields). least ≤ x.seen) r rs are.ahead;
    is = All-head (λ (x : ReceiptFields). IsConsistent m stamp x.seen x.call) r rs are.each;
  },
  in_order_to m stamp (entries_after r) rs (record {
    ahead = pairs_first Follows r rs are.ordered;
    each = All-tail (λ (x : ReceiptFields). IsConsistent m stamp x.seen x.call) r rs are.each;
    ordered = pairs_rest Follows r rs are.ordered;
  }),
)

pub right_is : (m : MemberFields) (base : ℕ) (seat : SeatFields) → entries_under seat.stamp (since base m) ≡ entries_told seat
    → AreConsistent m seat.stamp base seat.receipts ↔ Right m base seat
right_is m base seat counted = (
  (λ are. (let all = in_order_from m seat.stamp base seat.receipts are in
      record { counted = counted; each = λ k d within. (all.ahead k d within, all.each k d within); ordered = all.ordered })),
  (λ right. in_order_to m seat.stamp base seat.receipts
      (record { ahead = λ k d within. (right.each k d within).0; each = λ k d within. (right.each k d within).1; ordered = right.ordered })),
)

-- ---- the judge's steps

pub judged_on :
    (first was now : ReplayFields) (stamp : ℕ) (rs : List ReceiptFields) (i : ℕ) (r : ReceiptFields)
    → was.member ≡ first.member
    → AreConsistent first.member stamp first.taken rs ↔ AreConsistent first.member stamp was.taken (drop i rs)
    → i < length rs → r ≡ get_or rs i r
    → IsNextConsistent was.member stamp was.taken r → now ≡ record was { taken = entries_after r }
    → (now.member ≡ first.member)
    × (AreConsistent first.member stamp first.taken rs ↔ AreConsistent first.member stamp now.taken (drop (i + 1) rs))
judged_on first was now stamp rs i r at before below here next after =
    let m : MemberFields = first.member in
    let consistent : IsNextConsistent m stamp was.taken r = subst (λ x. IsNextConsistent x stamp was.taken r) at next in
    let there : drop i rs ≡ r ∷ drop (i + 1) rs = drop_more rs i r below ∙ ap (λ x. x ∷ drop (i + 1) rs) (sym here) in
    let step : AreConsistent m stamp first.taken rs ↔ AreConsistent m stamp (entries_after r) (drop (i + 1) rs) = (
      (λ all. (subst (AreConsistent m stamp was.taken) there (before.0 all)).1),
      (λ rest. before.1 (subst (AreConsistent m stamp was.taken) (sym there) (consistent, rest))),
    ) in (
      ap (λ (x : ReplayFields). x.member) after ∙ at,
      subst (λ n. AreConsistent m stamp first.taken rs ↔ AreConsistent m stamp n (drop (i + 1) rs)) (ap (λ (x : ReplayFields). x.taken) (sym after)) step,
    )

pub has_its :
    (m : MemberFields) (base : ℕ) (seat : SeatFields) (a b : ℕ) → a ≡ entries_under seat.stamp (since base m) → b ≡ entries_told seat
    → IsTrue (eqb a b) ↔ HasItsEntries m base seat
unfolding HasItsEntries
has_its m base seat a b under told =
    ((λ is. sym under ∙ eqb-true a b is ∙ told), (λ its. eq-eqb a b (under ∙ its ∙ sym told)))

pub not_counted :
    (m : MemberFields) (base : ℕ) (seat : SeatFields) (says : Bool) → IsTrue says ↔ HasItsEntries m base seat → says ≡ false
    → IsTrue false ↔ Right m base seat
unfolding HasItsEntries
not_counted m base seat says is failed = (
  (λ yes. absurd (search rules)),
  (λ right. subst IsTrue failed (is.1 right.counted)),
)

-- in whichever order a seat is looked at
pub known_right : (m : MemberFields) (base : ℕ) (seat : SeatFields) → HasItsEntries m base seat
    → All (λ (r : ReceiptFields). (base ≤ r.seen) × IsConsistent m seat.stamp r.seen r.call) seat.receipts
    → AllPairs (λ (r later : ReceiptFields). entries_after r ≤ later.seen) seat.receipts → Right m base seat
unfolding HasItsEntries
known_right m base seat its each ordered = record { counted = its; each = each; ordered = ordered }

pub judged_so :
    {E : Type 0} (m : MemberFields) (base : ℕ) (seat : SeatFields) (answer : Result Bool E) → HasItsEntries m base seat
    → IfOk answer (λ says. IsTrue says ↔ AreConsistent m seat.stamp base seat.receipts)
    → IfOk answer (λ says. IsTrue says ↔ Right m base seat)
unfolding HasItsEntries
judged_so m base seat (Ok says) counted is =
    let law = right_is m base seat counted in ((λ yes. law.0 (is.0 yes)), (λ right. is.1 (law.1 right)))
judged_so m base seat (Err error) counted is = tt

pub judged_there :
    {E : Type 0} (m : MemberFields) (fresh begun : ReplayFields) (base : ℕ) (seat : SeatFields) (stamp : ℕ) (rs : List ReceiptFields) (answer : Result Bool E)
    → fresh ≡ record { member = m; taken = 0 } → begun ≡ record fresh { taken = base } → stamp ≡ seat.stamp → rs ≡ seat.receipts
    → IfOk answer (λ says. IsTrue says ↔ AreConsistent begun.member stamp begun.taken rs)
    → IfOk answer (λ says. IsTrue says ↔ AreConsistent m seat.stamp base seat.receipts)
judged_there m fresh begun base seat stamp rs answer none taken under of is =
    let At : ReplayFields → ℕ → List ReceiptFields → Type 0 = λ r n l. IfOk answer (λ says. IsTrue says ↔ AreConsistent r.member n r.taken l) in
    let there : begun ≡ record { member = m; taken = base } = taken ∙ ap (λ (r : ReplayFields). record r { taken = base }) none in
    subst (λ r. At r seat.stamp seat.receipts) there
    (subst (λ n. At begun n seat.receipts) under
    (subst (λ l. At begun stamp l) of is))
