-- A reading's receipt that is among the latest, or left as one more.
use Rattle.std.proofs.Common.{Bool, false, cond, if◌then◌else◌, ◌≡◌, ◌⊎◌, ◌+◌, ◌-◌, ◌<◌, ◌≤◌, inl, inr, ⊎_elim, ℕ, List, [], ◌∷◌, ◌++◌, Some, length, drop, get_or, slice_get, refl, sym, ap, ◌∙◌, subst, arith, get_or-drop, drop-drop}
use Rattle.std.specs.List.{All, AllPairs}
use Rattle.std.proofs.lemmas.List.{length-drop, length_push}
use Rattle.std.proofs.lemmas.List.Elements.{All-push}
use Rattle.std.proofs.lemmas.List.Quantifiers.{all_pairs_push}
use Rattle.std.proofs.lemmas.List.Sums.{sum_by_push}
use Rattle.std.proofs.lemmas.Bool.{cases_lt}
use Rattle.std.proofs.lemmas.Option.{slice_get_within, slice_get-get_or, get_or_from_slice_get}
use Rattle.pay_node.specs.Receipts.{IsConsistent, ReceiptFields, entries_after, has_entry}
use Rattle.pay_node.specs.declared.seat.TheConstants.{LATEST}
use Rattle.pay_node.specs.Seats.{IsOfNow, KeepsReceipt, KeptCountsAsLeft, SeatFields, entries_told, latest, with_receipts}
use Rattle.pay_node.proofs.Rights.{slice_get-last}

-- ---- among the first so many receipts

-- the receipt is there, and none behind it tells of more
pub record IsOfThen (receipts : List ReceiptFields) (count : ℕ) (r : ReceiptFields) : Type 0 where
  pub place : ℕ
  pub within : place < count
  pub is : slice_get receipts place ≡ Some r
  pub still : (k : ℕ) (d : ReceiptFields) → place < k → k < count → entries_after (get_or receipts k d) ≤ r.seen

pub none_yet : (receipts : List ReceiptFields) (r : ReceiptFields) → IsOfThen receipts 0 r → ⊥
none_yet receipts r was = absurd (omega (arith, was.within))

-- one receipt more that is the one
pub here : (receipts : List ReceiptFields) (count : ℕ) (x r : ReceiptFields) → slice_get receipts count ≡ Some x → x ≡ r → IsOfThen receipts (count + 1) r
here receipts count x r is same = record {
  place = count;
  within = omega arith;
  is = is ∙ ap Some same;
  still = λ k d behind within. absurd (omega (arith, behind, within));
}

-- one more that tells of no more
pub further : (receipts : List ReceiptFields) (count : ℕ) (x r : ReceiptFields) → slice_get receipts count ≡ Some x → entries_after x ≤ r.seen
    → IsOfThen receipts count r → IsOfThen receipts (count + 1) r
further receipts count x r is few was = record {
  place = was.place;
  within = omega (arith, was.within);
  is = was.is;
  still = λ k d behind within. ⊎_elim
      (λ (low : k < count). was.still k d behind low)
      (λ (last : k ≡ count). subst (λ (e : ReceiptFields). entries_after e ≤ r.seen) (sym (ap (λ (n : ℕ). get_or receipts n d) last ∙ get_or_from_slice_get receipts count x d is)) few)
      (below_or_last k within);
}
  where
    below_or_last : (k : ℕ) → k < count + 1 → (k < count) ⊎ (k ≡ count)
    below_or_last k within = ⊎_elim (λ low. inl low) (λ high. inr (omega (arith, high, within))) (cases_lt k count)

-- one more tells of no more, or is the one
pub last_of : (receipts : List ReceiptFields) (count : ℕ) (x r : ReceiptFields) → slice_get receipts count ≡ Some x → IsOfThen receipts (count + 1) r
    → (x ≡ r) ⊎ (IsOfThen receipts count r × (entries_after x ≤ r.seen))
last_of receipts count x r is was = ⊎_elim
    (λ (low : was.place < count). inr (
      record {
        place = was.place;
        within = low;
        is = was.is;
        still = λ k d behind within. was.still k d behind (omega (arith, within));
      },
      subst (λ (e : ReceiptFields). entries_after e ≤ r.seen) (get_or_from_slice_get receipts count x r is) (was.still count r low (omega arith)),
    ))
    (λ high. inl (
    let at : was.place ≡ count = omega (arith, high, was.within) in
    sym (get_or_from_slice_get receipts count x r is) ∙ ap (λ (n : ℕ). get_or receipts n r) (sym at) ∙ get_or_from_slice_get receipts was.place r r was.is))
    (cases_lt was.place count)

-- among all of them it is of now
pub then_now : (receipts : List ReceiptFields) (r : ReceiptFields) → IsOfThen receipts (length receipts) r → IsOfNow receipts r
then_now receipts r was = record {
  place = was.place;
  is = was.is;
  still = λ k d within. subst (λ (e : ReceiptFields). entries_after e ≤ r.seen) (sym (get_or-drop (was.place + 1) receipts k d))
      (was.still (was.place + 1 + k) d (omega arith) (omega (arith, within, length-drop (was.place + 1) receipts)));
}

pub now_then : (receipts : List ReceiptFields) (r : ReceiptFields) → IsOfNow receipts r → IsOfThen receipts (length receipts) r
now_then receipts r now = record {
  place = now.place;
  within = slice_get_within receipts now.place r now.is;
  is = now.is;
  still = λ k d behind within.
      let back : now.place + 1 + (k - (now.place + 1)) ≡ k = omega (arith, behind) in
      subst (λ (e : ReceiptFields). entries_after e ≤ r.seen) (get_or-drop (now.place + 1) receipts (k - (now.place + 1)) d ∙ ap (λ (n : ℕ). get_or receipts n d) back)
      (now.still (k - (now.place + 1)) d (omega (arith, behind, within, length-drop (now.place + 1) receipts)));
}

-- ---- receipts of a seat

-- of now among the last ones, it is so among all
from_latest : (receipts : List ReceiptFields) (first : ℕ) (r : ReceiptFields) → IsOfNow (drop first receipts) r → IsOfNow receipts r
from_latest receipts first r now =
    let within = slice_get_within (drop first receipts) now.place r now.is in
    let at : get_or receipts (first + now.place) r ≡ r = sym (get_or-drop first receipts now.place r) ∙ get_or_from_slice_get (drop first receipts) now.place r r now.is in
    let low : first + now.place < length receipts = omega (arith, within, length-drop first receipts) in
    let moved : drop (now.place + 1) (drop first receipts) ≡ drop (first + now.place + 1) receipts =
    drop-drop (now.place + 1) first receipts ∙ ap (λ (n : ℕ). drop n receipts) (sum first now.place) in
    record {
      place = first + now.place;
      is = slice_get-get_or receipts (first + now.place) r low ∙ ap Some at;
      still = subst (λ (l : List ReceiptFields). All (λ later. entries_after later ≤ r.seen) l) moved now.still;
    }
  where
    sum : (a b : ℕ) → a + (b + 1) ≡ a + b + 1
    sum a b = omega arith

pub kept_already : (seat : SeatFields) (r : ReceiptFields) → IsOfNow (latest seat) r → KeepsReceipt seat seat r
kept_already seat r is = record {
  kept = from_latest seat.receipts (length seat.receipts - LATEST) r is;
  once = λ _. refl;
  more = inl refl;
}

pub kept_more : (before after : SeatFields) (r : ReceiptFields) → ¬ (IsOfNow (latest before) r) → after ≡ with_receipts before (r ∷ []) → KeepsReceipt before after r
kept_more before after r is_new is =
    record {
      kept = subst (λ (s : SeatFields). IsOfNow s.receipts r) (sym is) last;
      once = λ is_old. absurd (is_new is_old);
      more = inr is;
    }
  where
    last : IsOfNow (before.receipts ++ r ∷ []) r
    last = record {
      place = length before.receipts;
      is = slice_get-last before.receipts r;
      still = λ k d within. absurd (omega (arith, within, length-drop (length before.receipts + 1) (before.receipts ++ r ∷ []), length_push before.receipts r));
    }

-- ---- a receipt that is of now, left once more

no_entry : (r : ReceiptFields) → has_entry r.call ≡ false → entries_after r ≡ r.seen
no_entry r none = ap (λ (b : Bool). if b then r.seen + 1 else r.seen) none

-- all receipts tell of no more than one of now does
none_tells_more : (receipts : List ReceiptFields) (r : ReceiptFields) → AllPairs (λ x later. entries_after x ≤ later.seen) receipts → IsOfNow receipts r → has_entry r.call ≡ false
    → (k : ℕ) (d : ReceiptFields) → k < length receipts → entries_after (get_or receipts k d) ≤ r.seen
unfolding now_then
none_tells_more receipts r ordered now none k d below =
    let was = now_then receipts r now in
    let here : get_or receipts now.place d ≡ r = get_or_from_slice_get receipts now.place r d now.is in
    ⊎_elim
    (λ (before : k < now.place). subst (λ (e : ReceiptFields). entries_after (get_or receipts k d) ≤ e.seen) here (ordered k now.place d before was.within))
    (λ high. ⊎_elim
    (λ (behind : now.place < k). was.still k d behind below)
    (λ low. let at : k ≡ now.place = omega (arith, high, low) in
    let same : get_or receipts k d ≡ r = ap (λ (n : ℕ). get_or receipts n d) at ∙ here in
    subst (λ (e : ReceiptFields). entries_after e ≤ r.seen) (sym same) (omega (arith, no_entry r none)))
    (cases_lt now.place k))
    (cases_lt k now.place)

pub counts_as_left : KeptCountsAsLeft
counts_as_left m base seat r right now none =
    let told : entries_told (with_receipts seat (r ∷ [])) ≡ entries_told seat + cond (has_entry r.call) 1 0 =
    sum_by_push (λ (x : ReceiptFields). cond (has_entry x.call) 1 0) seat.receipts r in
    let within = slice_get_within seat.receipts now.place r now.is in
    let kept : get_or seat.receipts now.place r ≡ r = get_or_from_slice_get seat.receipts now.place r r now.is in
    let P : ReceiptFields → Type 0 = λ (x : ReceiptFields). (base ≤ x.seen) × IsConsistent m seat.stamp x.seen x.call in
    record {
      counted = right.counted ∙ sym (told ∙ ap (λ (b : Bool). entries_told seat + cond b 1 0) none ∙ plus_none (entries_told seat));
      each = All-push P seat.receipts r right.each (subst P kept (right.each now.place r within));
      ordered = all_pairs_push (λ (x later : ReceiptFields). entries_after x ≤ later.seen) seat.receipts r right.ordered
          (none_tells_more seat.receipts r right.ordered now none);
    }
  where
    plus_none : (n : ℕ) → n + 0 ≡ n
    plus_none n = omega arith
