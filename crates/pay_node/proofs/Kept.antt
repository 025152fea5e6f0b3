-- A number's body is shown on one receipt, which is kept.
use Rattle.std.proofs.Common.{◌≡◌, ◌≢◌, ◌⊎◌, ℕ, ◌+◌, zero, suc, max, inl, inr, List, [], ◌∷◌, ◌++◌, length, take, drop, slice_get, Option, Some, None, Result, Ok, Err, refl, sym, ap, ◌∙◌, subst, arith}
use Rattle.std.proofs.lemmas.List.Elements.{All-nil, All-push}
use Rattle.std.proofs.lemmas.Option.{slice_get_within}
use Rattle.std.specs.List.{All}
use Rattle.std.specs.Prelude.{IfOk, OnErr, OnOk}
use Rattle.std.specs.declared.alloc.AllocError.{AllocError}
use Rattle.pay_frame.specs.Frame.{BodyFields}
use Rattle.pay_member.specs.Legal.{Legal}
use Rattle.pay_member.specs.Member.{MemberFields}
use Rattle.pay_member.specs.Reading.{fetched_bodies}
use Rattle.pay_member.specs.declared.reading.Reading.TheVariants as reading
use Rattle.pay_member.specs.Questions.{Shows}
use Rattle.pay_node.specs.declared.receipt.Call.TheVariants.{Read}
use Rattle.pay_node.specs.Receipts.{ReceiptFields}
use Rattle.pay_node.specs.Keeping.{HasFetched, HasFetchedAlone, IsFetch, IsFetched, IsKeptFor, IsKeptOnce, IsNoted, mark_of}
use Rattle.pay_node.specs.Nodes.{IsOwn, NodeFields}
use Rattle.pay_node.specs.Receipts.{reading_receipt}
use Rattle.pay_node.specs.Seats.{Right, SeatFields, StaysRight, with_receipts}
use Rattle.pay_node.specs.Sending.{sent_by}
use Rattle.pay_node.proofs.Rights.{reading_stays, slice_get-last, slice_get-longer}

-- ---- one body of all

pub some_same : (y x : BodyFields) → Some y ≡ Some x → y ≡ x
some_same y x is = cc

one_at : (xs : List BodyFields) (n : ℕ) (x : BodyFields) → slice_get xs n ≡ Some x → take 1 (drop n xs) ≡ x ∷ []
one_at [] zero x is = cc
one_at [] (suc n) x is = cc
one_at (y ∷ ys) zero x is = ap (λ (z : BodyFields). z ∷ []) (some_same y x is)
one_at (y ∷ ys) (suc n) x is = one_at ys n x is

none_at : (xs : List BodyFields) (n : ℕ) → slice_get xs n ≡ None → take 1 (drop n xs) ≡ []
none_at [] zero is = refl
none_at [] (suc n) is = refl
none_at (y ∷ ys) zero is = cc
none_at (y ∷ ys) (suc n) is = none_at ys n is

pub one_shown : (m : MemberFields) (n : ℕ) (x : BodyFields) → slice_get (sent_by m) n ≡ Some x → Shows m (reading.Sent n 1 (x ∷ []))
unfolding fetched_bodies
one_shown m n x is = sym (one_at (sent_by m) n x is)

pub none_shown : (m : MemberFields) (n : ℕ) → slice_get (sent_by m) n ≡ None → Shows m (reading.Sent n 1 [])
unfolding fetched_bodies
none_shown m n is = sym (none_at (sent_by m) n is)

found_at : (xs : List BodyFields) (n : ℕ) (x : BodyFields) → x ∷ [] ≡ take 1 (drop n xs) → slice_get xs n ≡ Some x
found_at [] zero x is = cc
found_at [] (suc n) x is = cc
found_at (y ∷ ys) zero x is = cc
found_at (y ∷ ys) (suc n) x is = found_at ys n x is

pub found_shown : (m : MemberFields) (n : ℕ) (x : BodyFields) → Shows m (reading.Sent n 1 (x ∷ [])) → slice_get (sent_by m) n ≡ Some x
unfolding fetched_bodies
found_shown m n x is = found_at (sent_by m) n x is

-- ---- what is fetched

pub has_fetched : (n : NodeFields) (before after : SeatFields) (number : ℕ) (r : Result (Option BodyFields) AllocError)
    → IfOk r (λ found. IsFetched n before after number found) → IfOk r (λ found. HasFetched n number found)
has_fetched n before after number (Ok found) is = record { before = before; after = after; is = is }
has_fetched n before after number (Err error) is = tt

fetched : (n : NodeFields) (m : MemberFields) (before after : SeatFields) (number : ℕ) (found : Option BodyFields)
    → IsOwn n m → Legal m.genesis m.keys m.history → IsNoted m before after number found → IsFetched n before after number found
fetched n m before after number (Some body) own legal is = record { member = m; own = own; legal = legal; is = is }
fetched n m before after number None own legal is = record { member = m; own = own; legal = legal; is = is.0; receipt = is.1 }

pub fetched_by : (n : NodeFields) (m : MemberFields) (before after : SeatFields) (number : ℕ) (r : Result (Option BodyFields) AllocError)
    → IsOwn n m → OnOk r (Legal m.genesis m.keys m.history) → IfOk r (λ found. IsNoted m before after number found)
    → IfOk r (λ found. IsFetched n before after number found)
fetched_by n m before after number (Ok found) own legal is = fetched n m before after number found own legal is
fetched_by n m before after number (Err error) own legal is = tt

-- ---- marks

-- marks are no matter of a history
right_marked : (m : MemberFields) (base : ℕ) (was seat : SeatFields) → seat.stamp ≡ was.stamp → seat.receipts ≡ was.receipts → Right m base was → Right m base seat
right_marked m base was seat stamp receipts right =
    subst (λ (s : ℕ). Right m base (record { stamp = s; receipts = seat.receipts; marks = seat.marks })) (sym stamp)
    (subst (λ (rs : List ReceiptFields). Right m base (record { stamp = was.stamp; receipts = rs; marks = seat.marks })) (sym receipts)
    (record { counted = right.counted; each = right.each; ordered = right.ordered }))

pub kept_stays :
    (m : MemberFields) (before after : SeatFields) (number : ℕ) (body : BodyFields) → slice_get (sent_by m) number ≡ Some body
    → after.stamp ≡ before.stamp → after.receipts ≡ before.receipts ++ reading_receipt (length m.history) (reading.Sent number 1 (body ∷ []))
    → StaysRight m before m after
kept_stays m before after number body sent stamp receipt base within right =
    let more : List ReceiptFields = reading_receipt (length m.history) (reading.Sent number 1 (body ∷ [])) in
    right_marked m base (with_receipts before more) after stamp receipt
    (reading_stays m before (with_receipts before more) (reading.Sent number 1 (body ∷ [])) (one_shown m number body sent) refl base within right)

pub kept_before : (m : MemberFields) (seat : SeatFields) (number : ℕ) (body : BodyFields) → slice_get (sent_by m) number ≡ Some body → IsKeptFor seat number body → IsKeptOnce m seat seat number body
kept_before m seat number body sent kept = record {
  sent = sent;
  kept = kept;
  once = λ _. refl;
  stamp = refl;
  receipts = inl refl;
  others = λ k other differs is. is;
  few = omega arith;
}

pub kept_now :
    (m : MemberFields) (before after : SeatFields) (number : ℕ) (body : BodyFields) → slice_get (sent_by m) number ≡ Some body → ¬ (IsKeptFor before number body)
    → after.stamp ≡ before.stamp → after.receipts ≡ before.receipts ++ reading_receipt (length m.history) (reading.Sent number 1 (body ∷ []))
    → mark_of after.marks number ≡ Some (length before.receipts) → ((k : ℕ) → k ≢ number → mark_of after.marks k ≡ mark_of before.marks k)
    → length after.marks ≡ max (length before.marks) (number + 1) → IsKeptOnce m before after number body
kept_now m before after number body sent unkept stamp receipt mark others room =
    let r : ReceiptFields = record { seen = length m.history; call = Read (reading.Sent number 1 (body ∷ [])) } in
    let within = slice_get_within (sent_by m) number body sent in
    record {
      sent = sent;
      kept = record {
        place = length before.receipts;
        receipt = r;
        marked = mark;
        there = subst (λ (rs : List ReceiptFields). slice_get rs (length before.receipts) ≡ Some r) (sym receipt) (slice_get-last before.receipts r);
        shows = refl;
      };
      once = λ kept. absurd (unkept kept);
      stamp = stamp;
      receipts = inr receipt;
      others = λ k other differs kept. record {
        place = kept.place;
        receipt = kept.receipt;
        marked = others k differs ∙ kept.marked;
        there = subst (λ (rs : List ReceiptFields). slice_get rs kept.place ≡ Some kept.receipt) (sym receipt) (slice_get-longer before.receipts (r ∷ []) kept.place kept.receipt kept.there);
        shows = kept.shows;
      };
      few = omega (arith, room, within);
    }

-- ---- seats from which only such are fetched

still_fetched : (m : MemberFields) (before after : SeatFields) (number : ℕ) (found : Option BodyFields) → IsNoted m before after number found → HasFetchedAlone before → HasFetchedAlone after
still_fetched m before after number (Some body) is alone = go is.receipts where
  more : ReceiptFields
  more = record { seen = length m.history; call = Read (reading.Sent number 1 (body ∷ [])) }

  go : (after.receipts ≡ before.receipts) ⊎ (after.receipts ≡ before.receipts ++ more ∷ []) → HasFetchedAlone after
  go (inl same) = subst (All (λ (r : ReceiptFields). IsFetch r.call)) (sym same) alone
  go (inr one) = subst (All (λ (r : ReceiptFields). IsFetch r.call)) (sym one)
      (All-push (λ (r : ReceiptFields). IsFetch r.call) before.receipts more alone (record { number = number; bodies = body ∷ []; is = refl }))
still_fetched m before after number None is alone = go is.1.more where
  more : ReceiptFields
  more = record { seen = length m.history; call = Read (reading.Sent number 1 []) }

  go : (after ≡ before) ⊎ (after ≡ with_receipts before (more ∷ [])) → HasFetchedAlone after
  go (inl same) = subst HasFetchedAlone (sym same) alone
  go (inr one) = subst HasFetchedAlone (sym one)
      (All-push (λ (r : ReceiptFields). IsFetch r.call) before.receipts more alone (record { number = number; bodies = []; is = refl }))

pub fetched_alone : (m : MemberFields) (before after : SeatFields) (number : ℕ) (r : Result (Option BodyFields) AllocError)
    → IfOk r (λ found. IsNoted m before after number found) → OnErr r (after ≡ before) → HasFetchedAlone before → HasFetchedAlone after
fetched_alone m before after number (Ok found) noted err alone = still_fetched m before after number found noted alone
fetched_alone m before after number (Err error) noted err alone = subst HasFetchedAlone (sym err) alone

pub none_fetched : (seat : SeatFields) → seat.receipts ≡ [] → HasFetchedAlone seat
none_fetched seat none = subst (All (λ (r : ReceiptFields). IsFetch r.call)) (sym none) (All-nil _)
