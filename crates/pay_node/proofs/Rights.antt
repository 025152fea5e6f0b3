-- What a history is consistent with it still does with one entry more, and the call that made it is consistent too.
use Rattle.std.proofs.Common.{◌≡◌, ◌≢◌, ℕ, ◌+◌, ◌<◌, ◌≤◌, Bool, false, cond, eqb, Some, Result, Ok, Err, IfOk, OnErr, List, [], ◌∷◌, ◌++◌, length, drop, get_or, slice_get, refl, sym, ap, ◌∙◌, subst, arith, append-nil, append_assoc}
use Rattle.std.specs.List.{All}
use Rattle.std.proofs.lemmas.List.{take_all, take-append-le, drop-append-le, get_or_append_left, get_or_at, length_push, length-append}
use Rattle.std.proofs.lemmas.List.Elements.{All-push, All-weaker}
use Rattle.std.proofs.lemmas.List.Quantifiers.{all_pairs_push}
use Rattle.std.proofs.lemmas.List.Sums.{sum_by_push}
use Rattle.std.proofs.lemmas.Option.{slice_get_within, slice_get-get_or, get_or_from_slice_get}
use Rattle.std.proofs.lemmas.Bool.{eq-eqb, ne_eqb}
use Rattle.pay_member.specs.Answer.{IsAnswer}
use Rattle.pay_member.specs.declared.event.HistoryEntry.{HistoryEntry}
use Rattle.pay_member.specs.declared.event.Event.{Event}
use Rattle.pay_member.specs.declared.event.Reply.{Reply}
use Rattle.pay_member.specs.declared.fault.MemberFault.{MemberFault}
use Rattle.pay_member.specs.declared.fault.MemberFault.TheVariants.{Memory, Spent, TooLong, Repeat, Gap, WrongKey, NoAccount}
use Rattle.pay_member.specs.Events.{events}
use Rattle.pay_member.specs.Member.{MemberFields, with_entry}
use Rattle.pay_member.specs.Refusal.{refusal}
use Rattle.pay_member.specs.declared.reading.Reading.{Reading}
use Rattle.pay_member.specs.Questions.{Shows}
use Rattle.pay_node.specs.Nodes.{WentOn}
use Rattle.pay_node.specs.declared.receipt.Call.{Call}
use Rattle.pay_node.specs.declared.receipt.Call.TheVariants.{Handed, Read}
use Rattle.pay_node.specs.Receipts.{ReceiptFields}
use Rattle.pay_node.specs.Receipts.{IsConsistent, has_entry, entries_after, receipts_of, reading_receipt}
use Rattle.pay_node.specs.Seats.{HandingInStaysRight, behind, SeatFields, with_receipts, entries_told, entries_under, since, Right, StaysRight}

-- ---- longer histories

pub slice_get-longer : {X : Type 0} (xs ys : List X) (k : ℕ) (x : X) → slice_get xs k ≡ Some x → slice_get (xs ++ ys) k ≡ Some x
slice_get-longer xs ys k x is =
    let within = slice_get_within xs k x is in
    let n = length-append xs ys in
    let longer : k < length (xs ++ ys) = omega arith in
    slice_get-get_or (xs ++ ys) k x longer ∙ ap Some (get_or_append_left xs ys x k within ∙ get_or_from_slice_get xs k x x is)

pub slice_get-last : {X : Type 0} (xs : List X) (x : X) → slice_get (xs ++ x ∷ []) (length xs) ≡ Some x
slice_get-last xs x =
    let n = length_push xs x in
    slice_get-get_or (xs ++ x ∷ []) (length xs) x (omega arith) ∙ ap Some (get_or_at xs x [] x (length xs) refl)

consistent_more : (m : MemberFields) (e : HistoryEntry) (stamp seen : ℕ) (call : Call) → IsConsistent m stamp seen call → IsConsistent (with_entry m e) stamp seen call
consistent_more m e stamp seen (Handed event (Ok reply)) is = slice_get-longer m.history (e ∷ []) seen _ is
consistent_more m e stamp seen (Handed event (Err fault)) is =
    let n = length_push m.history e in (
      omega (arith, is.0),
      subst (λ h. refusal m.genesis m.keys (events h) event ≡ Some fault) (sym (take-append-le seen m.history (e ∷ []) is.0)) is.1,
    )
consistent_more m e stamp seen (Read reading) is =
    let n = length_push m.history e in (
      omega (arith, is.0),
      subst (λ h. Shows (record m { history = h }) reading) (sym (take-append-le seen m.history (e ∷ []) is.0)) is.1,
    )

-- what a receipt saw and made is in the history that is consistent with it
pub consistent_bound : (m : MemberFields) (stamp : ℕ) (r : ReceiptFields) → IsConsistent m stamp r.seen r.call → entries_after r ≤ length m.history
consistent_bound m stamp r is = go r.call refl is where
  go : (call : Call) → r.call ≡ call → IsConsistent m stamp r.seen call → entries_after r ≤ length m.history
  go (Handed event (Ok reply)) at is = rw at (let within = slice_get_within m.history r.seen _ is in omega arith)
  go (Handed event (Err fault)) at is = rw at is.0
  go (Read reading) at is = rw at is.0

-- ---- one receipt more

abbrev one : Bool → ℕ
one b = cond b 1 0

plus_none : (n : ℕ) → n + 0 ≡ n
plus_none n = omega arith

-- the entries from a base on, with one behind them
under_more : (m : MemberFields) (base stamp : ℕ) (e : HistoryEntry) → base ≤ length m.history
    → entries_under stamp (since base (with_entry m e)) ≡ entries_under stamp (since base m) + one (eqb e.stamp stamp)
under_more m base stamp e within =
    ap (λ (h : List HistoryEntry). entries_under stamp (record m { history = h })) (drop-append-le base m.history (e ∷ []) within)
    ∙ sum_by_push (λ (x : HistoryEntry). one (eqb x.stamp stamp)) (drop base m.history) e

-- a receipt that saw all before a base, and is consistent
abbrev IsSince : MemberFields → ℕ → ℕ → ReceiptFields → Type 0
IsSince m base stamp r = (base ≤ r.seen) × IsConsistent m stamp r.seen r.call

since_more : (m : MemberFields) (e : HistoryEntry) (base stamp : ℕ) (rs : List ReceiptFields) → All (IsSince m base stamp) rs → All (IsSince (with_entry m e) base stamp) rs
since_more m e base stamp rs all =
    All-weaker (IsSince m base stamp) (IsSince (with_entry m e) base stamp) (λ x is. (is.0, consistent_more m e stamp x.seen x.call is.1)) rs all

-- of a call that left no entry
right_told : (m : MemberFields) (base : ℕ) (seat : SeatFields) (call : Call) → base ≤ length m.history → has_entry call ≡ false
    → IsConsistent m seat.stamp (length m.history) call
    → Right m base seat → Right m base (with_receipts seat (record { seen = length m.history; call = call } ∷ []))
right_told m base seat call within none is right =
    let r : ReceiptFields = record { seen = length m.history; call = call } in
    let told : entries_told (with_receipts seat (r ∷ [])) ≡ entries_told seat + one (has_entry call) = sum_by_push (λ (x : ReceiptFields). one (has_entry x.call)) seat.receipts r in
    record {
      counted = right.counted ∙ sym (told ∙ ap (λ b. entries_told seat + one b) none ∙ plus_none (entries_told seat));
      each = All-push (IsSince m base seat.stamp) seat.receipts r right.each (within, is);
      ordered = all_pairs_push (λ (x later : ReceiptFields). entries_after x ≤ later.seen) seat.receipts r right.ordered
          (λ k d below. consistent_bound m seat.stamp (get_or seat.receipts k d) (right.each k d below).1);
    }

-- of one that left an entry
right_entered : (m : MemberFields) (base : ℕ) (seat : SeatFields) (event : Event) (reply : Reply) → base ≤ length m.history → Right m base seat
    → Right (with_entry m (record { stamp = seat.stamp; event = event; reply = reply })) base
    (with_receipts seat (record { seen = length m.history; call = Handed event (Ok reply) } ∷ []))
right_entered m base seat event reply within right =
    let e : HistoryEntry = record { stamp = seat.stamp; event = event; reply = reply } in
    let r : ReceiptFields = record { seen = length m.history; call = Handed event (Ok reply) } in
    let now : MemberFields = with_entry m e in
    let under = under_more m base seat.stamp e within in
    let told : entries_told (with_receipts seat (r ∷ [])) ≡ entries_told seat + 1 = sum_by_push (λ (x : ReceiptFields). one (has_entry x.call)) seat.receipts r in
    record {
      counted = under ∙ ap (λ b. entries_under seat.stamp (since base m) + one b) (eq-eqb seat.stamp seat.stamp refl) ∙ ap (λ n. n + 1) right.counted ∙ sym told;
      each = All-push (IsSince now base seat.stamp) seat.receipts r
          (since_more m e base seat.stamp seat.receipts right.each) (within, slice_get-last m.history e);
      ordered = all_pairs_push (λ (x later : ReceiptFields). entries_after x ≤ later.seen) seat.receipts r right.ordered
          (λ k d below. consistent_bound m seat.stamp (get_or seat.receipts k d) (right.each k d below).1);
    }

-- an entry under another stamp
right_beside : (m : MemberFields) (base : ℕ) (seat : SeatFields) (e : HistoryEntry) → base ≤ length m.history → e.stamp ≢ seat.stamp
    → Right m base seat → Right (with_entry m e) base seat
right_beside m base seat e within other right =
    let there : ℕ = entries_under seat.stamp (since base m) in
    record {
      counted = under_more m base seat.stamp e within ∙ ap (λ b. there + one b) (ne_eqb e.stamp seat.stamp other) ∙ plus_none there ∙ right.counted;
      each = since_more m e base seat.stamp seat.receipts right.each;
      ordered = right.ordered;
    }

-- ---- one call

refused_stays : (m now : MemberFields) (seat : SeatFields) (event : Event) (fault : MemberFault) → refusal m.genesis m.keys (events m.history) event ≡ Some fault → now ≡ m
    → StaysRight m seat now (with_receipts seat (record { seen = length m.history; call = Handed event (Err fault) } ∷ []))
refused_stays m now seat event fault refused same base within right =
    subst (λ x. Right x base (with_receipts seat (record { seen = length m.history; call = Handed event (Err fault) } ∷ []))) (sym same)
    (right_told m base seat (Handed event (Err fault)) within refl
    (omega arith, subst (λ h. refusal m.genesis m.keys (events h) event ≡ Some fault) (sym (take_all (length m.history) m.history (omega arith))) refused) right)

own_stays :
    (m now : MemberFields) (seat after : SeatFields) (event : Event) (answer : Result Reply MemberFault) → IsAnswer m event answer
    → IfOk answer (λ reply. now ≡ with_entry m (record { stamp = seat.stamp; event = event; reply = reply })) → OnErr answer (now ≡ m)
    → after ≡ with_receipts seat (receipts_of (length m.history) event answer)
    → StaysRight m seat now after
own_stays m now seat after event (Ok reply) is entry same at =
    subst (StaysRight m seat now) (sym at)
    (λ base within right. subst (λ x. Right x base (with_receipts seat (record { seen = length m.history; call = Handed event (Ok reply) } ∷ []))) (sym entry)
    (right_entered m base seat event reply within right))
own_stays m now seat after event (Err Memory) is entry same at =
    subst (StaysRight m seat now) (sym at)
    (λ base within right. subst (λ (l : List ReceiptFields). Right now base (record seat { receipts = l })) (sym (append-nil seat.receipts))
    (subst (λ x. Right x base seat) (sym same) right))
own_stays m now seat after event (Err Spent) is entry same at = subst (StaysRight m seat now) (sym at) (refused_stays m now seat event Spent (is (λ other. cc)) same)
own_stays m now seat after event (Err TooLong) is entry same at = subst (StaysRight m seat now) (sym at) (refused_stays m now seat event TooLong (is (λ other. cc)) same)
own_stays m now seat after event (Err (Repeat next)) is entry same at =
    subst (StaysRight m seat now) (sym at) (refused_stays m now seat event (Repeat next) (is (λ other. cc)) same)
own_stays m now seat after event (Err (Gap next)) is entry same at =
    subst (StaysRight m seat now) (sym at) (refused_stays m now seat event (Gap next) (is (λ other. cc)) same)
own_stays m now seat after event (Err WrongKey) is entry same at = subst (StaysRight m seat now) (sym at) (refused_stays m now seat event WrongKey (is (λ other. cc)) same)
own_stays m now seat after event (Err NoAccount) is entry same at = subst (StaysRight m seat now) (sym at) (refused_stays m now seat event NoAccount (is (λ other. cc)) same)

others_stay :
    (m now : MemberFields) (stamp : ℕ) (event : Event) (answer : Result Reply MemberFault)
    → IfOk answer (λ reply. now ≡ with_entry m (record { stamp = stamp; event = event; reply = reply })) → OnErr answer (now ≡ m)
    → (seat : SeatFields) → seat.stamp ≢ stamp → StaysRight m seat now seat
others_stay m now stamp event (Ok reply) entry same seat other base within right =
    subst (λ x. Right x base seat) (sym entry) (right_beside m base seat (record { stamp = stamp; event = event; reply = reply }) within (λ is. other (sym is)) right)
others_stay m now stamp event (Err fault) entry same seat other base within right = subst (λ x. Right x base seat) (sym same) right

pub reading_stays :
    (m : MemberFields) (seat after : SeatFields) (reading : Reading) → Shows m reading
    → after ≡ with_receipts seat (reading_receipt (length m.history) reading)
    → StaysRight m seat m after
reading_stays m seat after reading is at base within right =
    subst (Right m base) (sym at)
    (right_told m base seat (Read reading) within refl
    (omega arith, subst (λ h. Shows (record m { history = h }) reading) (sym (take_all (length m.history) m.history (omega arith))) is) right)

pub handed_in_stays : HandingInStaysRight
handed_in_stays m now seat after event answer handed = (
  own_stays m now seat after event answer handed.is (entered answer handed.member) (refused answer handed.member) handed.receipt,
  others_stay m now seat.stamp event answer (entered answer handed.member) (refused answer handed.member),
) where
  entered : (a : Result Reply MemberFault) → now ≡ behind m seat.stamp event a → IfOk a (λ reply. now ≡ with_entry m (record { stamp = seat.stamp; event = event; reply = reply }))
  entered (Ok reply) is = is
  entered (Err fault) is = tt

  refused : (a : Result Reply MemberFault) → now ≡ behind m seat.stamp event a → OnErr a (now ≡ m)
  refused (Ok reply) is = tt
  refused (Err fault) is = is

-- a member that went on still does behind one event more
pub went_on_by : {X E : Type 0} (was m now : MemberFields) (entry : X → HistoryEntry) (answer : Result X E) → WentOn was m
    → IfOk answer (λ x. now ≡ with_entry m (entry x)) → OnErr answer (now ≡ m) → WentOn was now
went_on_by was m now entry (Ok x) on is same = subst (λ (n : MemberFields). WentOn was n) (sym is) (record {
  genesis = on.genesis;
  keys = on.keys;
  begun = record { rest = on.begun.rest ++ entry x ∷ []; is = ap (λ (h : List HistoryEntry). h ++ entry x ∷ []) on.begun.is ∙ append_assoc was.history on.begun.rest (entry x ∷ []) };
})
went_on_by was m now entry (Err e) on is same = subst (λ (n : MemberFields). WentOn was n) (sym same) on
