-- What a desk's call broadcasts from a seat: the law of a teller, for a seat.
use Rattle.std.specs.Prelude.{◌≡◌, ◌⊎◌, ℕ, List, [], ◌∷◌, ◌++◌, Result, Ok, Err}
use Rattle.std.proofs.Common.{inl, inr, ap, sym, refl, ◌∙◌, append-nil}
use Rattle.std.proofs.lemmas.List.Elements.{filter_map-append}
use Rattle.pay_desk.specs.declared.fault.TellerFault.{TellerFault}
use Rattle.pay_desk.specs.declared.fault.TellerFault.TheVariants as teller
use Rattle.pay_desk.specs.Calls.{Exchange, Ask, Query, Read, Withhold, values_asked_by}
use Rattle.pay_member.specs.declared.fault.QueryFault.{QueryFault}
use Rattle.pay_member.specs.declared.fault.QueryFault.TheVariants as query
use Rattle.pay_member.specs.declared.event.Event.TheVariants as event
use Rattle.pay_member.specs.declared.reading.Reading.{Reading}
use Rattle.pay_member.specs.declared.event.Told.{Told}
use Rattle.pay_member.specs.Answer.{answer_of_query}
use Rattle.pay_node.specs.Comparing.{IsWithheldOfOwn}
use Rattle.pay_node.specs.Receipts.{ReceiptFields, reading_at}
use Rattle.pay_node.specs.Nodes.{IsAnswered, NodeFields}
use Rattle.pay_node.specs.Seats.{KeepsReceipt, SeatFields, with_receipts}
use Rattle.pay_peers.specs.Telling.{IsToldOfValue, SeatSays, value_told, values_told}

more_told : (seat : SeatFields) (more : List ReceiptFields)
    → values_told (with_receipts seat more).receipts ≡ values_told seat.receipts ++ values_told more
unfolding values_told
more_told seat more = filter_map-append (λ r. value_told r.call) seat.receipts more

-- a seat with some more receipts
told_after : (old new : SeatFields) (more : List ReceiptFields) (values : List (List ℕ))
    → new ≡ with_receipts old more
    → values_told more ≡ values → values_told new.receipts ≡ values_told old.receipts ++ values
told_after old new more values is told =
    ap (λ (s : SeatFields). values_told s.receipts) is ∙ more_told old more
    ∙ ap (λ (vs : List (List ℕ)). values_told old.receipts ++ vs) told

-- a seat that is unchanged
told_nothing : (old new : SeatFields) → new ≡ old
    → values_told new.receipts ≡ values_told old.receipts ++ []
told_nothing old new same =
    ap (λ (s : SeatFields). values_told s.receipts) same
    ∙ sym (append-nil (values_told old.receipts))

-- a seat that keeps a reading's receipt
told_read : (old new : SeatFields) (seen : ℕ) (reading : Reading)
    → KeepsReceipt old new (reading_at seen reading)
    → values_told new.receipts ≡ values_told old.receipts ++ []
unfolding values_told
told_read old new seen reading keeps = go keeps.more where
  go : (new ≡ old) ⊎ (new ≡ with_receipts old (reading_at seen reading ∷ []))
      → values_told new.receipts ≡ values_told old.receipts ++ []
  go (inl same) = told_nothing old new same
  go (inr is) = told_after old new (reading_at seen reading ∷ []) [] is refl

by_ask : (n : NodeFields) (old new : SeatFields) (id : ℕ) (value : List ℕ)
    (answer : Result ℕ TellerFault) → IsToldOfValue n old new value answer
    → values_told new.receipts
    ≡ values_told old.receipts ++ values_asked_by (Ask id value answer)
unfolding values_told
by_ask n old new id value (Ok seq) is =
    told_after old new _ (value ∷ []) is.is.receipt refl
by_ask n old new id value (Err teller.Spent) is = told_after old new _ [] is.is.0.receipt refl
by_ask n old new id value (Err teller.TooEarly) is = told_read old new _ _ is.is.0.receipt
by_ask n old new id value (Err teller.Forgotten) is = told_read old new _ _ is.is.1.receipt
by_ask n old new id value (Err teller.Memory) is = absurd is

by_query : (n : NodeFields) (old new : SeatFields) (account : ℕ) (answer : Result Told QueryFault)
    → IsAnswered n old new (event.Query account) (answer_of_query answer)
    → values_told new.receipts ≡ values_told old.receipts ++ []
unfolding values_told
by_query n old new account (Ok told) is = told_after old new _ [] is.receipt refl
by_query n old new account (Err query.NoAccount) is = told_after old new _ [] is.receipt refl
by_query n old new account (Err query.Memory) is = told_after old new _ [] is.receipt refl

-- nothing is broadcast except what is submitted and gets a number
pub seat_asks :
    (n : NodeFields) (old new : SeatFields) (said : Exchange) → SeatSays n old said new
    → values_told new.receipts ≡ values_told old.receipts ++ values_asked_by said
seat_asks n old new (Ask id value answer) is = by_ask n old new id value answer is
seat_asks n old new (Query account answer) is = by_query n old new account answer is
seat_asks n old new (Read reading) is = told_read old new _ _ is.shown.receipt
seat_asks n old new (Withhold reading) is = go is.withheld where
  go : IsWithheldOfOwn n old new reading
      → values_told new.receipts ≡ values_told old.receipts ++ []
  go (inl forgot) = told_read old new _ _ forgot.receipt
  go (inr read) = told_read old new _ _ read.0.receipt
