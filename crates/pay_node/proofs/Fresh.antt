-- Fresh seats, one more at a time.
use Rattle.std.proofs.Common.{◌≡◌, ◌⊎◌, inl, inr, ℕ, ◌+◌, ◌<◌, true, false, ltb, Some, List, [], ◌∷◌, ◌++◌, length, slice_get, refl, ap, ◌∙◌, subst, arith}
use Rattle.std.proofs.lemmas.List.{length_push}
use Rattle.std.proofs.lemmas.Bool.{cases_Bool, ltb-true, ltb-false}
use Rattle.pay_node.specs.Seats.{SeatFields}
use Rattle.pay_node.specs.Nodes.{AreFresh, fresh_seat}
use Rattle.pay_node.proofs.Rights.{slice_get-longer, slice_get-last}

pub none_fresh : AreFresh 0 []
none_fresh = record { many = refl; each = λ stamp below. absurd (omega arith) }

pub fresh_more : (count : ℕ) (seats : List SeatFields) → AreFresh count seats → AreFresh (count + 1) (seats ++ fresh_seat count ∷ [])
fresh_more count seats fresh =
    record {
      many = length_push seats (fresh_seat count) ∙ ap (λ n. n + 1) fresh.many;
      each = λ stamp below. go stamp below (cases_Bool (ltb stamp count));
    } where
      go : (stamp : ℕ) → stamp < count + 1 → (ltb stamp count ≡ true) ⊎ (ltb stamp count ≡ false) → slice_get (seats ++ fresh_seat count ∷ []) stamp ≡ Some (fresh_seat stamp)
      go stamp below (inl is) = slice_get-longer seats (fresh_seat count ∷ []) stamp (fresh_seat stamp) (fresh.each stamp (ltb-true stamp count is))
      go stamp below (inr is) =
          let above = ltb-false stamp count is in
          let same : length seats ≡ stamp = (let n = fresh.many in omega arith) in
          let at : count ≡ stamp = omega arith in
          subst (λ n. slice_get (seats ++ fresh_seat count ∷ []) n ≡ Some (fresh_seat stamp)) same
          (slice_get-last seats (fresh_seat count) ∙ ap (λ n. Some (fresh_seat n)) at)
