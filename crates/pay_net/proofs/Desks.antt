-- The desk's seat was the fresh one with the last stamp, and is among those that the history is consistent with.
use Rattle.std.proofs.Common.{◌≡◌, ◌≢◌, ℕ, ◌-◌, ◌==◌, Bool, true, false, nat_lt, Some, Option, Result, Ok, List, [], ◌∷◌, ◌++◌, length, slice_get, refl, sym, ap, ◌∙◌, subst, arith}
use Rattle.std.proofs.lemmas.Bool.{eq-eqb, ltb-true, ltb-false}
use Rattle.std.proofs.lemmas.List.{get_or_at, length_push}
use Rattle.std.proofs.lemmas.List.Elements.{All-get_or, filter-append}
use Rattle.std.proofs.lemmas.Option.{slice_get-get_or}
use Rattle.pay_frame.specs.declared.device.StreamFault.{StreamFault}
use Rattle.pay_member.specs.Member.{MemberFields}
use Rattle.pay_node.specs.Closing.{AllReconciled, seats_with}
use Rattle.pay_node.specs.Nodes.{AreFresh, NodeFields, fresh_seat}
use Rattle.pay_node.specs.Seats.{Right, SeatFields}
use Rattle.pay_desk.specs.declared.desk.Desk.{Desk}
use Rattle.pay_desk.specs.declared.kept.Kept.{Kept}
use Rattle.pay_net.specs.Desks.{DeskStreams, HasServed, desk_from, first_desk}
use Rattle.pay_peers.specs.Telling.{TellerFields}

-- ---- the last seat

at_end : {X : Type 0} (xs : List X) (x : X) → slice_get (xs ++ x ∷ []) (length xs) ≡ Some x
at_end xs x =
    let n = length_push xs x in
    slice_get-get_or (xs ++ x ∷ []) (length xs) x (omega arith) ∙ ap Some (get_or_at xs x [] x (length xs) refl)

some_same : {X : Type 0} (x y : X) → Some x ≡ Some y → x ≡ y
some_same x y same = cc

pub last_is_fresh : (count : ℕ) (seats others : List SeatFields) (desk : SeatFields)
    → AreFresh count seats → seats ≡ others ++ desk ∷ [] → desk ≡ fresh_seat (count - 1)
last_is_fresh count seats others desk fresh is =
    let n = length_push others desk in
    let m = ap length is in
    let many = fresh.many in
    let place : length others ≡ count - 1 = omega arith in
    let here : slice_get seats (count - 1) ≡ Some desk =
    subst (λ (k : ℕ). slice_get seats k ≡ Some desk) place
    (subst (λ (all : List SeatFields). slice_get all (length others) ≡ Some desk) (sym is) (at_end others desk)) in
    some_same desk (fresh_seat (count - 1)) (sym here ∙ fresh.each (count - 1) (omega arith))

pub served_well : (first : Desk TellerFields) (seat : SeatFields) (streams : DeskStreams) (ended : Result Unit StreamFault) (done : Unit)
    → ended ≡ Ok done → HasServed first seat streams ended → HasServed first seat streams (Ok tt)
served_well first seat streams ended done well served = subst (λ (e : Result Unit StreamFault). HasServed first seat streams e) well served

-- the desk that is made with the last of the fresh seats is the first
pub begins_so : (n : NodeFields) (kept : List Kept) (seats others : List SeatFields) (seat : SeatFields) (first : Desk TellerFields)
    → AreFresh n.seats seats → seats ≡ others ++ seat ∷ [] → first_desk n kept ≡ first → desk_from n kept seat ≡ first
begins_so n kept seats others seat first fresh is begins = ap (desk_from n kept) (last_is_fresh n.seats seats others seat fresh is) ∙ begins

-- ---- a seat among those that are settled

only_one : (xs : List SeatFields) (x seat : SeatFields) → xs ++ x ∷ [] ≡ seat ∷ [] → seat ≡ x
only_one [] x seat is = cc
only_one (y ∷ xs) x seat is =
    let n = length_push xs x in
    let one = ap length is in
    absurd (omega arith)

alone : (desk : SeatFields) → seats_with desk.stamp (desk ∷ []) ≡ desk ∷ []
alone desk = rw (eq-eqb desk.stamp desk.stamp refl) refl

by_stamp : (m : MemberFields) (base count : ℕ) (others : List SeatFields) (desk : SeatFields) (b : Bool) → nat_lt desk.stamp count ≡ b
    → AllReconciled m base count (others ++ desk ∷ []) → Right m base desk
by_stamp m base count others desk true below settled =
    let kept = (settled desk.stamp).own (ltb-true desk.stamp count below) in
    let parts = filter-append (λ (s : SeatFields). s.stamp == desk.stamp) others (desk ∷ []) in
    let two : seats_with desk.stamp others ++ desk ∷ [] ≡ kept.seat ∷ [] =
    sym (parts ∙ ap (λ (last : List SeatFields). seats_with desk.stamp others ++ last) (alone desk)) ∙ kept.one in
    subst (Right m base) (only_one (seats_with desk.stamp others) desk kept.seat two) kept.right
by_stamp m base count others desk false above settled =
    let unused = (settled desk.stamp).other (ltb-false desk.stamp count above) in
    let n = length_push others desk in
    let strange = All-get_or (λ (s : SeatFields). s.stamp ≢ desk.stamp) (others ++ desk ∷ []) (length others) desk (omega arith) unused.unseated in
    absurd (strange (ap (λ (s : SeatFields). s.stamp) (get_or_at others desk [] desk (length others) refl)))

pub right_at_end : (m : MemberFields) (base count : ℕ) (seats others : List SeatFields) (desk : SeatFields)
    → seats ≡ others ++ desk ∷ [] → AllReconciled m base count seats → Right m base desk
right_at_end m base count seats others desk is settled =
    by_stamp m base count others desk (nat_lt desk.stamp count) refl
    (subst (λ (all : List SeatFields). AllReconciled m base count all) is settled)
