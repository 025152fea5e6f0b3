-- The seats that the threads of a node are given, and those that come back.
use Rattle.std.proofs.Common.{◌≡◌, ◌≢◌, ◌⊎◌, inl, inr, ℕ, zero, suc, ◌+◌, ◌-◌, ◌*◌, ◌<◌, ◌≤◌, cond, List, [], ◌∷◌, ◌++◌, length, map, get_or, Option, Result, Ok, Err, refl, sym, ap, ◌∙◌, subst, arith, add-one}
use Rattle.std.specs.List.{All}
use Rattle.std.proofs.lemmas.Bool.{cases_eq, eq-eqb, ne_eqb}
use Rattle.std.proofs.lemmas.List.{append-nil, append_assoc, get_or_append_left, get_or_at, length_push, map_push}
use Rattle.std.proofs.lemmas.List.Elements.{All-cons, All-head, All-map, All-nil, All-push, All-tail}
use Rattle.std.proofs.lemmas.Option.{get_or_from_slice_get}
use Rattle.pay_frame.specs.declared.device.StreamFault.{StreamFault}
use Rattle.pay_link.specs.Keys.{KeyFields}
use Rattle.pay_node.specs.Keeping.{HasFetchedAlone}
use Rattle.pay_node.specs.Nodes.{AreFresh, NodeFields, fresh_seat}
use Rattle.pay_node.specs.Seats.{SeatFields}
use Rattle.pay_peers.specs.declared.feeding.PeerReader.{PeerReader}
use Rattle.pay_peers.specs.Growing.{EachGrows, SeatGrows, HasGrown}
use Rattle.pay_desk.specs.declared.desk.Desk.{Desk}
use Rattle.pay_net.specs.Desks.{DeskStreams, HasServed}
use Rattle.pay_net.specs.Running.{HasRun, IsDeskFault, IsReader, others_below, peers_of}
use Rattle.pay_peers.specs.Telling.{TellerFields}
use Rattle.pay_net.specs.Seating.{AreSeated, BringsWriters, IsFresh, SeatsOne}
use Rattle.pay_net.proofs.Desks.{served_well}

-- ---- all of a list, and of what is at its front

all_last : {X : Type 0} (P : X → Type 0) (xs : List X) (x : X) → All P (xs ++ x ∷ []) → P x
all_last P xs x all =
    let n = length_push xs x in
    subst P (get_or_at xs x [] x (length xs) refl) (all (length xs) x (omega arith))

pub all_front : {X : Type 0} (P : X → Type 0) (xs : List X) (x : X) → All P (xs ++ x ∷ []) → All P xs
all_front P xs x all k d within =
    let n = length_push xs x in
    subst P (get_or_append_left xs (x ∷ []) d k within) (all k d (omega arith))

-- ---- given out

-- Of fresh seats the last but one has no receipt.
pub none_called : (had mid left : List SeatFields) (reader writer : SeatFields) → All IsFresh had → had ≡ mid ++ reader ∷ [] → mid ≡ left ++ writer ∷ [] → writer.receipts ≡ []
none_called had mid left reader writer fresh last before =
    let front = all_front IsFresh mid reader (subst (All IsFresh) last fresh) in
    ap (λ (s : SeatFields). s.receipts) (all_last IsFresh left writer (subst (All IsFresh) before front))

pub all_fresh : (count : ℕ) (seats : List SeatFields) → AreFresh count seats → All IsFresh seats
all_fresh count seats fresh k d within =
    let many = fresh.many in
    let here : get_or seats k d ≡ fresh_seat k = get_or_from_slice_get seats k (fresh_seat k) d (fresh.each k (omega arith)) in
    here ∙ ap fresh_seat (sym (ap (λ (s : SeatFields). s.stamp) here))

below_own : (own peer : ℕ) → peer ≡ own → others_below own (suc peer) ≡ others_below own peer
below_own own peer same = ap (λ b. cond b (others_below own peer) (others_below own peer ++ peer ∷ [])) (eq-eqb peer own same)

below_other : (own peer : ℕ) → peer ≢ own → others_below own (suc peer) ≡ others_below own peer ++ peer ∷ []
below_other own peer other = ap (λ b. cond b (others_below own peer) (others_below own peer ++ peer ∷ [])) (ne_eqb peer own other)

-- the member itself has no reader
seated_own : (own peer : ℕ) (old new : List (ℕ × PeerReader)) (had left : List SeatFields)
    → peer ≡ own → new ≡ old → left ≡ had → AreSeated own peer old had → AreSeated own (suc peer) new left
seated_own own peer old new had left same is rest so_far = record {
  peers = ap (map (λ (r : ℕ × PeerReader). r.0)) is ∙ so_far.peers ∙ sym (below_own own peer same);
  fresh = subst (All (λ (r : ℕ × PeerReader). IsFresh r.1.seat)) (sym is) so_far.fresh;
  left = subst (All IsFresh) (sym rest) so_far.left;
}

-- a peer has
seated_other : (own peer : ℕ) (old new : List (ℕ × PeerReader)) (had left : List SeatFields)
    → peer ≢ own → SeatsOne peer old new had left → AreSeated own peer old had → AreSeated own (suc peer) new left
seated_other own peer old new had left other one so_far =
    let all = subst (All IsFresh) one.taken so_far.left in
    let front = all_front IsFresh (left ++ one.writer ∷ []) one.reader all in
    record {
      peers = ap (map (λ (r : ℕ × PeerReader). r.0)) one.readers ∙ map_push (λ (r : ℕ × PeerReader). r.0) old _
          ∙ ap (λ l. l ++ peer ∷ []) so_far.peers ∙ sym (below_other own peer other);
      fresh = subst (All (λ (r : ℕ × PeerReader). IsFresh r.1.seat)) (sym one.readers)
          (All-push (λ (r : ℕ × PeerReader). IsFresh r.1.seat) old _ so_far.fresh (all_last IsFresh (left ++ one.writer ∷ []) one.reader all));
      left = all_front IsFresh left one.writer front;
    }

pub seated_on : (own peer : ℕ) (old new : List (ℕ × PeerReader)) (had left : List SeatFields)
    → (peer ≡ own → new ≡ old) → (peer ≡ own → left ≡ had) → (peer ≢ own → SeatsOne peer old new had left)
    → AreSeated own peer old had → AreSeated own (peer + 1) new left
seated_on own peer old new had left same rest one so_far =
    subst (λ k. AreSeated own k new left) (sym (add-one peer)) (go (cases_eq peer own)) where
      go : (peer ≡ own) ⊎ (peer ≢ own) → AreSeated own (suc peer) new left
      go (inl is) = seated_own own peer old new had left is (same is) (rest is) so_far
      go (inr other) = seated_other own peer old new had left other (one other) so_far

pub seated_none : (own : ℕ) (readers : List (ℕ × PeerReader)) (seats left : List SeatFields) (desk : SeatFields)
    → readers ≡ [] → seats ≡ left ++ desk ∷ [] → All IsFresh seats → AreSeated own 0 readers left
seated_none own readers seats left desk empty is fresh =
    subst (λ (rs : List (ℕ × PeerReader)). AreSeated own 0 rs left) (sym empty)
    (record { peers = refl; fresh = All-nil _; left = all_front IsFresh left desk (subst (All IsFresh) is fresh) })

-- how many seats are left behind each peer
abbrev pub AreLeft : ℕ → ℕ → ℕ → List SeatFields → Type 0
AreLeft own members peer left =
    (peer ≤ own → length left + 2 * peer + 2 ≡ 2 * members) × (own < peer → length left + 2 * peer ≡ 2 * members)

pub left_at_first : (own members : ℕ) (seats left : List SeatFields) (desk : SeatFields) → seats ≡ left ++ desk ∷ [] → length seats + 1 ≡ 2 * members → AreLeft own members 0 left
left_at_first own members seats left desk is count =
    let n = ap length is in
    let n1 = length_push left desk in
    ((λ up. omega arith), (λ past. omega arith))

pub left_on : (own members peer : ℕ) (old new : List (ℕ × PeerReader)) (had left : List SeatFields)
    → (peer ≡ own → left ≡ had) → (peer ≢ own → SeatsOne peer old new had left)
    → AreLeft own members peer had → AreLeft own members (peer + 1) left
left_on own members peer old new had left rest one so_far = go (cases_eq peer own) where
  go : (peer ≡ own) ⊎ (peer ≢ own) → AreLeft own members (peer + 1) left
  go (inl is) = let n = ap length (rest is) in let before = so_far.0 in ((λ up. absurd (omega arith)), (λ past. (let b = before (omega arith) in omega arith)))
  go (inr other) =
      let taken = (one other).taken in
      let n = ap length taken in
      let n1 = length_push (left ++ (one other).writer ∷ []) (one other).reader in
      let n2 = length_push left (one other).writer in
      ((λ up. (let b = so_far.0 (omega arith) in omega arith)), (λ past. (let less : own < peer = omega arith in let b = so_far.1 less in omega arith)))

pub none_left : (own members peer : ℕ) (left : List SeatFields) → own < members → members ≤ peer → AreLeft own members peer left → peer ≤ members → left ≡ []
none_left own members peer [] below over are top = refl
none_left own members peer (s ∷ left) below over are top = (let b = are.1 (omega arith) in absurd (omega arith))

-- ---- come back

-- a peer with its seat alone
abbrev reader_from : ℕ × PeerReader → ℕ × SeatFields
reader_from r = (r.0, r.1.seat)

grown_peers : (old new : List (ℕ × PeerReader)) → EachGrows old new → map (λ (r : ℕ × PeerReader). r.0) new ≡ map (λ (r : ℕ × PeerReader). r.0) old
grown_peers [] [] grown = refl
grown_peers [] (y ∷ ys) grown = (let many = grown.many in absurd (omega arith))
grown_peers (x ∷ xs) [] grown = (let many = grown.many in absurd (omega arith))
grown_peers (x ∷ xs) (y ∷ ys) grown =
    let first : HasGrown x y = grown.each zero x (omega arith) in
    let many = grown.many in
    let rest : EachGrows xs ys = record { many = omega arith; each = λ k d within. grown.each (suc k) d (omega arith) } in
    (λ i. first.0 i ∷ grown_peers xs ys rest i)

reader_of : (x y : ℕ × PeerReader) → IsFresh x.1.seat → HasGrown x y → IsReader (reader_from y)
reader_of x y fresh grown =
    let stamp : y.1.seat.stamp ≡ x.1.seat.stamp = ap (λ (s : SeatFields). s.stamp) grown.1.is in
    let was : x.1.seat ≡ fresh_seat y.1.seat.stamp = fresh ∙ ap fresh_seat (sym stamp) in
    subst (λ peer. SeatGrows peer (fresh_seat y.1.seat.stamp) y.1.seat) (sym grown.0)
    (subst (λ (s : SeatFields). SeatGrows x.0 s y.1.seat) was grown.1)

grown_readers : (old new : List (ℕ × PeerReader)) → EachGrows old new → All (λ (r : ℕ × PeerReader). IsFresh r.1.seat) old
    → All (λ (r : ℕ × PeerReader). IsReader (reader_from r)) new
grown_readers [] [] grown fresh = All-nil _
grown_readers [] (y ∷ ys) grown fresh = (let many = grown.many in absurd (omega arith))
grown_readers (x ∷ xs) [] grown fresh = (let many = grown.many in absurd (omega arith))
grown_readers (x ∷ xs) (y ∷ ys) grown fresh =
    let first : HasGrown x y = grown.each zero x (omega arith) in
    let many = grown.many in
    let rest : EachGrows xs ys = record { many = omega arith; each = λ k d within. grown.each (suc k) d (omega arith) } in
    All-cons (λ (r : ℕ × PeerReader). IsReader (reader_from r)) y ys (reader_of x y (All-head (λ (r : ℕ × PeerReader). IsFresh r.1.seat) x xs fresh) first)
    (grown_readers xs ys rest (All-tail (λ (r : ℕ × PeerReader). IsFresh r.1.seat) x xs fresh))

map_twice : {X Y Z : Type 0} (f : X → Y) (h : Y → Z) (xs : List X) → map h (map f xs) ≡ map (λ x. h (f x)) xs
map_twice f h [] = refl
map_twice f h (x ∷ xs) = ap (λ l. h (f x) ∷ l) (map_twice f h xs)

pub has_run :
    (n : NodeFields) (first : Desk TellerFields) (all : List SeatFields) (last : SeatFields) (old new : List (ℕ × PeerReader)) (streams : DeskStreams)
    (ended : Result Unit StreamFault) (done : Unit)
    → map (λ (r : ℕ × PeerReader). r.0) old ≡ peers_of n.keys → All (λ (r : ℕ × PeerReader). IsFresh r.1.seat) old → EachGrows old new
    → (writers : List SeatFields) × All HasFetchedAlone writers × (all ≡ (map (λ (r : ℕ × PeerReader). r.1.seat) new ++ writers) ++ last ∷ [])
    → ended ≡ Ok done → HasServed first last streams ended → HasRun n first all streams
has_run n first all last old new streams ended done peers readers grown gathered well served = record {
  readers = map reader_from new;
  writers = gathered.0;
  desk = last;
  all = gathered.2 ∙ sym (ap (λ l. (l ++ gathered.0) ++ last ∷ []) (map_twice reader_from (λ (r : ℕ × SeatFields). r.1) new));
  peers = map_twice reader_from (λ (r : ℕ × SeatFields). r.0) new ∙ grown_peers old new grown ∙ peers;
  read = All-map IsReader reader_from new (grown_readers old new grown readers);
  fetched = gathered.1;
  served = served_well _ _ _ _ _ well served;
}

-- a desk that ended with a fault
pub desk_failed :
    (first : Desk TellerFields) (last : SeatFields) (streams : DeskStreams) (ended : Result Unit StreamFault) (fault : StreamFault)
    → ended ≡ Err fault → HasServed first last streams ended → IsDeskFault first fault streams
desk_failed first last streams ended fault failed served =
    record { desk = last; served = subst (λ (e : Result Unit StreamFault). HasServed first last streams e) failed served }

-- the peers, by their number and the own one
pub peers_same : (k : KeyFields) (own members : ℕ) (peers : List ℕ) → peers ≡ others_below own members → own ≡ k.own → members ≡ length k.keys → peers ≡ peers_of k
peers_same k own members peers is one all = is ∙ (λ i. others_below (one i) (all i))

-- ---- the writers

-- the writers to a peer more, and to the member itself none
pub answered_on : (own peer : ℕ) (had have : List ℕ) → (peer ≡ own → have ≡ had) → (peer ≢ own → have ≡ had ++ peer ∷ []) → had ≡ others_below own peer
    → have ≡ others_below own (peer + 1)
answered_on own peer had have same more so_far =
    subst (λ k. have ≡ others_below own k) (sym (add-one peer)) (go (cases_eq peer own)) where
      go : (peer ≡ own) ⊎ (peer ≢ own) → have ≡ others_below own (suc peer)
      go (inl is) = same is ∙ so_far ∙ sym (below_own own peer is)
      go (inr other) = more other ∙ ap (λ l. l ++ peer ∷ []) so_far ∙ sym (below_other own peer other)

pub brings_none : (all : List SeatFields) → BringsWriters 0 all all
brings_none all = record { more = []; many = refl; fetched = All-nil _; is = sym (append-nil all) }

pub brings_more : {W : Type 0} (done : List W) (writer : W) (old now all : List SeatFields) (seat : SeatFields)
    → HasFetchedAlone seat → all ≡ now ++ seat ∷ [] → BringsWriters (length done) old now → BringsWriters (length (done ++ writer ∷ [])) old all
brings_more done writer old now all seat alone pushed so_far =
    let n = length_push done writer in
    let m = length_push so_far.more seat in
    let many = so_far.many in
    record {
      more = so_far.more ++ seat ∷ [];
      many = omega arith;
      fetched = All-push HasFetchedAlone so_far.more seat so_far.fetched alone;
      is = pushed ∙ ap (λ l. l ++ seat ∷ []) so_far.is ∙ append_assoc old so_far.more (seat ∷ []);
    }
