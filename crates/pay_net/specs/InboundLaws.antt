-- Statements about which inbound connections keep their places. Each is proved as a public law.
use Rattle.std.specs.Prelude.{◌≡◌, ◌≢◌, ℕ, ◌*◌, ◌<◌, ◌≤◌, Bool, true, false, All, IsSome, List}
use Rattle.std.specs.Prelude.{length, slice_get, Some}
use Rattle.pay_net.specs.Inbound.{IsCurrentOnce, InboundState, has_another, is_current_of}
use Rattle.pay_net.specs.Inbound.{standing_after, who_makes_place}
use Rattle.pay_net.specs.declared.inbound.Inbound.{Inbound}
use Rattle.pay_net.specs.declared.inbound.Owner.{Owner}
use Rattle.pay_net.specs.declared.inbound.Owner.TheVariants.{Nobody, Peer, Current}

-- ---- which connection is closed

-- the connection passes a test, and no older one does
pub record IsOldest (test : Inbound → Bool) (inbound : List Inbound) (i : ℕ) : Type 0 where
  pub connection : Inbound
  pub at : slice_get inbound i ≡ Some connection
  pub passes : test connection ≡ true
  pub older : (k : ℕ) (g : Inbound) → k < i → slice_get inbound k ≡ Some g → test g ≡ false

-- A newcomer closes no peer's current connection.
abbrev pub CurrentOnesStay : Type 0
CurrentOnesStay =
    (inbound : List Inbound) (i peer : ℕ) (g : Inbound) → who_makes_place inbound ≡ Some i
    → slice_get inbound i ≡ Some g → is_current_of peer g.owner ≡ false

-- A newcomer doesn't close the only connection that a peer, or nobody, has besides a current one:
-- the oldest connection with another one waiting beside it is closed.
abbrev pub AnotherOneStays : Type 0
AnotherOneStays =
    (inbound : List Inbound) (i : ℕ) → who_makes_place inbound ≡ Some i
    → IsOldest (has_another inbound) inbound i

-- nobody's, or that of another of `members` members
abbrev pub IsOfAnother : ℕ → ℕ → Owner → Type 0
IsOfAnother members own Nobody = Unit {0}
IsOfAnother members own (Peer peer) = (peer < members) × (peer ≢ own)
IsOfAnother members own (Current peer) = (peer < members) × (peer ≢ own)

abbrev pub AreOfPeers : ℕ → ℕ → List Inbound → Type 0
AreOfPeers members own inbound = All (λ g. IsOfAnother members own g.owner) inbound

-- If all places are taken, and there are at least two for each member, there is a connection to
-- close: so a newcomer finds a place.
abbrev pub OneStandsWhereAllAreTaken : Type 0
OneStandsWhereAllAreTaken =
    (members own : ℕ) (inbound : List Inbound) → own < members → AreOfPeers members own inbound
    → IsCurrentOnce inbound → 2 * members ≤ length inbound
    → IsSome (who_makes_place inbound)

-- ---- what a replayed WANT can't do

-- this peer requested this number, or a greater one
pub record HasAskedFor (peer number : ℕ) (s : InboundState) : Type 0 where
  pub most : ℕ
  pub asked : slice_get s.greatest peer ≡ Some (Some most)
  pub within : number ≤ most

-- A peer has requested what it requests, and that stays so, whoever requests what afterwards.
abbrev pub WhatIsAskedStaysAsked : Type 0
WhatIsAskedStaysAsked =
    (s : InboundState) (place peer number : ℕ) → peer < length s.greatest
    → HasAskedFor peer number (standing_after place peer number s)
    × ((at other more : ℕ) → HasAskedFor peer number s
    → HasAskedFor peer number (standing_after at other more s))

-- A WANT for a number that its peer requested before, or for a lesser one, makes no connection
-- current: what is current after it was so before.
abbrev pub OldWantsMakeNoneCurrent : Type 0
OldWantsMakeNoneCurrent =
    (s : InboundState) (place peer number i other : ℕ) (g : Inbound) → HasAskedFor peer number s
    → slice_get (standing_after place peer number s).inbound i ≡ Some g
    → is_current_of other g.owner ≡ true → slice_get s.inbound i ≡ Some g

-- A replayed WANT doesn't end that a connection is current.
abbrev pub OldWantsLeaveCurrentOnes : Type 0
OldWantsLeaveCurrentOnes =
    (s : InboundState) (place peer number i other : ℕ) (g : Inbound) → HasAskedFor peer number s
    → slice_get s.inbound i ≡ Some g → is_current_of other g.owner ≡ true
    → slice_get (standing_after place peer number s).inbound i ≡ Some g
