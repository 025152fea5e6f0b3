-- Statements about deliveries and the accounts' lists. Each is proved as a public law.
use Rattle.std.specs.Prelude.{◌≡◌, ◌≢◌, ℕ, ◌<◌, ◌≤◌, ◌↔◌, ◌⊎◌, List, [], ◌∷◌, ◌++◌, length}
use Rattle.std.specs.Prelude.{slice_get, Contains, Option, Some, None}
use Rattle.pay_echo.specs.Broadcast.{Group, delivered}
use Rattle.pay_channel.specs.Prefix.{IsPrefix}
use Rattle.pay_channel.specs.Source.{GrowsOnly}
use Rattle.pay_channel.specs.History.{Event, Ask, From, owner_of, votes, seqs, listed_values}
use Rattle.pay_channel.specs.History.{delivered_at}
use Rattle.pay_channel.specs.History.{list_of}

-- ---- what is delivered

abbrev pub DeliveredIs : Type 0
DeliveredIs =
    (g : Group) (history : List Event) (a s : ℕ)
    → delivered_at g history a s ≡ delivered g (votes g.own a s history)

abbrev pub NothingDeliveredAtFirst : Type 0
NothingDeliveredAtFirst = (g : Group) (a s : ℕ) → delivered_at g [] a s ≡ None

abbrev pub DeliveryStays : Type 0
DeliveryStays =
    (g : Group) (history more : List Event) (a s : ℕ) (v : List ℕ)
    → delivered_at g history a s ≡ Some v → delivered_at g (history ++ more) a s ≡ Some v

-- the value of an event
abbrev pub value_of_event : Event → List ℕ
value_of_event (Ask v) = v
value_of_event (From p body) = body.value

-- what is delivered came by an event: it was submitted, or a body had it
abbrev pub DeliveredCame : Type 0
DeliveredCame =
    (g : Group) (history : List Event) (a s : ℕ) (v : List ℕ) → delivered_at g history a s ≡ Some v
    → (e : Event) × Contains history e × (value_of_event e ≡ v)

-- ---- an account's list, place by place

-- every number below n has a value
abbrev pub AreKnown : (ℕ → Option (List ℕ)) → ℕ → Type 0
AreKnown value_at n = (s : ℕ) → s < n → value_at s ≢ None

-- Whatever the values are, place k exists exactly if all numbers up to k have a value, and has the
-- value of number k.
abbrev pub PlaceIsValue : Type 0
PlaceIsValue =
    (g : Group) (value_at : ℕ → ℕ → Option (List ℕ)) (a k : ℕ) (v : List ℕ)
    → (slice_get (listed_values g value_at a) k ≡ Some v)
    ↔ ((a < g.members) × (k < seqs) × AreKnown (value_at a) k × (value_at a k ≡ Some v))

abbrev pub PlaceIsDelivered : Type 0
PlaceIsDelivered =
    (g : Group) (history : List Event) (a k : ℕ) (v : List ℕ)
    → (slice_get (list_of g history a) k ≡ Some v)
    ↔ ((a < g.members) × (k < seqs) × AreKnown (delivered_at g history a) k
    × (delivered_at g history a k ≡ Some v))

abbrev pub ListedIsDelivered : Type 0
ListedIsDelivered =
    (g : Group) (history : List Event) (a k : ℕ) (v : List ℕ)
    → slice_get (list_of g history a) k ≡ Some v → delivered_at g history a k ≡ Some v

-- ---- the end of a list

abbrev pub ListIsShort : Type 0
ListIsShort = (g : Group) (history : List Event) (a : ℕ) → length (list_of g history a) ≤ seqs

-- the list has n values exactly if the first n numbers are delivered
abbrev pub ListReaches : Type 0
ListReaches =
    (g : Group) (history : List Event) (a n : ℕ) → a < g.members → n ≤ seqs
    → (n ≤ length (list_of g history a)) ↔ AreKnown (delivered_at g history a) n

-- the number after the list has no value
abbrev pub ListEnds : Type 0
ListEnds =
    (g : Group) (history : List Event) (a : ℕ) → a < g.members → length (list_of g history a) < seqs
    → delivered_at g history a (length (list_of g history a)) ≡ None

abbrev pub EmptyAtFirst : Type 0
EmptyAtFirst = (g : Group) (a : ℕ) → list_of g [] a ≡ []

abbrev pub EmptyOfNobody : Type 0
EmptyOfNobody =
    (g : Group) (history : List Event) (a : ℕ) → g.members ≤ a → list_of g history a ≡ []

-- ---- a list and given values

-- if these values are what is delivered, each under its place, they are the list
abbrev pub ListIsValues : Type 0
ListIsValues =
    (g : Group) (history : List Event) (a : ℕ) (values : List (List ℕ)) → a < g.members
    → length values ≤ seqs
    → ((s : ℕ) → delivered_at g history a s ≡ slice_get values s) → list_of g history a ≡ values

-- if nothing else is delivered, the list is a prefix of them
abbrev pub ListBeginsValues : Type 0
ListBeginsValues =
    (g : Group) (history : List Event) (a : ℕ) (values : List (List ℕ))
    → ((s : ℕ) (v : List ℕ) → delivered_at g history a s ≡ Some v → slice_get values s ≡ Some v)
    → IsPrefix (list_of g history a) values

-- ---- two lists of an account

abbrev pub ListsAlike : Type 0
ListsAlike =
    (g h : Group) (one other : List Event) (a : ℕ) → g.members ≡ h.members
    → ((s : ℕ) → delivered_at g one a s ≡ delivered_at h other a s)
    → list_of g one a ≡ list_of h other a

-- if the members agree on what both deliver, one list is a prefix of the other
abbrev pub ListsCompare : Type 0
ListsCompare =
    (g h : Group) (one other : List Event) (a : ℕ)
    → ((s : ℕ) (v u : List ℕ)
    → delivered_at g one a s ≡ Some v → delivered_at h other a s ≡ Some u → v ≡ u)
    → IsPrefix (list_of g one a) (list_of h other a)
    ⊎ IsPrefix (list_of h other a) (list_of g one a)

-- ---- a longer history

abbrev pub ListsGrow : Type 0
ListsGrow =
    (g : Group) (history more : List Event) (a : ℕ)
    → IsPrefix (list_of g history a) (list_of g (history ++ more) a)

-- an event lengthens only the list of the account that it is about
abbrev pub OneListGrows : Type 0
OneListGrows =
    (g : Group) (history : List Event) (e : Event)
    → GrowsOnly (list_of g history) (list_of g (history ++ e ∷ [])) (owner_of g.own e)
