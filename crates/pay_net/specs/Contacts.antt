-- When a peer is connected, and when it is disconnected.
use Rattle.std.specs.Prelude.{ℕ, ◌&&◌, nat_le, Bool, false, Option, Some, None, ⊤}
use Rattle.pay_member.specs.declared.ledger.Lie.{Lie}
use Rattle.pay_net.specs.declared.contacts.News.{News}
use Rattle.pay_net.specs.declared.contacts.News.TheVariants.{Met, Lost, GivenUp, Lied, Unopened}

-- What is reported when a peer is heard after this event: that it is connected, unless it is, was
-- abandoned, or sent a protocol violation.
abbrev pub news_when_heard : Option News → Option News
news_when_heard None = Some Met
news_when_heard (Some Met) = None
news_when_heard (Some Lost) = Some Met
news_when_heard (Some GivenUp) = None
news_when_heard (Some (Lied lie)) = None
news_when_heard (Some Unopened) = Some Met

-- What is reported when a peer sent a protocol violation: that, unless it was reported before.
abbrev pub news_of_lie : Option News → Lie → Option News
news_of_lie None lie = Some (Lied lie)
news_of_lie (Some Met) lie = Some (Lied lie)
news_of_lie (Some Lost) lie = Some (Lied lie)
news_of_lie (Some GivenUp) lie = Some (Lied lie)
news_of_lie (Some (Lied former)) lie = None
news_of_lie (Some Unopened) lie = Some (Lied lie)

-- A connected peer is disconnected if two connections in a row failed, and nothing came from it for
-- a second.
abbrev pub is_lost : Option News → ℕ → ℕ → Bool
is_lost None missed silence = false
is_lost (Some Met) missed silence = nat_le 2 missed && nat_le 1000 silence
is_lost (Some Lost) missed silence = false
is_lost (Some GivenUp) missed silence = false
is_lost (Some (Lied lie)) missed silence = false
is_lost (Some Unopened) missed silence = false

-- What may be reported about a peer after the last event. A peer is reported disconnected only
-- after it was connected, and neither event comes twice in a row. After an abandoned peer only a
-- protocol violation follows, and after that nothing. A failed authentication may be reported at
-- any time.
abbrev pub MayFollow : Option News → News → Type 0
MayFollow None Lost = ⊥
MayFollow None _ = ⊤
MayFollow (Some Met) Met = ⊥
MayFollow (Some Met) _ = ⊤
MayFollow (Some Lost) Lost = ⊥
MayFollow (Some Lost) _ = ⊤
MayFollow (Some GivenUp) Unopened = ⊤
MayFollow (Some GivenUp) (Lied lie) = ⊤
MayFollow (Some GivenUp) _ = ⊥
MayFollow (Some (Lied lie)) Unopened = ⊤
MayFollow (Some (Lied lie)) _ = ⊥
MayFollow (Some Unopened) Lost = ⊥
MayFollow (Some Unopened) _ = ⊤
