-- What is printed about a node's peers.
use Rattle.std.specs.Prelude.{List, ℕ, ◌++◌, Bool, true, false, ◌&&◌, not, nat_eq}
use Rattle.std.specs.Prelude.{codes, decimal, if◌then◌else◌}
use Rattle.pay_frame.specs.declared.body.Kind.{Kind}
use Rattle.pay_frame.specs.declared.body.Kind.TheVariants.{Send, Echo, Ready, Want}
use Rattle.pay_member.specs.declared.ledger.Lie.{Lie}
use Rattle.pay_net.specs.declared.contacts.News.{News}
use Rattle.pay_net.specs.declared.contacts.News.TheVariants.{Met, Lost, GivenUp, Lied, Unopened}

abbrev pub kind_words : Kind → List ℕ
kind_words Send = codes "SEND"
kind_words Echo = codes "ECHO"
kind_words Ready = codes "READY"
kind_words Want = codes "WANT"

abbrev pub is_owners_kind : Kind → Bool
is_owners_kind Send = true
is_owners_kind Echo = false
is_owners_kind Ready = false
is_owners_kind Want = false

-- whether a peer spoke as if another's account were its own
abbrev pub is_about_another : ℕ → Lie → Bool
is_about_another peer lie = is_owners_kind lie.kind && not (nat_eq lie.owner peer)

abbrev pub lie_words : ℕ → Lie → List ℕ
lie_words peer lie =
    if is_about_another peer lie
    then codes "a SEND about account " ++ decimal lie.owner ++ codes ", which isn't its own"
    else codes "a second " ++ kind_words lie.kind ++ codes " about value " ++ decimal lie.seq
    ++ codes " of account " ++ decimal lie.owner

abbrev pub news_words : ℕ → News → List ℕ
news_words peer Met = codes "met"
news_words peer Lost = codes "lost"
news_words peer GivenUp = codes "given up"
news_words peer (Lied lie) =
    codes "lied: " ++ lie_words peer lie ++ codes "; nothing more is read from it"
news_words peer Unopened =
    codes "sends frames that don't open: another key or another group"
