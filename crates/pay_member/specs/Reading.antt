-- What can be read of a member, as functions of its events.
use Rattle.std.specs.Prelude.{ℕ, nat_lt, ◌&&◌, ◌==◌, List, [], ◌++◌, drop, take, length}
use Rattle.std.specs.Prelude.{if◌then◌else◌}
use Rattle.pay_frame.specs.Frame.{BodyFields}
use Rattle.pay_channel.specs.Asked.{asked_values}
use Rattle.pay_channel.specs.History.{Event, asks, out, list_of}
use Rattle.pay_link.specs.Genesis.{GenesisFields}
use Rattle.pay_book.specs.Excerpt.{ExcerptFields, settled_excerpt, waiting_excerpt}
use Rattle.pay_book.specs.Places.{place_of}
use Rattle.pay_member.specs.declared.question.PaymentState.{PaymentState}
use Rattle.pay_member.specs.declared.question.PaymentState.TheVariants.{Unknown, Asked, Waiting}
use Rattle.pay_member.specs.declared.question.PaymentState.TheVariants.{Settled}
use Rattle.pay_member.specs.Group.{group_in}
use Rattle.pay_member.specs.Book.{book_after}

-- how far the value under a number of an account has come: it is settled if all its entries are
-- page: `state_of`: how far a value has come ([the words](commands.md#desk))
unfoldable pub state_of : GenesisFields → ℕ → List Event → ℕ → ℕ → PaymentState
state_of g own events owner seq =
    if nat_lt seq (place_of (book_after g own events).places owner).0 then Settled
    else if nat_lt seq (length (list_of (group_in g own) events owner)) then Waiting
    else if (owner == own) && nat_lt seq (asks events) then Asked
    else Unknown

-- the bodies sent to all, from a place on: at most `count`, and at most as many as one fetch
-- returns
unfoldable pub fetched_bodies : GenesisFields → ℕ → List Event → ℕ → ℕ → List BodyFields
fetched_bodies g own events number count = take count (drop number (out (group_in g own) events))

-- An account's values as far as a member knows them: those of its list and, for its own account,
-- the submitted values that aren't listed yet.
-- page: `values_known`: an account's list, and after it the member's own submitted values that
--   aren't listed yet
unfoldable pub values_known : GenesisFields → ℕ → List Event → ℕ → List (List ℕ)
values_known g own events account =
    list_of (group_in g own) events account
    ++ (if account == own
    then drop (length (list_of (group_in g own) events account)) (asked_values events)
    else [])

-- what settled of an account from a number on
abbrev pub entries_shown : GenesisFields → ℕ → List Event → ℕ → ℕ → ExcerptFields
entries_shown g own events account from =
    settled_excerpt (book_after g own events) (list_of (group_in g own) events) account from

-- what is known of an account and isn't settled
abbrev pub waiting_shown : GenesisFields → ℕ → List Event → ℕ → ExcerptFields
waiting_shown g own events account =
    waiting_excerpt (book_after g own events) (values_known g own events) account
