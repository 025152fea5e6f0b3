-- The ledger of a member's events: all is settled that their lists allow.
use Rattle.std.specs.Prelude.{ℕ, List}
use Rattle.pay_channel.specs.History.{Event, list_of}
use Rattle.pay_link.specs.Genesis.{GenesisFields}
use Rattle.pay_book.specs.Book.{Standing}
use Rattle.pay_book.specs.Settled.{settled_book}
use Rattle.pay_member.specs.Group.{group_in}

-- the opening amounts, how many entries of each account are settled, and the balances there
unfoldable pub book_after : GenesisFields → ℕ → List Event → Standing
book_after g own events = settled_book g.opening (list_of (group_in g own) events)
