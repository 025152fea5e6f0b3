-- The answer of a member to an event, as a function of the events before.
use Rattle.std.specs.Prelude.{ℕ, ◌-◌, List, [], ◌∷◌, ◌++◌, length, slice_index, sum}
use Rattle.pay_echo.specs.Broadcast.{echoed, readied}
use Rattle.pay_echo.specs.Meaning.{became}
use Rattle.pay_channel.specs.History as channel
use Rattle.pay_channel.specs.History.{asks, owner_of, seq_of, votes, delivered_at, list_of}
use Rattle.pay_link.specs.Genesis.{GenesisFields}
use Rattle.pay_member.specs.declared.event.Event.{Event}
use Rattle.pay_member.specs.declared.event.Event.TheVariants.{Ask, Taken, Query}
use Rattle.pay_member.specs.declared.event.Took.{Took}
use Rattle.pay_member.specs.declared.event.Told.{Told}
use Rattle.pay_member.specs.declared.event.Reply.{Reply}
use Rattle.pay_member.specs.declared.event.Reply.TheVariants as reply
use Rattle.pay_member.specs.Group.{group_in}
use Rattle.pay_member.specs.Book.{book_after}

-- in the broadcast s of account a: what became known by one more event, and how many entries
-- settled in all
abbrev pub took_at : GenesisFields → ℕ → List channel.Event → channel.Event → ℕ → ℕ → Took
took_at g own before e a s =
    record {
      echo = became (echoed (votes own a s before)) (echoed (votes own a s (before ++ e ∷ [])));
      ready = became
          (readied (group_in g own) (votes own a s before))
          (readied (group_in g own) (votes own a s (before ++ e ∷ [])));
      deliver = became
          (delivered_at (group_in g own) before a s)
          (delivered_at (group_in g own) (before ++ e ∷ []) a s);
      settled =
          sum (book_after g own (before ++ e ∷ [])).front - sum (book_after g own before).front;
    }

-- in the event's own broadcast
unfoldable pub took_by : GenesisFields → ℕ → List channel.Event → channel.Event → Took
took_by g own before e = took_at g own before e (owner_of own e) (seq_of (asks before) e)

-- an account's balance, how many of its entries are settled, and how many values its list has
unfoldable pub told_of : GenesisFields → ℕ → List channel.Event → ℕ → Told
told_of g own events a =
    record {
      balance = slice_index (book_after g own events).balances a;
      front = slice_index (book_after g own events).front a;
      listed = length (list_of (group_in g own) events a);
    }

-- page: `reply_to`: the reply that is owed: the count of values submitted before; what became known
--   by the frame, and how many entries settled; an account's balance, front and length of list
abbrev pub reply_to : GenesisFields → ℕ → List channel.Event → Event → Reply
reply_to g own before (Ask v) = reply.Asked (asks before)
reply_to g own before (Taken c) =
    reply.Took (took_by g own before (channel.From c.frame.from c.frame.body))
reply_to g own before (Query a) = reply.Told (told_of g own before a)
