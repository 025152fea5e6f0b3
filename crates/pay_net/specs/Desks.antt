-- A node's desk, which several clients share: the one on standard input and those of a socket.
use Rattle.std.specs.Prelude.{◌≡◌, ℕ, ◌-◌, Bool, true, List, [], Option, Result, Ok, Err, IfSome, ⊤}
use Rattle.std.specs.Prelude.{false, length, map}
use Rattle.std.specs.Io.KnownBytes.{IsAtEnd}
use Rattle.pay_desk.specs.declared.command.TheConstants.{MOST_LINE}
use Rattle.pay_desk.specs.declared.desk.Desk.{Desk}
use Rattle.pay_desk.specs.declared.kept.Kept.{Kept}
use Rattle.pay_desk.specs.Desk.{DeskSays}
use Rattle.pay_frame.specs.declared.device.StreamFault.{StreamFault}
use Rattle.pay_node.specs.Nodes.{NodeFields, fresh_seat, node_as}
use Rattle.pay_node.specs.Seats.{SeatFields}
use Rattle.pay_peers.specs.Telling.{TellerFields, TellerSays, next_behind}
use Rattle.pay_text.specs.Answers.{Answers}
use Rattle.pay_text.specs.Engine.{Answering, AnswersAll, AnswersFirst}
use Rattle.pay_text.specs.Lines.{lines_within}

-- A node's desk before any line, which calls the node from this seat and continues with what is
-- kept: the next value's number is the one after those.
abbrev pub desk_from : NodeFields → List Kept → SeatFields → Desk TellerFields
desk_from n kept seat = record {
  teller = record { node = n; seat = seat; next = next_behind (length kept) };
  accounts = length n.keys.keys;
  own = n.keys.own;
  kept = kept;
}

-- a node's desk before any line, with the last of the node's fresh seats
abbrev pub first_desk : NodeFields → List Kept → Desk TellerFields
first_desk n kept = desk_from n kept (fresh_seat (n.seats - 1))

-- a desk of no node
abbrev pub no_desk : Desk TellerFields
no_desk =
    first_desk
    (node_as
    (record {
      genesis = record { members = 0; faults = 0; opening = [] };
      keys = record { own = 0; keys = [] };
      history = [];
    }) 0 false) []

-- These lines, whoever gave them, made this desk of the first: each was answered by the desk that
-- the lines before it made.
-- page: `IsMadeOf`, `AnswersClient`: a node's desk is what some lines made of the first, whoever
--   gave them; each answer to a client's line is such a desk's
pub record IsMadeOf (first desk : Desk TellerFields) : Type 0 where
  pub lines : List (Option (List ℕ))
  pub text : List ℕ
  pub answers : Answers (DeskSays TellerSays) first lines text true desk

-- a client's line is answered by a desk that lines made of the first, and a line may follow
pub record AnswersClient (first : Desk TellerFields) (line : Option (List ℕ)) (text : List ℕ)
    (on : Bool) : Type 0 where
  pub old : Desk TellerFields
  pub made : IsMadeOf first old
  pub new : Desk TellerFields
  pub said : DeskSays TellerSays old line text on new

-- a desk that others use too answers a client in this way, and the client learns nothing else of it
abbrev pub client_answering : Desk TellerFields → Answering Unit
client_answering first =
    record { says = λ old line text on new. AnswersClient first line text on; gives_up = λ _ _. ⊤ }

-- What a client's input held and what is left of it, and what its output held before and after.
pub record DeskStreams : Type 0 where
  pub input : Option (List ℕ)
  pub left : Option (List ℕ)
  pub before : Option (List ℕ)
  pub after : Option (List ℕ)

abbrev pub desk_streams :
    Option (List ℕ) → Option (List ℕ) → Option (List ℕ) → Option (List ℕ) → DeskStreams
desk_streams input left before after =
    record { input = input; left = left; before = before; after = after }

-- What is written to a client, according to how its stream ended: the answers to all its lines in
-- order, at its input's end; otherwise a prefix of them.
abbrev pub WritesClient : Desk TellerFields → DeskStreams → Result Unit StreamFault → Type 0
WritesClient first streams (Ok done) =
    IfSome streams.input
    (λ bytes. AnswersAll (client_answering first).says (lines_within MOST_LINE bytes)
    (record { answerer = tt; written = streams.before })
    (record { answerer = tt; written = streams.after }) true
    × IsAtEnd streams.left)
WritesClient first streams (Err fault) =
    IfSome streams.input
    (λ bytes. AnswersFirst (client_answering first) (lines_within MOST_LINE bytes)
    (record { answerer = tt; written = streams.before })
    (record { answerer = tt; written = streams.after }))

-- What the node's desk wrote to the client on standard input, according to how that ended. Each
-- answer is that of a desk that lines made of the first. The last of these desks has the seat that
-- the node was called from.
pub record HasServed (first : Desk TellerFields) (seat : SeatFields) (streams : DeskStreams)
    (ended : Result Unit StreamFault) : Type 0 where
  pub desk : Desk TellerFields
  pub made : IsMadeOf first desk
  pub last : desk.teller.seat ≡ seat
  pub wrote : WritesClient first streams ended
