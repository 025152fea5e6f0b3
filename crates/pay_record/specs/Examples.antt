-- A record of each kind, with its bytes written by hand.
use Rattle.std.specs.Prelude.{ℕ, true, false, List, [], ◌∷◌, ◌++◌, codes, replicate}
use Rattle.pay_frame.specs.Frame.{frame_of_parts, body_of_parts}
use Rattle.pay_frame.specs.declared.body.Kind.TheVariants.{Send}
use Rattle.pay_link.specs.Keys.{no_key}
use Rattle.pay_member.specs.declared.event.Event.TheVariants.{Ask, Taken, Query}
use Rattle.pay_member.specs.declared.event.Reply.TheVariants as reply
use Rattle.pay_record.specs.Records.{LoggedFields}

-- the seat 258 submitted the value `pay` under the id 7, and the value got the number 3
abbrev pub ask_example : LoggedFields
ask_example =
    record {
      entry = record { stamp = 258; event = Ask (codes "pay"); reply = reply.Asked 3 };
      id = 7;
    }

abbrev pub ask_bytes : List ℕ
ask_bytes =
    (1 ∷ 1 ∷ 2 ∷ [])
    ++ (0 ∷ 0 ∷ 0 ∷ 0 ∷ 0 ∷ 0 ∷ 0 ∷ 7 ∷ [])
    ++ (0 ∷ 0 ∷ 0 ∷ 3 ∷ [])
    ++ (0 ∷ 3 ∷ [])
    ++ (112 ∷ 97 ∷ 121 ∷ [])

-- after a SEND of member 1 its value `!` was echoed and delivered, and one entry settled
abbrev pub frame_example : LoggedFields
frame_example =
    record {
      entry = record {
        stamp = 513;
        event = Taken
            (record {
              frame = frame_of_parts 1 2 3 (body_of_parts Send 1 4 (codes "!"))
                  (replicate 32 170);
              key = no_key;
            });
        reply = reply.Took (record { echo = true; ready = false; deliver = true; settled = 1 });
      };
      id = 0;
    }

abbrev pub frame_example_bytes : List ℕ
frame_example_bytes =
    (4 ∷ 2 ∷ 1 ∷ [])
    ++ (5 ∷ 0 ∷ 0 ∷ 0 ∷ 1 ∷ [])
    ++ (0 ∷ 1 ∷ [])
    ++ (0 ∷ 0 ∷ 0 ∷ 0 ∷ 0 ∷ 0 ∷ 0 ∷ 3 ∷ [])
    ++ (1 ∷ 0 ∷ 1 ∷ 0 ∷ 0 ∷ 0 ∷ 4 ∷ 0 ∷ 1 ∷ [])
    ++ (33 ∷ [])

-- the state of account 2 was requested: it has 1,000, and 4 of its 6 entries are settled
abbrev pub query_example : LoggedFields
query_example =
    record {
      entry = record {
        stamp = 5;
        event = Query 2;
        reply = reply.Told
            (record { balance = 1000; front = 4; listed = 6 });
      };
      id = 0;
    }

abbrev pub query_bytes : List ℕ
query_bytes =
    (3 ∷ 0 ∷ 5 ∷ [])
    ++ (0 ∷ 2 ∷ [])
    ++ (0 ∷ 0 ∷ 0 ∷ 0 ∷ 0 ∷ 0 ∷ 3 ∷ 232 ∷ [])
    ++ (0 ∷ 0 ∷ 0 ∷ 4 ∷ [])
    ++ (0 ∷ 0 ∷ 0 ∷ 6 ∷ [])
