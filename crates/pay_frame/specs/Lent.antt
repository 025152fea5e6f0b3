-- What a frame in a buffer lends.
use Rattle.std.specs.Prelude.{ℕ, Option, Some, None, Result, Ok, Err}
use Rattle.pay_frame.specs.declared.reading.FrameFault.{FrameFault}
use Rattle.pay_frame.specs.declared.frame_ref.FrameRef.{FrameRef}
use Rattle.pay_frame.specs.Frame.{FrameFields}

-- the fields that its parts spell
abbrev pub fields_of : FrameRef → FrameFields
fields_of r = record {
  from = r.from;
  to = r.to;
  number = r.number;
  body = record { kind = r.kind; owner = r.owner; seq = r.seq; value = r.value.now };
  tag = r.tag.now;
}

-- an answer to a reader, by fields
abbrev pub sized_of :
    Result (Option (FrameRef × ℕ)) FrameFault → Result (Option (FrameFields × ℕ)) FrameFault
sized_of (Ok (Some (r, size))) = Ok (Some (fields_of r, size))
sized_of (Ok None) = Ok None
sized_of (Err fault) = Err fault

-- an answer to a reader of one frame, by fields
abbrev pub one_of : Result FrameRef FrameFault → Result FrameFields FrameFault
one_of (Ok r) = Ok (fields_of r)
one_of (Err fault) = Err fault

-- an answer of a cutter, by fields
abbrev pub given_of : Result (Option FrameRef) FrameFault → Result (Option FrameFields) FrameFault
given_of (Ok (Some r)) = Ok (Some (fields_of r))
given_of (Ok None) = Ok None
given_of (Err fault) = Err fault
