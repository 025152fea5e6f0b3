-- A frame of the wire: what it says, and its one spelling as bytes. The format, version 1, is this
-- project's own; the table of its fields stands in docs/formats.md.
use Rattle.std.specs.Prelude.{◌≡◌, ℕ, ◌+◌, ◌^◌, ◌<◌, ◌≤◌, List, [], ◌∷◌, ◌++◌, length}
use Rattle.std.specs.Int.{w16, w32, w64, to_be_bytes}
use Rattle.pay_frame.specs.declared.limits.TheConstants.{LEAST_LENGTH, GREATEST_VALUE, TAG_LEN}
use Rattle.pay_frame.specs.declared.limits.TheConstants.{SEQS}
use Rattle.pay_frame.specs.declared.body.Kind.{Kind}
use Rattle.pay_frame.specs.declared.body.Kind.TheVariants.{Send, Echo, Ready, Want}

-- the contents of a frame, whoever sends it to whom
pub record BodyFields : Type 0 where
  pub kind : Kind
  pub owner : ℕ
  pub seq : ℕ
  pub value : List ℕ

-- all that a frame encodes
pub record FrameFields : Type 0 where
  pub from : ℕ
  pub to : ℕ
  pub number : ℕ
  pub body : BodyFields
  pub tag : List ℕ

abbrev pub code_of : Kind → ℕ
code_of Send = 1
code_of Echo = 2
code_of Ready = 3
code_of Want = 4

-- a body and a frame, made of their parts
abbrev pub body_of_parts : Kind → ℕ → ℕ → List ℕ → BodyFields
body_of_parts kind owner seq value = record { kind = kind; owner = owner; seq = seq; value = value }

abbrev pub frame_of_parts : ℕ → ℕ → ℕ → BodyFields → List ℕ → FrameFields
frame_of_parts from to number body tag =
    record { from = from; to = to; number = number; body = body; tag = tag }

-- the 24 bytes before the value: length, version 1, kind, from, to, number, owner, seq, value
-- length
abbrev pub head_bytes : ℕ → ℕ → ℕ → BodyFields → List ℕ
head_bytes from to number body =
    to_be_bytes w16 (LEAST_LENGTH + length body.value) ++ (1 ∷ code_of body.kind ∷ [])
    ++ to_be_bytes w16 from ++ to_be_bytes w16 to ++ to_be_bytes w64 number
    ++ to_be_bytes w16 body.owner ++ to_be_bytes w32 body.seq ++ to_be_bytes w16 (length body.value)

abbrev pub head_of : FrameFields → List ℕ
head_of f = head_bytes f.from f.to f.number f.body

-- head, value, tag
abbrev pub frame_bytes : FrameFields → List ℕ
frame_bytes f = head_of f ++ f.body.value ++ f.tag

-- a WANT contains nothing except its kind
abbrev pub IsBare : BodyFields → Type 0
IsBare body = (body.owner ≡ 0) × (body.seq ≡ 0) × (body.value ≡ [])

-- the limits of a frame's contents
pub record IsBody (body : BodyFields) : Type 0 where
  pub owner : body.owner < 2 ^ 16
  pub seq : body.seq < SEQS
  pub value : length body.value ≤ GREATEST_VALUE
  pub want : body.kind ≡ Want → IsBare body

-- The limits of a frame. Its value and tag are lists of numbers here. In a slice each number is a
-- byte.
pub record IsFrame (f : FrameFields) : Type 0 where
  pub from : f.from < 2 ^ 16
  pub to : f.to < 2 ^ 16
  pub number : f.number < 2 ^ 64
  pub body : IsBody f.body
  pub tag : length f.tag ≡ TAG_LEN
