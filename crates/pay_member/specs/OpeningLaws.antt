-- Statements about the frames that a member authenticates. Each is proved as a public law.
use Rattle.std.specs.Prelude.{◌≡◌, ◌≢◌, ℕ, List, Some}
use Rattle.pay_frame.specs.declared.body.Kind.TheVariants.{Want}
use Rattle.pay_frame.specs.Frame.{FrameFields}
use Rattle.pay_frame.specs.OneFrame.{IsOneFrame}
use Rattle.pay_link.specs.Keys.{KeyFields}
use Rattle.pay_link.specs.Opening.{Opens}
use Rattle.pay_member.specs.Bringing.{opened_in}

-- The bytes are this frame and nothing else, these keys authenticate it, and it is no WANT.
pub record OpensFrom (k : KeyFields) (bytes : List ℕ) (f : FrameFields) : Type 0 where
  pub one : IsOneFrame bytes f
  pub opens : Opens k f
  pub other : f.body.kind ≢ Want

abbrev pub WhatOpens : Type 0
WhatOpens =
    (k : KeyFields) (bytes : List ℕ) (f : FrameFields)
    → opened_in k bytes ≡ Some f → OpensFrom k bytes f
