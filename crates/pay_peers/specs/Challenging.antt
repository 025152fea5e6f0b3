-- How a member requests a peer's claim.
use Rattle.std.specs.Prelude.{◌≡◌, ◌≢◌, ℕ, ◌^◌, ◌<◌, List, Option, Some, None, Ok}
use Rattle.std.specs.Io.KnownBytes.{Consumes}
use Rattle.pay_frame.specs.Frame.{FrameFields}
use Rattle.pay_frame.specs.OneFrame.{IsOneFrame}
use Rattle.pay_link.specs.Claims.{claim_number}
use Rattle.pay_link.specs.Keys.{KeyFields}
use Rattle.pay_member.specs.declared.bringing.Incoming.TheVariants.{Want}
use Rattle.pay_member.specs.Bringing.{incoming_at}

-- How many frames a frame claims, if it is this peer's claim on a challenge with this nonce.
abbrev pub IsClaimIn : KeyFields → FrameFields → ℕ → ℕ → Option ℕ → Type 0
IsClaimIn k f peer nonce (Some taken) =
    (incoming_at k f ≡ Ok (Want peer (claim_number nonce taken))) × (taken < 2 ^ 25)
IsClaimIn k f peer nonce None =
    (taken : ℕ) → incoming_at k f ≢ Ok (Want peer (claim_number nonce taken))

-- A claim of `taken` frames came, and nothing else was read.
pub record HasClaimed (k : KeyFields) (peer nonce : ℕ) (input left : Option (List ℕ)) (taken : ℕ)
    : Type 0 where
  pub read : List ℕ
  pub consumed : Consumes input left read
  pub frame : FrameFields
  pub one : IsOneFrame read frame
  pub claim : IsClaimIn k frame peer nonce (Some taken)
