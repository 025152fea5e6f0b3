-- The first WANT of a reader.
use Rattle.std.proofs.Common.{◌≡◌, ℕ, List, ap, ◌∙◌}
use Rattle.pay_frame.specs.Frame.{frame_bytes}
use Rattle.pay_link.specs.Keys.{KeyFields}
use Rattle.pay_link.specs.Sealing.{want_frame}
use Rattle.pay_peers.specs.Feeding.{want_for_all}

pub first_is : (k own : KeyFields) (peer : ℕ) (bytes : List ℕ) → own ≡ k → bytes ≡ frame_bytes (want_frame own peer 0) → bytes ≡ want_for_all k peer
unfolding want_for_all
first_is k own peer bytes same is = is ∙ ap (λ (x : KeyFields). frame_bytes (want_frame x peer 0)) same
