use Rattle.std.proofs.Common.{◌≡◌}
use Rattle.pay_frame.specs.Frame.{frame_bytes}
use Rattle.pay_link.specs.Claims.{challenge_number}
use Rattle.pay_link.specs.Sealing.{want_frame}
use Rattle.pay_peers.proofs.Wants.{if_some}
use Rattle.pay_peers.proofs.challenging.ask_claim.Goals as goal

pub returns-in-Ok-read_one-clause-asked : goal.returns-in-Ok-read_one-clause-asked
returns-in-Ok-read_one-clause-asked g c =
    let keys = c.args.context.now.node.now.keys in
    let bytes : c.want-challenge.result ≡ frame_bytes (want_frame keys c.args.peer (challenge_number c.args.nonce)) = rw (c.keys.ensures, c.challenge_number.ensures) at c.want-challenge.ensures.bytes in
    let asked = rw bytes at c.in-Ok.ensures.ok in
    if_some c.claim_in.result _ asked
