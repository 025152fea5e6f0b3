use Rattle.std.proofs.Common.{rules, ◌≡◌, ◌∙◌, Some, None, slice_get, ap, sym}
use Rattle.pay_member.specs.Replay.{member_replayed}
use Rattle.pay_node.specs.Sending.{sent_by}
use Rattle.pay_node.proofs.Kept.{found_shown, one_shown, some_same}
use Rattle.pay_node.proofs.judging.has_sent.Goals as goal

pub returns-in-Some : goal.returns-in-Some
returns-in-Some c =
    let m = member_replayed c.args.replay.now in
    let sent : slice_get (sent_by m) c.args.number ≡ Some c.in-Some.sent.now = search rules in (
      (λ is. one_shown m c.args.number c.args.body.now (sent ∙ ap Some (c.is_same_body.ensures.0 is))),
      (λ shown. c.is_same_body.ensures.1 (some_same _ _ (sym sent ∙ found_shown m c.args.number c.args.body.now shown))),
    )

pub returns-in-None : goal.returns-in-None
returns-in-None c =
    let m = member_replayed c.args.replay.now in
    let none : slice_get (sent_by m) c.args.number ≡ None = search rules in
    (λ is. absurd (cc is), λ shown. absurd (cc (none, found_shown m c.args.number c.args.body.now shown)))
