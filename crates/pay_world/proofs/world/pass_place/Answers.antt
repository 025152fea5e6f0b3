use Rattle.std.proofs.Common.{Some, option_map, sym, ap, ◌∙◌}
use Rattle.pay_link.specs.Checked.{bytes_of}
use Rattle.pay_world.specs.declared.event.WorldEvent.TheVariants.{Bring}
use Rattle.pay_world.specs.declared.event.WorldReply.TheVariants.{Brought}
use Rattle.pay_world.specs.Answer.{member_after}
use Rattle.pay_world.proofs.world.pass_place.Goals as goal

pub returns-clause-after : goal.returns-clause-after
returns-clause-after g c =
    ap Some c.in_ok-outcome.ensures.entry
    ∙ sym (ap (option_map (member_after (Bring 0 (bytes_of c.args.checked)) (Brought c.in_ok-outcome.outcome))) c.in-Some.is)
