use Rattle.pay_channel.proofs.Listing.{IsSound-blank, IsStateBy-blank}
use Rattle.pay_channel.proofs.channel.Channel.new.Goals as goal

pub invariant_of-result : goal.invariant_of-result
invariant_of-result g c =
    rw (c.new.ensures, c.new-2.ensures.items, c.in_ok-listed.ensures) (IsSound-blank c.nothing_known_at_first.ensures.delivered (record { members = c.args.members; faults = c.args.faults; own = c.args.own }) c.requires.few c.requires.own)

pub returns-clause-follows : goal.returns-clause-follows
returns-clause-follows g c =
    rw (c.new.ensures, c.new-2.ensures.items) (IsStateBy-blank (record { members = c.args.members; faults = c.args.faults; own = c.args.own }))
