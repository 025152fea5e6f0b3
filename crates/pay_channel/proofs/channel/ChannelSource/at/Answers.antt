use Rattle.std.proofs.Common.{sym, ap, ◌∙◌}
use Rattle.std.specs.Option.{option_copied}
use Rattle.pay_channel.proofs.Listing.{lists-at, listed_is_there}
use Rattle.pay_channel.proofs.channel.ChannelSource.at.Goals as goal

pub unwrap-requires : goal.unwrap-requires
unwrap-requires g c = listed_is_there c.args.self.now c.args.owner c.args.k c.delivered.result c.requires c.delivered.ensures

pub returns : goal.returns
returns g c =
    lists-at c.args.self.now c.args.owner c.args.k c.requires ∙ sym c.delivered.ensures
    ∙ ap option_copied c.unwrap.ensures
