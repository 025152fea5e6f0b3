use Rattle.std.proofs.Common.{ℕ, Ok, rules}
use Rattle.pay_channel.specs.Applied.{event_of_ref}
use Rattle.pay_channel.proofs.Asking.{taken_follows}
use Rattle.pay_channel.proofs.channel.Channel.apply.Goals as goal

pub returns-in-Ask-clause-takes : goal.returns-in-Ask-clause-takes
returns-in-Ask-clause-takes g c = search rules

pub returns-in-Some-clause-takes : goal.returns-in-Some-clause-takes
returns-in-Some-clause-takes g c = search rules

pub returns-in-None-clause-takes : goal.returns-in-None-clause-takes
returns-in-None-clause-takes g c = search rules

pub returns-in-Ask-clause-follows : goal.returns-in-Ask-clause-follows
returns-in-Ask-clause-follows g c =
    taken_follows c.ask.result c.args.self.now c.ask.new.self (event_of_ref c.args.event) (returns-in-Ask-clause-takes g c)

pub returns-in-Some-clause-follows : goal.returns-in-Some-clause-follows
returns-in-Some-clause-follows g c =
    taken_follows c.vote.result c.args.self.now c.vote.new.self (event_of_ref c.args.event) (returns-in-Some-clause-takes g c)

pub returns-in-None-clause-follows : goal.returns-in-None-clause-follows
returns-in-None-clause-follows g c =
    taken_follows {T = ℕ} {E = ℕ} (Ok 0) c.args.self.now c.args.self.now (event_of_ref c.args.event) (returns-in-None-clause-takes g c)
