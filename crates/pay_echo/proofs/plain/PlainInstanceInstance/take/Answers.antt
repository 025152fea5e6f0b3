use Rattle.std.proofs.Common.{sym, ◌∙◌}
use Rattle.std.proofs.lemmas.Result.{on_ok_weaker}
use Rattle.pay_echo.specs.Votes.{vote_of_ref}
use Rattle.pay_echo.proofs.Clauses.{Sees-again, Sees-told}
use Rattle.pay_echo.proofs.plain.PlainInstanceInstance.take.Goals as goal

pub returns-then-is_repeated-clause-seen : goal.returns-then-is_repeated-clause-seen
returns-then-is_repeated-clause-seen c =
    Sees-again c.args.self.now (vote_of_ref c.args.vote) c.is_repeated.ensures.placed c.requires.foreign (sym c.is_repeated.ensures.voted ∙ c.if-is_repeated.true)

pub returns-clause-seen : goal.returns-clause-seen
returns-clause-seen c =
    on_ok_weaker c.write.result
    (Sees-told c.args.self.now (vote_of_ref c.args.vote) c.is_repeated.ensures.placed c.requires.foreign (sym c.is_repeated.ensures.voted ∙ c.if-is_repeated.false) c.args.moves c.requires.told c.write.new.self)
    c.write.ensures.after
