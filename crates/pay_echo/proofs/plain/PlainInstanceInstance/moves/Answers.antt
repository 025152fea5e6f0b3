use Rattle.std.proofs.Common.{sym, ◌∙◌}
use Rattle.pay_echo.specs.Votes.{vote_of_ref}
use Rattle.pay_echo.proofs.Clauses.{Foresees-again, Foresees-first}
use Rattle.pay_echo.proofs.plain.PlainInstanceInstance.moves.Goals as goal

pub returns-then-is_repeated : goal.returns-then-is_repeated
returns-then-is_repeated c =
    Foresees-again c.args.self.now (vote_of_ref c.args.vote) c.is_repeated.ensures.placed c.requires.foreign (sym c.is_repeated.ensures.voted ∙ c.if-is_repeated.true)

pub returns : goal.returns
returns c =
    Foresees-first c.args.self.now (vote_of_ref c.args.vote) c.is_repeated.ensures.placed c.requires.foreign (sym c.is_repeated.ensures.voted ∙ c.if-is_repeated.false) c.moves_by.result c.moves_by.ensures
