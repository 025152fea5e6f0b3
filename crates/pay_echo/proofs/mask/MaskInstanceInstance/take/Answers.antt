use Rattle.std.proofs.Common.{◌≡◌, ◌&&◌, not, is_none, sym, ap, ◌∙◌}
use Rattle.std.proofs.lemmas.Result.{on_ok_weaker}
use Rattle.pay_echo.specs.Votes.{vote_of_ref}
use Rattle.pay_echo.specs.declared.instance.Moves.{Moves}
use Rattle.pay_echo.proofs.Clauses.{Sees-again, Sees-told}
use Rattle.pay_echo.proofs.MaskLemmas.{Foresees-own}
use Rattle.pay_echo.proofs.mask.MaskInstanceInstance.take.Goals.{then-moves, else-moves}
use Rattle.pay_echo.proofs.mask.MaskInstanceInstance.take.Goals as goal

pub returns-then-is_repeated-clause-seen : goal.returns-then-is_repeated-clause-seen
returns-then-is_repeated-clause-seen c =
    Sees-again c.args.self.now (vote_of_ref c.args.vote) c.is_repeated.ensures.placed c.requires.foreign (sym c.is_repeated.ensures.voted ∙ c.if-is_repeated.true)

pub returns-clause-seen : goal.returns-clause-seen
returns-clause-seen c =
    let ready : c.if-moves.ready ≡ (c.args.moves.ready && is_none c.args.self.now.readied) =
    elim c.if-moves.branch [
      | then-moves w ↦ w.ready-is ∙ ap not w.has_readied.ensures ∙ sym (ap (λ b. b && is_none c.args.self.now.readied) w.if-moves.true)
      | else-moves w ↦ w.ready-is ∙ w.if-moves.false ∙ sym (ap (λ b. b && is_none c.args.self.now.readied) w.if-moves.false)
    ] in
    let moves : Moves = record { echo = c.args.moves.echo; ready = c.if-moves.ready; deliver = c.args.moves.deliver } in
    on_ok_weaker c.write.result
    (Sees-told c.args.self.now (vote_of_ref c.args.vote) c.is_repeated.ensures.placed c.requires.foreign (sym c.is_repeated.ensures.voted ∙ c.if-is_repeated.false) moves
    (Foresees-own c.args.self.now (vote_of_ref c.args.vote) c.args.moves c.if-moves.ready c.requires.told ready) c.write.new.self)
    c.write.ensures.after
