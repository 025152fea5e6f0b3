use Rattle.std.proofs.Common.{ap, sym, ◌∙◌, subst, arith}
use Rattle.std.proofs.lemmas.Grind.{common_steps}
use Rattle.std.specs.Bool.{then_some}
use Rattle.pay_frame.specs.declared.body.Kind.TheVariants.{Echo, Ready}
use Rattle.pay_echo.specs.Meaning.{Meaning}
use Rattle.pay_echo.specs.Moves.{IsMoves}
use Rattle.pay_channel.specs.History.{body_of}
use Rattle.pay_channel.proofs.instances.tell.Goals as goal

pub returns-clause-out : goal.returns-clause-out
returns-clause-out g c =
    let was = c.requires.reached in
    let now = c.in_ok-take.ensures.seen was.0 was.1 was.2 in
    let P : Meaning → Type 0 = λ m. IsMoves (g.I.Instance.meaning c.args.instance.now) m c.moves-moves.result in
    record {
      moves = subst P (sym now) (c.moves-moves.ensures was.0 was.1 was.2);
      echo = c.in_ok-echo.ensures ∙ ap (λ v. then_some c.moves-moves.result.echo (body_of Echo c.args.owner c.args.seq v)) c.value.ensures.value;
      ready = c.in_ok-ready.ensures ∙ ap (λ v. then_some c.moves-moves.result.ready (body_of Ready c.args.owner c.args.seq v)) c.value-2.ensures.value;
    }

pub returns-in_err-echo-clause-err : goal.returns-in_err-echo-clause-err
returns-in_err-echo-clause-err g c = grind (arith, common_steps)

pub returns-in_err-ready-clause-err : goal.returns-in_err-ready-clause-err
returns-in_err-ready-clause-err g c = grind (arith, common_steps)

pub take-requires-clause-told : goal.take-requires-clause-told
take-requires-clause-told g c = grind (arith, common_steps)
