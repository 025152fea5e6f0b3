use Rattle.std.proofs.Common.{ℕ, List, Option, sym, subst, ◌∙◌, refl, codes}
use Rattle.pay_sim.specs.Script.{Prints, TellsSent, with_feed}
use Rattle.pay_sim.specs.Playing.{IsDone}
use Rattle.pay_sim.proofs.game.Game.bring.Goals as goal

pub returns-in-Some : goal.returns-in-Some
returns-in-Some g c = λ group es b.
    subst (λ (o : Option (List ℕ)). IsDone (TellsSent group es c.args.to o) group c.args.out.now.items c.tell.new.out.items c.tell.new.self c.tell.result) (sym c.in-Some.is ∙ c.in_ok-frame.ensures group es b)
    (c.tell.ensures group es b)

pub returns-in_ok-push_word-in-None : goal.returns-in_ok-push_word-in-None
returns-in_ok-push_word-in-None g c = λ group es b. (
  with_feed (codes "absent"),
  es,
  subst (λ (o : Option (List ℕ)). TellsSent group es c.args.to o (Prints (with_feed (codes "absent")) es)) (sym c.in-None.is ∙ c.in_ok-frame.ensures group es b) refl,
  c.in_ok-push_word-in-None.ensures,
  b,
)
