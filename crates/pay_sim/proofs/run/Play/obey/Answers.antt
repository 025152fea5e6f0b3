use Rattle.std.proofs.Common.{sym, ap, ◌∙◌}
use Rattle.std.specs.Option.{option_copied}
use Rattle.pay_sim.specs.Playing.{PlayFields}
use Rattle.pay_sim.proofs.Reading.{reads_none, reads_command, founds}
use Rattle.pay_sim.proofs.run.Play.obey.Goals as goal

pub returns-in_default-clause-read : goal.returns-in_default-clause-read
returns-in_default-clause-read g c = λ group es b. reads_none group es _ (ap option_copied c.in_default.is)

pub returns-in-Some-game-clause-read : goal.returns-in-Some-game-clause-read
returns-in-Some-game-clause-read g c = λ group es b. reads_command group es _ c.in-Some.line.now _ _ _ _ _ c.obey_line.result (ap option_copied c.in-Some.is) (sym (ap (λ (p : PlayFields). p.game) c.self.view_is) ∙ c.in-Some-game.is) b c.obey_line.ensures

pub returns-in_ok-build_game-in-None-clause-read : goal.returns-in_ok-build_game-in-None-clause-read
returns-in_ok-build_game-in-None-clause-read g c = λ group es b. founds group es _ c.in-Some.line.now _ _ c.in_ok-build_game-in-None.field-0 (ap option_copied c.in-Some.is) (sym (ap (λ (p : PlayFields). p.game) c.self.view_is) ∙ c.in-None.is) b c.in_ok-build_game-in-None.ensures
