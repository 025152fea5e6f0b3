use Rattle.std.proofs.Common.{◌≡◌, List, ℕ, Option, Some, None, is_some, Bor, refl, ap, ap₂, ◌∙◌, arith}
use Rattle.std.proofs.lemmas.Grind.{common_steps}
use Rattle.std.specs.Option.{option_copied}
use Rattle.pay_echo.specs.Step.{vote_at}
use Rattle.pay_echo.specs.Plain.{votes_at_places}
use Rattle.pay_echo.proofs.plain.PlainInstance.is_repeated.Goals as goal

is_some-copied : (o : Option (Bor (List ℕ))) → is_some o ≡ is_some (option_copied o)
is_some-copied None = refl
is_some-copied (Some v) = refl

pub returns-in-Echo-clause-voted : goal.returns-in-Echo-clause-voted
returns-in-Echo-clause-voted c =
    rw (c.in-Echo.is, ← c.self.view_is)
    (c.is_some-in-Echo.ensures ∙ is_some-copied c.vote_at.result
    ∙ ap is_some (c.vote_at.ensures ∙ ap₂ (λ values places. vote_at (votes_at_places values places) c.in-Echo.process) c.deref.ensures.value c.deref-in-Echo.ensures.value))

pub returns-in-Ready-clause-voted : goal.returns-in-Ready-clause-voted
returns-in-Ready-clause-voted c =
    rw (c.in-Ready.is, ← c.self.view_is)
    (c.is_some-in-Ready.ensures ∙ is_some-copied c.vote_at-in-Ready.result
    ∙ ap is_some (c.vote_at-in-Ready.ensures ∙ ap₂ (λ values places. vote_at (votes_at_places values places) c.in-Ready.process) c.deref-in-Ready.ensures.value c.deref-in-Ready-2.ensures.value))

pub returns-in-Send-clause-placed : goal.returns-in-Send-clause-placed
returns-in-Send-clause-placed c = grind (arith, common_steps)

pub returns-in-Echo-clause-placed : goal.returns-in-Echo-clause-placed
returns-in-Echo-clause-placed c = grind (arith, common_steps)

pub returns-in-Ready-clause-placed : goal.returns-in-Ready-clause-placed
returns-in-Ready-clause-placed c = grind (arith, common_steps)
