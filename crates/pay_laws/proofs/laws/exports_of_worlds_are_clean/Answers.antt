use Rattle.pay_laws.proofs.Worlds.{clean_worlds}
use Rattle.pay_laws.proofs.laws.exports_of_worlds_are_clean.Goals as goal

pub returns : goal.returns
returns c = clean_worlds c.forged_is_told.ensures.correct c.sizes_of_sets.ensures.listed c.exports_are_clean.ensures
