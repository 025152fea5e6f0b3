use Rattle.std.proofs.Common.{◌≡◌, ℕ, List, Option, Some, None, Bool, true, false, sym, ◌∙◌, ap, refl}
use Rattle.std.specs.Prelude.{is_some, not}
use Rattle.std.specs.Borrow.{Bor}
use Rattle.std.specs.Option.{option_copied}
use Rattle.pay_text.specs.Words.{words_in, is_none}
use Rattle.pay_text.proofs.Splitting.{some_word}
use Rattle.pay_text.proofs.words.Words.is_done.Goals as goal

tells : (rest : Option (Bor (List ℕ))) (done : Bool) → is_some rest ≡ not done → done ≡ is_none (words_in (option_copied rest))
tells (Some rest) true e = absurd cc
tells (Some rest) false e = sym (some_word rest.now)
tells None true e = refl
tells None false e = absurd cc

pub returns : goal.returns
returns c = tells c.self.inside.rest c.is_none.result c.is_none.ensures ∙ ap is_none c.self.view_is
