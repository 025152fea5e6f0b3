use Rattle.std.proofs.Common.{lit<, refl}
use Rattle.std.proofs.lemmas.Fmt.{decimal_digit}
use Rattle.pay_desk.specs.Words.{refused_words}
use Rattle.pay_desk.proofs.engine.memory_text.Goals as goal

pub returns : goal.returns
unfolding refused_words
returns c = rw (decimal_digit 0 (lit< tt)) refl
