use Rattle.std.proofs.Common.{lit<, refl}
use Rattle.std.proofs.lemmas.Fmt.{decimal_digit}
use Rattle.pay_desk.specs.Words.{refused_words}
use Rattle.pay_desk.proofs.engine.bad_line_text.Goals as goal

pub returns : goal.returns
unfolding refused_words
returns c = rw (decimal_digit 1 (lit< tt)) refl
