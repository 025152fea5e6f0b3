use Rattle.pay_text.proofs.Reading.{is_read, is_written}
use Rattle.pay_text.proofs.laws.a_word_is_one_number.Goals as goal

pub returns-clause-reads : goal.returns-clause-reads
returns-clause-reads c = is_read

pub returns-clause-writes : goal.returns-clause-writes
returns-clause-writes c = is_written
