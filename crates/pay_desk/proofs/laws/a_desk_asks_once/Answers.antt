use Rattle.pay_desk.proofs.AskingOnce.{line_asks_once, lines_ask_once, lines_keep_all}
use Rattle.pay_desk.proofs.laws.a_desk_asks_once.Goals as goal

pub returns : goal.returns
returns g c = record {
  line = line_asks_once g.T.Teller.says g.T.Teller.asked g.met.T.Teller.only_asks;
  lines = lines_ask_once g.T.Teller.says g.T.Teller.asked g.met.T.Teller.only_asks;
  life = lines_keep_all g.T.Teller.says g.T.Teller.asked g.met.T.Teller.only_asks;
}
