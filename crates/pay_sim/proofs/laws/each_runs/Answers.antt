use Rattle.pay_sim.proofs.Existing.{runs}
use Rattle.pay_sim.proofs.laws.each_runs.Goals as goal

pub returns : goal.returns
returns c =
    runs
    (record {
      laws = record {
        votes = record {
          echoed = c.one_vote_more.ensures.echoed;
          readied = c.one_vote_more.ensures.readied;
          sent = c.one_vote_more.ensures.sent;
          votes = c.one_event_more.ensures.votes;
          no_asks = c.nothing_at_first.ensures.asks;
          asks = c.one_event_more.ensures.asks;
        };
        links = record {
          one_frame_is = c.one_frame_is.ensures.law;
          unique = c.one_answer.ensures.unique;
          opens = c.sealed_opens.ensures;
          shared = c.shared_test_keys.ensures;
          in_turn = c.numbers_in_turn.ensures.next;
        };
        opens = c.what_opens.ensures;
        forged = c.forged_is_told.ensures.forged;
      };
      reads = c.one_answer.ensures.exists;
      correct = c.forged_is_told.ensures.correct;
      groups = c.first_line_is_group.ensures;
    })
