use Rattle.pay_sim.proofs.AllTaken.{all_is_taken}
use Rattle.pay_sim.proofs.laws.all_is_taken.Goals as goal

pub returns : goal.returns
returns c = λ group es last stop is brings.
    all_is_taken
    (record {
      votes = record {
        echoed = c.one_vote_more.ensures.echoed;
        readied = c.one_vote_more.ensures.readied;
        sent = c.one_vote_more.ensures.sent;
        votes = c.one_event_more.ensures.votes;
        no_asks = c.nothing_at_first.ensures.asks;
        asks = c.one_event_more.ensures.asks;
      };
      links = record {
        one_frame_is = c.one_frame_is.ensures.law;
        unique = c.one_answer.ensures.unique;
        opens = c.sealed_opens.ensures;
        shared = c.shared_test_keys.ensures;
        in_turn = c.numbers_in_turn.ensures.next;
      };
      opens = c.what_opens.ensures;
      forged = c.forged_is_told.ensures.forged;
    })
    group is es last stop brings
