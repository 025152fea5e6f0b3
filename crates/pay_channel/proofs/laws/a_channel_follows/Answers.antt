use Rattle.pay_channel.proofs.Following.{channel_follows, unchanged_follows, values_follow, lists_follow, answers_follow, followers_are_alike}
use Rattle.pay_channel.proofs.LieLemmas.{lies_follow}
use Rattle.pay_channel.proofs.laws.a_channel_follows.Goals as goal

pub returns : goal.returns
returns c =
    record {
      event = channel_follows;
      unchanged = unchanged_follows;
      values = values_follow;
      lists = lists_follow;
      answers = answers_follow;
      lies = lies_follow c.votes_came.ensures.voted c.votes_are_taken.ensures.echo c.votes_are_taken.ensures.ready c.votes_are_taken.ensures.send;
      alike = followers_are_alike;
    }
