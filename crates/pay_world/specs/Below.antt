-- The laws that the laws between members need: laws of one broadcast, of one member's channel and
-- of one ledger, gathered.
use Rattle.pay_echo.specs.Laws.{NotReadyAtFirst, EchoSetGrows, InEchoSet, InReadySet}
use Rattle.pay_echo.specs.Laws.{InOtherReadySet, OwnEcho, OwnReady, SendCame, EchoCame, ReadyCame}
use Rattle.pay_echo.specs.Laws.{SendIsEchoed, EchoCounts, ReadyCounts, WhyReady, WhyDelivered}
use Rattle.pay_echo.specs.Laws.{QuorumMakesReady, AmplificationMakesReady, ReadysDeliver}
use Rattle.pay_echo.specs.Quorums.{SizeOfOthers, PartIsSmaller, QuorumsShare, LargerHasAnother}
use Rattle.pay_echo.specs.Quorums.{RestIsQuorum, QuorumIsMore, MoreRemain}
use Rattle.pay_channel.specs.VoteLaws.{NoVotesAtFirst, NoAsksAtFirst, AsksByOneMore, VotesGrow}
use Rattle.pay_channel.specs.VoteLaws.{EchoIsTaken, ReadyIsTaken, SendIsTaken}
use Rattle.pay_channel.specs.TakenLaws.{NothingTakenAtFirst, TakenByOneMore, TakenIsFrom}
use Rattle.pay_channel.specs.SentLaws.{OutGrows, EchoIsSaid, ReadyIsSaid, AsksAreCounted}
use Rattle.pay_channel.specs.SentLaws.{SentIsAsked, OwnEchoIsAsk}
use Rattle.pay_channel.specs.ListLaws.{DeliveredIs, DeliveryStays, ListIsValues, ListBeginsValues}
use Rattle.pay_channel.specs.ListLaws.{ListsAlike, ListsCompare, ListsGrow}
use Rattle.pay_book.specs.Laws.{SettledBookExists, SettledIsLargest, NobodyOwesOnceSettled}
use Rattle.pay_book.specs.Laws.{BookKeepsTotal, EqualListsEqualBooks, SettledEntriesGrow}
use Rattle.pay_book.specs.Laws.{SettledEntriesCompare, SettledEntriesWereAsked}

-- the members of the sets of one broadcast, the votes that came, and why a process is READY and
-- delivers
pub record OfBroadcasts : Type 0 where
  pub not_ready_at_first : NotReadyAtFirst
  pub echo_set_grows : EchoSetGrows
  pub in_echo_set : InEchoSet
  pub in_ready_set : InReadySet
  pub in_other_ready_set : InOtherReadySet
  pub own_echo : OwnEcho
  pub own_ready : OwnReady
  pub send_came : SendCame
  pub echo_came : EchoCame
  pub ready_came : ReadyCame
  pub send_is_echoed : SendIsEchoed
  pub echo_counts : EchoCounts
  pub ready_counts : ReadyCounts
  pub why_ready : WhyReady
  pub why_delivered : WhyDelivered
  pub quorum_makes_ready : QuorumMakesReady
  pub amplification_makes_ready : AmplificationMakesReady
  pub readys_deliver : ReadysDeliver

-- sizes of sets of processes
pub record OfSets : Type 0 where
  pub size_of_others : SizeOfOthers
  pub part_is_smaller : PartIsSmaller
  pub quorums_share : QuorumsShare
  pub larger_has_another : LargerHasAnother
  pub rest_is_quorum : RestIsQuorum
  pub quorum_is_more : QuorumIsMore
  pub more_remain : MoreRemain

-- what was accepted, what was sent, and the lists
pub record OfChannels : Type 0 where
  pub no_votes_at_first : NoVotesAtFirst
  pub votes_grow : VotesGrow
  pub echo_is_taken : EchoIsTaken
  pub ready_is_taken : ReadyIsTaken
  pub send_is_taken : SendIsTaken
  pub nothing_taken_at_first : NothingTakenAtFirst
  pub taken_by_one_more : TakenByOneMore
  pub taken_is_from : TakenIsFrom
  pub out_grows : OutGrows
  pub echo_is_said : EchoIsSaid
  pub ready_is_said : ReadyIsSaid
  pub sent_is_asked : SentIsAsked
  pub own_echo_is_ask : OwnEchoIsAsk
  pub no_asks_at_first : NoAsksAtFirst
  pub asks_by_one_more : AsksByOneMore
  pub asks_are_counted : AsksAreCounted
  pub delivered_is : DeliveredIs
  pub delivery_stays : DeliveryStays
  pub list_is_values : ListIsValues
  pub list_begins_values : ListBeginsValues
  pub lists_alike : ListsAlike
  pub lists_compare : ListsCompare
  pub lists_grow : ListsGrow

pub record Below : Type 0 where
  pub one : OfBroadcasts
  pub sets : OfSets
  pub channel : OfChannels

-- ledgers and what is settled of lists
pub record OfBooks : Type 0 where
  pub settled_book_exists : SettledBookExists
  pub settled_is_largest : SettledIsLargest
  pub nobody_owes : NobodyOwesOnceSettled
  pub keeps_total : BookKeepsTotal
  pub equal_books : EqualListsEqualBooks
  pub entries_grow : SettledEntriesGrow
  pub entries_compare : SettledEntriesCompare
  pub entries_were_asked : SettledEntriesWereAsked
