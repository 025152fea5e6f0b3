use Rattle.pay_link.proofs.Judged.{bad_tag_law, no_gap_law, no_repeat_law, not_for_me_law, unknown_owner_law, unknown_sender_law}
use Rattle.pay_link.proofs.laws.judgement_refuses.Goals as goal

pub returns : goal.returns
returns c = record {
  not_for_me = not_for_me_law;
  unknown_sender = unknown_sender_law;
  unknown_owner = unknown_owner_law;
  bad_tag = bad_tag_law;
  no_repeat = no_repeat_law;
  no_gap = no_gap_law;
}
