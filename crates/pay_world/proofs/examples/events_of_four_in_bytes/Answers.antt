use Rattle.std.proofs.Common.{◌≡◌, ℕ, ◌<◌, List, [], ◌∷◌, length, Option, Some, option_map, refl, ap, arith}
use Rattle.std.specs.List.{filter_map}
use Rattle.pay_frame.specs.declared.body.Kind.TheVariants.{Send, Want}
use Rattle.pay_frame.specs.Frame.{FrameFields, IsFrame, frame_bytes}
use Rattle.pay_frame.specs.OneFrame.{IsOneFrame}
use Rattle.pay_channel.specs.History.{Ask, From, asks, body_of}
use Rattle.pay_channel.specs.Taken.{taken_bodies}
use Rattle.pay_hmac.specs.Mac.{mac}
use Rattle.pay_link.specs.Keys.{key_for}
use Rattle.pay_link.specs.Opening.{Opens}
use Rattle.pay_link.specs.Sealing.{tagged_bytes}
use Rattle.pay_link.specs.TestKeys.{test_keys_of}
use Rattle.pay_member.specs.Bringing.{opened_in}
use Rattle.pay_member.specs.Laws.{OpenedIn}
use Rattle.pay_world.specs.Answer.{brought_to}
use Rattle.pay_world.specs.Actions.{Action, Asks, history_by}
use Rattle.pay_world.specs.Examples.{A, B, liar_of_four, sealed_send}
use Rattle.pay_world.specs.Liars.{setting_of}
use Rattle.pay_world.specs.Run.{events_of}
use Rattle.pay_world.proofs.examples.events_of_four_in_bytes.Goals as goal

send_no_want : Send ≡ Want → ⊥
send_no_want same = cc

send_opens :
    OpenedIn → length sealed_send.tag ≡ 32 → key_for (test_keys_of 4 0) 1 ≡ key_for (test_keys_of 4 1) 0
    → opened_in (test_keys_of 4 1) (frame_bytes sealed_send) ≡ Some sealed_send
send_opens opened long shared =
    let one : IsOneFrame (frame_bytes sealed_send) sealed_send = record {
      is = record {
        from = omega arith;
        to = omega arith;
        number = omega arith;
        body = record { owner = omega arith; seq = omega arith; value = omega arith; want = λ same. absurd (send_no_want same) };
        tag = long;
      };
      spelled = refl;
    } in
    let opens : Opens (test_keys_of 4 1) sealed_send = record {
      for_me = refl;
      sender = (omega arith, λ same. absurd (omega arith));
      owner = omega arith;
      tagged = ap (λ (key : List ℕ). mac key (tagged_bytes 0 1 0 (body_of Send 0 0 A))) shared;
    } in
    (opened (test_keys_of 4 1) (frame_bytes sealed_send) sealed_send).1 (one, opens, send_no_want)

pub returns-clause-taken : goal.returns-clause-taken
unfolding asks taken_bodies history_by
returns-clause-taken c =
    ap (λ (o : Option FrameFields). history_by (setting_of liar_of_four)
    (filter_map (λ (x : Option Action). x) (Some (Asks 1 B) ∷ Some (Asks 0 A) ∷ option_map (brought_to 1) o ∷ option_map (brought_to 1) o ∷ [])) 1)
    (send_opens c.what_is_brought.ensures.opened (c.tag_length.ensures _ _) (c.shared_test_keys.ensures 4 0 1 (omega arith) (omega arith)))

pub returns-clause-stored : goal.returns-clause-stored
unfolding events_of
returns-clause-stored c = refl
