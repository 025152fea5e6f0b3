-- The frame that a member takes next of another's list opens there, and is taken.
use Rattle.std.proofs.Common.{◌≡◌, ◌≢◌, ◌↔◌, ℕ, ◌<◌, false, cond, eqb, List, length, Some, None, option_and_then, Result, Ok, Err, refl, sym, ap, ◌∙◌, arith, rules, tests}
use Rattle.std.proofs.lemmas.List.FromFn.{get_or-map-range_with_len, length-map-range_with_len}
use Rattle.pay_frame.specs.declared.body.Kind.{Kind}
use Rattle.pay_frame.specs.declared.body.Kind.TheVariants.{Send, Echo, Ready, Want}
use Rattle.pay_frame.specs.declared.reading.FrameFault.{FrameFault}
use Rattle.pay_frame.specs.Frame.{BodyFields, FrameFields, IsFrame, frame_bytes}
use Rattle.pay_frame.specs.OneFrame.{IsOneFrame, IsOneReading, one_frame}
use Rattle.pay_hmac.specs.Mac.{mac}
use Rattle.pay_channel.specs.History.{Event, From}
use Rattle.pay_channel.specs.Taken.{next}
use Rattle.pay_link.specs.Fronts.{turn}
use Rattle.pay_link.specs.Genesis.{GenesisFields}
use Rattle.pay_link.specs.Keys.{IsPeer, KeyFields, key_for, no_key}
use Rattle.pay_link.specs.Opening.{judgement, opened_fields}
use Rattle.pay_link.specs.Sealing.{sealed_frame, tagged_bytes}
use Rattle.pay_link.specs.TestKeys.{pair_key, test_key, test_keys_of}
use Rattle.pay_member.specs.declared.bringing.Outcome.{Outcome}
use Rattle.pay_member.specs.declared.bringing.Incoming.TheVariants as message
use Rattle.pay_member.specs.declared.bringing.Incoming.TheVariants.{Message}
use Rattle.pay_member.specs.declared.bringing.Outcome.TheVariants.{Took}
use Rattle.pay_member.specs.Bringing.{IsOutcome, answer_to, outcome_of_judged, incoming_at, incoming_of, is_want, opened_in, outcome_of, outcome_to, unless_want}
use Rattle.pay_member.specs.Reply.{took_by}
use Rattle.pay_sim.specs.TestFrames.{test_frame, test_tag}

-- the laws of frames and links that this stands on
pub record Links : Type 0 where
  pub one_frame_is : (bytes : List ℕ) (f : FrameFields) → (one_frame bytes ≡ Some f) ↔ IsOneFrame bytes f
  pub unique : (bytes : List ℕ) (one other : Result FrameFields FrameFault) → IsOneReading bytes one → IsOneReading bytes other → one ≡ other
  pub opens :
      (a b : KeyFields) (number : ℕ) (body : BodyFields) → IsPeer b a.own → key_for a b.own ≡ key_for b a.own
      → body.owner < length b.keys
      → judgement b (sealed_frame a b.own number body) ≡ Ok (opened_fields b (sealed_frame a b.own number body))
  pub shared :
      (members x y : ℕ) → x < members → y < members
      → key_for (test_keys_of members x) y ≡ key_for (test_keys_of members y) x
  pub in_turn : (next number : ℕ) → (turn next number ≡ Ok tt) ↔ (number ≡ next)

not_want : (kind : Kind) → kind ≢ Want → is_want kind ≡ false
not_want Send other = refl
not_want Echo other = refl
not_want Ready other = refl
not_want Want other = absurd (other refl)

other_test : (x y : ℕ) → x ≢ y → eqb y x ≡ false
other_test x y p = search (rules, tests)

-- the frame that one of so many members seals for another under their test key
abbrev pub test_sealed : ℕ → ℕ → ℕ → ℕ → BodyFields → FrameFields
test_sealed members from to number body = sealed_frame (test_keys_of members from) to number body

key_is : (members from to : ℕ) → to < members → from ≢ to → key_for (test_keys_of members from) to ≡ pair_key from to
key_is members from to there other =
    get_or-map-range_with_len (test_key from) 0 members to to no_key there (omega arith)
    ∙ ap (λ b. cond b no_key (pair_key from to)) (other_test from to other)

pub spelled_is : (members from to number : ℕ) (body : BodyFields) → to < members → from ≢ to → test_frame from to number body ≡ frame_bytes (test_sealed members from to number body)
unfolding test_frame test_tag
spelled_is members from to number body there other =
    let key = key_is members from to there other in
    λ i. frame_bytes (record {
      from = from;
      to = to;
      number = number;
      body = body;
      tag = mac (sym key i) (tagged_bytes from to number body);
    })

module _ (links : Links) (members from to number : ℕ) (body : BodyFields) (here : from < members) (there : to < members) (other : from ≢ to)
    (fits : IsFrame (test_sealed members from to number body)) where
  pub one_frame_of : IsOneFrame (test_frame from to number body) (test_sealed members from to number body)
  one_frame_of = record { is = fits; spelled = spelled_is members from to number body there other }

  module _ (owner : body.owner < members) (kind : body.kind ≢ Want) where
    judged_is : judgement (test_keys_of members to) (test_sealed members from to number body) ≡ Ok (opened_fields (test_keys_of members to) (test_sealed members from to number body))
    judged_is =
        let count : length (test_keys_of members to).keys ≡ members = length-map-range_with_len (test_key to) 0 members in
        links.opens (test_keys_of members from) (test_keys_of members to) number body ((omega arith), other) (links.shared members from to here there) (omega arith)

    incoming_is : incoming_at (test_keys_of members to) (test_sealed members from to number body) ≡ Ok (Message (opened_fields (test_keys_of members to) (test_sealed members from to number body)))
    unfolding incoming_at
    incoming_is =
        let o = opened_fields (test_keys_of members to) (test_sealed members from to number body) in
        ap incoming_of judged_is ∙ ap (λ b. Ok (cond b (message.Want from number) (Message o))) (not_want body.kind kind)

    pub opened_is : opened_in (test_keys_of members to) (test_frame from to number body) ≡ Some (test_sealed members from to number body)
    unfolding opened_in
    opened_is =
        ap (option_and_then (λ (f : FrameFields). unless_want (judgement (test_keys_of members to) f)))
        ((links.one_frame_is (test_frame from to number body) (test_sealed members from to number body)).1 one_frame_of)
        ∙ ap unless_want judged_is
        ∙ ap (λ b. cond b None (Some (test_sealed members from to number body))) (not_want body.kind kind)

    outcome_is : (g : GenesisFields) (before : List Event) → number ≡ next from before
        → outcome_of g (test_keys_of members to) before (Ok (test_sealed members from to number body)) ≡ Took (took_by g to before (From from body))
    unfolding answer_to outcome_of
    outcome_is g before is =
        ap (outcome_to g to before) incoming_is
        ∙ ap (outcome_of_judged g to before (test_sealed members from to number body)) ((links.in_turn (next from before) number).1 is)

    -- so it is what comes of its bytes
    pub taken_is : (g : GenesisFields) (before : List Event) (outcome : Outcome) → number ≡ next from before
        → IsOutcome g (test_keys_of members to) before (test_frame from to number body) outcome → outcome ≡ Took (took_by g to before (From from body))
    taken_is g before outcome is x =
        x.is
        ∙ ap (outcome_of g (test_keys_of members to) before)
        (links.unique (test_frame from to number body) x.reading (Ok (test_sealed members from to number body)) x.reads one_frame_of)
        ∙ outcome_is g before is
