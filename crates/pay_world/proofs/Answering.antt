-- What the members of a world are after an event.
use Rattle.std.proofs.Common.{◌≡◌, ◌≢◌, ◌⊎◌, inl, inr, ⊎_elim, ℕ, ◌<◌, Bool, true, false, not, cond, eqb, ltb, leb, ◌&&◌, List, [], ◌++◌, length, set, slice_get, Option, None, Some, option_map, option_and_then, option_to_list, MatchOption, IfOk, OnErr, Result, Ok, Err, refl, sym, ap, ◌∙◌, subst, arith, append-nil, lt-ltb, ne_eqb}
use Rattle.std.specs.Option.{option_map_or}
use Rattle.std.proofs.lemmas.Bool.{cases_eq, cases_Bool, and_from, and_right}
use Rattle.std.proofs.lemmas.Bool.Decides.{nat_tests}
use Rattle.pay_frame.specs.declared.limits.TheConstants.{GREATEST_VALUE, SEQS}
use Rattle.pay_frame.specs.declared.body.Kind.{Kind}
use Rattle.pay_frame.specs.declared.body.Kind.TheVariants.{Send, Echo, Ready, Want}
use Rattle.pay_frame.specs.Frame.{FrameFields}
use Rattle.pay_channel.specs.History.{Event, asks}
use Rattle.pay_channel.specs.History as channel
use Rattle.pay_channel.specs.Taken.{next}
use Rattle.pay_link.specs.Checked.{CheckedFields}
use Rattle.pay_member.specs.declared.event.Event.TheVariants as entry
use Rattle.pay_member.specs.declared.event.HistoryEntry.{HistoryEntry}
use Rattle.pay_member.specs.declared.fault.MemberFault.{MemberFault}
use Rattle.pay_member.specs.declared.fault.MemberFault.TheVariants.{TooLong, Spent}
use Rattle.pay_member.specs.declared.event.Reply.TheVariants as entry_reply
use Rattle.pay_member.specs.declared.bringing.Outcome.{Outcome}
use Rattle.pay_member.specs.declared.bringing.Outcome.TheVariants as outcome
use Rattle.pay_member.specs.Events.{events}
use Rattle.pay_member.specs.EventLaws.{EventsByOneMore}
use Rattle.pay_member.specs.Refusal.{refusal}
use Rattle.pay_member.specs.Member.{MemberFields}
use Rattle.pay_member.specs.Bringing.{opened_in, event_of_frame, event_in, with_taken, with_brought}
use Rattle.pay_member.specs.OpeningLaws.{WhatOpens}
use Rattle.pay_world.specs.declared.event.WorldEvent.{WorldEvent}
use Rattle.pay_world.specs.declared.event.WorldEvent.TheVariants.{Ask, Bring}
use Rattle.pay_world.specs.declared.event.WorldFault.{WorldFault}
use Rattle.pay_world.specs.declared.event.WorldReply.{WorldReply}
use Rattle.pay_world.specs.declared.event.WorldReply.TheVariants.{Asked, Refused, Brought, Ignored}
use Rattle.pay_world.specs.Setting.{Setting, HasFewFaulty}
use Rattle.pay_world.specs.Actions.{Action, Asks, member_of, is_want, may_come, counts, adds}
use Rattle.pay_world.specs.Genuine.{IsGenuineIn, is_forged_in}
use Rattle.pay_world.specs.ActionLaws.{ForgedIsTold}
use Rattle.pay_world.specs.Stands.{Stands}
use Rattle.pay_world.specs.StandLaws.{StandsByAction}
use Rattle.pay_world.specs.World.{WorldFields, setting_in, events_at, member_in, history_in, keys_in, IsWorld}
use Rattle.pay_world.specs.Answer.{receiver, brought_to, action_with, action_of, is_forged_at, added_in, answer_to_ask, IsReplyOf, IsReplyFrom, IsGrownBy, after_ask, after_bring, member_after, AnswersEvent}
use Rattle.pay_world.proofs.Taking.{adds-counted, adds-uncounted}
use Rattle.pay_world.proofs.WorldLemmas.{member_here, member_elsewhere, histories_by, changed_is_world, counted_is_world, set_same}
use Rattle.pay_world.proofs.Forging.{action_nowhere, action_there, action_opened}

-- ---- an event of nobody

added_by : (w : WorldFields) (e : WorldEvent) (i : ℕ) (o : Option Action) → action_of (keys_in w) e ≡ o → added_in w e i ≡ option_map_or (adds (setting_in w) i (history_in w i)) o []
added_by w e i o is = ap (λ (x : Option Action). option_map_or (adds (setting_in w) i (history_in w i)) x []) is

pub ignored : (w : WorldFields) (e : WorldEvent) → member_in w (receiver e) ≡ None → AnswersEvent w w e Ignored
ignored w e none = record {
  genesis = refl;
  liars = refl;
  said = subst (λ (o : Option MemberFields). MatchOption o (Ignored ≡ Ignored) (λ m. IsReplyOf m e Ignored)) (sym none) refl;
  here = none ∙ sym (ap (option_map (member_after e Ignored)) none);
  others = λ i differs. refl;
  histories = λ i.
      sym (append-nil (history_in w i)) ∙ sym (ap (λ (l : List Event). history_in w i ++ l) (added_by w e i None (action_nowhere w e none)));
}

-- ---- an event of a member that is there

module _ (w : WorldFields) (e : WorldEvent) (m new : MemberFields) (here : slice_get w.members (receiver e) ≡ Some (Some m)) where
  was : member_in w (receiver e) ≡ Some m
  was = ap (option_and_then (λ x. x)) here

  -- its action makes the histories longer
  grown_by_action :
      (d : Action) → action_with m.keys e ≡ Some d → member_of d ≡ receiver e
      → events new.history ≡ events m.history ++ adds (setting_in w) (receiver e) (events m.history) d
      → (i : ℕ) → events_at (set w.members (receiver e) (Some new)) i ≡ history_in w i ++ adds (setting_in w) i (history_in w i) d
  grown_by_action d is to grown i = histories_by w.members (receiver e) m new here (setting_in w) d to grown i

  -- or it is none, and they stay
  stays : events new.history ≡ events m.history → (i : ℕ) → events_at (set w.members (receiver e) (Some new)) i ≡ history_in w i
  stays same i = go (cases_eq i (receiver e)) where
    at : Option MemberFields → List Event
    at o = option_map_or (λ (x : MemberFields). events x.history) o []

    go : ((i ≡ receiver e) ⊎ (i ≢ receiver e)) → events_at (set w.members (receiver e) (Some new)) i ≡ history_in w i
    go (inl is) =
        let At : ℕ → Type 0 = λ k. events_at (set w.members (receiver e) (Some new)) k ≡ history_in w k in
        let h : At (receiver e) =
        ap (λ (o : Option MemberFields). option_map_or (λ (x : MemberFields). events x.history) o []) (member_here w.members (receiver e) m new here)
        ∙ same
        ∙ sym (ap (λ (o : Option MemberFields). option_map_or (λ (x : MemberFields). events x.history) o []) was) in
        subst At (sym is) h
    go (inr differs) = ap (λ (o : Option MemberFields). option_map_or (λ (x : MemberFields). events x.history) o []) (member_elsewhere w.members (receiver e) m new here i differs)

  pub answers_by :
      (reply : WorldReply) → IsReplyOf m e reply → new ≡ member_after e reply m
      → ((i : ℕ) → events_at (set w.members (receiver e) (Some new)) i ≡ history_in w i ++ added_in w e i)
      → AnswersEvent w (record { genesis = w.genesis; liars = w.liars; members = set w.members (receiver e) (Some new); answered = w.answered }) e reply
  answers_by reply said is grown = record {
    genesis = refl;
    liars = refl;
    said = subst (λ (o : Option MemberFields). MatchOption o (reply ≡ Ignored) (λ x. IsReplyOf x e reply)) (sym was) said;
    here = member_here w.members (receiver e) m new here ∙ ap Some is ∙ sym (ap (option_map (member_after e reply)) was);
    others = λ i differs. member_elsewhere w.members (receiver e) m new here i differs;
    histories = grown;
  }

  pub added_by_action :
      (d : Action) → action_with m.keys e ≡ Some d → member_of d ≡ receiver e
      → events new.history ≡ events m.history ++ adds (setting_in w) (receiver e) (events m.history) d
      → (i : ℕ) → events_at (set w.members (receiver e) (Some new)) i ≡ history_in w i ++ added_in w e i
  added_by_action d is to grown i =
      grown_by_action d is to grown i
      ∙ sym (ap (λ (l : List Event). history_in w i ++ l) (added_by w e i (Some d) (action_there w e m was ∙ is)))

  pub added_by_none :
      action_with m.keys e ≡ None → events new.history ≡ events m.history
      → (i : ℕ) → events_at (set w.members (receiver e) (Some new)) i ≡ history_in w i ++ added_in w e i
  added_by_none is same i =
      stays same i ∙ sym (append-nil (history_in w i))
      ∙ sym (ap (λ (l : List Event). history_in w i ++ l) (added_by w e i None (action_there w e m was ∙ is)))

  pub stands_by :
      StandsByAction → HasFewFaulty (setting_in w) → IsWorld w → (d : Action) → action_with m.keys e ≡ Some d → member_of d ≡ receiver e
      → events new.history ≡ events m.history ++ adds (setting_in w) (receiver e) (events m.history) d
      → IsGenuineIn (setting_in w) (history_in w) d
      → Stands (setting_in w) (events_at (set w.members (receiver e) (Some new)))
  stands_by action few is d there to grown genuine =
      action (setting_in w) (history_in w) (events_at (set w.members (receiver e) (Some new))) d few genuine (grown_by_action d there to grown) is.stands

  pub stands_still :
      IsWorld w → events new.history ≡ events m.history → Stands (setting_in w) (events_at (set w.members (receiver e) (Some new)))
  stands_still is same = subst (Stands (setting_in w)) (λ t i. sym (stays same i) t) is.stands

-- ---- an ask

pub ask_keeps_genesis : (m : MemberFields) (v : List ℕ) (reply : WorldReply) → (after_ask m v reply).genesis ≡ m.genesis
ask_keeps_genesis m v (Asked number) = refl
ask_keeps_genesis m v (Refused fault) = refl
ask_keeps_genesis m v (Brought outcome) = refl
ask_keeps_genesis m v Ignored = refl

pub ask_keeps_keys : (m : MemberFields) (v : List ℕ) (reply : WorldReply) → (after_ask m v reply).keys ≡ m.keys
ask_keeps_keys m v (Asked number) = refl
ask_keeps_keys m v (Refused fault) = refl
ask_keeps_keys m v (Brought outcome) = refl
ask_keeps_keys m v Ignored = refl

pub counted : (a n : ℕ) → (leb a GREATEST_VALUE && ltb n SEQS) ≡ (not (ltb GREATEST_VALUE a) && not (leb SEQS n))
counted a n = ap (λ b. b && ltb n SEQS) (flip GREATEST_VALUE a) ∙ ap (λ b. not (ltb GREATEST_VALUE a) && b) (back SEQS n) where
  flip : (b a : ℕ) → leb a b ≡ not (ltb b a)
  flip b a = ⊎_elim
      (λ t. (let above : leb a b ≡ false = grind (arith, nat_tests) in above) ∙ sym (ap not t))
      (λ f. (let below : leb a b ≡ true = grind (arith, nat_tests) in below) ∙ sym (ap not f))
      (cases_Bool (ltb b a))

  back : (b a : ℕ) → ltb a b ≡ not (leb b a)
  back b a = ⊎_elim
      (λ t. (let above : ltb a b ≡ false = grind (arith, nat_tests) in above) ∙ sym (ap not t))
      (λ f. (let below : ltb a b ≡ true = grind (arith, nat_tests) in below) ∙ sym (ap not f))
      (cases_Bool (leb b a))

-- what an ask adds to its member's history
pub ask_grows :
    EventsByOneMore → (s : Setting) (m new : MemberFields) (i : ℕ) (v : List ℕ) (reply : WorldReply)
    → reply ≡ answer_to_ask (refusal m.genesis m.keys (events m.history) (entry.Ask v)) (asks (events m.history)) → new ≡ after_ask m v reply
    → events new.history ≡ events m.history ++ adds s i (events m.history) (Asks i v)
ask_grows one_more s m new i v reply said is =
    go (ltb GREATEST_VALUE (length v)) (leb SEQS (asks (events m.history))) (counted (length v) (asks (events m.history))) said where
      unchanged : (fault : MemberFault) → counts s (events m.history) (Asks i v) ≡ false → reply ≡ Refused fault → events new.history ≡ events m.history ++ adds s i (events m.history) (Asks i v)
      unchanged fault ignored refused =
          ap (λ (x : MemberFields). events x.history) (is ∙ ap (after_ask m v) refused)
          ∙ sym (append-nil (events m.history))
          ∙ sym (ap (λ (l : List Event). events m.history ++ l) (adds-uncounted s i (events m.history) (Asks i v) ignored))

      go : (long spent : Bool) → counts s (events m.history) (Asks i v) ≡ (not long && not spent)
          → reply ≡ answer_to_ask (cond long (Some TooLong) (cond spent (Some Spent) None)) (asks (events m.history))
          → events new.history ≡ events m.history ++ adds s i (events m.history) (Asks i v)
      go true spent count answer = unchanged TooLong count answer
      go false true count answer = unchanged Spent count answer
      go false false count answer =
          let n = asks (events m.history) in
          let x : HistoryEntry = record { stamp = 0; event = entry.Ask v; reply = entry_reply.Asked n } in
          ap (λ (y : MemberFields). events y.history) (is ∙ ap (after_ask m v) answer)
          ∙ one_more m.history x
          ∙ sym (ap (λ (l : List Event). events m.history ++ l) (adds-counted s i (events m.history) (Asks i v) refl count))

-- ---- brought bytes

taken_keeps : (m : MemberFields) (c : CheckedFields) (o : Outcome) → ((with_taken m 0 c o).genesis ≡ m.genesis) × ((with_taken m 0 c o).keys ≡ m.keys)
taken_keeps m c (outcome.Took took) = (refl, refl)
taken_keeps m c (outcome.Wanted from number) = (refl, refl)
taken_keeps m c (outcome.Frame fault) = (refl, refl)
taken_keeps m c (outcome.Link fault) = (refl, refl)
taken_keeps m c outcome.WrongKey = (refl, refl)

pub bring_keeps : (m : MemberFields) (o : Outcome) (f : Option FrameFields) → ((with_brought m 0 o f).genesis ≡ m.genesis) × ((with_brought m 0 o f).keys ≡ m.keys)
bring_keeps m o None = (refl, refl)
bring_keeps m o (Some f) = taken_keeps m _ o

pub no_want : (kind : Kind) → kind ≢ Want → is_want kind ≡ false
no_want Send other = refl
no_want Echo other = refl
no_want Ready other = refl
no_want Want other = absurd (other refl)

-- a frame that opens at a member may come to it
opened_may_come :
    WhatOpens → (s : Setting) (m : MemberFields) (i : ℕ) (bytes : List ℕ) (f : FrameFields) → m.keys.own ≡ i → length m.keys.keys ≡ s.members
    → opened_in m.keys bytes ≡ Some f → may_come s i f.from f.body ≡ true
opened_may_come what s m i bytes f own members opened =
    let is = what m.keys bytes f opened in
    let sender : f.from < s.members = subst (λ n. f.from < n) members is.opens.sender.0 in
    let differs : f.from ≢ i = λ same. is.opens.sender.1 (same ∙ sym own) in
    let owner : f.body.owner < s.members = subst (λ n. f.body.owner < n) members is.opens.owner in
    and_from (ltb f.from s.members && not (eqb f.from i) && ltb f.body.owner s.members) (not (is_want f.body.kind))
    (and_from (ltb f.from s.members && not (eqb f.from i)) (ltb f.body.owner s.members)
    (and_from (ltb f.from s.members) (not (eqb f.from i)) (lt-ltb f.from s.members sender) (ap not (ne_eqb f.from i differs)))
    (lt-ltb f.body.owner s.members owner))
    (ap not (no_want f.body.kind is.other))

-- what they add to its history, where a frame opens
pub bring_grows :
    WhatOpens → (s : Setting) (m new : MemberFields) (i : ℕ) (bytes : List ℕ) (f : FrameFields) → m.keys.own ≡ i → length m.keys.keys ≡ s.members
    → opened_in m.keys bytes ≡ Some f → events new.history ≡ events m.history ++ option_to_list (event_in m.keys (events m.history) bytes)
    → events new.history ≡ events m.history ++ adds s i (events m.history) (brought_to i f)
unfolding event_in
bring_grows what s m new i bytes f own members opened grown =
    grown
    ∙ ap (λ (o : Option FrameFields). events m.history ++ option_to_list (option_and_then (event_of_frame (events m.history)) o)) opened
    ∙ ap (λ (l : List Event). events m.history ++ l) (go (eqb f.number (next f.from (events m.history))) refl) where
      may : may_come s i f.from f.body ≡ true
      may = opened_may_come what s m i bytes f own members opened

      go : (t : Bool) → eqb f.number (next f.from (events m.history)) ≡ t → option_to_list (cond t (Some (channel.From f.from f.body)) None) ≡ adds s i (events m.history) (brought_to i f)
      go true is = sym (adds-counted s i (events m.history) (brought_to i f) refl (and_from (may_come s i f.from f.body) (eqb f.number (next f.from (events m.history))) may is))
      go false is = sym (adds-uncounted s i (events m.history) (brought_to i f) (and_right (may_come s i f.from f.body) (eqb f.number (next f.from (events m.history))) is))

-- and where none does
pub bring_stays :
    (m new : MemberFields) (bytes : List ℕ) → opened_in m.keys bytes ≡ None
    → events new.history ≡ events m.history ++ option_to_list (event_in m.keys (events m.history) bytes) → events new.history ≡ events m.history
unfolding event_in
bring_stays m new bytes none grown =
    grown
    ∙ ap (λ (o : Option FrameFields). events m.history ++ option_to_list (option_and_then (event_of_frame (events m.history)) o)) none
    ∙ append-nil (events m.history)

after_keeps : (m : MemberFields) (bytes : List ℕ) (reply : WorldReply) → ((after_bring m bytes reply).genesis ≡ m.genesis) × ((after_bring m bytes reply).keys ≡ m.keys)
after_keeps m bytes (Brought outcome) = bring_keeps m outcome _
after_keeps m bytes (Asked number) = (refl, refl)
after_keeps m bytes (Refused fault) = (refl, refl)
after_keeps m bytes Ignored = (refl, refl)

-- ---- a world once a place replied

-- with something else at a place
abbrev pub with_place : WorldFields → ℕ → Option MemberFields → WorldFields
with_place w i p = record { genesis = w.genesis; liars = w.liars; members = set w.members i p; answered = w.answered }

-- it is still a world, and the answer is the place's
pub record IsDone (w : WorldFields) (i : ℕ) (p : Option MemberFields) (e : WorldEvent) (reply : WorldReply) : Type 0 where
  pub world : IsWorld (with_place w i p)
  pub answers : AnswersEvent w (with_place w i p) e reply

-- where nobody is there
empty_done :
    (w : WorldFields) (i : ℕ) (e : WorldEvent) (reply : WorldReply) → IsWorld w → receiver e ≡ i → slice_get w.members i ≡ Some None → reply ≡ Ignored
    → IsDone w i None e reply
empty_done w i e reply is to here said =
    let same : set w.members i None ≡ w.members = set_same w.members i None here in
    let none : member_in w (receiver e) ≡ None = ap (member_in w) to ∙ ap (option_and_then (λ x. x)) here in
    let At : List (Option MemberFields) → Type 0 = λ members. IsWorld (record { genesis = w.genesis; liars = w.liars; members = members; answered = w.answered }) in
    let Told : List (Option MemberFields) → WorldReply → Type 0 = λ members r. AnswersEvent w (record { genesis = w.genesis; liars = w.liars; members = members; answered = w.answered }) e r in
    record {
      world = subst At (sym same) (counted_is_world w w.answered is);
      answers = subst (λ members. Told members reply) (sym same) (subst (λ r. Told w.members r) (sym said) (ignored w e none));
    }

pub ask_done :
    EventsByOneMore → StandsByAction → (w : WorldFields) (i : ℕ) (v : List ℕ) (o p : Option MemberFields) (reply : WorldReply)
    → IsWorld w → HasFewFaulty (setting_in w) → slice_get w.members i ≡ Some o
    → IsReplyFrom o (Ask i v) reply → p ≡ option_map (member_after (Ask i v) reply) o → IsDone w i p (Ask i v) reply
ask_done one_more action w i v None p reply is few here said after =
    subst (λ x. IsDone w i x (Ask i v) reply) (sym after) (empty_done w i (Ask i v) reply is refl here said)
ask_done one_more action w i v (Some m) p reply is few here said after = subst (λ x. IsDone w i x (Ask i v) reply) (sym after) done where
  grown : events (after_ask m v reply).history ≡ events m.history ++ adds (setting_in w) i (events m.history) (Asks i v)
  grown = ask_grows one_more (setting_in w) m (after_ask m v reply) i v reply said refl

  done : IsDone w i (Some (after_ask m v reply)) (Ask i v) reply
  done = record {
    world = changed_is_world w i m (after_ask m v reply) w.answered is here (ask_keeps_genesis m v reply) (ask_keeps_keys m v reply)
        (stands_by w (Ask i v) m (after_ask m v reply) here action few is (Asks i v) refl refl grown tt);
    answers = answers_by w (Ask i v) m (after_ask m v reply) here reply said refl (added_by_action w (Ask i v) m (after_ask m v reply) here (Asks i v) refl refl grown);
  }

pub bring_done :
    WhatOpens → ForgedIsTold → StandsByAction → (w : WorldFields) (i : ℕ) (bytes : List ℕ) (o p : Option MemberFields) (reply : WorldReply)
    → IsWorld w → HasFewFaulty (setting_in w) → slice_get w.members i ≡ Some o → is_forged_at w (Bring i bytes) ≡ false
    → IsReplyFrom o (Bring i bytes) reply → p ≡ option_map (member_after (Bring i bytes) reply) o → IsGrownBy o p bytes → IsDone w i p (Bring i bytes) reply
bring_done what told action w i bytes None p reply is few here unforged said after grown =
    subst (λ x. IsDone w i x (Bring i bytes) reply) (sym after) (empty_done w i (Bring i bytes) reply is refl here said)
bring_done what told action w i bytes (Some m) p reply is few here unforged said after grown =
    subst (λ x. IsDone w i x (Bring i bytes) reply) (sym after) (opened (opened_in m.keys bytes) refl) where
      longer : events (after_bring m bytes reply).history ≡ events m.history ++ option_to_list (event_in m.keys (events m.history) bytes)
      longer = subst (λ x. IsGrownBy (Some m) x bytes) after grown

      there : member_in w i ≡ Some m
      there = ap (option_and_then (λ x. x)) here

      done : Stands (setting_in w) (events_at (set w.members i (Some (after_bring m bytes reply))))
          → ((j : ℕ) → events_at (set w.members i (Some (after_bring m bytes reply))) j ≡ history_in w j ++ added_in w (Bring i bytes) j)
          → IsDone w i (Some (after_bring m bytes reply)) (Bring i bytes) reply
      done stands added = record {
        world = changed_is_world w i m (after_bring m bytes reply) w.answered is here (after_keeps m bytes reply).0 (after_keeps m bytes reply).1 stands;
        answers = answers_by w (Bring i bytes) m (after_bring m bytes reply) here reply said refl added;
      }

      opened : (x : Option FrameFields) → opened_in m.keys bytes ≡ x → IsDone w i (Some (after_bring m bytes reply)) (Bring i bytes) reply
      opened None none =
          let same = bring_stays m (after_bring m bytes reply) bytes none longer in
          done (stands_still w (Bring i bytes) m (after_bring m bytes reply) here is same)
          (added_by_none w (Bring i bytes) m (after_bring m bytes reply) here (ap (option_map (brought_to i)) none) same)
      opened (Some f) some =
          let mine = is.each i m there in
          let grows = bring_grows what (setting_in w) m (after_bring m bytes reply) i bytes f mine.own (mine.keys ∙ sym is.group.members) some longer in
          let by = ap (option_map (brought_to i)) some in
          let kept : is_forged_in (setting_in w) (history_in w) (brought_to i f) ≡ false =
          sym (ap (λ (x : Option Action). option_map_or (is_forged_in (setting_in w) (history_in w)) x false) (action_opened w i bytes m f there some)) ∙ unforged in
          let genuine = (told (setting_in w) (history_in w) (brought_to i f)).0 kept in
          done (stands_by w (Bring i bytes) m (after_bring m bytes reply) here action few is (brought_to i f) by refl grows genuine)
          (added_by_action w (Bring i bytes) m (after_bring m bytes reply) here (brought_to i f) by refl grows)

-- ---- whatever the place answered

-- it is still a world, with the place's answer, or as it was
pub record IsAny (w : WorldFields) (i : ℕ) (p : Option MemberFields) (e : WorldEvent) (r : Result WorldReply WorldFault) : Type 0 where
  pub world : IsWorld (with_place w i p)
  pub answers : IfOk r (AnswersEvent w (with_place w i p) e)
  pub err : OnErr r (with_place w i p ≡ w)

kept_any :
    (w : WorldFields) (i : ℕ) (o p : Option MemberFields) (e : WorldEvent) (fault : WorldFault) → IsWorld w → slice_get w.members i ≡ Some o → p ≡ o
    → IsAny w i p e (Err fault)
kept_any w i o p e fault is here kept =
    let same : set w.members i p ≡ w.members = ap (set w.members i) kept ∙ set_same w.members i o here in
    let At : List (Option MemberFields) → Type 0 = λ members. IsWorld (record { genesis = w.genesis; liars = w.liars; members = members; answered = w.answered }) in
    record {
      world = subst At (sym same) (counted_is_world w w.answered is);
      answers = tt;
      err = ap (λ (members : List (Option MemberFields)). record { genesis = w.genesis; liars = w.liars; members = members; answered = w.answered }) same;
    }

pub ask_any :
    EventsByOneMore → StandsByAction → (w : WorldFields) (i : ℕ) (v : List ℕ) (o p : Option MemberFields) (r : Result WorldReply WorldFault)
    → IsWorld w → HasFewFaulty (setting_in w) → slice_get w.members i ≡ Some o
    → IfOk r (IsReplyFrom o (Ask 0 v)) → IfOk r (λ reply. p ≡ option_map (member_after (Ask 0 v) reply) o) → OnErr r (p ≡ o) → IsAny w i p (Ask i v) r
ask_any one_more action w i v o p (Ok reply) is few here said after kept =
    let done = ask_done one_more action w i v o p reply is few here said after in
    record { world = done.world; answers = done.answers; err = tt }
ask_any one_more action w i v o p (Err fault) is few here said after kept = kept_any w i o p (Ask i v) fault is here kept

pub bring_any :
    WhatOpens → ForgedIsTold → StandsByAction → (w : WorldFields) (i : ℕ) (bytes : List ℕ) (o p : Option MemberFields) (r : Result WorldReply WorldFault)
    → IsWorld w → HasFewFaulty (setting_in w) → slice_get w.members i ≡ Some o → is_forged_at w (Bring i bytes) ≡ false
    → IfOk r (IsReplyFrom o (Bring 0 bytes)) → IfOk r (λ reply. p ≡ option_map (member_after (Bring 0 bytes) reply) o)
    → IfOk r (λ _. IsGrownBy o p bytes) → OnErr r (p ≡ o) → IsAny w i p (Bring i bytes) r
bring_any what told action w i bytes o p (Ok reply) is few here unforged said after grown kept =
    let done = bring_done what told action w i bytes o p reply is few here unforged said after grown in
    record { world = done.world; answers = done.answers; err = tt }
bring_any what told action w i bytes o p (Err fault) is few here unforged said after grown kept = kept_any w i o p (Bring i bytes) fault is here kept
