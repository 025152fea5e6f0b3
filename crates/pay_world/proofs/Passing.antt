-- A frame that a correct member sent another: it is for that one, it isn't forged, and what comes of it there.
use Rattle.std.proofs.Common.{◌≡◌, ◌≢◌, ◌⊎◌, inl, inr, ℕ, ◌<◌, Bool, true, false, cond, eqb, ltb, List, [], ◌++◌, length, slice_get, Option, None, Some, is_some, option_and_then, option_map, MatchOption, Result, Ok, Err, refl, sym, ap, ◌∙◌, subst, arith, append-nil, eqb-true}
use Rattle.std.specs.Bool.{⊤}
use Rattle.std.specs.List.{All}
use Rattle.std.specs.Option.{option_map_or}
use Rattle.std.proofs.lemmas.Bool.{and_right, cases_eq, cond-false}
use Rattle.std.proofs.lemmas.List.Elements.{All-get_or}
use Rattle.std.proofs.lemmas.Option.{get_or_from_slice_get, same_Some, slice_get_within}
use Rattle.pay_frame.specs.declared.body.Kind.{Kind}
use Rattle.pay_frame.specs.declared.body.Kind.TheVariants.{Send, Echo, Ready, Want}
use Rattle.pay_frame.specs.Frame.{BodyFields, FrameFields, IsFrame, frame_bytes}
use Rattle.pay_frame.specs.OneFrame.{IsOneFrame}
use Rattle.pay_channel.specs.History.{Event, From, IsEvent, out}
use Rattle.pay_channel.specs.Prefix.{IsPrefix}
use Rattle.pay_channel.specs.SentLaws.{SentMayCome}
use Rattle.pay_channel.specs.Taken.{next}
use Rattle.pay_hmac.specs.Mac.{mac}
use Rattle.pay_link.specs.Checked.{CheckedFields, IsFor}
use Rattle.pay_link.specs.Fronts.{turn}
use Rattle.pay_link.specs.Keys.{IsPeer, KeyFields, key_for}
use Rattle.pay_link.specs.Opening.{Opens, judgement, opened_fields}
use Rattle.pay_link.specs.Sealing.{sealed_frame, tagged_bytes}
use Rattle.pay_link.specs.declared.opened.LinkFault.{LinkFault}
use Rattle.pay_link.specs.declared.opened.LinkFault.TheVariants.{Gap, Repeat}
use Rattle.pay_member.specs.declared.bringing.Incoming.TheVariants.{Message}
use Rattle.pay_member.specs.Bringing.{IsOutcome, answer_to, outcome_of_judged, event_in, incoming_at, incoming_of, is_want, opened_in, outcome_of, outcome_to, with_brought}
use Rattle.pay_member.specs.Events.{events}
use Rattle.pay_member.specs.Group.{group_in}
use Rattle.pay_member.specs.Laws.{EventIn, OpenedIn}
use Rattle.pay_member.specs.Member.{MemberFields}
use Rattle.pay_member.specs.declared.bringing.Outcome.TheVariants.{Link}
use Rattle.pay_world.specs.declared.event.WorldEvent.{WorldEvent}
use Rattle.pay_world.specs.declared.event.WorldReply.{WorldReply}
use Rattle.pay_world.specs.declared.event.WorldReply.TheVariants.{Brought}
use Rattle.pay_world.specs.Answer.{AnswersEvent, IsReplyFrom, IsTakenBy, brought_to, is_forged_at, member_after}
use Rattle.pay_world.specs.Actions.{Action, adds, counts, member_of}
use Rattle.pay_world.specs.Actions as actions
use Rattle.pay_world.specs.ActionLaws.{CorrectIsTold, ForgedIsTold}
use Rattle.pay_world.specs.Genuine.{IsGenuineIn, is_forged_in}
use Rattle.pay_world.specs.Passing.{MayPass, Sends, frame_by, frame_of, passing}
use Rattle.pay_world.specs.Setting.{IsCorrect, Setting, group_at}
use Rattle.pay_world.specs.World.{WorldFields, IsWorld, history_in, member_at, member_in, setting_in}
use Rattle.pay_world.proofs.Forging.{action_opened}
use Rattle.pay_world.proofs.Taking.{adds-elsewhere, adds-uncounted}
use Rattle.pay_world.proofs.WorldLemmas.{place_of}

-- a member that is there has a number below the count of them
pub is_below : (w : WorldFields) (i : ℕ) (m : MemberFields) → IsWorld w → member_in w i ≡ Some m → i < length w.members
is_below w i m is there = slice_get_within w.members i (Some m) (place_of w.members i m there)

pub grown_prefix : (old new more : List Event) → new ≡ old ++ more → IsPrefix old new
grown_prefix old new more is = record { rest = more; is = is }

-- what is for the member that is there is for what stands at its place
pub place_is_for :
    (members : List (Option MemberFields)) (i : ℕ) (o : Option MemberFields) (c : CheckedFields) → slice_get members i ≡ Some o
    → ((taker : MemberFields) → member_at members i ≡ Some taker → IsFor taker.keys c) → MatchOption o (Unit {0}) (λ m. IsFor m.keys c)
place_is_for members i None c here mine = tt
place_is_for members i (Some m) c here mine = mine m (ap (option_and_then (λ x. x)) here)

-- ---- turns

ok_err : (x : ⊤) (fault : LinkFault) → ◌≡◌ {A = Result ⊤ LinkFault} (Ok x) (Err fault) → ⊥
ok_err x fault same = cc

nothing_there : {A : Type 0} (x : A) → None ≡ Some x → ⊥
nothing_there x same = cc

if_err : (b : Bool) (r : Result ⊤ LinkFault) (fault : LinkFault) → cond b (Ok tt) r ≡ Err fault → b ≡ false
if_err true r fault is = absurd (ok_err tt fault is)
if_err false r fault is = refl

if_ok : (b c : Bool) (x y : LinkFault) (z : ⊤) → cond b (Ok tt) (cond c (Err x) (Err y)) ≡ Ok z → b ≡ true
if_ok true c x y z is = refl
if_ok false true x y z is = absurd (ok_err z x (sym is))
if_ok false false x y z is = absurd (ok_err z y (sym is))

out_of_turn : (n number : ℕ) (fault : LinkFault) → turn n number ≡ Err fault → eqb number n ≡ false
out_of_turn n number fault is = if_err (eqb number n) (cond (ltb number n) (Err (Repeat n)) (Err (Gap n))) fault is

in_turn : (n number : ℕ) (z : ⊤) → turn n number ≡ Ok z → number ≡ n
in_turn n number z is = eqb-true number n (if_ok (eqb number n) (ltb number n) (Repeat n) (Gap n) z is)

not_want : (kind : Kind) → kind ≢ Want → is_want kind ≡ false
not_want Send other = refl
not_want Echo other = refl
not_want Ready other = refl
not_want Want other = absurd (other refl)

adds_nothing :
    (s : Setting) (histories : ℕ → List Event) (i : ℕ) (d : Action) → counts s (histories (member_of d)) d ≡ false → adds s i (histories i) d ≡ []
adds_nothing s histories i d ignored = go (cases_eq i (member_of d)) where
  go : ((i ≡ member_of d) ⊎ (i ≢ member_of d)) → adds s i (histories i) d ≡ []
  go (inl same) = adds-uncounted s i (histories i) d (ap (λ j. counts s (histories j) d) same ∙ ignored)
  go (inr differs) = adds-elsewhere s i (histories i) d differs

-- the law, of what is sealed for one that has the same key
abbrev pub SealedOpens : Type 0
SealedOpens =
    (a b : KeyFields) (number : ℕ) (body : BodyFields) → IsPeer b a.own → key_for a b.own ≡ key_for b a.own → body.owner < length b.keys
    → judgement b (sealed_frame a b.own number body) ≡ Ok (opened_fields b (sealed_frame a b.own number body))

-- ---- what is sent

-- what is sent is what stands there
pub sends_this :
    (w : WorldFields) (from to number : ℕ) (may : MayPass w from to number) (x : MemberFields) (b : BodyFields) → member_in w from ≡ Some x
    → slice_get (out (group_in x.genesis x.keys.own) (events x.history)) number ≡ Some b → Sends w from to number x may.taker b
sends_this w from to number may x b gives sent =
    let same : may.giver ≡ x = same_Some may.giver x (sym may.sends.gives ∙ gives) in
    record {
      gives = gives;
      takes = may.sends.takes;
      other = may.sends.other;
      sent = sent;
      shared = subst (λ (y : MemberFields). key_for y.keys to ≡ key_for may.taker.keys from) same may.sends.shared;
    }

-- and its taker who is there
pub sends_these :
    (w : WorldFields) (from to number : ℕ) (may : MayPass w from to number) (x y : MemberFields) (b : BodyFields)
    → member_in w from ≡ Some x → slice_get (out (group_in x.genesis x.keys.own) (events x.history)) number ≡ Some b → member_in w to ≡ Some y
    → Sends w from to number x y b
sends_these w from to number may x y b gives sent takes =
    subst (λ (z : MemberFields). Sends w from to number x z b) (same_Some may.taker y (sym may.sends.takes ∙ takes))
    (sends_this w from to number may x b gives sent)

module _ (w : WorldFields) (from to number : ℕ) (giver taker : MemberFields) (body : BodyFields) (is : IsWorld w) (sends : Sends w from to number giver taker body) where
  pub giver_own : giver.keys.own ≡ from
  giver_own = (is.each from giver sends.gives).own

  taker_own : taker.keys.own ≡ to
  taker_own = (is.each to taker sends.takes).own

  pub is_peer_of : IsPeer giver.keys to
  is_peer_of =
      let below = is_below w to taker is sends.takes in
      let places = is.places in
      let count = (is.each from giver sends.gives).keys in
      (omega arith, λ same. sends.other (sym giver_own ∙ sym same))

  peer_back : IsPeer taker.keys giver.keys.own
  peer_back =
      let below = is_below w from giver is sends.gives in
      let places = is.places in
      let count = (is.each to taker sends.takes).keys in
      let own = giver_own in
      (omega arith, λ same. sends.other (sym giver_own ∙ same ∙ taker_own))

  group_is : group_in giver.genesis giver.keys.own ≡ group_at (setting_in w) from
  group_is =
      let at = is.each from giver sends.gives in
      ap (λ g. group_in g giver.keys.own) at.genesis
      ∙ (λ j. record { members = sym is.group.members j; faults = sym is.group.faults j; own = at.own j })

  history_is : events giver.history ≡ history_in w from
  history_is = sym (ap (λ (o : Option MemberFields). option_map_or (λ (y : MemberFields). events y.history) o []) sends.gives)

  sent_at : slice_get (out (group_at (setting_in w) from) (history_in w from)) number ≡ Some body
  sent_at = sym (λ j. slice_get (out (group_is j) (history_is j)) number) ∙ sends.sent

  -- it may come to the other
  pub comes : CorrectIsTold → SentMayCome → IsEvent (group_at (setting_in w) to) (From from body)
  comes told may_come =
      let correct : IsCorrect (setting_in w) from = (told (setting_in w) from).0 (sym (is.there from) ∙ ap is_some sends.gives) in
      let P : BodyFields → Type 0 = λ x. IsEvent (group_at (setting_in w) to) (From from x) in
      let all : All P (out (group_at (setting_in w) from) (history_in w from)) =
      may_come (group_at (setting_in w) from) (group_at (setting_in w) to) (history_in w from) correct.member refl sends.other (is.stands.proper from correct) in
      let xs = out (group_at (setting_in w) from) (history_in w from) in
      subst P (get_or_from_slice_get xs number body body sent_at) (All-get_or P xs number body (slice_get_within xs number body sent_at) all)

  pub frame_is : frame_bytes (sealed_frame giver.keys to number body) ≡ frame_of w from to number
  unfolding frame_of
  frame_is =
      sym (ap (λ (o : Option MemberFields). option_map_or (λ m. frame_by m to number) o []) sends.gives
      ∙ ap (λ (o : Option BodyFields). option_map_or (λ x. frame_bytes (sealed_frame giver.keys to number x)) o []) sends.sent)

  -- by itself it is for the other
  pub is_for : CorrectIsTold → SentMayCome → IsFor taker.keys (record { frame = sealed_frame giver.keys to number body; key = key_for giver.keys to })
  is_for told may_come =
      let event = comes told may_come in
      let owner = event.2 in
      let members = is.group.members in
      let count = (is.each to taker sends.takes).keys in
      record {
        receiver = sym taker_own;
        sender = peer_back;
        owner = (omega arith);
        key = sends.shared ∙ ap (key_for taker.keys) (sym giver_own);
      }

  -- its bytes are the frame, which opens there
  passing_one : IsFrame (sealed_frame giver.keys to number body) → IsOneFrame (frame_of w from to number) (sealed_frame giver.keys to number body)
  passing_one fits = record { is = fits; spelled = sym frame_is }

  passing_opens :
      CorrectIsTold → SentMayCome → OpenedIn → IsFrame (sealed_frame giver.keys to number body)
      → opened_in taker.keys (frame_of w from to number) ≡ Some (sealed_frame giver.keys to number body)
  passing_opens correct may_come opened fits =
      let f : FrameFields = sealed_frame giver.keys to number body in
      let mine = is_for correct may_come in
      let event = comes correct may_come in
      let opens : Opens taker.keys f = record {
        for_me = mine.receiver;
        sender = mine.sender;
        owner = mine.owner;
        tagged = ap (λ key. mac key (tagged_bytes giver.keys.own to number body)) mine.key;
      } in
      (opened taker.keys (frame_of w from to number) f).1 (passing_one fits, opens, event.3)

  -- and its bytes are no forged frame
  pub passing_unforged :
      CorrectIsTold → ForgedIsTold → SentMayCome → OpenedIn → IsFrame (sealed_frame giver.keys to number body)
      → is_forged_at w (passing w from to number) ≡ false
  passing_unforged correct told may_come opened fits =
      let f : FrameFields = sealed_frame giver.keys to number body in
      let genuine : IsGenuineIn (setting_in w) (history_in w) (brought_to to f) =
      λ _ _. subst (λ i. slice_get (out (group_at (setting_in w) i) (history_in w i)) number ≡ Some body) (sym giver_own) sent_at in
      ap (λ (o : Option Action). option_map_or (is_forged_in (setting_in w) (history_in w)) o false)
      (action_opened w to (frame_of w from to number) taker f sends.takes (passing_opens correct may_come opened fits))
      ∙ (told (setting_in w) (history_in w) (brought_to to f)).1 genuine

  -- ---- in its turn there, or not

  heard_is : events taker.history ≡ history_in w to
  heard_is = sym (ap (λ (o : Option MemberFields). option_map_or (λ (y : MemberFields). events y.history) o []) sends.takes)

  -- the next one is taken
  pub passing_taken :
      CorrectIsTold → SentMayCome → OpenedIn → EventIn → IsFrame (sealed_frame giver.keys to number body)
      → (z : ⊤) → turn (next from (events taker.history)) number ≡ Ok z → IsTakenBy (passing w from to number) (member_in w to)
  passing_taken correct may_come opened event fits z is =
      let f : FrameFields = sealed_frame giver.keys to number body in
      let here : number ≡ next giver.keys.own (events taker.history) =
      in_turn (next from (events taker.history)) number z is ∙ ap (λ i. next i (events taker.history)) (sym giver_own) in
      let some : event_in taker.keys (events taker.history) (frame_of w from to number) ≡ Some (From giver.keys.own body) =
      (event taker.keys (events taker.history) (frame_of w from to number) (From giver.keys.own body)).1
      (f, passing_opens correct may_come opened fits, here, refl) in
      subst (IsTakenBy (passing w from to number)) (sym sends.takes) (λ none. nothing_there (From giver.keys.own body) (sym none ∙ some))

  -- what comes of another
  passed_outcome :
      CorrectIsTold → SentMayCome → SealedOpens → IsFrame (sealed_frame giver.keys to number body)
      → (fault : LinkFault) → turn (next from (events taker.history)) number ≡ Err fault
      → IsOutcome taker.genesis taker.keys (events taker.history) (frame_of w from to number) (Link fault)
  unfolding incoming_at outcome_of answer_to
  passed_outcome correct may_come opens fits fault is =
      let f : FrameFields = sealed_frame giver.keys to number body in
      let mine = is_for correct may_come in
      let before = events taker.history in
      let Judged : ℕ → Type 0 = λ t. judgement taker.keys (sealed_frame giver.keys t number body) ≡ Ok (opened_fields taker.keys (sealed_frame giver.keys t number body)) in
      let judges : Judged to =
      subst Judged taker_own
      (opens giver.keys taker.keys number body mine.sender (ap (key_for giver.keys) taker_own ∙ mine.key) mine.owner) in
      let comes_so : incoming_at taker.keys f ≡ Ok (Message (opened_fields taker.keys f)) =
      ap incoming_of judges ∙ ap Ok (cond-false _ _ _ (not_want body.kind (comes correct may_come).3)) in
      let turned : turn (next giver.keys.own before) number ≡ Err fault = ap (λ i. turn (next i before) number) giver_own ∙ is in
      record {
        reading = Ok f;
        reads = passing_one fits;
        is = sym (ap (outcome_to taker.genesis taker.keys.own before) comes_so ∙ ap (outcome_of_judged taker.genesis taker.keys.own before f) turned);
      }

  -- and it changes nothing
  pub passed_over :
      CorrectIsTold → SentMayCome → OpenedIn → SealedOpens → IsFrame (sealed_frame giver.keys to number body)
      → (fault : LinkFault) → turn (next from (events taker.history)) number ≡ Err fault
      → AnswersEvent w w (passing w from to number) (Brought (Link fault))
  passed_over correct may_come opened opens fits fault is =
      let f : FrameFields = sealed_frame giver.keys to number body in
      let e : WorldEvent = passing w from to number in
      let reply : WorldReply = Brought (Link fault) in
      let some = passing_opens correct may_come opened fits in
      let outcome = passed_outcome correct may_come opens fits fault is in
      let stays : member_after e reply taker ≡ taker = ap (with_brought taker 0 (Link fault)) some in
      let ignored : counts (setting_in w) (history_in w to) (brought_to to f) ≡ false =
      and_right (actions.may_come (setting_in w) to giver.keys.own body) (eqb number (next giver.keys.own (history_in w to)))
      ((λ j. eqb number (next (giver_own j) (sym heard_is j))) ∙ out_of_turn (next from (events taker.history)) number fault is) in
      let nothing : (i : ℕ) → adds (setting_in w) i (history_in w i) (brought_to to f) ≡ [] =
      λ i. adds_nothing (setting_in w) (history_in w) i (brought_to to f) ignored in
      record {
        genesis = refl;
        liars = refl;
        said = subst (λ (o : Option MemberFields). IsReplyFrom o e reply) (sym sends.takes) outcome;
        here = sends.takes ∙ ap Some (sym stays) ∙ sym (ap (option_map (member_after e reply)) sends.takes);
        others = λ i differs. refl;
        histories = λ i.
            sym (append-nil (history_in w i))
            ∙ sym (ap (λ (l : List Event). history_in w i ++ l)
            (ap (λ (x : Option Action). option_map_or (adds (setting_in w) i (history_in w i)) x []) (action_opened w to (frame_of w from to number) taker f sends.takes some)
            ∙ nothing i));
      }
