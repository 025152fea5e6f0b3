-- Each frame that `all` brings is taken.
use Rattle.std.proofs.Common.{◌≡◌, ◌≢◌, ◌⊎◌, inl, inr, ℕ, zero, suc, ◌<◌, ◌^◌, nat_lt, Bool, true, false, cond, not, ◌&&◌, ◌==◌, eqb, List, [], ◌∷◌, ◌++◌, length, take, slice_get, Option, Some, None, option_map, option_and_then, MatchOption, Ok, Err, refl, sym, ap, ◌∙◌, subst, arith, rules, tests, append-nil, append_assoc}
use Rattle.std.specs.List.{range_with_len}
use Rattle.std.specs.Option.{option_map_or}
use Rattle.std.proofs.lemmas.Bool.{and_parts}
use Rattle.std.proofs.lemmas.List.FromFn.{get_or-map-range_with_len, length-map-range_with_len}
use Rattle.std.proofs.lemmas.Option.{slice_get_read}
use Rattle.pay_frame.specs.Frame.{BodyFields, IsFrame}
use Rattle.pay_hmac.specs.Mac.{length-mac}
use Rattle.pay_echo.specs.Broadcast as one
use Rattle.pay_channel.specs.History.{From, out}
use Rattle.pay_channel.specs.Taken.{next}
use Rattle.pay_link.specs.Keys.{KeyFields, key_for}
use Rattle.pay_link.specs.Sealing.{tagged_bytes}
use Rattle.pay_link.specs.TestKeys.{test_keys_of}
use Rattle.pay_member.specs.declared.bringing.Outcome.{Outcome}
use Rattle.pay_member.specs.declared.bringing.Outcome.TheVariants.{Took}
use Rattle.pay_member.specs.declared.event.Took as took
use Rattle.pay_member.specs.Bringing.{IsOutcome, opened_in}
use Rattle.pay_member.specs.Group.{group_in}
use Rattle.pay_member.specs.OpeningLaws.{WhatOpens}
use Rattle.pay_member.specs.Reply.{took_by}
use Rattle.pay_world.specs.declared.event.WorldEvent.{WorldEvent}
use Rattle.pay_world.specs.declared.event.WorldEvent.TheVariants.{Bring}
use Rattle.pay_world.specs.declared.event.WorldReply.{WorldReply}
use Rattle.pay_world.specs.declared.event.WorldReply.TheVariants.{Asked, Refused, Brought, Ignored}
use Rattle.pay_world.specs.Answer.{brought_to, action_with}
use Rattle.pay_world.specs.ActionLaws.{ForgedIsTold}
use Rattle.pay_world.specs.Actions.{Brings}
use Rattle.pay_world.specs.Genuine.{is_forged_in}
use Rattle.pay_world.specs.GroupKeys.{group_test_keys}
use Rattle.pay_world.specs.Liars.{is_listed, setting_of}
use Rattle.pay_world.specs.Setting.{group_at}
use Rattle.pay_sim.specs.declared.game.TheConstants.{MOST_EVENTS}
use Rattle.pay_sim.specs.declared.group.ScriptGroup.{ScriptGroup}
use Rattle.pay_sim.specs.declared.run.RunStop.{RunStop}
use Rattle.pay_sim.specs.declared.run.RunStop.TheVariants.{BadLine, Forged, Limit}
use Rattle.pay_sim.specs.All.{BringsAll, Draws, Enough, Again, FeedsMember, Further, Halted, InTurn, Nothing, MakesPass, Stopped}
use Rattle.pay_sim.specs.Made.{IsBroughtTo, IsReplyAfter, Makes, history_at, is_forged_by, is_there, keys_at, next_number, sent_frame, next_untaken}
use Rattle.pay_sim.specs.RunLaws.{AreTaken, IsGroup}
use Rattle.pay_sim.specs.TestFrames.{test_frame}
use Rattle.pay_sim.proofs.Limits.{IsSent, Votes, each_at, made_fits, next_within, out_sent, Fits}
use Rattle.pay_sim.proofs.Sealed.{Links, opened_is, taken_is, test_sealed}

-- ---- tests and options

some_under : {X : Type 0} (b : Bool) (x : Option X) (y : X) → cond b x None ≡ Some y → (b ≡ true) × (x ≡ Some y)
some_under true x y is = (refl, is)
some_under false x y is = absurd cc

some_of_map : {X Y : Type 0} (f : X → Y) (o : Option X) (y : Y) → option_map f o ≡ Some y → (x : X) × (o ≡ Some x) × (f x ≡ y)
some_of_map f None y is = absurd cc
some_of_map f (Some x) y is = (x, refl, cc)

not_true : (b : Bool) → not b ≡ true → b ≡ false
not_true true is = absurd cc
not_true false is = refl

differ : (x y : ℕ) → not (eqb x y) ≡ true → x ≢ y
differ x y is = search (rules, tests)

is_less : (x y : ℕ) → nat_lt x y ≡ true → x < y
is_less x y p = search (rules, tests)

takes : {X : Type 0} (a : Bool) (x y : X) → a ≡ true → cond a x y ≡ x
takes true x y p = refl
takes false x y p = absurd cc

all_three : (a b d : Bool) → a ≡ true → b ≡ false → d ≡ true → (a && not b && d) ≡ true
all_three true false true p q r = refl
all_three true false false p q r = absurd cc
all_three true true d p q r = absurd cc
all_three false b d p q r = absurd cc

-- the laws that this stands on
pub record Laws : Type 0 where
  pub votes : Votes
  pub links : Links
  pub opens : WhatOpens
  pub forged : ForgedIsTold

-- what a frame of a member's list is
pub record IsSentBy (c : ScriptGroup) (es : List WorldEvent) (from to number : ℕ) (frame : List ℕ) (body : BodyFields) : Type 0 where
  pub there : is_there c from ≡ true
  pub other : from ≢ to
  pub at : slice_get (out (group_in c.genesis from) (history_at c es from)) number ≡ Some body
  pub is : frame ≡ test_frame from to number body

pub sent_by : (c : ScriptGroup) (es : List WorldEvent) (from to number : ℕ) (frame : List ℕ) → sent_frame c es from to number ≡ Some frame
    → (body : BodyFields) × IsSentBy c es from to number frame body
unfolding sent_frame
sent_by c es from to number frame is =
    let first = some_under (is_there c from && not (from == to)) _ frame is in
    let tests = and_parts (is_there c from) (not (from == to)) first.0 in
    let found = some_of_map (test_frame from to number) _ frame first.1 in
    (found.0, record { there = tests.0; other = differ from to tests.1; at = found.1; is = sym found.2 })

module _ (laws : Laws) (c : ScriptGroup) (group : IsGroup c) where
  pub member : (i : ℕ) → is_there c i ≡ true → i < c.genesis.members
  member i is =
      let less = is_less i c.liars.members (and_parts (nat_lt i c.liars.members) (not (is_listed c.liars.liars i)) is).0 in
      let same = group.of.members in
      omega arith

  keys_is : (i : ℕ) → is_there c i ≡ true → keys_at c i ≡ Some (test_keys_of c.genesis.members i)
  keys_is i is =
      let n = c.genesis.members in
      let honest = not_true (is_listed c.liars.liars i) (and_parts (nat_lt i c.liars.members) (not (is_listed c.liars.liars i)) is).1 in
      let key = test_keys_of n i in
      ap (λ b. cond b None (slice_get (group_test_keys n) i)) honest
      ∙ slice_get_read (group_test_keys n) n i key (sym (length-map-range_with_len (test_keys_of n) 0 n)) (member i is)
      (sym (get_or-map-range_with_len (test_keys_of n) 0 n i i key (member i is) (omega arith)))

  sent_fits : (es : List WorldEvent) (from to number : ℕ) (frame : List ℕ) (body : BodyFields) → IsSentBy c es from to number frame body → IsSent c.genesis.members body
  sent_fits es from to number frame body s =
      let n = c.genesis.members in
      let few = group.genesis.few in
      let fits : Fits n (history_at c es from) = subst (λ m. Fits m (history_at c es from)) group.of.members (made_fits laws.votes laws.opens (setting_of c.liars) (keys_at c) es from) in
      each_at (IsSent n) (out (group_in c.genesis from) (history_at c es from)) number body
      (out_sent laws.votes (group_in c.genesis from) (history_at c es from) (member from s.there) (omega arith) fits) s.at

  pub frame_fits : (es : List WorldEvent) (from to number : ℕ) (frame : List ℕ) (body : BodyFields) → IsSentBy c es from to number frame body → is_there c to ≡ true
      → number < 2 ^ 64 → IsFrame (test_sealed c.genesis.members from to number body)
  frame_fits es from to number frame body s there small =
      let few = group.genesis.few in
      let one = member from s.there in
      let two = member to there in
      record {
        from = (omega arith);
        to = (omega arith);
        number = small;
        body = (sent_fits es from to number frame body s).fits;
        tag = length-mac (key_for (test_keys_of c.genesis.members from) to) (tagged_bytes from to number body);
      }

  -- ---- one frame

  next_is : (es : List WorldEvent) (from to : ℕ) → is_there c from ≡ true → is_there c to ≡ true → from ≢ to → next_number c es from to ≡ next from (history_at c es to)
  unfolding next_number
  next_is es from to here there other =
      let less : nat_lt from c.genesis.members ≡ true = (let m = member from here in search (rules, tests)) in
      let apart : eqb from to ≡ false = search (rules, tests) in
      takes _ _ _ (all_three (nat_lt from c.genesis.members) (eqb from to) (is_there c to) less apart there)

  pub untaken_by : (es : List WorldEvent) (from to : ℕ) (frame : List ℕ) → next_untaken c es from to ≡ Some frame
      → (is_there c to ≡ true) × (sent_frame c es from to (next_number c es from to) ≡ Some frame)
  unfolding next_untaken
  untaken_by es from to frame is = some_under (is_there c to) _ frame is

  small_next : (es : List WorldEvent) (from to : ℕ) → length es < MOST_EVENTS → next from (history_at c es to) < 2 ^ 64
  small_next es from to room = let within = next_within laws.votes (setting_of c.liars) (keys_at c) es from to in omega arith

  -- as is any number that a lie takes for the next
  pub next_below : (es : List WorldEvent) (from to : ℕ) → length es < MOST_EVENTS → next_number c es from to < 2 ^ 64
  unfolding next_number
  next_below es from to room = go (nat_lt from c.genesis.members && not (from == to) && is_there c to) where
    go : (b : Bool) → cond b (next from (history_at c es to)) 0 < 2 ^ 64
    go true = small_next es from to room
    go false = omega arith

  same_group : (from : ℕ) → group_at (setting_of c.liars) from ≡ group_in c.genesis from
  same_group from = λ i. record { members = group.of.members i; faults = group.of.faults i; own = from }

  not_forged : (es : List WorldEvent) (from to number : ℕ) (frame : List ℕ) (body : BodyFields) → IsSentBy c es from to number frame body → is_there c to ≡ true → number < 2 ^ 64
      → is_forged_by c es (Bring to frame) ≡ false
  unfolding is_forged_by
  not_forged es from to number frame body s there small =
      let n = c.genesis.members in
      let w = setting_of c.liars in
      let sent = sent_fits es from to number frame body s in
      let opened = opened_is laws.links n from to number body (member from s.there) (member to there) s.other (frame_fits es from to number frame body s there small) sent.owner sent.kind in
      ap (λ o. option_map_or (is_forged_in w (history_at c es)) (option_and_then (λ (k : KeyFields). action_with k (Bring to frame)) o) false) (keys_is to there)
      ∙ ap (λ bytes. option_map_or (is_forged_in w (history_at c es)) (option_map (brought_to to) (opened_in (test_keys_of n to) bytes)) false) s.is
      ∙ ap (λ o. option_map_or (is_forged_in w (history_at c es)) (option_map (brought_to to) o) false) opened
      ∙ (laws.forged w (history_at c es) (Brings to from number body)).1
      (λ here away. ap (λ (g : one.Group). slice_get (out g (history_at c es from)) number) (same_group from) ∙ s.at)

  brought_took : (es : List WorldEvent) (from to : ℕ) (bytes : List ℕ) (body : BodyFields) (reply : WorldReply) → (o : Option KeyFields) → o ≡ Some (test_keys_of c.genesis.members to)
      → ((outcome : Outcome) → IsOutcome c.genesis (test_keys_of c.genesis.members to) (history_at c es to) bytes outcome → (t : took.Took) × (outcome ≡ Took t))
      → MatchOption o (reply ≡ Ignored) (λ k. IsReplyAfter c.genesis k (history_at c es to) (Bring to bytes) reply) → (t : took.Took) × (reply ≡ Brought (Took t))
  brought_took es from to bytes body reply None is taken said = absurd cc
  brought_took es from to bytes body reply (Some k) is taken said =
      let same : k ≡ test_keys_of c.genesis.members to = cc in
      go reply (subst (λ x. IsReplyAfter c.genesis x (history_at c es to) (Bring to bytes) reply) same said) where
        go : (r : WorldReply) → IsBroughtTo c.genesis (test_keys_of c.genesis.members to) (history_at c es to) bytes r → (t : took.Took) × (r ≡ Brought (Took t))
        go (Brought outcome) x = let t = taken outcome x in (t.0, ap Brought t.1)
        go (Asked number) x = absurd x
        go (Refused fault) x = absurd x
        go Ignored x = absurd x

  -- it is taken
  frame_is_taken : (es : List WorldEvent) (from to : ℕ) (frame : List ℕ) (reply : WorldReply) → next_untaken c es from to ≡ Some frame → Makes c es (Bring to frame) (Ok reply)
      → (t : took.Took) × (reply ≡ Brought (Took t))
  frame_is_taken es from to frame reply is (room, unforged, said) =
      let n = c.genesis.members in
      let first = untaken_by es from to frame is in
      let number = next_number c es from to in
      let found = sent_by c es from to number frame first.1 in
      let body = found.0 in
      let s = found.1 in
      let there = first.0 in
      let turn = next_is es from to s.there there s.other in
      let small : number < 2 ^ 64 = subst (λ k. k < 2 ^ 64) (sym turn) (small_next es from to room) in
      let sent = sent_fits es from to number frame body s in
      brought_took es from to frame body reply (keys_at c to) (keys_is to there)
      (λ outcome x. (
        took_by c.genesis to (history_at c es to) (From from body),
        taken_is laws.links n from to number body (member from s.there) (member to there) s.other (frame_fits es from to number frame body s there small) sent.owner sent.kind
            c.genesis (history_at c es to) outcome turn (subst (λ bytes. IsOutcome c.genesis (test_keys_of n to) (history_at c es to) bytes outcome) s.is x),
      )) said

  -- and stopped by the limit alone
  frame_is_stopped : (es : List WorldEvent) (from to : ℕ) (frame : List ℕ) (stop : RunStop) → next_untaken c es from to ≡ Some frame → Makes c es (Bring to frame) (Err stop) → stop ≡ Limit
  frame_is_stopped es from to frame Limit is made = refl
  frame_is_stopped es from to frame BadLine is made = absurd made
  frame_is_stopped es from to frame (Forged k) is (room, forged, place) =
      let first = untaken_by es from to frame is in
      let number = next_number c es from to in
      let found = sent_by c es from to number frame first.1 in
      let s = found.1 in
      let turn = next_is es from to s.there first.0 s.other in
      let small : number < 2 ^ 64 = subst (λ k. k < 2 ^ 64) (sym turn) (small_next es from to room) in
      let unforged = not_forged es from to number frame found.0 s first.0 small in
      let both : true ≡ false = sym forged ∙ unforged in
      absurd cc

  -- ---- frames one after the other

  pub data Chain : List WorldEvent → List WorldEvent → Type 0 where
    NoMore : {es : List WorldEvent} → Chain es es
    OneMore : {es last : List WorldEvent} → (e : WorldEvent) → (t : took.Took) → Makes c es e (Ok (Brought (Took t))) → Chain (es ++ e ∷ []) last → Chain es last

  chained : {es mid last : List WorldEvent} → Chain es mid → Chain mid last → Chain es last
  chained NoMore rest = rest
  chained (OneMore e t made more) rest = OneMore e t made (chained more rest)

  by_place : {es last : List WorldEvent} → Chain es last → (brought : List WorldEvent) × (last ≡ es ++ brought) × AreTaken c es brought
  by_place {es = es} NoMore = ([], sym (append-nil es), record { each = λ k e at. absurd cc })
  by_place {es = es} (OneMore e t made more) =
      let rest = by_place more in
      let brought = rest.0 in
      let At : List WorldEvent → WorldEvent → Type 0 = λ before x. (t : took.Took) × Makes c before x (Ok (Brought (Took t))) in (
        e ∷ brought,
        rest.1 ∙ append_assoc es (e ∷ []) brought,
        record { each = each brought rest.2 },
      ) where
        each : (brought : List WorldEvent) → AreTaken c (es ++ e ∷ []) brought → (k : ℕ) (x : WorldEvent) → slice_get (e ∷ brought) k ≡ Some x
            → (t : took.Took) × Makes c (es ++ take k (e ∷ brought)) x (Ok (Brought (Took t)))
        each brought taken zero x at =
            let same : e ≡ x = cc in
            subst (λ y. (t : took.Took) × Makes c (es ++ []) y (Ok (Brought (Took t)))) same
            (subst (λ before. (t : took.Took) × Makes c before e (Ok (Brought (Took t)))) (sym (append-nil es)) (t, made))
        each brought taken (suc k) x at =
            subst (λ before. (t : took.Took) × Makes c before x (Ok (Brought (Took t)))) (append_assoc es (e ∷ []) (take k brought)) (taken.each k x at)

  abbrev Ends : Option RunStop → Type 0
  Ends stop = (stop ≡ None) ⊎ (stop ≡ Some Limit)

  draws_take : (from to : ℕ) {es last : List WorldEvent} {stop : Option RunStop} → Draws c from to es last stop → Chain es last × Ends stop
  draws_take from to (Nothing is) = (NoMore, inl refl)
  draws_take from to {es = es} (Stopped frame stop is made) = (NoMore, inr (ap Some (frame_is_stopped es from to frame stop is made)))
  draws_take from to {es = es} (Further frame reply is made rest) =
      let took = frame_is_taken es from to frame reply is made in
      let more = draws_take from to rest in
      (OneMore (Bring to frame) took.0 (subst (λ r. Makes c es (Bring to frame) (Ok r)) took.1 made) more.0, more.1)

  in_turn_take : (does : ℕ → List WorldEvent → List WorldEvent → Option RunStop → Type 0)
      → ((i : ℕ) (es last : List WorldEvent) (stop : Option RunStop) → does i es last stop → Chain es last × Ends stop)
      → (is : List ℕ) (es last : List WorldEvent) (stop : Option RunStop) → InTurn does is es last stop → Chain es last × Ends stop
  in_turn_take does each [] es last stop x = (subst (λ l. Chain es l) (sym x.0) NoMore, inl x.1)
  in_turn_take does each (i ∷ is) es last stop (mid, met, first, rest) = go met (each i es mid met first) (λ x. in_turn_take does each is mid last stop x) rest where
    go : (o : Option RunStop) → Chain es mid × Ends o → (InTurn does is mid last stop → Chain mid last × Ends stop) → MatchOption o (InTurn does is mid last stop) (λ s. (last ≡ mid) × (stop ≡ Some s)) → Chain es last × Ends stop
    go None (chain, ends) on x = let more = on x in (chained chain more.0, more.1)
    go (Some s) (chain, ends) on x = (subst (λ l. Chain es l) (sym x.0) chain, subst Ends (sym x.1) ends)

  passes_take : (es last : List WorldEvent) (stop : Option RunStop) → MakesPass c es last stop → Chain es last × Ends stop
  passes_take =
      in_turn_take (FeedsMember c) (λ to. in_turn_take (λ from. Draws c from to) (λ from es last stop x. draws_take from to x) (range_with_len 0 c.genesis.members))
      (range_with_len 0 c.genesis.members)

  all_takes : {es last : List WorldEvent} {stop : Option RunStop} → BringsAll c es last stop → Chain es last × Ends stop
  all_takes {es = es} {last = last} (Enough passes same) = passes_take es last None passes
  all_takes {es = es} {last = last} (Halted stop passes) = passes_take es last (Some stop) passes
  all_takes {es = es} (Again {mid = mid} passes less rest) =
      let one = passes_take es mid None passes in
      let more = all_takes rest in
      (chained one.0 more.0, more.1)

  pub all_is_taken : (es last : List WorldEvent) (stop : Option RunStop) → BringsAll c es last stop
      → (brought : List WorldEvent) × (last ≡ es ++ brought) × AreTaken c es brought × ((stop ≡ None) ⊎ (stop ≡ Some Limit))
  all_is_taken es last stop brings =
      let all = all_takes brings in
      let placed = by_place all.0 in
      (placed.0, placed.1, placed.2, all.1)
