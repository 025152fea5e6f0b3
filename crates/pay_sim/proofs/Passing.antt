-- Frames that are passed on between the members of a script's group, who have the test keys.
use Rattle.std.proofs.Common.{◌≡◌, ◌≢◌, ℕ, ◌<◌, Bool, true, false, cond, List, [], length, slice_get, Option, Some, None, option_map, sym, ap, ◌∙◌, arith}
use Rattle.std.specs.Option.{option_map_or}
use Rattle.std.proofs.lemmas.List.FromFn.{get_or-map-range_with_len, length-map-range_with_len}
use Rattle.std.proofs.lemmas.Option.{same_Some, slice_get_read, slice_get_within}
use Rattle.pay_frame.specs.Frame.{BodyFields, frame_bytes}
use Rattle.pay_channel.specs.History.{out}
use Rattle.pay_link.specs.Keys.{KeyFields, key_for}
use Rattle.pay_link.specs.Sealing.{sealed_frame}
use Rattle.pay_link.specs.TestKeys.{test_keys_of}
use Rattle.pay_member.specs.Events.{events}
use Rattle.pay_member.specs.Group.{group_in}
use Rattle.pay_member.specs.Member.{MemberFields}
use Rattle.pay_world.specs.declared.event.WorldEvent.{WorldEvent}
use Rattle.pay_world.specs.GroupKeys.{group_test_keys}
use Rattle.pay_world.specs.Liars.{is_listed}
use Rattle.pay_world.specs.Passing.{MayPass, frame_by, frame_of}
use Rattle.pay_world.specs.World.{member_in}
use Rattle.pay_sim.specs.declared.group.ScriptGroup.{ScriptGroup}
use Rattle.pay_sim.specs.TestFrames.{test_frame}
use Rattle.pay_sim.specs.Playing.{GameFields, IsAfter}
use Rattle.pay_sim.proofs.Sealed.{spelled_is}

abbrev pub SharedTestKeys : Type 0
SharedTestKeys =
    (members x y : ℕ) → x < members → y < members
    → key_for (test_keys_of members x) y ≡ key_for (test_keys_of members y) x

unlisted : {X : Type 0} (b : Bool) (o : Option X) (x : X) → Some x ≡ cond b None o → Some x ≡ o
unlisted true o x is = absurd cc
unlisted false o x is = is

module _ (c : ScriptGroup) (es : List WorldEvent) (g : GameFields) (b : IsAfter c es g) where
  key_at : (i : ℕ) (m : MemberFields) → member_in g.world i ≡ Some m → Some m.keys ≡ slice_get (group_test_keys c.genesis.members) i
  key_at i m is =
      unlisted (is_listed c.liars.liars i) (slice_get (group_test_keys c.genesis.members) i) m.keys
      (sym (ap (option_map (λ (x : MemberFields). x.keys)) is) ∙ b.after.known i)

  is_member : (i : ℕ) (m : MemberFields) → member_in g.world i ≡ Some m → i < c.genesis.members
  is_member i m is =
      let within = slice_get_within (group_test_keys c.genesis.members) i m.keys (sym (key_at i m is)) in
      let count : length (group_test_keys c.genesis.members) ≡ c.genesis.members = length-map-range_with_len (test_keys_of c.genesis.members) 0 c.genesis.members in
      omega arith

  -- each member has the test keys
  keys_are : (i : ℕ) (m : MemberFields) → member_in g.world i ≡ Some m → m.keys ≡ test_keys_of c.genesis.members i
  keys_are i m is =
      let inside = is_member i m is in
      let key = test_keys_of c.genesis.members i in
      same_Some m.keys key
      (key_at i m is
      ∙ slice_get_read (group_test_keys c.genesis.members) c.genesis.members i key (sym (length-map-range_with_len (test_keys_of c.genesis.members) 0 c.genesis.members)) inside
      (sym (get_or-map-range_with_len (test_keys_of c.genesis.members) 0 c.genesis.members i i key inside (omega arith))))

  module _ (from to number : ℕ) (giver taker : MemberFields) (body : BodyFields) (gives : member_in g.world from ≡ Some giver) (takes : member_in g.world to ≡ Some taker)
      (other : from ≢ to) (sent : slice_get (out (group_in giver.genesis giver.keys.own) (events giver.history)) number ≡ Some body) where
    pub may_pass : SharedTestKeys → MayPass g.world from to number
    may_pass shared = record {
      giver = giver;
      taker = taker;
      body = body;
      sends = record {
        gives = gives;
        takes = takes;
        other = other;
        sent = sent;
        shared =
            ap (λ (k : KeyFields). key_for k to) (keys_are from giver gives)
            ∙ shared c.genesis.members from to (is_member from giver gives) (is_member to taker takes)
            ∙ sym (ap (λ (k : KeyFields). key_for k from) (keys_are to taker takes));
      };
    }

    -- the frame is the one under the test key
    pub passed_is : frame_of g.world from to number ≡ test_frame from to number body
    unfolding frame_of
    passed_is =
        ap (λ (o : Option MemberFields). option_map_or (λ m. frame_by m to number) o []) gives
        ∙ ap (λ (o : Option BodyFields). option_map_or (λ x. frame_bytes (sealed_frame giver.keys to number x)) o []) sent
        ∙ ap (λ (k : KeyFields). frame_bytes (sealed_frame k to number body)) (keys_are from giver gives)
        ∙ sym (spelled_is c.genesis.members from to number body (is_member to taker takes) other)
