-- What members know after events, by the world that is after them.
use Rattle.std.proofs.Common.{◌≡◌, ◌≢◌, ℕ, ◌<◌, ◌≤◌, Bool, true, false, not, ◌&&◌, cond, eqb, ltb, List, [], slice_get, Option, Some, None, is_some, option_map, refl, sym, ap, ◌∙◌, rules, tests}
use Rattle.std.specs.Option.{option_map_or}
use Rattle.pay_frame.specs.Frame.{BodyFields}
use Rattle.pay_channel.specs.History.{Event, out}
use Rattle.pay_channel.specs.Taken.{next}
use Rattle.pay_link.specs.Genesis.{GenesisFields}
use Rattle.pay_member.specs.Events.{events}
use Rattle.pay_member.specs.Group.{group_in}
use Rattle.pay_member.specs.Member.{MemberFields}
use Rattle.pay_world.specs.declared.event.WorldEvent.{WorldEvent}
use Rattle.pay_world.specs.Setting.{is_correct}
use Rattle.pay_world.specs.Liars.{LiarFields, setting_of}
use Rattle.pay_world.specs.World.{IsWorld, member_in}
use Rattle.pay_sim.specs.declared.group.ScriptGroup.{ScriptGroup}
use Rattle.pay_sim.specs.TestFrames.{test_frame}
use Rattle.pay_sim.specs.Made.{frame_for, history_at, is_there, next_number, sent_frame, next_untaken}
use Rattle.pay_sim.specs.Playing.{GameFields, IsAfter}

-- ---- tests

picks : {X : Type 0} (a b : Bool) (x y : X) → a ≡ true → b ≡ false → cond (a && not b) x y ≡ x
picks true false x y p q = refl
picks true true x y p q = absurd cc
picks false b x y p q = absurd cc

leaves_first : {X : Type 0} (a b : Bool) (x y : X) → a ≡ false → cond (a && not b) x y ≡ y
leaves_first true b x y p = absurd cc
leaves_first false b x y p = refl

leaves_second : {X : Type 0} (a b : Bool) (x y : X) → b ≡ true → cond (a && not b) x y ≡ y
leaves_second true true x y p = refl
leaves_second true false x y p = absurd cc
leaves_second false b x y p = refl

pub takes : {X : Type 0} (a : Bool) (x y : X) → a ≡ true → cond a x y ≡ x
takes true x y p = refl
takes false x y p = absurd cc

pub leaves : {X : Type 0} (a : Bool) (x y : X) → a ≡ false → cond a x y ≡ y
leaves true x y p = absurd cc
leaves false x y p = refl

same_test : (x y : ℕ) → x ≡ y → eqb x y ≡ true
same_test x y p = search (rules, tests)

other_test : (x y : ℕ) → x ≢ y → eqb x y ≡ false
other_test x y p = search (rules, tests)

less_test : (x y : ℕ) → x < y → ltb x y ≡ true
less_test x y p = search (rules, tests)

pub sent_to_itself : (c : ScriptGroup) (es : List WorldEvent) (from to number : ℕ) → from ≡ to → None ≡ sent_frame c es from to number
unfolding sent_frame
sent_to_itself c es from to number same = sym (leaves_second (is_there c from) (eqb from to) _ _ (same_test from to same))

pub untaken_unsent : (c : ScriptGroup) (es : List WorldEvent) (from to : ℕ) → ((number : ℕ) → None ≡ sent_frame c es from to number) → None ≡ next_untaken c es from to
unfolding next_untaken
untaken_unsent c es from to none = go (is_there c to) where
  go : (b : Bool) → None ≡ cond b (sent_frame c es from to (next_number c es from to)) None
  go true = none (next_number c es from to)
  go false = refl

-- ---- what is known

module _ (c : ScriptGroup) (es : List WorldEvent) (g : GameFields) (b : IsAfter c es g) (world : IsWorld g.world) where
  there_is : (i : ℕ) → is_there c i ≡ is_some (member_in g.world i)
  there_is i = ap (λ (l : LiarFields). is_correct (setting_of l) i) (sym b.after.liars) ∙ sym (world.there i)

  pub there_some : (i : ℕ) (m : MemberFields) → member_in g.world i ≡ Some m → is_there c i ≡ true
  there_some i m is = there_is i ∙ ap is_some is

  pub there_none : (i : ℕ) → member_in g.world i ≡ None → is_there c i ≡ false
  there_none i is = there_is i ∙ ap is_some is

  history_is : (i : ℕ) (m : MemberFields) → member_in g.world i ≡ Some m → events m.history ≡ history_at c es i
  history_is i m is =
      sym (ap (λ (o : Option MemberFields). option_map_or (λ (x : MemberFields). events x.history) o []) is) ∙ b.after.histories i

  -- what is asked of a member's group and history is asked of the script's
  pub known : {X : Type 0} (ask : GenesisFields → ℕ → List Event → X) (i : ℕ) (m : MemberFields) → member_in g.world i ≡ Some m
      → ask m.genesis m.keys.own (events m.history) ≡ ask c.genesis i (history_at c es i)
  known ask i m is =
      ap (λ (x : GenesisFields). ask x m.keys.own (events m.history)) (b.each i m is)
      ∙ ap (λ (own : ℕ). ask c.genesis own (events m.history)) (world.each i m is).own
      ∙ ap (ask c.genesis i) (history_is i m is)

  -- ---- frames

  pub sent_by_none : (from to number : ℕ) → member_in g.world from ≡ None → None ≡ sent_frame c es from to number
  unfolding sent_frame
  sent_by_none from to number none = sym (leaves_first (is_there c from) (eqb from to) _ _ (there_none from none))

  pub sent_by : (from to number : ℕ) (m : MemberFields) (o : Option BodyFields) → member_in g.world from ≡ Some m → from ≢ to
      → o ≡ slice_get (out (group_in m.genesis m.keys.own) (events m.history)) number
      → option_map (test_frame from to number) o ≡ sent_frame c es from to number
  unfolding sent_frame
  sent_by from to number m o is other at =
      ap (λ (x : Option BodyFields). option_map (test_frame from to number) x)
      (at ∙ known (λ x own h. slice_get (out (group_in x own) h) number) from m is)
      ∙ sym (picks (is_there c from) (eqb from to) _ _ (there_some from m is) (other_test from to other))

  pub no_frame_for : (from to number : ℕ) → member_in g.world to ≡ None → Some [] ≡ frame_for c es from to number
  unfolding frame_for
  no_frame_for from to number none = sym (leaves (is_there c to) _ _ (there_none to none))

  pub frame_for_one : (from to number : ℕ) (m : MemberFields) → member_in g.world to ≡ Some m → sent_frame c es from to number ≡ frame_for c es from to number
  unfolding frame_for
  frame_for_one from to number m is = sym (takes (is_there c to) _ _ (there_some to m is))

  pub untaken_by_none : (from to : ℕ) → member_in g.world to ≡ None → None ≡ next_untaken c es from to
  unfolding next_untaken
  untaken_by_none from to none = sym (leaves (is_there c to) _ _ (there_none to none))

  pub untaken_by : (from to : ℕ) (m : MemberFields) → member_in g.world to ≡ Some m → sent_frame c es from to (next_number c es from to) ≡ next_untaken c es from to
  unfolding next_untaken
  untaken_by from to m is = sym (takes (is_there c to) _ _ (there_some to m is))

  -- ---- numbers

  three : (d e f : Bool) (x : ℕ) → d ≡ false → cond (d && not e && f) x 0 ≡ 0
  three true e f x p = absurd cc
  three false e f x p = refl

  three_second : (d e f : Bool) (x : ℕ) → e ≡ true → cond (d && not e && f) x 0 ≡ 0
  three_second true true f x p = refl
  three_second true false f x p = absurd cc
  three_second false e f x p = refl

  three_last : (d e f : Bool) (x : ℕ) → f ≡ false → cond (d && not e && f) x 0 ≡ 0
  three_last true true f x p = refl
  three_last true false true x p = absurd cc
  three_last true false false x p = refl
  three_last false e f x p = refl

  three_all : (d e f : Bool) (x : ℕ) → d ≡ true → e ≡ false → f ≡ true → cond (d && not e && f) x 0 ≡ x
  three_all true false true x p q r = refl
  three_all true false false x p q r = absurd cc
  three_all true true f x p q r = absurd cc
  three_all false e f x p q r = absurd cc

  not_less : (x y : ℕ) → y ≤ x → ltb x y ≡ false
  not_less x y p = search (rules, tests)

  pub next_of_none : (from to : ℕ) → member_in g.world to ≡ None → 0 ≡ next_number c es from to
  unfolding next_number
  next_of_none from to none = sym (three_last (ltb from c.genesis.members) (eqb from to) (is_there c to) _ (there_none to none))

  pub next_from_none : (from to : ℕ) → c.genesis.members ≤ from → 0 ≡ next_number c es from to
  unfolding next_number
  next_from_none from to many = sym (three (ltb from c.genesis.members) (eqb from to) (is_there c to) _ (not_less from c.genesis.members many))

  pub next_from_itself : (from to : ℕ) → from ≡ to → 0 ≡ next_number c es from to
  unfolding next_number
  next_from_itself from to same = sym (three_second (ltb from c.genesis.members) (eqb from to) (is_there c to) _ (same_test from to same))

  pub next_from : (from to : ℕ) (m : MemberFields) → member_in g.world to ≡ Some m → from < c.genesis.members → from ≢ to
      → next from (events m.history) ≡ next_number c es from to
  unfolding next_number
  next_from from to m is less other =
      ap (next from) (history_is to m is)
      ∙ sym (three_all (ltb from c.genesis.members) (eqb from to) (is_there c to) _ (less_test from c.genesis.members less) (other_test from to other) (there_some to m is))
