-- Which bytes are a forged frame, by the members of a world.
use Rattle.std.proofs.Common.{◌≡◌, ℕ, Bool, true, false, not, ◌&&◌, List, [], slice_get, Option, None, Some, is_some, option_map, option_and_then, Result, Ok, Err, OnErr, refl, sym, ap, ◌∙◌}
use Rattle.std.specs.Option.{option_map_or}
use Rattle.pay_frame.specs.Frame.{FrameFields}
use Rattle.pay_frame.specs.OneFrame.{IsOneFrame}
use Rattle.pay_channel.specs.History.{out}
use Rattle.pay_member.specs.Events.{events}
use Rattle.pay_member.specs.Bringing.{opened_in}
use Rattle.pay_member.specs.OpeningLaws.{WhatOpens}
use Rattle.pay_member.specs.Group.{group_in}
use Rattle.pay_member.specs.Member.{MemberFields}
use Rattle.pay_world.specs.declared.event.WorldEvent.{WorldEvent}
use Rattle.pay_world.specs.declared.event.WorldEvent.TheVariants.{Bring}
use Rattle.pay_world.specs.Setting.{group_at, is_correct}
use Rattle.pay_world.specs.Actions.{Action}
use Rattle.pay_world.specs.Genuine.{is_same_body, is_forged_in}
use Rattle.pay_world.specs.World.{WorldFields, setting_in, member_in, history_in, keys_in, IsWorld}
use Rattle.pay_world.specs.Answer.{receiver, brought_to, action_with, action_of, is_forged_at, is_unsent}

-- ---- what an event is

-- where its member isn't there
pub action_nowhere : (w : WorldFields) (e : WorldEvent) → member_in w (receiver e) ≡ None → action_of (keys_in w) e ≡ None
action_nowhere w e none = ap (λ (o : Option MemberFields). option_and_then (λ k. action_with k e) (option_map (λ (m : MemberFields). m.keys) o)) none

-- and where it is
pub action_there : (w : WorldFields) (e : WorldEvent) (m : MemberFields) → member_in w (receiver e) ≡ Some m → action_of (keys_in w) e ≡ action_with m.keys e
action_there w e m there = ap (λ (o : Option MemberFields). option_and_then (λ k. action_with k e) (option_map (λ (m : MemberFields). m.keys) o)) there

-- ---- whether it is forged

by_action : (w : WorldFields) (e : WorldEvent) (o : Option Action) → action_of (keys_in w) e ≡ o → is_forged_at w e ≡ option_map_or (is_forged_in (setting_in w) (history_in w)) o false
by_action w e o is = ap (λ (x : Option Action). option_map_or (is_forged_in (setting_in w) (history_in w)) x false) is

pub forged_unopened :
    (w : WorldFields) (i : ℕ) (bytes : List ℕ) (m : MemberFields) → member_in w i ≡ Some m → opened_in m.keys bytes ≡ None
    → false ≡ is_forged_at w (Bring i bytes)
forged_unopened w i bytes m there none =
    sym (by_action w (Bring i bytes) None (action_there w (Bring i bytes) m there ∙ ap (option_map (brought_to i)) none))

-- what an opened frame is
pub action_opened :
    (w : WorldFields) (i : ℕ) (bytes : List ℕ) (m : MemberFields) (f : FrameFields) → member_in w i ≡ Some m → opened_in m.keys bytes ≡ Some f
    → action_of (keys_in w) (Bring i bytes) ≡ Some (brought_to i f)
action_opened w i bytes m f there some = action_there w (Bring i bytes) m there ∙ ap (option_map (brought_to i)) some

and_yes : (a : Bool) → (a && true) ≡ a
and_yes true = refl
and_yes false = refl

and_no : (a : Bool) → (a && false) ≡ false
and_no true = refl
and_no false = refl

-- where a frame opens, its sender's list alone decides
pub forged_opened :
    (w : WorldFields) (i : ℕ) (bytes : List ℕ) (m : MemberFields) (f : FrameFields) → IsWorld w → member_in w i ≡ Some m → opened_in m.keys bytes ≡ Some f
    → is_forged_at w (Bring i bytes) ≡ is_unsent w f
forged_opened w i bytes m f is there some =
    let one : is_correct (setting_in w) i ≡ true = sym (is.there i) ∙ ap is_some there in
    let sent = is_same_body f.body (slice_get (out (group_at (setting_in w) f.from) (history_in w f.from)) f.number) in
    by_action w (Bring i bytes) (Some (brought_to i f)) (action_opened w i bytes m f there some)
    ∙ ap (λ b. (b && is_correct (setting_in w) f.from) && not sent) one

pub unsent_unnamed : (w : WorldFields) (f : FrameFields) → IsWorld w → member_in w f.from ≡ None → false ≡ is_unsent w f
unsent_unnamed w f is none =
    let liar : is_correct (setting_in w) f.from ≡ false = sym (is.there f.from) ∙ ap is_some none in
    let sent = is_same_body f.body (slice_get (out (group_at (setting_in w) f.from) (history_in w f.from)) f.number) in
    sym (ap (λ b. b && not sent) liar)

pub unsent_named :
    (w : WorldFields) (x : MemberFields) (f : FrameFields) (b : Bool) → IsWorld w → member_in w f.from ≡ Some x
    → b ≡ is_same_body f.body (slice_get (out (group_in x.genesis x.keys.own) (events x.history)) f.number)
    → not b ≡ is_unsent w f
unsent_named w x f b is named sent =
    let other : is_correct (setting_in w) f.from ≡ true = sym (is.there f.from) ∙ ap is_some named in
    let at = is.each f.from x named in
    let group : group_in x.genesis x.keys.own ≡ group_at (setting_in w) f.from =
    ap (λ g. group_in g x.keys.own) at.genesis ∙ (λ j. record { members = sym is.group.members j; faults = sym is.group.faults j; own = at.own j }) in
    let history : events x.history ≡ history_in w f.from =
    sym (ap (λ (o : Option MemberFields). option_map_or (λ (y : MemberFields). events y.history) o []) named) in
    let said : b ≡ is_same_body f.body (slice_get (out (group_at (setting_in w) f.from) (history_in w f.from)) f.number) =
    sent ∙ (λ j. is_same_body f.body (slice_get (out (group j) (history j)) f.number)) in
    ap not said
    ∙ sym (ap (λ c. c && not (is_same_body f.body (slice_get (out (group_at (setting_in w) f.from) (history_in w f.from)) f.number))) other)

-- whether bytes are forged, by what is known of the frame that they are
pub forged_by :
    WhatOpens → (w : WorldFields) (i : ℕ) (bytes : List ℕ) (m : MemberFields) (unsent : Bool) → IsWorld w → member_in w i ≡ Some m
    → ((f : FrameFields) → IsOneFrame bytes f → unsent ≡ is_unsent w f) → (unsent && is_some (opened_in m.keys bytes)) ≡ is_forged_at w (Bring i bytes)
forged_by what w i bytes m unsent is there known = go (opened_in m.keys bytes) refl where
  go : (o : Option FrameFields) → opened_in m.keys bytes ≡ o → (unsent && is_some (opened_in m.keys bytes)) ≡ is_forged_at w (Bring i bytes)
  go None none = ap (λ o. unsent && is_some o) none ∙ and_no unsent ∙ forged_unopened w i bytes m there none
  go (Some f) some = ap (λ o. unsent && is_some o) some ∙ and_yes unsent ∙ known f (what m.keys bytes f some).one ∙ sym (forged_opened w i bytes m f is there some)

-- ---- of answers

pub ok_same : {A E : Type 0} (x y : A) → ◌≡◌ {A = Result A E} (Ok x) (Ok y) → x ≡ y
ok_same x y same = cc

pub err_ok : {A E : Type 0} (e : E) (x : A) → ◌≡◌ {A = Result A E} (Err e) (Ok x) → ⊥
err_ok e x same = cc

-- what an error brings with it
pub on_fault : {A E P : Type 0} (r : Result A E) (e : E) → r ≡ Err e → OnErr r P → P
on_fault (Ok x) e is p = absurd (err_ok e x (sym is))
on_fault (Err d) e is p = p

pub is_some-map : {X Y : Type 0} (f : X → Y) (o : Option X) → is_some (option_map f o) ≡ is_some o
is_some-map f None = refl
is_some-map f (Some x) = refl
