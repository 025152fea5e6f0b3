-- A world after one event more.
use Rattle.std.proofs.Common.{MatchOption, Ok, Err, ◌≡◌, ◌≢◌, ◌⊎◌, inl, inr, ℕ, ◌+◌, ◌<◌, true, false, List, [], ◌∷◌, ◌++◌, length, Option, None, Some, option_map, refl, sym, ap, ◌∙◌, subst, arith, length-append}
use Rattle.std.specs.Option.{option_map_or}
use Rattle.std.proofs.lemmas.Bool.{cases_eq}
use Rattle.pay_channel.specs.History.{Event}
use Rattle.pay_frame.specs.Frame.{FrameFields}
use Rattle.pay_link.specs.Genesis.{GenesisFields}
use Rattle.pay_link.specs.Keys.{KeyFields}
use Rattle.pay_member.specs.declared.bringing.Outcome.{Outcome}
use Rattle.pay_member.specs.declared.bringing.Outcome.TheVariants.{Took, Wanted, Frame, Link, WrongKey}
use Rattle.pay_member.specs.Bringing.{with_brought}
use Rattle.pay_member.specs.Events.{events}
use Rattle.pay_member.specs.Member.{MemberFields}
use Rattle.pay_world.specs.declared.event.WorldEvent.{WorldEvent}
use Rattle.pay_world.specs.declared.event.WorldEvent.TheVariants.{Ask, Bring}
use Rattle.pay_world.specs.declared.event.WorldFault.TheVariants.{Forged}
use Rattle.pay_world.specs.declared.event.WorldReply.{WorldReply}
use Rattle.pay_world.specs.declared.event.WorldReply.TheVariants.{Asked, Refused, Brought, Ignored}
use Rattle.pay_world.specs.Genuine.{is_forged_in}
use Rattle.pay_world.specs.Liars.{LiarFields, setting_of}
use Rattle.pay_world.specs.World.{WorldFields, member_in, history_in, keys_in}
use Rattle.pay_world.specs.Answer.{AnswersEvent, IsReply, IsReplyOf, action_of, is_forged_at, member_after, one_more, receiver}
use Rattle.pay_world.specs.RunLaws.{AnsweredIsUnforged, IsSaidTo, SaidIsForged, WorldByOneMore}
use Rattle.pay_world.specs.GroupKeys.{group_test_keys}
use Rattle.pay_sim.specs.declared.group.ScriptGroup.{ScriptGroup}
use Rattle.pay_sim.specs.declared.game.TheConstants.{MOST_EVENTS}
use Rattle.pay_sim.specs.Made.{IsReplyAfter, IsReplyTo, Makes, history_at, is_forged_by, keys_at}
use Rattle.pay_sim.specs.Playing.{GameFields, IsAfter}

-- ---- an event changes no member's genesis

brought_keeps : (m : MemberFields) (outcome : Outcome) (o : Option FrameFields) → (with_brought m 0 outcome o).genesis ≡ m.genesis
brought_keeps m outcome None = refl
brought_keeps m (Took t) (Some f) = refl
brought_keeps m (Wanted from number) (Some f) = refl
brought_keeps m (Frame fault) (Some f) = refl
brought_keeps m (Link fault) (Some f) = refl
brought_keeps m WrongKey (Some f) = refl

genesis_kept : (e : WorldEvent) (reply : WorldReply) (m : MemberFields) → (member_after e reply m).genesis ≡ m.genesis
genesis_kept (Ask i v) (Asked number) m = refl
genesis_kept (Ask i v) (Refused fault) m = refl
genesis_kept (Ask i v) (Brought outcome) m = refl
genesis_kept (Ask i v) Ignored m = refl
genesis_kept (Bring i bytes) (Asked number) m = refl
genesis_kept (Bring i bytes) (Refused fault) m = refl
genesis_kept (Bring i bytes) (Brought outcome) m = brought_keeps m outcome _
genesis_kept (Bring i bytes) Ignored m = refl

-- ---- the reply

as_behind : (m : MemberFields) (e : WorldEvent) (reply : WorldReply) → IsReplyOf m e reply → IsReplyAfter m.genesis m.keys (events m.history) e reply
as_behind m (Ask i v) reply said = said
as_behind m (Bring i bytes) (Asked number) said = said
as_behind m (Bring i bytes) (Refused fault) said = said
as_behind m (Bring i bytes) (Brought outcome) said = said
as_behind m (Bring i bytes) Ignored said = said

module _ (c : ScriptGroup) (es : List WorldEvent) (g : GameFields) (b : IsAfter c es g) where
  reply_is : (e : WorldEvent) (reply : WorldReply) → IsReply g.world e reply → IsReplyTo c es e reply
  reply_is e reply said = go (member_in g.world (receiver e)) refl said where
    To : Option KeyFields → Type 0
    To o = MatchOption o (reply ≡ Ignored) (λ k. IsReplyAfter c.genesis k (history_at c es (receiver e)) e reply)

    go : (o : Option MemberFields) → member_in g.world (receiver e) ≡ o → MatchOption o (reply ≡ Ignored) (λ m. IsReplyOf m e reply) → To (keys_at c (receiver e))
    go None is said = subst To (sym (ap (option_map (λ (m : MemberFields). m.keys)) is) ∙ b.after.known (receiver e)) said
    go (Some m) is said =
        subst To (sym (ap (option_map (λ (x : MemberFields). x.keys)) is) ∙ b.after.known (receiver e))
        (subst (λ (h : List Event). IsReplyAfter c.genesis m.keys h e reply)
        (sym (ap (λ (o : Option MemberFields). option_map_or (λ (x : MemberFields). events x.history) o []) is) ∙ b.after.histories (receiver e))
        (subst (λ (x : GenesisFields). IsReplyAfter x m.keys (events m.history) e reply) (b.each (receiver e) m is) (as_behind m e reply said)))

  forged_is : (e : WorldEvent) → is_forged_at g.world e ≡ is_forged_by c es e
  unfolding is_forged_by
  forged_is e =
      ap (λ (l : LiarFields). option_map_or (is_forged_in (setting_of l) (history_in g.world)) (action_of (keys_in g.world) e) false) b.after.liars
      ∙ ap (λ (h : ℕ → List Event). option_map_or (is_forged_in (setting_of c.liars) h) (action_of (keys_in g.world) e) false) (λ t i. b.after.histories i t)
      ∙ ap (λ (k : ℕ → Option KeyFields). option_map_or (is_forged_in (setting_of c.liars) (history_at c es)) (action_of k e) false) (λ t i. b.after.known i t)

  -- ---- an event that is made

  each_kept : (new : WorldFields) (e : WorldEvent) (reply : WorldReply) → AnswersEvent g.world new e reply → (i : ℕ) (m : MemberFields) → member_in new i ≡ Some m → m.genesis ≡ c.genesis
  each_kept new e reply answers i m is = go (cases_eq i (receiver e)) where
    some_is : (x y : MemberFields) → Some x ≡ Some y → x ≡ y
    some_is x y same = cc

    none_is : (x : MemberFields) → None ≡ Some x → ⊥
    none_is x same = cc

    here : (o : Option MemberFields) → member_in g.world (receiver e) ≡ o → option_map (member_after e reply) o ≡ Some m → m.genesis ≡ c.genesis
    here None at same = absurd (none_is m same)
    here (Some old) at same =
        sym (ap (λ (x : MemberFields). x.genesis) (some_is (member_after e reply old) m same)) ∙ genesis_kept e reply old ∙ b.each (receiver e) old at

    go : ((i ≡ receiver e) ⊎ (i ≢ receiver e)) → m.genesis ≡ c.genesis
    go (inl same) = here (member_in g.world (receiver e)) refl (sym answers.here ∙ ap (member_in new) (sym same) ∙ is)
    go (inr other) = b.each i m (sym (answers.others i other) ∙ is)

  pub makes_one :
      WorldByOneMore → AnsweredIsUnforged → (new : GameFields) (e : WorldEvent) (reply : WorldReply) → length es < MOST_EVENTS
      → IsSaidTo g.world e (Ok reply)
      → AnswersEvent g.world new.world e reply → new.world.answered ≡ one_more g.world.answered → new.members ≡ g.members → new.made ≡ g.made + 1
      → Makes c es e (Ok reply) × IsAfter c (es ++ e ∷ []) new
  makes_one by_one answered new e reply room refused answers counted members made =
      let unforged = answered g.world e reply refused in (
        (room, sym (forged_is e) ∙ unforged, reply_is e reply answers.said),
        record {
          after = by_one c.genesis (group_test_keys c.genesis.members) c.liars es g.world new.world e reply b.after answers unforged counted;
          each = each_kept new.world e reply answers;
          members = members ∙ b.members;
          few = b.few;
          made = (let long = length-append es (e ∷ []) in let was = b.made in omega arith);
        },
      )

  pub stops_forged :
      SaidIsForged → (e : WorldEvent) (k : ℕ) → length es < MOST_EVENTS → IsSaidTo g.world e (Err (Forged k))
      → (length es < MOST_EVENTS) × (is_forged_by c es e ≡ true) × (k ≡ length es)
  stops_forged forged e k room refused =
      let told = forged g.world e k refused in
      (room, sym (forged_is e) ∙ told.0, (let n = told.1 in let count = b.after.count in omega arith))
