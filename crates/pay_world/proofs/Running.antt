-- A world after one event more.
use Rattle.std.proofs.Common.{MatchOption, IsOkUnless, Result, Ok, Err, ◌≡◌, ◌≢◌, ◌⊎◌, inl, inr, ℕ, Bool, true, false, cond, List, [], ◌∷◌, ◌++◌, length, take, slice_get, Option, None, Some, option_map, refl, sym, ap, ◌∙◌, subst, arith, length-append, append-nil}
use Rattle.std.specs.Option.{option_map_or}
use Rattle.std.specs.List.{filter_map}
use Rattle.std.proofs.lemmas.Bool.{cases_eq}
use Rattle.std.proofs.lemmas.List.{take_at}
use Rattle.std.proofs.lemmas.List.Elements.{filter_map-append}
use Rattle.pay_channel.specs.History.{Event}
use Rattle.pay_link.specs.Genesis.{GenesisFields}
use Rattle.pay_link.specs.Keys.{KeyFields}
use Rattle.pay_member.specs.Member.{MemberFields}
use Rattle.pay_world.specs.declared.event.WorldEvent.{WorldEvent}
use Rattle.pay_world.specs.declared.event.WorldEvent.TheVariants.{Ask, Bring}
use Rattle.pay_world.specs.declared.event.WorldFault.{WorldFault}
use Rattle.pay_world.specs.declared.event.WorldFault.TheVariants.{Memory, Forged}
use Rattle.pay_world.specs.declared.event.WorldReply.{WorldReply}
use Rattle.pay_world.specs.declared.event.WorldReply.TheVariants.{Asked, Refused, Brought, Ignored}
use Rattle.pay_world.specs.Setting.{Setting}
use Rattle.pay_world.specs.Actions.{Action, adds, history_by}
use Rattle.pay_world.specs.Genuine.{IsGenuine, AreGenuine, is_forged_in}
use Rattle.pay_world.specs.ActionLaws.{NoHistoryAtFirst, HistoryByOneMore, NoActionIsGenuine, GenuineByOneMore, ForgedIsTold}
use Rattle.pay_world.specs.Liars.{LiarFields, is_listed, setting_of}
use Rattle.pay_world.specs.World.{WorldFields, setting_in, member_in, history_in, keys_in, AreKeysOf, fresh_world}
use Rattle.pay_world.specs.Answer.{receiver, action_of, is_forged_at, forgery, added_in, member_after, AnswersEvent, one_more}
use Rattle.pay_world.specs.Run.{correct_keys, actions_by, history_of, IsFirstForged, IsWorldAfter}
use Rattle.pay_world.proofs.WorldLemmas.{placed, fresh_empty}
use Rattle.pay_world.proofs.Answering.{ask_keeps_keys, bring_keeps}

-- ---- an event keeps everyone's keys

reply_keeps : (e : WorldEvent) (reply : WorldReply) (m : MemberFields) → (member_after e reply m).keys ≡ m.keys
reply_keeps (Ask i v) reply m = ask_keeps_keys m v reply
reply_keeps (Bring i bytes) (Asked number) m = refl
reply_keeps (Bring i bytes) (Refused fault) m = refl
reply_keeps (Bring i bytes) (Brought outcome) m = (bring_keeps m outcome _).1
reply_keeps (Bring i bytes) Ignored m = refl

keys_after : (e : WorldEvent) (reply : WorldReply) (o : Option MemberFields) → option_map (λ (m : MemberFields). m.keys) (option_map (member_after e reply) o) ≡ option_map (λ (m : MemberFields). m.keys) o
keys_after e reply None = refl
keys_after e reply (Some m) = ap Some (reply_keeps e reply m)

keys_kept : (old new : WorldFields) (e : WorldEvent) (reply : WorldReply) → AnswersEvent old new e reply → (i : ℕ) → keys_in new i ≡ keys_in old i
keys_kept old new e reply answers i = go (cases_eq i (receiver e)) where
  go : ((i ≡ receiver e) ⊎ (i ≢ receiver e)) → keys_in new i ≡ keys_in old i
  go (inl same) =
      let At : ℕ → Type 0 = λ k. keys_in new k ≡ keys_in old k in
      subst At (sym same)
      (ap (option_map (λ (m : MemberFields). m.keys)) answers.here ∙ keys_after e reply (member_in old (receiver e)))
  go (inr differs) = ap (option_map (λ (m : MemberFields). m.keys)) (answers.others i differs)

-- ---- no event yet

fresh_key : (b c : Bool) (g : GenesisFields) (k : KeyFields) → b ≡ c
    → option_map (λ (m : MemberFields). m.keys) (cond b None (Some (record { genesis = g; keys = k; history = [] }))) ≡ cond c None (Some k)
fresh_key true c g k is = sym (ap (λ x. cond x None (Some k)) (sym is))
fresh_key false c g k is = sym (ap (λ x. cond x None (Some k)) (sym is))

no_key : (b : Bool) → ◌≡◌ {A = Option KeyFields} None (cond b None None)
no_key true = refl
no_key false = refl

pub after_nothing :
    NoHistoryAtFirst → NoActionIsGenuine → (g : GenesisFields) (keys : List KeyFields) (l : LiarFields) → AreKeysOf g keys
    → IsWorldAfter g keys l [] (fresh_world g keys l)
after_nothing none genuine g keys l given = record {
  genesis = refl;
  liars = refl;
  known = λ i. key i (slice_get keys i) refl;
  histories = λ i. fresh_empty g keys l i ∙ sym (none (setting_of l) i);
  genuine = genuine (setting_of l);
  count = refl;
} where
  key : (i : ℕ) (o : Option KeyFields) → slice_get keys i ≡ o → keys_in (fresh_world g keys l) i ≡ correct_keys keys l i
  key i None is =
      ap (option_map (λ (m : MemberFields). m.keys)) (placed g keys l i None is)
      ∙ no_key (is_listed l.liars i)
      ∙ sym (ap (λ o. cond (is_listed l.liars i) None o) is)
  key i (Some k) is =
      ap (option_map (λ (m : MemberFields). m.keys)) (placed g keys l i (Some k) is)
      ∙ fresh_key (is_listed l.liars k.own) (is_listed l.liars i) g k (ap (is_listed l.liars) (given.own i k is))
      ∙ sym (ap (λ o. cond (is_listed l.liars i) None o) is)

-- ---- what is refused is forged

ok_err : {A E : Type 0} (x : A) (e : E) → ◌≡◌ {A = Result A E} (Ok x) (Err e) → ⊥
ok_err x e same = cc

err_is : {A E : Type 0} (d e : E) → ◌≡◌ {A = Result A E} (Err d) (Err e) → d ≡ e
err_is d e same = cc

forged_no_memory : (k : ℕ) → Forged k ≡ Memory → ⊥
forged_no_memory k same = cc

forged_same : (k n : ℕ) → Forged k ≡ Forged n → k ≡ n
forged_same k n same = cc

-- an event that is answered isn't forged
pub answered_unforged :
    (w : WorldFields) (e : WorldEvent) (reply : WorldReply)
    → MatchOption (forgery w e) (IsOkUnless {T = WorldReply} (Ok reply) Memory) (λ fault. ◌≡◌ {A = Result WorldReply WorldFault} (Ok reply) (Err fault))
    → is_forged_at w e ≡ false
answered_unforged w e reply refused = go (is_forged_at w e) refused where
  go : (b : Bool) → MatchOption (cond b (Some (Forged w.answered)) None) (IsOkUnless {T = WorldReply} (Ok reply) Memory) (λ fault. ◌≡◌ {A = Result WorldReply WorldFault} (Ok reply) (Err fault)) → b ≡ false
  go true is = absurd (ok_err reply (Forged w.answered) is)
  go false is = refl

-- and one that is refused as forged is, under the count
pub refused_forged :
    (w : WorldFields) (e : WorldEvent) (k : ℕ)
    → MatchOption (forgery w e) (IsOkUnless {T = WorldReply} (Err (Forged k)) Memory) (λ fault. ◌≡◌ {A = Result WorldReply WorldFault} (Err (Forged k)) (Err fault))
    → (is_forged_at w e ≡ true) × (k ≡ w.answered)
refused_forged w e k refused = go (is_forged_at w e) refused where
  go : (b : Bool) → MatchOption (cond b (Some (Forged w.answered)) None) (IsOkUnless {T = WorldReply} (Err (Forged k)) Memory) (λ fault. ◌≡◌ {A = Result WorldReply WorldFault} (Err (Forged k)) (Err fault)) → (b ≡ true) × (k ≡ w.answered)
  go true is = (refl, forged_same k w.answered (err_is {A = WorldReply} (Forged k) (Forged w.answered) is))
  go false is = absurd (forged_no_memory k is)

-- ---- one event more

true_false : true ≡ false → ⊥
true_false same = cc

at_place : (events : List WorldEvent) (e : WorldEvent) (rest : List WorldEvent) → slice_get (events ++ e ∷ rest) (length events) ≡ Some e
at_place [] e rest = refl
at_place (x ∷ events) e rest = at_place events e rest

module _ (g : GenesisFields) (keys : List KeyFields) (l : LiarFields) (events : List WorldEvent) (old : WorldFields) (is : IsWorldAfter g keys l events old) where
  group : setting_in old ≡ setting_of l
  group = ap setting_of is.liars

  histories : history_in old ≡ history_by (setting_of l) (actions_by keys l events)
  histories = λ t i. is.histories i t

  known : keys_in old ≡ correct_keys keys l
  known = λ t i. is.known i t

  -- what the event is to the world it is by the keys
  action_is : (e : WorldEvent) → action_of (keys_in old) e ≡ action_of (correct_keys keys l) e
  action_is e = ap (λ (k : ℕ → Option KeyFields). action_of k e) known

  -- and forged after the events
  forged_is : (e : WorldEvent) (o : Option Action) → action_of (correct_keys keys l) e ≡ o
      → is_forged_at old e ≡ option_map_or (is_forged_in (setting_of l) (history_by (setting_of l) (actions_by keys l events))) o false
  forged_is e o at =
      ap (λ (x : Option Action). option_map_or (is_forged_in (setting_in old) (history_in old)) x false) (action_is e ∙ at)
      ∙ ap (λ (s : Setting). option_map_or (is_forged_in s (history_in old)) o false) group
      ∙ ap (λ (h : ℕ → List Event). option_map_or (is_forged_in (setting_of l) h) o false) histories

  actions_more : (e : WorldEvent) (o : Option Action) → action_of (correct_keys keys l) e ≡ o → actions_by keys l (events ++ e ∷ []) ≡ actions_by keys l events ++ filter_map (λ (x : Option Action). x) (o ∷ [])
  actions_more e o at =
      filter_map-append (action_of (correct_keys keys l)) events (e ∷ [])
      ∙ ap (λ (more : List Action). actions_by keys l events ++ more) (last (action_of (correct_keys keys l) e) refl ∙ ap (λ (x : Option Action). filter_map (λ (y : Option Action). y) (x ∷ [])) at) where
        last : (x : Option Action) → action_of (correct_keys keys l) e ≡ x → filter_map (action_of (correct_keys keys l)) (e ∷ []) ≡ filter_map (λ (y : Option Action). y) (action_of (correct_keys keys l) e ∷ [])
        last x same = refl

  pub after_one_more :
      HistoryByOneMore → GenuineByOneMore → ForgedIsTold → (new : WorldFields) (e : WorldEvent) (reply : WorldReply)
      → AnswersEvent old new e reply → is_forged_at old e ≡ false → new.answered ≡ one_more old.answered → IsWorldAfter g keys l (events ++ e ∷ []) new
  after_one_more more genuine_more told new e reply answers unforged counted = record {
    genesis = answers.genesis ∙ is.genesis;
    liars = answers.liars ∙ is.liars;
    known = λ i. keys_kept old new e reply answers i ∙ is.known i;
    histories = λ i. longer i (action_of (correct_keys keys l) e) refl;
    genuine = genuine (action_of (correct_keys keys l) e) refl;
    count = (let n = is.count in let long = length-append events (e ∷ []) in counted ∙ omega arith);
  } where
    added : (i : ℕ) (o : Option Action) → action_of (correct_keys keys l) e ≡ o
        → added_in old e i ≡ option_map_or (adds (setting_of l) i (history_of keys l events i)) o []
    added i o at =
        ap (λ (x : Option Action). option_map_or (adds (setting_in old) i (history_in old i)) x []) (action_is e ∙ at)
        ∙ ap (λ (s : Setting). option_map_or (adds s i (history_in old i)) o []) group
        ∙ ap (λ (h : List Event). option_map_or (adds (setting_of l) i h) o []) (is.histories i)

    longer : (i : ℕ) (o : Option Action) → action_of (correct_keys keys l) e ≡ o → history_in new i ≡ history_of keys l (events ++ e ∷ []) i
    longer i None at =
        answers.histories i
        ∙ ap (λ (h : List Event). history_in old i ++ h) (added i None at)
        ∙ append-nil (history_in old i) ∙ is.histories i
        ∙ sym (ap (λ (d : List Action). history_by (setting_of l) d i) (actions_more e None at ∙ append-nil (actions_by keys l events)))
    longer i (Some d) at =
        answers.histories i
        ∙ ap (λ (h : List Event). history_in old i ++ h) (added i (Some d) at)
        ∙ ap (λ (h : List Event). h ++ adds (setting_of l) i (history_of keys l events i) d) (is.histories i)
        ∙ sym (more (setting_of l) (actions_by keys l events) d i)
        ∙ sym (ap (λ (x : List Action). history_by (setting_of l) x i) (actions_more e (Some d) at))

    genuine : (o : Option Action) → action_of (correct_keys keys l) e ≡ o → AreGenuine (setting_of l) (actions_by keys l (events ++ e ∷ []))
    genuine None at = subst (AreGenuine (setting_of l)) (sym (actions_more e None at ∙ append-nil (actions_by keys l events))) is.genuine
    genuine (Some d) at =
        subst (AreGenuine (setting_of l)) (sym (actions_more e (Some d) at))
        (genuine_more (setting_of l) (actions_by keys l events) d is.genuine
        ((told (setting_of l) (history_by (setting_of l) (actions_by keys l events)) d).0 (sym (forged_is e (Some d) at) ∙ unforged)))

  -- the event is the first that is forged, whatever comes after it
  pub forged_after :
      ForgedIsTold → (e : WorldEvent) (rest : List WorldEvent) → is_forged_at old e ≡ true → IsFirstForged keys l (events ++ e ∷ rest) (length events)
  forged_after told e rest forged = at (action_of (correct_keys keys l) e) refl where
    world_genuine : AreGenuine (setting_of l) (actions_by keys l events)
    world_genuine = is.genuine

    front : take (length events) (events ++ e ∷ rest) ≡ events
    front = take_at events (e ∷ rest) (length events) refl

    at : (o : Option Action) → action_of (correct_keys keys l) e ≡ o → IsFirstForged keys l (events ++ e ∷ rest) (length events)
    at None is = absurd (true_false (sym forged ∙ forged_is e None is))
    at (Some d) is = record {
      before = subst (λ x. AreGenuine (setting_of l) (actions_by keys l x)) (sym front) world_genuine;
      event = e;
      place = at_place events e rest;
      action = d;
      is = is;
      forged = λ genuine.
          true_false (sym forged ∙ forged_is e (Some d) is
          ∙ (told (setting_of l) (history_by (setting_of l) (actions_by keys l events)) d).1
          (subst (λ x. IsGenuine (setting_of l) (actions_by keys l x) d) front genuine));
    }
