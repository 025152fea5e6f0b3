-- A legal history as actions at its member.
use Rattle.std.proofs.Common.{◌≡◌, ℕ, Bool, true, false, not, cond, eqb, ltb, leb, ◌&&◌, List, [], ◌∷◌, ◌++◌, length, Option, None, Some, option_to_list, refl, sym, ap, ◌∙◌, subst, arith, append-nil, eq-eqb}
use Rattle.std.specs.List.{filter_map}
use Rattle.std.specs.Str.{bytes_eq}
use Rattle.std.proofs.lemmas.Bool.{and_parts, and_from}
use Rattle.std.proofs.lemmas.Bool.Decides.{nat_tests}
use Rattle.std.proofs.lemmas.List.Elements.{filter_map-append}
use Rattle.pay_frame.specs.declared.limits.TheConstants.{GREATEST_VALUE, SEQS}
use Rattle.pay_channel.specs.History.{Event, asks}
use Rattle.pay_channel.specs.Taken.{next}
use Rattle.pay_link.specs.Genesis.{GenesisFields}
use Rattle.pay_link.specs.Keys.{KeyFields, IsKeysOf, is_peer, key_for}
use Rattle.pay_link.specs.Checked.{CheckedFields, IsChecked}
use Rattle.pay_member.specs.declared.event.Event.{Event as MemberEvent}
use Rattle.pay_member.specs.declared.event.Event.TheVariants as entry
use Rattle.pay_member.specs.declared.event.HistoryEntry.{HistoryEntry}
use Rattle.pay_member.specs.declared.fault.MemberFault.{MemberFault}
use Rattle.pay_member.specs.declared.fault.MemberFault.TheVariants.{TooLong, Spent, Repeat, Gap, WrongKey}
use Rattle.pay_member.specs.Events.{channel_event, events}
use Rattle.pay_member.specs.EventLaws.{NoEventsAtFirst, EventsByOneMore}
use Rattle.pay_member.specs.Refusal.{is_for_member, turn_refusal, refusal}
use Rattle.pay_member.specs.Legal.{IsStorable, IsOwed, Legal}
use Rattle.pay_member.specs.Laws.{PrefixIsLegal}
use Rattle.pay_world.specs.Setting.{Setting, setting_by}
use Rattle.pay_world.specs.Actions.{Action, Asks, Brings, member_of, event_of, is_want, may_come, counts, history_by, action_at, actions_in}
use Rattle.pay_world.proofs.Lists.{by_push}
use Rattle.pay_world.proofs.Taking.{adds-counted}
use Rattle.pay_world.proofs.Happening.{no_history_at_first, history_by_one_more}
use Rattle.pay_world.proofs.Answering.{counted, no_want}

some_none : {X : Type 0} (x : X) → Some x ≡ None → ⊥
some_none x same = cc

-- ---- what isn't refused counts

pub ask_counts :
    (g : GenesisFields) (k : KeyFields) (faulty : ℕ → Bool) (before : List Event) (v : List ℕ)
    → refusal g k before (entry.Ask v) ≡ None → counts (setting_by g faulty) before (Asks k.own v) ≡ true
ask_counts g k faulty before v taken =
    counted (length v) (asks before) ∙ go (ltb GREATEST_VALUE (length v)) (leb SEQS (asks before)) taken where
      go : (long spent : Bool) → cond long (Some TooLong) (cond spent (Some Spent) None) ≡ None → (not long && not spent) ≡ true
      go true spent t = absurd (some_none TooLong t)
      go false true t = absurd (some_none Spent t)
      go false false t = refl

-- a frame that isn't refused is for the member, and in turn
pub frame_taken :
    (mine : Bool) (o : Option MemberFault) → cond mine o (Some WrongKey) ≡ None → (mine ≡ true) × (o ≡ None)
frame_taken true o t = (refl, t)
frame_taken false o t = absurd (some_none WrongKey t)

in_turn : (next number : ℕ) → turn_refusal next number ≡ None → eqb number next ≡ true
in_turn next number taken = go (ltb number next) (ltb next number) refl refl taken where
  go : (early late : Bool) → ltb number next ≡ early → ltb next number ≡ late
      → cond early (Some (Repeat next)) (cond late (Some (Gap next)) None) ≡ None → eqb number next ≡ true
  go true late e l t = absurd (some_none (Repeat next) t)
  go false true e l t = absurd (some_none (Gap next) t)
  go false false e l t = let same : number ≡ next = grind (arith, nat_tests) in eq-eqb number next same

pub frame_counts :
    (g : GenesisFields) (k : KeyFields) (faulty : ℕ → Bool) (before : List Event) (c : CheckedFields) → IsKeysOf g k → IsChecked c
    → refusal g k before (entry.Taken c) ≡ None
    → counts (setting_by g faulty) before (Brings k.own c.frame.from c.frame.number c.frame.body) ≡ true
frame_counts g k faulty before c members checked taken =
    let both = frame_taken (is_for_member k c) (turn_refusal (next c.frame.from before) c.frame.number) taken in
    let keyed = and_parts _ (bytes_eq c.key (key_for k c.frame.from)) both.0 in
    let known = and_parts _ (ltb c.frame.body.owner (length k.keys)) keyed.0 in
    let sent = and_parts _ (is_peer k c.frame.from) known.0 in
    let peer = and_parts (ltb c.frame.from (length k.keys)) _ sent.1 in
    let sender : ltb c.frame.from g.members ≡ true = subst (λ n. ltb c.frame.from n ≡ true) members peer.0 in
    let owner : ltb c.frame.body.owner g.members ≡ true = subst (λ n. ltb c.frame.body.owner n ≡ true) members known.1 in
    and_from (may_come (setting_by g faulty) k.own c.frame.from c.frame.body) (eqb c.frame.number (next c.frame.from before))
    (and_from (ltb c.frame.from g.members && not (eqb c.frame.from k.own) && ltb c.frame.body.owner g.members) (not (is_want c.frame.body.kind))
    (and_from (ltb c.frame.from g.members && not (eqb c.frame.from k.own)) (ltb c.frame.body.owner g.members)
    (and_from (ltb c.frame.from g.members) (not (eqb c.frame.from k.own)) sender peer.1)
    owner)
    (ap not (no_want c.frame.body.kind checked.kind)))
    (in_turn (next c.frame.from before) c.frame.number both.1)

-- ---- one entry more

one_or_none : (o : Option Action) → filter_map (λ (x : Option Action). x) (o ∷ []) ≡ option_to_list o
one_or_none None = refl
one_or_none (Some d) = refl

actions_more : (own : ℕ) (history : List HistoryEntry) (x : HistoryEntry) → actions_in own (history ++ x ∷ []) ≡ actions_in own history ++ option_to_list (action_at own x.event)
unfolding actions_in
actions_more own history x =
    filter_map-append (λ (e : HistoryEntry). action_at own e.event) history (x ∷ [])
    ∙ ap (λ (l : List Action). filter_map (λ (e : HistoryEntry). action_at own e.event) history ++ l) (one_or_none (action_at own x.event))

no_actions : (own : ℕ) → actions_in own [] ≡ []
unfolding actions_in
no_actions own = refl

module _ (g : GenesisFields) (k : KeyFields) (faulty : ℕ → Bool) where
  abbrev w : Setting
  w = setting_by g faulty

  -- this history is the one by its actions
  abbrev pub IsByActions : List HistoryEntry → Type 0
  IsByActions history = events history ≡ history_by (setting_by g faulty) (actions_in k.own history) k.own

  -- an action that counts is what the member takes
  pub took :
      (before : List HistoryEntry) (d : Action) → IsByActions before → member_of d ≡ k.own → counts w (events before) d ≡ true
      → events before ++ event_of d ∷ [] ≡ history_by w (actions_in k.own before ++ d ∷ []) k.own
  took before d was here count =
      ap (λ (l : List Event). l ++ event_of d ∷ []) was
      ∙ ap (λ (l : List Event). history_by w (actions_in k.own before) k.own ++ l)
      (sym (adds-counted w k.own (history_by w (actions_in k.own before) k.own) d here (subst (λ (l : List Event). counts w l d ≡ true) was count)))
      ∙ sym (history_by_one_more w (actions_in k.own before) d k.own)

  -- by no action it takes nothing
  pub took_none :
      (before : List HistoryEntry) → IsByActions before
      → events before ++ [] ≡ history_by w (actions_in k.own before ++ []) k.own
  took_none before was =
      append-nil (events before) ∙ was ∙ sym (ap (λ (l : List Action). history_by w l k.own) (append-nil (actions_in k.own before)))

  -- So is every legal history, where each event that isn't refused makes it longer by what that event is as an action.
  pub by_actions :
      NoEventsAtFirst → EventsByOneMore → PrefixIsLegal
      → ((before : List HistoryEntry) (e : MemberEvent) → IsByActions before → IsStorable e → refusal g k (events before) e ≡ None
      → events before ++ option_to_list (channel_event e) ≡ history_by w (actions_in k.own before ++ option_to_list (action_at k.own e)) k.own)
      → (history : List HistoryEntry) → Legal g k history → IsByActions history
  by_actions none one_more shorter each = by_push Made first longer where
    Made : List HistoryEntry → Type 0
    Made history = Legal g k history → IsByActions history

    first : Legal g k [] → IsByActions []
    first legal = none ∙ sym (no_history_at_first w k.own) ∙ sym (ap (λ (l : List Action). history_by w l k.own) (no_actions k.own))

    longer : (before : List HistoryEntry) (x : HistoryEntry) → (Legal g k before → IsByActions before) → Legal g k (before ++ x ∷ []) → IsByActions (before ++ x ∷ [])
    longer before x made legal =
        one_more before x
        ∙ each before x.event (made (shorter g k before (x ∷ []) legal)) owed.kept owed.taken
        ∙ sym (ap (λ (l : List Action). history_by w l k.own) (actions_more k.own before x)) where
          owed : IsOwed g k (events before) x
          owed = legal.each before x [] refl
