-- What members take and send is within the limits of frames, whatever is brought to them.
use Rattle.std.proofs.Common.{◌≡◌, ◌≢◌, ◌⊎◌, inl, inr, ℕ, zero, suc, ◌+◌, ◌<◌, ◌≤◌, ◌^◌, nat_lt, nat_le, Bool, true, false, cond, not, ◌&&◌, ◌==◌, List, [], ◌∷◌, ◌++◌, length, slice_get, Option, Some, None, option_map, option_and_then, refl, sym, ap, ◌∙◌, subst, arith, rules, tests, append-nil, length-append}
use Rattle.std.specs.List.{AllByRecursion, filter_map, cons_option, count_by}
use Rattle.std.specs.Option.{option_or, option_to_list}
use Rattle.std.proofs.lemmas.Bool.{and_parts}
use Rattle.std.proofs.lemmas.List.Sums.{sum_by-cons}
use Rattle.pay_frame.specs.declared.body.Kind.{Kind}
use Rattle.pay_frame.specs.declared.body.Kind.TheVariants.{Send, Echo, Ready, Want}
use Rattle.pay_frame.specs.declared.limits.TheConstants.{GREATEST_VALUE, SEQS}
use Rattle.pay_frame.specs.Frame.{BodyFields, FrameFields, IsBody}
use Rattle.pay_echo.specs.Broadcast.{Group, Vote, echoed, may_ready, readied, value_if_send, value_of}
use Rattle.pay_echo.specs.Laws.{EchoedByOneMore, ReadiedByOneMore, SentIsItsValue, value_if}
use Rattle.pay_channel.specs.History.{Event, Ask, From, asks, is_about, is_ask, newly, out, out_after, owner_of, says, send_of, seq_of, vote_by, vote_of, votes, votes_in, counts_from as is_counted}
use Rattle.pay_channel.specs.VoteLaws.{AsksByOneMore, NoAsksAtFirst, VotesByOneMore}
use Rattle.pay_channel.specs.Taken.{body_from, next, taken_bodies}
use Rattle.pay_link.specs.Keys.{KeyFields}
use Rattle.pay_member.specs.Bringing.{opened_in}
use Rattle.pay_member.specs.OpeningLaws.{WhatOpens}
use Rattle.pay_world.specs.declared.event.WorldEvent.{WorldEvent}
use Rattle.pay_world.specs.declared.event.WorldEvent.TheVariants as event
use Rattle.pay_world.specs.Answer.{brought_to, action_of, action_with, actions_of, receiver}
use Rattle.pay_world.specs.Actions.{Action, Asks, Brings, adds, counts, event_of, history_after, history_by, is_want, may_come, member_of}
use Rattle.pay_world.specs.Setting.{Setting}

-- the laws of votes and asks that this stands on
pub record Votes : Type 0 where
  pub echoed : EchoedByOneMore
  pub readied : ReadiedByOneMore
  pub sent : SentIsItsValue
  pub votes : VotesByOneMore
  pub no_asks : NoAsksAtFirst
  pub asks : AsksByOneMore

-- what a member of a group of so many takes
abbrev pub IsFit : ℕ → Event → Type 0
IsFit members (Ask v) = length v ≤ GREATEST_VALUE
IsFit members (From p body) = IsBody body × (body.owner < members)

-- what a member of it sends: within the limits, about a member, and no WANT
pub record IsSent (members : ℕ) (body : BodyFields) : Type 0 where
  pub fits : IsBody body
  pub owner : body.owner < members
  pub kind : body.kind ≢ Want

-- ---- lists

each_append : {X : Type 0} (P : X → Type 0) (xs ys : List X) → AllByRecursion P xs → AllByRecursion P ys → AllByRecursion P (xs ++ ys)
each_append P [] ys h k = k
each_append P (x ∷ xs) ys h k = (h.0, each_append P xs ys h.1 k)

pub each_at : {X : Type 0} (P : X → Type 0) (xs : List X) (k : ℕ) (x : X) → AllByRecursion P xs → slice_get xs k ≡ Some x → P x
each_at P [] k x h at = absurd cc
each_at P (y ∷ xs) zero x h at = let same : y ≡ x = cc in subst P same h.0
each_at P (y ∷ xs) (suc k) x h at = each_at P xs k x h.1 at

pub fewer : {X Y : Type 0} (h : X → Option Y) (xs : List X) → length (filter_map h xs) ≤ length xs
fewer h [] = omega arith
fewer {X} {Y} h (x ∷ xs) = go (h x) (fewer h xs) where
  go : (o : Option Y) → length (filter_map h xs) ≤ length xs → length (cons_option o (filter_map h xs)) ≤ length (x ∷ xs)
  go None less = omega arith
  go (Some y) less = omega arith

-- ---- the values of votes

abbrev IsShort : Option (List ℕ) → Type 0
IsShort None = Unit {0}
IsShort (Some v) = length v ≤ GREATEST_VALUE

abbrev HasShort : Option Vote → Type 0
HasShort None = Unit {0}
HasShort (Some x) = length (value_of x) ≤ GREATEST_VALUE

-- at most one vote, with such a value
abbrev AreShort : List Vote → Type 0
AreShort [] = Unit {0}
AreShort (x ∷ xs) = (length (value_of x) ≤ GREATEST_VALUE) × (xs ≡ [])

vote_short : (members : ℕ) (e : Event) → IsFit members e → HasShort (vote_of e)
unfolding value_of
vote_short members (Ask v) fit = fit
vote_short members (From p body) fit = go (is_counted p body) body.kind where
  go : (b : Bool) (kind : Kind) → HasShort (cond b (vote_by kind p body.value) None)
  go false kind = tt
  go true Send = fit.0.value
  go true Echo = fit.0.value
  go true Ready = fit.0.value
  go true Want = tt

votes_short : (members own a s k : ℕ) (e : Event) → IsFit members e → AreShort (votes_in own a s k e)
unfolding votes_in
votes_short members own a s k e fit = go (is_about own a s k e) (vote_of e) (vote_short members e fit) where
  go : (b : Bool) (o : Option Vote) → HasShort o → AreShort (cond b (option_to_list o) [])
  go false o h = tt
  go true None h = tt
  go true (Some x) h = (h, refl)

echo_short : Votes → (before more : List Vote) → AreShort more → echoed before ≡ None → IsShort (echoed (before ++ more))
echo_short by before [] short none = subst IsShort (sym (ap echoed (append-nil before) ∙ none)) tt
echo_short by before (x ∷ xs) (short, nil) none =
    subst IsShort (sym (ap (λ l. echoed (before ++ x ∷ l)) nil ∙ by.echoed before x ∙ ap (λ o. option_or o (value_if_send x)) none)) (go (by.sent x)) where
      go : ((value_if_send x ≡ None) ⊎ (value_if_send x ≡ Some (value_of x))) → IsShort (value_if_send x)
      go (inl is) = subst IsShort (sym is) tt
      go (inr is) = subst IsShort (sym is) short

ready_short : Votes → (g : Group) (before more : List Vote) → AreShort more → readied g before ≡ None → IsShort (readied g (before ++ more))
ready_short by g before [] short none = subst IsShort (sym (ap (readied g) (append-nil before) ∙ none)) tt
ready_short by g before (x ∷ xs) (short, nil) none =
    let may = may_ready g (before ++ x ∷ []) (value_of x) in
    subst IsShort (sym (ap (λ l. readied g (before ++ x ∷ l)) nil ∙ by.readied g before x ∙ ap (λ o. option_or o (value_if may x)) none)) (go may) where
      go : (b : Bool) → IsShort (cond b (Some (value_of x)) None)
      go true = short
      go false = tt

-- ---- what is sent

newly_sent : (members : ℕ) (kind : Kind) (a s : ℕ) (before after : Option (List ℕ)) → a < members → members ≤ 2 ^ 16 → s < SEQS → kind ≢ Want
    → (before ≡ None → IsShort after) → AllByRecursion (IsSent members) (newly kind a s before after)
newly_sent members kind a s None None owner few seq other short = tt
newly_sent members kind a s (Some w) after owner few seq other short = tt
newly_sent members kind a s None (Some v) owner few seq other short = (
  record {
    fits = record { owner = (omega arith); seq = seq; value = short refl; want = λ is. absurd (other is) };
    owner = owner;
    kind = other;
  },
  tt,
)

send_sent : (g : Group) (k : ℕ) (e : Event) → g.own < g.members → g.members ≤ 2 ^ 16 → IsFit g.members e → (is_ask e ≡ true → k < SEQS) → AllByRecursion (IsSent g.members) (send_of g.own k e)
send_sent g k (From p body) own few fit room = tt
send_sent g k (Ask v) own few fit room = (
  record {
    fits = record { owner = (omega arith); seq = room refl; value = fit; want = λ is. absurd cc };
    owner = own;
    kind = λ is. cc;
  },
  tt,
)

owner_in : (g : Group) (e : Event) → g.own < g.members → IsFit g.members e → owner_of g.own e < g.members
owner_in g (Ask v) own fit = own
owner_in g (From p body) own fit = fit.1

seq_in : (g : Group) (k : ℕ) (e : Event) → IsFit g.members e → (is_ask e ≡ true → k < SEQS) → seq_of k e < SEQS
seq_in g k (Ask v) fit room = room refl
seq_in g k (From p body) fit room = fit.0.seq

says_sent : Votes → (g : Group) (before : List Event) (e : Event) → g.own < g.members → g.members ≤ 2 ^ 16 → IsFit g.members e → (is_ask e ≡ true → asks before < SEQS)
    → AllByRecursion (IsSent g.members) (says g before e)
unfolding says
says_sent by g before e own few fit room =
    let a = owner_of g.own e in
    let s = seq_of (asks before) e in
    let owner = owner_in g e own fit in
    let seq = seq_in g (asks before) e fit room in
    let short = votes_short g.members g.own a s (asks before) e fit in
    let grown = by.votes g.own a s before e in
    let old = votes g.own a s before in
    each_append (IsSent g.members) _ _
    (each_append (IsSent g.members) _ _ (send_sent g (asks before) e own few fit room)
    (newly_sent g.members Echo a s _ _ owner few seq (λ is. cc) (λ none. subst (λ l. IsShort (echoed l)) (sym grown) (echo_short by old _ short none))))
    (newly_sent g.members Ready a s _ _ owner few seq (λ is. cc) (λ none. subst (λ l. IsShort (readied g l)) (sym grown) (ready_short by g old _ short none)))

out_sent_from : Votes → (g : Group) (before history : List Event) → g.own < g.members → g.members ≤ 2 ^ 16 → AllByRecursion (IsFit g.members) history
    → asks before + count_by is_ask history ≤ SEQS → AllByRecursion (IsSent g.members) (out_after g before history)
out_sent_from by g before [] own few fit room = tt
out_sent_from by g before (e ∷ history) own few fit room =
    each_append (IsSent g.members) _ _ (says_sent by g before e own few fit.0 (here e room))
    (out_sent_from by g (before ++ e ∷ []) history own few fit.1 (there e room (by.asks before e))) where
      counted : (e : Event) → count_by is_ask (e ∷ history) ≡ cond (is_ask e) 1 0 + count_by is_ask history
      counted e = sum_by-cons (λ x. cond (is_ask x) 1 0) e history

      here : (e : Event) → asks before + count_by is_ask (e ∷ history) ≤ SEQS → is_ask e ≡ true → asks before < SEQS
      here (Ask v) room ask = let one = counted (Ask v) in omega arith
      here (From p body) room ask = absurd cc

      there : (e : Event) → asks before + count_by is_ask (e ∷ history) ≤ SEQS → asks (before ++ e ∷ []) ≡ cond (is_ask e) (asks before + 1) (asks before)
          → asks (before ++ e ∷ []) + count_by is_ask history ≤ SEQS
      there (Ask v) room more = let one = counted (Ask v) in omega arith
      there (From p body) room more = let none = counted (From p body) in omega arith

-- a history within the limits
pub record Fits (members : ℕ) (history : List Event) : Type 0 where
  pub each : AllByRecursion (IsFit members) history
  pub few : asks history ≤ SEQS

pub out_sent : Votes → (g : Group) (history : List Event) → g.own < g.members → g.members ≤ 2 ^ 16 → Fits g.members history → AllByRecursion (IsSent g.members) (out g history)
unfolding out asks
out_sent by g history own few fits = out_sent_from by g [] history own few fits.each (let none = by.no_asks in let many = fits.few in omega arith)

-- ---- what is taken

abbrev ActionFits : Action → Type 0
ActionFits (Asks k v) = Unit {0}
ActionFits (Brings k from number body) = IsBody body

is_less : (x y : ℕ) → nat_lt x y ≡ true → x < y
is_less x y p = search (rules, tests)

third_of : (a b d e : Bool) → (a && b && d && e) ≡ true → d ≡ true
third_of true true true e is = refl
third_of true true false e is = cc
third_of true false d e is = absurd cc
third_of false b d e is = absurd cc

is_at_most : (x y : ℕ) → nat_le x y ≡ true → x ≤ y
is_at_most x y p = search (rules, tests)

module _ (by : Votes) (w : Setting) (i : ℕ) where
  taken_fits : (history : List Event) (d : Action) → ActionFits d → counts w history d ≡ true → Fits w.members history → Fits w.members (history ++ event_of d ∷ [])
  taken_fits history (Asks k v) action is fits =
      let parts = and_parts (nat_le (length v) GREATEST_VALUE) (nat_lt (asks history) SEQS) is in
      record {
        each = each_append (IsFit w.members) history (Ask v ∷ []) fits.each (is_at_most (length v) GREATEST_VALUE parts.0, tt);
        few = (let less = is_less (asks history) SEQS parts.1 in let more = by.asks history (Ask v) in omega arith);
      }
  taken_fits history (Brings k from number body) action is fits =
      let first = and_parts (may_come w k from body) (number == next from history) is in
      let owner = third_of (nat_lt from w.members) (not (from == k)) (nat_lt body.owner w.members) (not (is_want body.kind)) first.0 in
      record {
        each = each_append (IsFit w.members) history (From from body ∷ []) fits.each ((action, is_less body.owner w.members owner), tt);
        few = (let same = by.asks history (From from body) in let few = fits.few in omega arith);
      }

  adds_fits : (history : List Event) (d : Action) → ActionFits d → Fits w.members history → Fits w.members (history ++ adds w i history d)
  adds_fits history d action fits = go (member_of d == i && counts w history d) refl where
    go : (b : Bool) → (member_of d == i && counts w history d) ≡ b → Fits w.members (history ++ cond b (event_of d ∷ []) [])
    go false is = subst (Fits w.members) (sym (append-nil history)) fits
    go true is = taken_fits history d action (and_parts (member_of d == i) (counts w history d) is).1 fits

  history_fits : (actions : List Action) (history : List Event) → AllByRecursion ActionFits actions → Fits w.members history → Fits w.members (history_after w i history actions)
  history_fits [] history each fits = fits
  history_fits (d ∷ actions) history each fits = history_fits actions (history ++ adds w i history d) each.1 (adds_fits history d each.0 fits)

  adds_one : (history : List Event) (d : Action) → length (history ++ adds w i history d) ≤ length history + 1
  adds_one history d = go (member_of d == i && counts w history d) where
    go : (b : Bool) → length (history ++ cond b (event_of d ∷ []) []) ≤ length history + 1
    go false = let long = length-append history ([]) in omega arith
    go true = let long = length-append history (event_of d ∷ []) in omega arith

  history_length : (actions : List Action) (history : List Event) → length (history_after w i history actions) ≤ length history + length actions
  history_length [] history = omega arith
  history_length (d ∷ actions) history =
      let rest = history_length actions (history ++ adds w i history d) in
      let one = adds_one history d in
      omega arith

action_fits : WhatOpens → (keys : ℕ → Option KeyFields) (e : WorldEvent) (d : Action) → action_of keys e ≡ Some d → ActionFits d
action_fits opens keys e d is = go (keys (receiver e)) e is where
  go : (o : Option KeyFields) (e : WorldEvent) → option_and_then (λ k. action_with k e) o ≡ Some d → ActionFits d
  go None e is = absurd cc
  go (Some k) (event.Ask i v) is = let same : Asks i v ≡ d = cc in subst ActionFits same tt
  go (Some k) (event.Bring i bytes) is = from (opened_in k bytes) refl is where
    from : (o : Option FrameFields) → opened_in k bytes ≡ o → option_map (brought_to i) o ≡ Some d → ActionFits d
    from None at is = absurd cc
    from (Some f) at is = let same : brought_to i f ≡ d = cc in subst ActionFits same (opens k bytes f at).one.is.body

actions_fit : WhatOpens → (keys : ℕ → Option KeyFields) (es : List WorldEvent) → AllByRecursion ActionFits (actions_of keys es)
actions_fit opens keys [] = tt
actions_fit opens keys (e ∷ es) = go (action_of keys e) refl (actions_fit opens keys es) where
  go : (o : Option Action) → action_of keys e ≡ o → AllByRecursion ActionFits (actions_of keys es) → AllByRecursion ActionFits (cons_option o (actions_of keys es))
  go None is rest = rest
  go (Some d) is rest = (action_fits opens keys e d is, rest)

-- the history of any member by any events
pub made_fits : Votes → WhatOpens → (w : Setting) (keys : ℕ → Option KeyFields) (es : List WorldEvent) (i : ℕ) → Fits w.members (history_by w (actions_of keys es) i)
unfolding history_by
made_fits by opens w keys es i = history_fits by w i (actions_of keys es) [] (actions_fit opens keys es) (record { each = tt; few = (let none = by.no_asks in omega arith) })

-- the next number from another is at most the count of events
pub next_within : Votes → (w : Setting) (keys : ℕ → Option KeyFields) (es : List WorldEvent) (from to : ℕ) → next from (history_by w (actions_of keys es) to) ≤ length es
unfolding history_by taken_bodies
next_within by w keys es from to =
    let some = fewer (body_from from) (history_after w to [] (actions_of keys es)) in
    let long = history_length by w to (actions_of keys es) [] in
    let actions = fewer (action_of keys) es in
    omega arith
