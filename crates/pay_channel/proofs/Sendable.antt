-- What a member sends may come to any other member of its group.
use Rattle.std.proofs.Common.{◌≡◌, ◌≢◌, ℕ, ◌+◌, ◌<◌, List, [], ◌∷◌, ◌++◌, length, Option, None, Some, All, sym, subst, arith, length-append}
use Rattle.std.proofs.lemmas.List.{get_or_append_left}
use Rattle.std.proofs.lemmas.List.Elements.{All-nil, All-cons, All-append, All-contains, All-same, All-weaker, Contains-push}
use Rattle.pay_frame.specs.declared.body.Kind.{Kind}
use Rattle.pay_frame.specs.declared.body.Kind.TheVariants.{Send, Echo, Ready, Want}
use Rattle.pay_frame.specs.Frame.{BodyFields}
use Rattle.pay_echo.specs.Broadcast.{Group, echoed, readied}
use Rattle.pay_channel.specs.History.{Event, IsEvent, Ask, From, asks, owner_of, seq_of, votes, body_of, newly, send_of, says, out}
use Rattle.pay_channel.specs.SentLaws.{SentMayCome}
use Rattle.pay_channel.proofs.Project.{out-push}
use Rattle.pay_channel.proofs.Lists.{by_push}
use Rattle.pay_channel.proofs.HistoryLaws.{nothing_sent_at_first}

-- about a member, and no WANT
IsSendable : Group → BodyFields → Type 0
IsSendable g body = (body.owner < g.members) × (body.kind ≢ Want)

send-no_want : Send ≢ Want
send-no_want e = cc

echo-no_want : Echo ≢ Want
echo-no_want e = cc

ready-no_want : Ready ≢ Want
ready-no_want e = cc

module _ (g : Group) where
  newly-sendable : (kind : Kind) (a s : ℕ) (o n : Option (List ℕ)) → kind ≢ Want → a < g.members → All (IsSendable g) (newly kind a s o n)
  unfolding IsSendable
  newly-sendable kind a s None None no_want member = All-nil (IsSendable g)
  newly-sendable kind a s None (Some v) no_want member = All-cons (IsSendable g) (body_of kind a s v) [] (member, no_want) (All-nil (IsSendable g))
  newly-sendable kind a s (Some w) n no_want member = All-nil (IsSendable g)

  send-sendable : (own k : ℕ) (e : Event) → own < g.members → All (IsSendable g) (send_of own k e)
  unfolding IsSendable
  send-sendable own k (Ask v) member = All-cons (IsSendable g) (body_of Send own k v) [] (member, send-no_want) (All-nil (IsSendable g))
  send-sendable own k (From p body) member = All-nil (IsSendable g)

  owner-member : (e : Event) → g.own < g.members → IsEvent g e → owner_of g.own e < g.members
  owner-member (Ask v) own event = own
  owner-member (From p body) own event = event.2

  says-sendable : (history : List Event) (e : Event) → g.own < g.members → IsEvent g e → All (IsSendable g) (says g history e)
  unfolding says
  says-sendable history e own event =
      let a = owner_of g.own e in
      let s = seq_of (asks history) e in
      let before = votes g.own a s history in
      let after = votes g.own a s (history ++ e ∷ []) in
      let send = send_of g.own (asks history) e in
      let echo = newly Echo a s (echoed before) (echoed after) in
      let ready = newly Ready a s (readied g before) (readied g after) in
      let member = owner-member e own event in
      All-append (IsSendable g) (send ++ echo) ready
      (All-append (IsSendable g) send echo (send-sendable g.own (asks history) e own) (newly-sendable Echo a s (echoed before) (echoed after) echo-no_want member))
      (newly-sendable Ready a s (readied g before) (readied g after) ready-no_want member)

  Sends : List Event → Type 0
  Sends history = All (IsEvent g) history → All (IsSendable g) (out g history)

  sends-push : g.own < g.members → (history : List Event) (e : Event) → Sends history → Sends (history ++ e ∷ [])
  unfolding Sends
  sends-push own history e before events =
      let longer : length (history ++ e ∷ []) ≡ length history + 1 = length-append history (e ∷ []) in
      let shorter : All (IsEvent g) history = λ k d below. subst (IsEvent g) (get_or_append_left history (e ∷ []) d k below) (events k d (omega arith)) in
      let event = All-contains (IsEvent g) (history ++ e ∷ []) e events (Contains-push history e) in
      All-same (IsSendable g) (out g (history ++ e ∷ [])) (out g history ++ says g history e) (out-push g history e)
      (All-append (IsSendable g) (out g history) (says g history e) (before shorter) (says-sendable history e own event))

  all-sendable : g.own < g.members → (history : List Event) → All (IsEvent g) history → All (IsSendable g) (out g history)
  unfolding Sends
  all-sendable own = by_push Sends (λ events. All-same (IsSendable g) (out g []) [] (nothing_sent_at_first g) (All-nil (IsSendable g))) (sends-push own)

pub sent_may_come : SentMayCome
unfolding IsSendable
sent_may_come g h history own members other events =
    All-weaker (IsSendable g) (λ body. IsEvent h (From g.own body))
    (λ body sendable. (subst (λ n. g.own < n) (sym members) own, other, subst (λ n. body.owner < n) (sym members) sendable.0, sendable.1))
    (out g history) (all-sendable g own history events)
