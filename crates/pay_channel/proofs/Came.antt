-- What is delivered is the value of an event that was taken.
use Rattle.std.proofs.Common.{◌≡◌, ℕ, Bool, true, false, cond, List, [], ◌∷◌, ◌++◌, Option, None, Some, option_to_list, Contains, refl, sym, ap, ◌∙◌, append-nil}
use Rattle.std.specs.Option.{option_or}
use Rattle.std.proofs.lemmas.Bool.{cases_Bool}
use Rattle.std.proofs.lemmas.List.Elements.{Contains-append_left, Contains-push}
use Rattle.pay_frame.specs.declared.body.Kind.{Kind}
use Rattle.pay_frame.specs.declared.body.Kind.TheVariants.{Send, Echo, Ready, Want}
use Rattle.pay_echo.specs.Broadcast as one
use Rattle.pay_echo.specs.Broadcast.{Group, Vote, value_of, may_deliver, delivered}
use Rattle.pay_echo.specs.Laws.{DeliveredByOneMore, NotDeliveredAtFirst, value_if}
use Rattle.pay_channel.specs.History.{Event, Ask, From, asks, vote_by, counts_from, vote_of, is_about, votes, delivered_at}
use Rattle.pay_channel.specs.ListLaws.{value_of_event, DeliveredCame}
use Rattle.pay_channel.proofs.Lists.{either, by_push, none_some, some_same}
use Rattle.pay_channel.proofs.Project.{votes-push, votes_in-other, votes_in-here}
use Rattle.pay_channel.proofs.VotesTaken.{no_votes_at_first}

-- ---- an event that is a vote has the vote's value

body_value : (b : Bool) (kind : Kind) (p : ℕ) (v : List ℕ) (x : Vote) → cond b (vote_by kind p v) None ≡ Some x → value_of x ≡ v
unfolding value_of
body_value false kind p v x is = absurd (none_some x is)
body_value true Send p v x is = ap value_of (sym (some_same (one.Send v) x is))
body_value true Echo p v x is = ap value_of (sym (some_same (one.Echo p v) x is))
body_value true Ready p v x is = ap value_of (sym (some_same (one.Ready p v) x is))
body_value true Want p v x is = absurd (none_some x is)

vote_value : (e : Event) (x : Vote) → vote_of e ≡ Some x → value_of x ≡ value_of_event e
unfolding value_of
vote_value (Ask v) x is = ap value_of (sym (some_same (one.Send v) x is))
vote_value (From p body) x is = body_value (counts_from p body) body.kind p body.value x is

-- ---- by one event more

abbrev HasCome : List Event → List ℕ → Type 0
HasCome history v = (e : Event) × Contains history e × (value_of_event e ≡ v)

still_come : (history : List Event) (e : Event) (v : List ℕ) → HasCome history v → HasCome (history ++ e ∷ []) v
still_come history e v come = (come.0, Contains-append_left history (e ∷ []) come.0 come.1, come.2)

module _ (more : DeliveredByOneMore) (none : NotDeliveredAtFirst) (g : Group) (a s : ℕ) where
  HaveCome : List Event → Type 0
  HaveCome history = (v : List ℕ) → delivered g (votes g.own a s history) ≡ Some v → HasCome history v

  module _ (history : List Event) (e : Event) (v : List ℕ) (before : HaveCome history) where
    was : delivered g (votes g.own a s history) ≡ Some v → HasCome (history ++ e ∷ []) v
    unfolding HaveCome
    was is = still_come history e v (before v is)

    -- by a vote: what was delivered, or else the vote's value
    by_vote : (x : Vote) → vote_of e ≡ Some x → delivered g (votes g.own a s history ++ x ∷ []) ≡ Some v → HasCome (history ++ e ∷ []) v
    by_vote x vote is = go (delivered g old) refl (sym (more g old x) ∙ is) where
      old : List Vote
      old = votes g.own a s history

      new : (b : Bool) → value_if b x ≡ Some v → HasCome (history ++ e ∷ []) v
      new true same = (e, Contains-push history e, sym (vote_value e x vote) ∙ some_same (value_of x) v same)
      new false same = absurd (none_some v same)

      go : (o : Option (List ℕ)) → delivered g old ≡ o → option_or o (value_if (may_deliver g (old ++ x ∷ []) (value_of x)) x) ≡ Some v → HasCome (history ++ e ∷ []) v
      go (Some w) known same = was (known ∙ same)
      go None known same = new (may_deliver g (old ++ x ∷ []) (value_of x)) same

    by_votes : (o : Option Vote) → vote_of e ≡ o → delivered g (votes g.own a s history ++ option_to_list o) ≡ Some v → HasCome (history ++ e ∷ []) v
    by_votes None vote is = was (ap (delivered g) (sym (append-nil (votes g.own a s history))) ∙ is)
    by_votes (Some x) vote is = by_vote x vote is

    by_event : delivered g (votes g.own a s (history ++ e ∷ [])) ≡ Some v → HasCome (history ++ e ∷ []) v
    by_event is =
        let old = votes g.own a s history in
        let now = ap (delivered g) (sym (votes-push g.own a s history e)) ∙ is in
        either (cases_Bool (is_about g.own a s (asks history) e))
        (λ about. by_votes (vote_of e) refl (ap (λ vs. delivered g (old ++ vs)) (sym (votes_in-here g.own a s (asks history) e about)) ∙ now))
        (λ other. was (ap (delivered g) (sym (append-nil old)) ∙ ap (λ vs. delivered g (old ++ vs)) (sym (votes_in-other g.own a s (asks history) e other)) ∙ now))

  HaveCome-push : (history : List Event) (e : Event) → HaveCome history → HaveCome (history ++ e ∷ [])
  unfolding HaveCome
  HaveCome-push history e before v is = by_event history e v before is

  HaveCome-none : HaveCome []
  unfolding HaveCome
  HaveCome-none v is = absurd (none_some v (sym (none g) ∙ ap (delivered g) (sym (no_votes_at_first g.own a s)) ∙ is))

  all_come : (history : List Event) → HaveCome history
  all_come history = by_push HaveCome HaveCome-none HaveCome-push history

pub delivered_came : DeliveredByOneMore → NotDeliveredAtFirst → DeliveredCame
unfolding HaveCome delivered_at
delivered_came more none g history a s v is = all_come more none g a s history v is
