-- Deliveries stay, and a shorter history's lists are prefixes of a longer one's.
use Rattle.std.proofs.Common.{◌≡◌, ◌≢◌, ℕ, eqb, List, [], ◌∷◌, ◌++◌, Option, None, Some, refl, sym, ap, ◌∙◌, ne_eqb}
use Rattle.std.proofs.lemmas.Bool.{and_left}
use Rattle.pay_echo.specs.Broadcast.{Group, delivered}
use Rattle.pay_echo.specs.Laws.{DeliveredStays, NotDeliveredAtFirst}
use Rattle.pay_channel.specs.History.{Event, asks, owner_of, seq_of, votes, delivered_at, list_of}
use Rattle.pay_channel.specs.ListLaws.{AreKnown, DeliveredIs, NothingDeliveredAtFirst, DeliveryStays, EmptyAtFirst, ListsGrow, OneListGrows}
use Rattle.pay_channel.proofs.Lists.{none_some, prefix_by_place, same_by_place}
use Rattle.pay_channel.proofs.HistoryLaws.{votes_grow, others_untouched}
use Rattle.pay_channel.proofs.VotesTaken.{no_votes_at_first}
use Rattle.pay_channel.proofs.Places.{place_is_delivered, listed_is_delivered, lists_alike}

pub delivered_is : DeliveredIs
unfolding delivered_at
delivered_is g history a s = refl

-- ---- by the laws of one broadcast

module _ (none : NotDeliveredAtFirst) where
  pub nothing_delivered_at_first : NothingDeliveredAtFirst
  nothing_delivered_at_first g a s = delivered_is g [] a s ∙ ap (delivered g) (no_votes_at_first g.own a s) ∙ none g

  pub empty_at_first : EmptyAtFirst
  empty_at_first g a =
      same_by_place (list_of g [] a) []
      (λ k v found. absurd (none_some v (sym (nothing_delivered_at_first g a k) ∙ listed_is_delivered g [] a k v found)))
      (λ k v found. absurd (none_some v found))

module _ (stays : DeliveredStays) where
  pub delivery_stays : DeliveryStays
  delivery_stays g history more a s v is =
      let longer = votes_grow g.own a s history more in
      delivered_is g (history ++ more) a s
      ∙ ap (delivered g) longer.is
      ∙ stays g (votes g.own a s history) longer.rest v (sym (delivered_is g history a s) ∙ is)

  still_known : (g : Group) (history more : List Event) (a k : ℕ) → AreKnown (delivered_at g history a) k → AreKnown (delivered_at g (history ++ more) a) k
  still_known g history more a k known s below none = go (delivered_at g history a s) refl where
    go : (o : Option (List ℕ)) → delivered_at g history a s ≡ o → ⊥
    go None was = known s below was
    go (Some v) was = none_some v (sym none ∙ delivery_stays g history more a s v was)

  pub lists_grow : ListsGrow
  lists_grow g history more a =
      prefix_by_place (list_of g history a) (list_of g (history ++ more) a)
      (λ k v found.
      let is = (place_is_delivered g history a k v).0 found in
      (place_is_delivered g (history ++ more) a k v).1 (is.0, is.1, still_known g history more a k is.2, delivery_stays g history more a k v is.3))

  -- an event of another account delivers nothing here
  delivered-other : (g : Group) (history : List Event) (e : Event) (a s : ℕ) → a ≢ owner_of g.own e → delivered_at g (history ++ e ∷ []) a s ≡ delivered_at g history a s
  unfolding delivered_at
  delivered-other g history e a s ne =
      let apart = and_left (eqb (owner_of g.own e) a) (eqb (seq_of (asks history) e) s) (ne_eqb (owner_of g.own e) a (λ same. ne (sym same))) in
      ap (delivered g) (others_untouched g.own a s history e apart)

  list_of-other : (g : Group) (history : List Event) (e : Event) (a : ℕ) → a ≢ owner_of g.own e → list_of g (history ++ e ∷ []) a ≡ list_of g history a
  list_of-other g history e a ne = lists_alike g g (history ++ e ∷ []) history a refl (λ s. delivered-other g history e a s ne)

  pub one_list_grows : OneListGrows
  one_list_grows g history e =
      let longer = lists_grow g history (e ∷ []) (owner_of g.own e) in
      record { grown = (longer.rest, longer.is); others = λ a ne. list_of-other g history e a ne }
