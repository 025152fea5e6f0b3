-- One vote told to its instance, what is said by it put at the end of the sent list, and the values that
-- follow counted: the channel took the vote and is sound.
use Rattle.std.proofs.Common.{◌≡◌, ℕ, ◌+◌, ◌-◌, ◌<◌, ◌≤◌, Bool, true, false, cond, eqb, eqb-true, ltb, List, [], ◌++◌, length, get_or, set, Option, None, Some, option_to_list, Result, Ok, Err, refl, sym, ap, ap₂, ◌∙◌, subst, arith, append_assoc, length-append}
use Rattle.std.specs.Bool.{then_some}
use Rattle.std.specs.Result.{OnErr}
use Rattle.std.proofs.lemmas.List.{get_or_default}
use Rattle.std.proofs.lemmas.Bool.{cases_Bool, and_right}
use Rattle.pay_frame.specs.declared.body.Kind.{Kind}
use Rattle.pay_frame.specs.declared.body.Kind.TheVariants.{Echo, Ready}
use Rattle.pay_frame.specs.Frame.{BodyFields}
use Rattle.pay_echo.specs.Broadcast.{Group, Vote, value_of}
use Rattle.pay_echo.specs.Laws.{DeliveredStays, EchoedByOneMore, ReadiedByOneMore, SentIsItsValue}
use Rattle.pay_echo.specs.Meaning.{Meaning, meaning_of}
use Rattle.pay_echo.specs.Moves.{IsMoves}
use Rattle.pay_echo.specs.declared.instance.Moves.{Moves}
use Rattle.pay_channel.specs.Source.{GrowsOnly}
use Rattle.pay_channel.specs.History.{body_of, seqs, known_from, listed_values}
use Rattle.pay_channel.specs.State.{State, Slot, IsSound, meaning_in, meaning_at, delivered_value_at, channel_lists}
use Rattle.pay_channel.specs.Hearing.{HearsVote, IsOutgoing}
use Rattle.pay_channel.specs.declared.channel.Outgoing.{Outgoing}
use Rattle.pay_channel.specs.Applied.{bodies_said, TakesVote, IsToldOf, IsAsBefore}
use Rattle.pay_channel.proofs.Grown.{known_from-short, IsSound-same, lists-grow, lists-grown, IsSound-voted}
use Rattle.pay_channel.proofs.Said.{told, bodies_said-of_vote}
use Rattle.pay_channel.proofs.Lists.{either}
use Rattle.pay_channel.proofs.Unlisted.{next_is_unknown, still_unknown}

pub on_err : {T E P : Type 0} (r : Result T E) → P → OnErr r P
on_err (Ok x) p = tt
on_err (Err e) p = p

pub reached_at : (c : State) (lengths : List ℕ) → IsSound c lengths → (a s : ℕ) → (votes : List Vote) × (meaning_in c.group c.slots a s ≡ meaning_of c.group votes)
unfolding meaning_at
reached_at c lengths sound a s = sound.reached a s

-- a list has at most as many values as there are numbers
pub lists-short : (c : State) (a : ℕ) → length (channel_lists c a) ≤ seqs
unfolding channel_lists listed_values
lists-short c a = go (ltb a c.group.members) (known_from-short (delivered_value_at c a) 0 seqs) where
  go : (b : Bool) → length (known_from (delivered_value_at c a) 0 seqs) ≤ seqs → length (cond b (known_from (delivered_value_at c a) 0 seqs) []) ≤ seqs
  go true short = short
  go false short = omega arith

-- the number that stands beside an account's list
pub length_read : (c : State) (lengths : List ℕ) (a i from : ℕ) → IsSound c lengths → a < c.group.members → i ≡ a → from ≡ get_or lengths i from → from ≡ get_or lengths a 0
length_read c lengths a i from sound member same read =
    let inside : i < length lengths = omega (arith, sound.places) in
    read ∙ get_or_default lengths i from 0 inside ∙ ap (λ k. get_or lengths k 0) same

pub length_read-short : (c : State) (lengths : List ℕ) (a i from : ℕ) → IsSound c lengths → a < c.group.members → i ≡ a → from ≡ get_or lengths i from → from ≤ seqs
length_read-short c lengths a i from sound member same read = omega (arith, length_read c lengths a i from sound member same read, sound.counted a member, lists-short c a)

pub total-fits : (at : ℕ → Option (List ℕ)) (from more : ℕ) → from ≤ seqs → more ≡ length (known_from at from (seqs - from)) → from + more ≤ seqs
total-fits at from more within counted = omega (arith, known_from-short at from (seqs - from))

told-is : (kind : Kind) (a s : ℕ) (v : List ℕ) (b : Bool) (o : Option BodyFields) → o ≡ then_some b (body_of kind a s v) → option_to_list o ≡ told kind a s v b
told-is kind a s v true o e = ap option_to_list e
told-is kind a s v false o e = ap option_to_list e

module _ (g : Group) (asks : ℕ) (slots after : List Slot) (sent said_now : List BodyFields) (lengths : List ℕ) where
  abbrev pub before_it : State
  before_it = record { group = g; asks = asks; slots = slots; sent = sent }

  abbrev pub after_it : State
  after_it = record { group = g; asks = asks; slots = after; sent = said_now }

  -- where nothing changed
  pub kept : ((a s : ℕ) → meaning_in g after a s ≡ meaning_in g slots a s) → said_now ≡ sent → IsAsBefore before_it after_it
  unfolding meaning_at
  kept same unsaid = record { group = refl; asks = refl; sent = unsaid; meanings = same }

  pub kept_sound : ((a s : ℕ) → meaning_in g after a s ≡ meaning_in g slots a s) → said_now ≡ sent → IsSound before_it lengths → IsSound after_it lengths
  kept_sound same unsaid sound = IsSound-same before_it after_it lengths (kept same unsaid) sound

  module _ (delivered_stays : DeliveredStays) (a s : ℕ) (x : Vote) (sound : IsSound before_it lengths) (hears : HearsVote g slots after a s x) where
    pub voted_grow : a < g.members → GrowsOnly (channel_lists before_it) (channel_lists after_it) a
    unfolding meaning_at
    voted_grow member = lists-grow delivered_stays before_it after_it lengths a s (Some x) sound refl hears.here hears.others member

    pub voted : EchoedByOneMore → ReadiedByOneMore → SentIsItsValue → (send : List BodyFields) (out : Outgoing) → IsOutgoing a s x (meaning_in g slots a s) (meaning_in g after a s) out → said_now ≡ ((sent ++ send) ++ option_to_list out.echo) ++ option_to_list out.ready → TakesVote before_it after_it a s (Some x) send
    unfolding meaning_at
    voted echoed_more readied_more sent_is send out is pushed =
        let was = sound.reached a s in
        let v = value_of x in
        let bodies : bodies_said a s (meaning_in g slots a s) (meaning_in g after a s) ≡ option_to_list out.echo ++ option_to_list out.ready =
        bodies_said-of_vote echoed_more readied_more sent_is a s g was.0 x (meaning_in g slots a s) (meaning_in g after a s) was.1 hears.here
        ∙ ap₂ (λ (b c : Bool). told Echo a s v b ++ told Ready a s v c) (sym is.moves.echo) (sym is.moves.ready)
        ∙ ap₂ (λ (xs ys : List BodyFields). xs ++ ys) (sym (told-is Echo a s v out.moves.echo out.echo is.echo)) (sym (told-is Ready a s v out.moves.ready out.ready is.ready)) in
        record {
          group = refl;
          asks = refl;
          here = hears.here;
          others = hears.others;
          sent = pushed ∙ append_assoc (sent ++ send) (option_to_list out.echo) (option_to_list out.ready)
              ∙ append_assoc sent send (option_to_list out.echo ++ option_to_list out.ready)
              ∙ ap (λ (xs : List BodyFields). sent ++ (send ++ xs)) (sym bodies);
        }

    module _ (member : a < g.members) (from more : ℕ) (from_is : from ≡ get_or lengths a 0) (counted : more ≡ length (known_from (λ t. (meaning_in g after a t).delivered) from (seqs - from))) where
      from_is_length : from ≡ length (channel_lists before_it a)
      from_is_length = from_is ∙ sound.counted a member

      more_is : more ≡ length (known_from (delivered_value_at after_it a) (length (channel_lists before_it a)) (seqs - length (channel_lists before_it a)))
      unfolding delivered_value_at meaning_at
      more_is = counted ∙ ap (λ n. length (known_from (λ t. (meaning_in g after a t).delivered) n (seqs - n))) from_is_length

      pub voted_sound : IsSound after_it (set lengths a (from + more))
      unfolding meaning_at
      voted_sound =
          let At : ℕ → Type 0 = λ n. IsSound after_it (set lengths a (n + more)) in
          subst At (sym from_is) (IsSound-voted delivered_stays before_it after_it lengths a s (Some x) sound refl hears.here hears.others member more more_is)

      pub voted_told : (moves : Moves) → IsMoves (meaning_in g slots a s) (meaning_in g after a s) moves → IsToldOf before_it after_it a s (record { echo = moves.echo; ready = moves.ready; deliver = moves.deliver; grown = more })
      unfolding meaning_at
      voted_told moves are =
          record {
            echo = are.echo;
            ready = are.ready;
            deliver = are.deliver;
            grown = ap (λ n. length (channel_lists before_it a) + n) more_is
                ∙ sym (length-append (channel_lists before_it a) (known_from (delivered_value_at after_it a) (length (channel_lists before_it a)) (seqs - length (channel_lists before_it a))))
                ∙ ap length (sym (lists-grown delivered_stays before_it after_it lengths a s (Some x) sound refl hears.here hears.others member));
          }

    module _ (member : a < g.members) (from : ℕ) (from_is : from ≡ get_or lengths a 0) where
      -- the number after the list, which this vote doesn't deliver
      pub none_behind : (moves : Moves) → IsMoves (meaning_in g slots a s) (meaning_in g after a s) moves → from < seqs → (s ≡ from → moves.deliver ≡ false) → (meaning_in g after a from).delivered ≡ None
      unfolding delivered_value_at meaning_at
      none_behind moves are more quiet =
          let length_is : from ≡ length (channel_lists before_it a) = from_is ∙ sound.counted a member in
          let Was : ℕ → Type 0 = λ n. (meaning_in g slots a n).delivered ≡ None in
          let was : Was from = subst Was (sym length_is) (next_is_unknown before_it a member (omega (arith, length_is, more))) in
          let Is : ℕ → Type 0 = λ n. (meaning_in g after a n).delivered ≡ None in
          either (cases_Bool (eqb s from))
          (λ e. let same = eqb-true s from e in
          subst Is same (still_unknown (meaning_in g slots a s).delivered (meaning_in g after a s).delivered (subst Was (sym same) was) (sym are.deliver ∙ quiet same)))
          (λ e. ap (λ (m : Meaning). m.delivered) (hears.others a from (and_right (eqb a a) (eqb s from) e)) ∙ was)
