-- An account's list by place, and the lists of a channel that took nothing.
use Rattle.std.proofs.Common.{◌≡◌, ℕ, Bor, zero, suc, ◌+◌, ◌<◌, ◌≤◌, Bool, true, false, cond, ltb, List, [], ◌∷◌, length, slice_get, replicate, Option, None, Some, refl, sym, ap, ◌∙◌, arith, le-ltb, zero-add}
use Rattle.std.specs.Option.{IsSome, option_copied}
use Rattle.std.proofs.lemmas.Bool.{cond-true, cond-false}
use Rattle.std.proofs.lemmas.List.{get_or-replicate, length-replicate}
use Rattle.pay_frame.specs.declared.limits.TheConstants.{MOST_MEMBERS}
use Rattle.pay_echo.specs.Broadcast.{Group}
use Rattle.pay_echo.specs.Meaning.{meaning_of}
use Rattle.pay_echo.specs.Laws.{NotDeliveredAtFirst}
use Rattle.pay_channel.specs.History.{seqs, known_from, listed_values, votes, asks, out}
use Rattle.pay_channel.specs.State.{State, IsSound, IsStateBy, meaning_at, delivered_value_at, channel_lists}
use Rattle.pay_channel.proofs.Grown.{known_from-some, known_from-none}

-- the k-th value of a list is the k-th number's
known_at : (at : ℕ → Option (List ℕ)) (s n k : ℕ) → k < length (known_from at s n) → slice_get (known_from at s n) k ≡ at (s + k)
unfolding known_from
known_at at s zero k below = absurd (omega arith)
known_at at s (suc n) k below = go (at s) refl k below (known_at at (s + 1) n) where
  go : (o : Option (List ℕ)) → at s ≡ o → (j : ℕ) → j < length (known_from at s (suc n)) → ((i : ℕ) → i < length (known_from at (s + 1) n) → slice_get (known_from at (s + 1) n) i ≡ at ((s + 1) + i)) → slice_get (known_from at s (suc n)) j ≡ at (s + j)
  go None e j lt rest = absurd (omega (arith, ap length (known_from-none at s n e)))
  go (Some v) e zero lt rest =
      let place : s ≡ s + zero = omega arith in
      ap (λ (xs : List (List ℕ)). slice_get xs zero) (known_from-some at s n v e) ∙ sym e ∙ ap at place
  go (Some v) e (suc i) lt rest =
      let inside : i < length (known_from at (s + 1) n) = omega (arith, ap length (known_from-some at s n v e)) in
      let place : (s + 1) + i ≡ s + suc i = omega arith in
      ap (λ (xs : List (List ℕ)). slice_get xs (suc i)) (known_from-some at s n v e) ∙ rest i inside ∙ ap at place

slice_get-none : {X : Type 0} (xs : List X) (k : ℕ) → k < length xs → slice_get xs k ≡ None → ⊥
slice_get-none [] k below e = omega arith
slice_get-none (x ∷ xs) zero below e = cc
slice_get-none (x ∷ xs) (suc k) below e = slice_get-none xs k (omega arith) e

cond-nil : (b : Bool) (xs : List (List ℕ)) (k : ℕ) → k < length (cond b xs []) → b ≡ true
cond-nil true xs k h = refl
cond-nil false xs k h = absurd (omega arith)

pub lists-at : (c : State) (a k : ℕ) → k < length (channel_lists c a) → slice_get (channel_lists c a) k ≡ delivered_value_at c a k
unfolding channel_lists listed_values
lists-at c a k below =
    let member = cond-nil (ltb a c.group.members) (known_from (delivered_value_at c a) 0 seqs) k below in
    let whole = cond-true (ltb a c.group.members) (known_from (delivered_value_at c a) 0 seqs) [] member in
    ap (λ (xs : List (List ℕ)). slice_get xs k) whole
    ∙ known_at (delivered_value_at c a) 0 seqs k (omega (arith, below, ap length whole))
    ∙ ap (delivered_value_at c a) (zero-add k)

listed_is_known : (c : State) (a k : ℕ) → k < length (channel_lists c a) → delivered_value_at c a k ≡ None → ⊥
listed_is_known c a k below e = slice_get-none (channel_lists c a) k below (lists-at c a k below ∙ e)

pub listed_is_there : (c : State) (a k : ℕ) (found : Option (Bor (List ℕ))) → k < length (channel_lists c a) → option_copied found ≡ delivered_value_at c a k → IsSome found
listed_is_there c a k (Some value) below e = refl
listed_is_there c a k None below e = absurd (listed_is_known c a k below (sym e))

pub lists_nobody : (c : State) (a : ℕ) → c.group.members ≤ a → channel_lists c a ≡ []
unfolding channel_lists listed_values
lists_nobody c a past = cond-false (ltb a c.group.members) (known_from (delivered_value_at c a) 0 seqs) [] (le-ltb a c.group.members past)

-- a channel that took nothing
abbrev pub blank : Group → State
blank g = record { group = g; asks = 0; slots = []; sent = [] }

delivered_value_at-blank : NotDeliveredAtFirst → (g : Group) (a s : ℕ) → delivered_value_at (blank g) a s ≡ None
unfolding delivered_value_at meaning_at meaning_of
delivered_value_at-blank delivered-none g a s = delivered-none g

lists-blank : NotDeliveredAtFirst → (g : Group) (a : ℕ) → channel_lists (blank g) a ≡ []
unfolding channel_lists listed_values
lists-blank delivered-none g a = go (ltb a g.members) where
  none : known_from (delivered_value_at (blank g) a) 0 (suc 65535) ≡ []
  none = known_from-none (delivered_value_at (blank g) a) 0 65535 (delivered_value_at-blank delivered-none g a 0)

  go : (b : Bool) → cond b (known_from (delivered_value_at (blank g) a) 0 seqs) [] ≡ []
  go true = none
  go false = refl

pub IsSound-blank : NotDeliveredAtFirst → (g : Group) → g.members ≤ MOST_MEMBERS → g.own < g.members → IsSound (blank g) (replicate g.members 0)
unfolding meaning_at
IsSound-blank delivered-none g few own =
    record {
      few = few;
      own = own;
      reached = λ a s. ([], refl);
      places = length-replicate g.members 0;
      counted = λ a below. get_or-replicate g.members a 0 0 below ∙ sym (ap length (lists-blank delivered-none g a));
    }

pub IsStateBy-blank : (g : Group) → IsStateBy (blank g) []
unfolding meaning_at votes asks out
IsStateBy-blank g = record { meanings = λ a s. refl; asks = refl; sent = refl }
