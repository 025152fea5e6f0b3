-- The number after a list's end has no value, and gets none by a vote that doesn't deliver it.
use Rattle.std.proofs.Common.{◌≡◌, ℕ, zero, suc, ◌+◌, ◌<◌, false, List, length, Option, None, Some, refl, sym, ap, ◌∙◌, lt-ltb, ltb, [], zero-add, arith}
use Rattle.std.proofs.lemmas.Bool.{cond-true}
use Rattle.pay_echo.specs.Meaning.{became}
use Rattle.pay_channel.specs.History.{seqs, known_from, listed_values}
use Rattle.pay_channel.specs.State.{State, delivered_value_at, channel_lists}
use Rattle.pay_channel.proofs.Grown.{known_from-some, known_from-none}

known_from-ends : (at : ℕ → Option (List ℕ)) (s n : ℕ) → length (known_from at s n) < n → at (s + length (known_from at s n)) ≡ None
unfolding known_from
known_from-ends at s zero less = absurd (omega (arith, less))
known_from-ends at s (suc n) less = go (at s) refl (known_from-ends at (s + 1) n) less where
  go : (o : Option (List ℕ)) → at s ≡ o → (length (known_from at (s + 1) n) < n → at ((s + 1) + length (known_from at (s + 1) n)) ≡ None) → length (known_from at s (suc n)) < suc n → at (s + length (known_from at s (suc n))) ≡ None
  go None e rest less =
      let here : s + length (known_from at s (suc n)) ≡ s = omega (arith, ap length (known_from-none at s n e)) in
      ap at here ∙ e
  go (Some v) e rest less =
      let one : length (known_from at s (suc n)) ≡ suc (length (known_from at (s + 1) n)) = ap length (known_from-some at s n v e) in
      let there : s + length (known_from at s (suc n)) ≡ (s + 1) + length (known_from at (s + 1) n) = omega (arith, one) in
      ap at there ∙ rest (omega (arith, one, less))

pub next_is_unknown : (c : State) (a : ℕ) → a < c.group.members → length (channel_lists c a) < seqs → delivered_value_at c a (length (channel_lists c a)) ≡ None
unfolding channel_lists listed_values
next_is_unknown c a member less =
    let all = known_from (delivered_value_at c a) 0 seqs in
    let list : channel_lists c a ≡ all = cond-true (ltb a c.group.members) all [] (lt-ltb a c.group.members member) in
    let short : length all < seqs = omega (arith, ap length list, less) in
    ap (λ xs. delivered_value_at c a (length xs)) list ∙ ap (delivered_value_at c a) (sym (zero-add (length all))) ∙ known_from-ends (delivered_value_at c a) 0 seqs short

pub still_unknown : (old new : Option (List ℕ)) → old ≡ None → became old new ≡ false → new ≡ None
still_unknown None None unknown quiet = refl
still_unknown None (Some v) unknown quiet = absurd cc
still_unknown (Some u) new unknown quiet = absurd cc
