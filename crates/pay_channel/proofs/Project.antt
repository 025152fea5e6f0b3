-- The functions of a history over one event more.
use Rattle.std.proofs.Common.{◌≡◌, ℕ, ◌+◌, Bool, true, false, cond, List, [], ◌∷◌, ◌++◌, count_by, option_to_list, refl, sym, ap, ◌∙◌, arith, append_assoc, append-nil, add-zero, zero-add}
use Rattle.std.proofs.lemmas.Bool.{cond-true, cond-false}
use Rattle.std.proofs.lemmas.List.Sums.{sum_by-cons}
use Rattle.pay_echo.specs.Broadcast.{Group}
use Rattle.pay_channel.specs.History.{Event, is_ask, asks, vote_of, is_about, votes_in, votes_from, votes, says, out_after, out}

-- how many asks there are after an event
abbrev pub asks_with : Event → ℕ → ℕ
asks_with e k = cond (is_ask e) (k + 1) k

abbrev one : Bool → ℕ
one b = cond b 1 0

asks-cons : (e : Event) (history : List Event) → count_by is_ask (e ∷ history) ≡ one (is_ask e) + count_by is_ask history
asks-cons e history = sum_by-cons (λ x. cond (is_ask x) 1 0) e history

votes_from-push : (own a s k : ℕ) (history : List Event) (e : Event) → votes_from own a s k (history ++ e ∷ []) ≡ votes_from own a s k history ++ votes_in own a s (k + count_by is_ask history) e
votes_from-push own a s k [] e = rw (append-nil, add-zero) refl
votes_from-push own a s k (x ∷ history) e =
    let later : ℕ = cond (is_ask x) (k + 1) k in
    let more = votes_from-push own a s later history e in
    let sum : later + count_by is_ask history ≡ k + count_by is_ask (x ∷ history) = passed (is_ask x) k (count_by is_ask history) ∙ ap (λ n. k + n) (sym (asks-cons x history)) in
    ap (λ vs. votes_in own a s k x ++ vs) more
    ∙ sym (append_assoc (votes_in own a s k x) (votes_from own a s later history) (votes_in own a s (later + count_by is_ask history) e))
    ∙ ap (λ n. (votes_in own a s k x ++ votes_from own a s later history) ++ votes_in own a s n e) sum where
      passed : (b : Bool) (m n : ℕ) → cond b (m + 1) m + n ≡ m + (one b + n)
      passed true m n = omega arith
      passed false m n = omega arith

pub votes-push : (own a s : ℕ) (history : List Event) (e : Event) → votes own a s (history ++ e ∷ []) ≡ votes own a s history ++ votes_in own a s (asks history) e
unfolding votes asks
votes-push own a s history e = votes_from-push own a s 0 history e ∙ ap (λ n. votes_from own a s 0 history ++ votes_in own a s n e) (zero-add (count_by is_ask history))

pub asks-push : (history : List Event) (e : Event) → asks (history ++ e ∷ []) ≡ asks_with e (asks history)
unfolding asks
asks-push [] e = go (is_ask e) where
  go : (b : Bool) → 0 + cond b 1 0 ≡ cond b (0 + 1) 0
  go true = omega arith
  go false = omega arith
asks-push (x ∷ history) e = asks-cons x (history ++ e ∷ []) ∙ ap (λ n. one (is_ask x) + n) (asks-push history e) ∙ go (is_ask e) (one (is_ask x)) ∙ ap (λ n. cond (is_ask e) (n + 1) n) (sym (asks-cons x history)) where
  go : (b : Bool) (m : ℕ) → m + cond b (count_by is_ask history + 1) (count_by is_ask history) ≡ cond b ((m + count_by is_ask history) + 1) (m + count_by is_ask history)
  go true m = omega arith
  go false m = refl

out_after-push : (g : Group) (before history : List Event) (e : Event) → out_after g before (history ++ e ∷ []) ≡ out_after g before history ++ says g (before ++ history) e
out_after-push g before [] e = rw (append-nil, append-nil) refl
out_after-push g before (x ∷ history) e =
    ap (λ bs. says g before x ++ bs) (out_after-push g (before ++ x ∷ []) history e)
    ∙ sym (append_assoc (says g before x) (out_after g (before ++ x ∷ []) history) (says g ((before ++ x ∷ []) ++ history) e))
    ∙ ap (λ h. (says g before x ++ out_after g (before ++ x ∷ []) history) ++ says g h e) (append_assoc before (x ∷ []) history)

pub out-push : (g : Group) (history : List Event) (e : Event) → out g (history ++ e ∷ []) ≡ out g history ++ says g history e
unfolding out
out-push g history e = out_after-push g [] history e

-- an event that isn't about a broadcast is no vote in it
pub votes_in-other : (own a s k : ℕ) (e : Event) → is_about own a s k e ≡ false → votes_in own a s k e ≡ []
unfolding votes_in
votes_in-other own a s k e other = cond-false (is_about own a s k e) (option_to_list (vote_of e)) [] other

pub votes_in-here : (own a s k : ℕ) (e : Event) → is_about own a s k e ≡ true → votes_in own a s k e ≡ option_to_list (vote_of e)
unfolding votes_in
votes_in-here own a s k e here = cond-true (is_about own a s k e) (option_to_list (vote_of e)) [] here
