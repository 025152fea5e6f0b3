-- Lists in which something is found once at most.
use Rattle.std.proofs.Common.{◌≡◌, ℕ, ◌+◌, ◌≤◌, ◌==◌, ◌&&◌, Bool, true, false, List, [], ◌∷◌, ◌++◌, length, map, Option, Some, None, inl, inr, refl, sym, ap, ◌∙◌, subst, arith}
use Rattle.std.specs.List.{count_by, filter, enumerate_from}
use Rattle.std.specs.Option.{option_to_list}
use Rattle.std.specs.Prelude.{slice_get}
use Rattle.std.proofs.lemmas.Bool.{cases_eq, ne_eqb}
use Rattle.std.proofs.lemmas.Grind.{common_steps}
use Rattle.std.proofs.lemmas.List.Sums.{length-filter, sum_by-append}
use Rattle.pay_frame.specs.declared.body.Kind.TheVariants.{Send}
use Rattle.pay_frame.specs.Frame.{BodyFields}
use Rattle.pay_channel.specs.Prefix.{IsPrefix}
use Rattle.pay_channel.specs.History.{body_of}
use Rattle.pay_channel.specs.Asked.{is_send_kind, sends_in, sends_of}
use Rattle.pay_channel.specs.SentLaws.{is_said}
use Rattle.pay_laws.specs.Once.{HasVotesOnce}

-- one at most that passes, where those are a value's body or none
pub one_at_most :
    (p : BodyFields → Bool) (xs : List BodyFields) (f : List ℕ → BodyFields) (o : Option (List ℕ))
    → filter p xs ≡ map f (option_to_list o) → count_by p xs ≤ 1
one_at_most p xs f None is =
    let none : count_by p xs ≡ 0 = sym (length-filter p xs) ∙ ap length is in omega arith
one_at_most p xs f (Some v) is =
    let one : count_by p xs ≡ 1 = sym (length-filter p xs) ∙ ap length is in omega arith

-- a beginning of a list has no more of them
pub fewer : (p : BodyFields → Bool) (xs ys : List BodyFields) → IsPrefix xs ys → count_by p ys ≤ 1 → count_by p xs ≤ 1
fewer p xs ys begins few = grind (arith, common_steps)

-- those of two tests are those of one among those of the other
count_both :
    (p q : BodyFields → Bool) (xs : List BodyFields)
    → count_by (λ x. p x && q x) xs ≡ count_by q (filter p xs)
count_both p q [] = refl
count_both p q (x ∷ xs) = let more = count_both p q xs in grind (arith, common_steps)

-- no SEND for one's own values is about another account
none_of_others :
    (own a s : ℕ) (values : List (ℕ × List ℕ)) → (own == a) ≡ false
    → count_by (λ body. body.owner == a && body.seq == s) (map (λ x. body_of Send own x.0 x.1) values) ≡ 0
none_of_others own a s [] other = refl
none_of_others own a s (x ∷ values) other = let more = none_of_others own a s values other in grind (arith, common_steps)

pub no_foreign_send :
    (own a s : ℕ) (bodies : List BodyFields) (values : List (List ℕ))
    → (own == a) ≡ false → sends_in bodies ≡ sends_of own values
    → count_by (is_said is_send_kind a s) bodies ≡ 0
no_foreign_send own a s bodies values other sends =
    count_both (λ body. is_send_kind body.kind) (λ body. body.owner == a && body.seq == s) bodies
    ∙ ap (count_by (λ body. body.owner == a && body.seq == s)) sends
    ∙ none_of_others own a s (enumerate_from 0 values) other

pub one_send :
    (own a s : ℕ) (bodies : List BodyFields) (values : List (List ℕ))
    → filter (is_said is_send_kind own s) bodies ≡ map (body_of Send own s) (option_to_list (slice_get values s))
    → sends_in bodies ≡ sends_of own values → count_by (is_said is_send_kind a s) bodies ≤ 1
one_send own a s bodies values is sends = elim (cases_eq own a) [
  | inl same ↦
      subst (λ b. count_by (is_said is_send_kind b s) bodies ≤ 1) same (one_at_most _ bodies _ (slice_get values s) is)
  | inr other ↦
      let none = no_foreign_send own a s bodies values (ne_eqb own a other) sends in omega arith
]

pub once_in_prefix : (xs ys : List BodyFields) → IsPrefix xs ys → HasVotesOnce ys → HasVotesOnce xs
once_in_prefix xs ys begins once =
    record {
      send = λ a s. fewer _ xs ys begins (once.send a s);
      echo = λ a s. fewer _ xs ys begins (once.echo a s);
      ready = λ a s. fewer _ xs ys begins (once.ready a s);
    }
