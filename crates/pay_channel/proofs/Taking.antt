-- What was taken from one other member.
use Rattle.std.proofs.Common.{◌≡◌, ℕ, zero, suc, ◌+◌, Bool, true, false, cond, eqb, List, [], ◌∷◌, ◌++◌, length, Option, None, Some, option_to_list, count_by, Contains, refl, sym, ap, ◌∙◌, subst, arith, eqb-true, eq-eqb, append-nil, length-append, zero-add}
use Rattle.std.specs.List.{cons_option, filter_map}
use Rattle.std.proofs.lemmas.Bool.{cond-true, cond-false}
use Rattle.std.proofs.lemmas.List.Sums.{sum_by-cons}
use Rattle.std.proofs.lemmas.List.Elements.{filter_map-append}
use Rattle.pay_frame.specs.Frame.{BodyFields}
use Rattle.pay_channel.specs.History.{Event, Ask, From}
use Rattle.pay_channel.specs.Taken.{is_from, body_from, taken_bodies}
use Rattle.pay_channel.specs.TakenLaws.{NothingTakenAtFirst, TakenByOneMore, TakenFromHere, TakenFromElsewhere, TakenGrows, TakenIsFrom, NextIsCount, NextByOneMore}
use Rattle.pay_channel.proofs.Lists.{none_some, some_same, came_by_push, there_by_push}

pub nothing_taken_at_first : NothingTakenAtFirst
unfolding taken_bodies
nothing_taken_at_first p = refl

pub taken_grows : TakenGrows
unfolding taken_bodies
taken_grows p history more = filter_map-append (body_from p) history more

taken_bodies-one : (p : ℕ) (e : Event) → taken_bodies p (e ∷ []) ≡ option_to_list (body_from p e)
unfolding taken_bodies
taken_bodies-one p e = go (body_from p e) where
  go : (o : Option BodyFields) → cons_option o [] ≡ option_to_list o
  go None = refl
  go (Some body) = refl

pub taken_by_one_more : TakenByOneMore
taken_by_one_more p history e = taken_grows p history (e ∷ []) ∙ ap (λ bodies. taken_bodies p history ++ bodies) (taken_bodies-one p e)

body_from-here : (p : ℕ) (body : BodyFields) → body_from p (From p body) ≡ Some body
body_from-here p body = cond-true (eqb p p) (Some body) None (eq-eqb p p refl)

body_from-elsewhere : (p : ℕ) (e : Event) → is_from p e ≡ false → body_from p e ≡ None
body_from-elsewhere p (Ask v) other = refl
body_from-elsewhere p (From q body) other = cond-false (eqb q p) (Some body) None other

pub taken_from_here : TakenFromHere
taken_from_here p history body =
    taken_by_one_more p history (From p body) ∙ ap (λ (o : Option BodyFields). taken_bodies p history ++ option_to_list o) (body_from-here p body)

pub taken_from_elsewhere : TakenFromElsewhere
taken_from_elsewhere p history e other =
    taken_by_one_more p history e
    ∙ ap (λ (o : Option BodyFields). taken_bodies p history ++ option_to_list o) (body_from-elsewhere p e other)
    ∙ append-nil (taken_bodies p history)

-- ---- whose bodies they are

body_from-is : (p : ℕ) (e : Event) (body : BodyFields) → body_from p e ≡ Some body → e ≡ From p body
body_from-is p (Ask v) body is = absurd (none_some body is)
body_from-is p (From q b) body is = go (eqb q p) (eqb-true q p) is where
  go : (t : Bool) → (t ≡ true → q ≡ p) → cond t (Some b) None ≡ Some body → From q b ≡ From p body
  go true same found = ap (λ n. From n b) (same refl) ∙ ap (From p) (some_same b body found)
  go false same found = absurd (none_some body found)

abbrev Given : ℕ → List Event → Event → List BodyFields
Given p history e = option_to_list (body_from p e)

given-is : (p : ℕ) (body : BodyFields) (history : List Event) (e : Event) → Contains (Given p history e) body → e ≡ From p body
given-is p body history e at = body_from-is p e body (go (body_from p e) at) where
  go : (o : Option BodyFields) → Contains (option_to_list o) body → o ≡ Some body
  go None at = absurd (omega (arith, at.1))
  go (Some b) (zero, below, is) = ap Some is
  go (Some b) (suc k, below, is) = absurd (omega arith)

given-there : (p : ℕ) (body : BodyFields) (history : List Event) → Contains (Given p history (From p body)) body
given-there p body history =
    let P : Option BodyFields → Type 0 = λ o. Contains (option_to_list o) body in
    subst P (sym (body_from-here p body)) (zero, omega arith, refl)

pub taken_is_from : TakenIsFrom
taken_is_from p history body = (
  came_by_push (taken_bodies p) (Given p) (taken_by_one_more p) (From p body) body (nothing_taken_at_first p) (given-is p body) history,
  there_by_push (taken_bodies p) (Given p) (taken_by_one_more p) (From p body) body (given-there p body) history,
)

-- ---- how many they are

count_from : (p : ℕ) (history : List Event) → length (filter_map (body_from p) history) ≡ count_by (is_from p) history
count_from p [] = refl
count_from p (Ask v ∷ history) = count_from p history ∙ sym (zero-add (count_by (is_from p) history)) ∙ sym (sum_by-cons (λ x. cond (is_from p x) 1 0) (Ask v) history)
count_from p (From q body ∷ history) =
    go (eqb q p) (count_from p history) ∙ sym (sum_by-cons (λ x. cond (is_from p x) 1 0) (From q body) history) where
      go : (t : Bool) → length (filter_map (body_from p) history) ≡ count_by (is_from p) history
          → length (cons_option (cond t (Some body) None) (filter_map (body_from p) history)) ≡ cond t 1 0 + count_by (is_from p) history
      go true rest = omega arith
      go false rest = omega arith

pub next_is_count : NextIsCount
unfolding taken_bodies
next_is_count p history = count_from p history

pub next_by_one_more : NextByOneMore
next_by_one_more p history e = ap length (taken_by_one_more p history e) ∙ go e where
  go : (d : Event) → length (taken_bodies p history ++ option_to_list (body_from p d)) ≡ cond (is_from p d) (length (taken_bodies p history) + 1) (length (taken_bodies p history))
  go (Ask v) = ap length (append-nil (taken_bodies p history))
  go (From q body) = here (eqb q p) where
    here : (t : Bool) → length (taken_bodies p history ++ option_to_list (cond t (Some body) None)) ≡ cond t (length (taken_bodies p history) + 1) (length (taken_bodies p history))
    here true = length-append (taken_bodies p history) (body ∷ [])
    here false = ap length (append-nil (taken_bodies p history))
