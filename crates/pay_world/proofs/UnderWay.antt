-- What is under way between the correct members of a world.
use Rattle.std.proofs.Common.{◌≡◌, ◌≢◌, ◌↔◌, ℕ, ◌+◌, ◌<◌, ◌≤◌, Bool, true, not, List, [], length, slice_get, Option, None, Some, is_some, refl, sym, ap, ◌∙◌, arith, length-append}
use Rattle.std.specs.Option.{option_map_or}
use Rattle.std.proofs.lemmas.Bool.{false≢true, not-false}
use Rattle.std.proofs.lemmas.Option.{slice_get_past}
use Rattle.pay_channel.specs.Prefix.{IsPrefix}
use Rattle.pay_channel.specs.History.{out, delivered_at, list_of}
use Rattle.pay_channel.specs.Taken.{next}
use Rattle.pay_member.specs.Events.{events}
use Rattle.pay_member.specs.Group.{group_in}
use Rattle.pay_member.specs.Member.{MemberFields}
use Rattle.pay_world.specs.Setting.{group_at, IsCorrect, HasFewFaulty}
use Rattle.pay_world.specs.World.{WorldFields, setting_in, member_in, history_in, IsWorld}
use Rattle.pay_world.specs.Convergence.{AllTaken, HasTaken}
use Rattle.pay_world.specs.Converged.{DeliveredAlike, DeliveredAsked, BooksAlike, delivered_in, lists_in}
use Rattle.pay_world.specs.StandLaws.{Convergence, ListsConverge, AsksAreDelivered}
use Rattle.pay_member.specs.Laws.{EqualListsEqualBooksAfter}
use Rattle.pay_world.proofs.Telling.{correct_is_told}
use Rattle.pay_world.proofs.WorldLemmas.{none_past}

-- ---- the next one of a prefix

-- a prefix is the whole exactly where there is no next one
pub nothing_next :
    {X : Type 0} (xs ys : List X) (none : Bool) → IsPrefix xs ys → is_some (slice_get ys (length xs)) ≡ not none
    → (none ≡ true) ↔ (length xs ≡ length ys)
nothing_next {X} xs ys none p is = (there (slice_get ys (length xs)) refl, back) where
  long : length ys ≡ length xs + length p.rest
  long = ap length p.is ∙ length-append xs p.rest

  there : (o : Option X) → slice_get ys (length xs) ≡ o → none ≡ true → length xs ≡ length ys
  there None at so =
      let past = none_past ys (length xs) at in
      omega (arith, long)
  there (Some y) at so = absurd (false≢true (sym (ap not so) ∙ sym is ∙ ap is_some at))

  back : length xs ≡ length ys → none ≡ true
  back same = not-false none (sym is ∙ ap is_some (slice_get_past ys (length xs) (omega (arith, same))))

module _ (w : WorldFields) (is : IsWorld w) where
  -- ---- one member and another

  group_of : (i : ℕ) → group_in w.genesis i ≡ group_at (setting_in w) i
  group_of i = λ t. record { members = sym is.group.members t; faults = sym is.group.faults t; own = i }

  history_of : (i : ℕ) (m : MemberFields) → member_in w i ≡ Some m → events m.history ≡ history_in w i
  history_of i m at = sym (ap (λ (o : Option MemberFields). option_map_or (λ (y : MemberFields). events y.history) o []) at)

  -- where there is no such member, it has nothing to take
  pub nobody_correct : (i : ℕ) → member_in w i ≡ None → IsCorrect (setting_in w) i → ⊥
  nobody_correct i none correct = false≢true (sym (ap is_some none) ∙ is.there i ∙ (correct_is_told (setting_in w) i).1 correct)

  somebody_correct : (i : ℕ) (m : MemberFields) → member_in w i ≡ Some m → IsCorrect (setting_in w) i
  somebody_correct i m at = (correct_is_told (setting_in w) i).0 (sym (is.there i) ∙ ap is_some at)

  -- what the giver has under the number that the taker's next one has
  pub taken_is_told :
      (i j : ℕ) (m x : MemberFields) (none : Bool) → member_in w i ≡ Some m → member_in w j ≡ Some x → i ≢ j
      → is_some (slice_get (out (group_in x.genesis x.keys.own) (events x.history)) (next j (events m.history))) ≡ not none
      → (none ≡ true) ↔ HasTaken (setting_in w) (history_in w) i j
  taken_is_told i j m x none taker giver differ is_none = ((λ so ci cj _. told.0 so), (λ all. told.1 (all ci cj differ))) where
    ci : IsCorrect (setting_in w) i
    ci = somebody_correct i m taker

    cj : IsCorrect (setting_in w) j
    cj = somebody_correct j x giver

    group : group_in x.genesis x.keys.own ≡ group_at (setting_in w) j
    group =
        let at = is.each j x giver in
        ap (λ g. group_in g x.keys.own) at.genesis ∙ ap (group_in w.genesis) at.own ∙ group_of j

    body :
        slice_get (out (group_in x.genesis x.keys.own) (events x.history)) (next j (events m.history))
        ≡ slice_get (out (group_at (setting_in w) j) (history_in w j)) (next j (history_in w i))
    body = λ t. slice_get (out (group t) (history_of j x giver t)) (next j (history_of i m taker t))

    told : (none ≡ true) ↔ (next j (history_in w i) ≡ length (out (group_at (setting_in w) j) (history_in w j)))
    told = nothing_next _ _ none (is.stands.authentic i j ci cj) (sym (ap is_some body) ∙ is_none)

  -- ---- where all was taken

  pub alike : HasFewFaulty (setting_in w) → Convergence → ListsConverge → AllTaken (setting_in w) (history_in w) → DeliveredAlike w
  alike few values lists all = record {
    values = λ i j a s ci cj. value i a s ∙ values (setting_in w) (history_in w) i j a s is.stands few all ci cj ∙ sym (value j a s);
    lists = λ i j a ci cj. list i a ∙ ap (λ f. f a) (lists (setting_in w) (history_in w) i j is.stands few all ci cj) ∙ sym (list j a);
  } where
    value : (i a s : ℕ) → delivered_in w i a s ≡ delivered_at (group_at (setting_in w) i) (history_in w i) a s
    value i a s = ap (λ g. delivered_at g (history_in w i) a s) (group_of i)

    list : (i a : ℕ) → lists_in w i a ≡ list_of (group_at (setting_in w) i) (history_in w i) a
    list i a = ap (λ g. list_of g (history_in w i) a) (group_of i)

  pub asked : HasFewFaulty (setting_in w) → AsksAreDelivered → AllTaken (setting_in w) (history_in w) → DeliveredAsked w
  asked few law all = record {
    each = λ i a s v ci ca at.
        ap (λ g. delivered_at g (history_in w i) a s) (group_of i) ∙ law (setting_in w) (history_in w) i a s v is.stands few all ci ca at;
  }

  pub books : EqualListsEqualBooksAfter → DeliveredAlike w → BooksAlike w
  books equal delivered = record {
    each = λ i j ci cj. equal w.genesis i j (history_in w i) (history_in w j) (λ a inside. delivered.lists i j a ci cj);
  }

  -- what each took of each other one, up to the number of the last member
  pub up_to_all :
      (n : ℕ) → w.genesis.members ≤ n → (i : ℕ)
      → ((j : ℕ) → j < n → HasTaken (setting_in w) (history_in w) i j) → (j : ℕ) → HasTaken (setting_in w) (history_in w) i j
  up_to_all n all i taken j ci cj =
      let member = cj.member in
      let group = is.group.members in
      taken j (omega arith) ci cj

  pub all_of_all : (n : ℕ) → w.genesis.members ≤ n → ((i j : ℕ) → i < n → HasTaken (setting_in w) (history_in w) i j) → AllTaken (setting_in w) (history_in w)
  all_of_all n all taken = record {
    each = λ i j ci.
        (let member = ci.member in
        let group = is.group.members in
        taken i j (omega arith) ci);
  }
