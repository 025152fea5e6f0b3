-- What genuine actions make of lists and books.
use Rattle.std.proofs.Common.{◌≡◌, ◌⊎◌, ℕ, ◌+◌, ◌≤◌, Bool, true, false, cond, eqb, ltb, leb, ◌&&◌, List, [], ◌∷◌, ◌++◌, length, refl, sym, ap, ◌∙◌, subst, arith, append-nil}
use Rattle.std.proofs.lemmas.Bool.{and_parts, ltb-true}
use Rattle.pay_frame.specs.declared.limits.TheConstants.{GREATEST_VALUE}
use Rattle.pay_channel.specs.Prefix.{IsPrefix}
use Rattle.pay_channel.specs.History.{Event, is_ask, asks, seqs}
use Rattle.pay_channel.specs.Asked.{asked_values}
use Rattle.pay_book.specs.Settled.{settled_book}
use Rattle.pay_world.specs.Setting.{Setting, IsCorrect, HasFewFaulty}
use Rattle.pay_world.specs.Actions.{Action, Asks, Brings, member_of, event_of, counts, history_by}
use Rattle.pay_world.specs.Genuine.{AreGenuine}
use Rattle.pay_world.specs.Convergence.{AllTaken}
use Rattle.pay_world.specs.Headline.{lists_by, book_by, IsBookOf, Headline}
use Rattle.pay_world.specs.Below.{Below, OfBooks}
use Rattle.pay_world.proofs.Lists.{by_push}
use Rattle.pay_world.proofs.Happening.{no_history_at_first, history_by_one_more, genuine_prefix, genuine_stands, prefixes_grow}
use Rattle.pay_world.proofs.Agreeing.{lists_compare, list_is_asked, list_grows}
use Rattle.pay_world.proofs.Converging.{lists_converge, list_is_all}

-- the book of any lists
pub book_of_lists : (books : OfBooks) (opening : List ℕ) (lists : ℕ → List (List ℕ)) → IsBookOf opening lists (settled_book opening lists)
book_of_lists books opening lists =
    let settled = books.settled_book_exists opening lists in
    record {
      largest = books.settled_is_largest lists (settled_book opening lists) settled;
      balances = settled.is.are;
      nobody_owes = books.nobody_owes opening lists;
      total = books.keeps_total lists (settled_book opening lists) settled.is;
    }

pub list_stays : (below : Below) (w : Setting) (one actions : List Action) (i a : ℕ) → IsPrefix one actions → IsPrefix (lists_by w one i a) (lists_by w actions i a)
list_stays below w one actions i a p = list_grows below w (history_by w one) (history_by w actions) i a (prefixes_grow w one actions p)

-- ---- nobody asks for more values than there are numbers

-- what an ask that counts finds
ask_has_room : (w : Setting) (history : List Event) (d : Action) → asks history ≤ seqs → counts w history d ≡ true → cond (is_ask (event_of d)) (asks history + 1) (asks history) ≤ seqs
ask_has_room w history (Asks k v) few count =
    let room = ltb-true (asks history) seqs (and_parts (leb (length v) GREATEST_VALUE) (ltb (asks history) seqs) count).1 in
    omega arith
ask_has_room w history (Brings k from number body) few count = few

Short : Setting → ℕ → List Action → Type 0
Short w i actions = asks (history_by w actions i) ≤ seqs

asks_are_few : (below : Below) (w : Setting) (i : ℕ) (actions : List Action) → asks (history_by w actions i) ≤ seqs
unfolding Short
asks_are_few below w i = by_push (Short w i) first more where
  first : asks (history_by w [] i) ≤ seqs
  first =
      let none = ap asks (no_history_at_first w i) ∙ below.channel.no_asks_at_first in
      omega arith

  more : (actions : List Action) (d : Action) → asks (history_by w actions i) ≤ seqs → asks (history_by w (actions ++ d ∷ []) i) ≤ seqs
  more actions d few =
      subst (λ l. asks l ≤ seqs) (sym (history_by_one_more w actions d i)) (go (eqb (member_of d) i && counts w history d) refl) where
        history : List Event
        history = history_by w actions i

        go : (b : Bool) → (eqb (member_of d) i && counts w history d) ≡ b → asks (history ++ cond b (event_of d ∷ []) []) ≤ seqs
        go true is =
            let count = (and_parts (eqb (member_of d) i) (counts w history d) is).1 in
            subst (λ n. n ≤ seqs) (sym (below.channel.asks_by_one_more history (event_of d))) (ask_has_room w history d few count)
        go false is = subst (λ l. asks l ≤ seqs) (sym (append-nil history)) few

asked_is_short : (below : Below) (w : Setting) (actions : List Action) (a : ℕ) → length (asked_values (history_by w actions a)) ≤ seqs
asked_is_short below w actions a = subst (λ n. n ≤ seqs) (below.channel.asks_are_counted (history_by w actions a)) (asks_are_few below w a actions)

module _ (below : Below) (w : Setting) (actions : List Action) (few : HasFewFaulty w) (are : AreGenuine w actions) where
  pub no_list_forks :
      (one other : List Action) (i j a : ℕ) → IsPrefix one actions → IsPrefix other actions → IsCorrect w i → IsCorrect w j
      → IsPrefix (lists_by w one i a) (lists_by w other j a) ⊎ IsPrefix (lists_by w other j a) (lists_by w one i a)
  no_list_forks one other i j a p q ci cj =
      lists_compare below w (history_by w actions) (genuine_stands below w actions few are) few (history_by w one) (history_by w other) i j a
      (prefixes_grow w one actions p) (prefixes_grow w other actions q) ci cj

  pub list_was_asked : (i a : ℕ) → IsCorrect w i → IsCorrect w a → IsPrefix (lists_by w actions i a) (asked_values (history_by w actions a))
  list_was_asked i a ci ca = list_is_asked below w (history_by w actions) (genuine_stands below w actions few are) few i a ci ca

  pub lists_are_equal : (i j : ℕ) → AllTaken w (history_by w actions) → IsCorrect w i → IsCorrect w j → lists_by w actions i ≡ lists_by w actions j
  lists_are_equal i j all ci cj = lists_converge below w (history_by w actions) (genuine_stands below w actions few are) few all i j ci cj

  pub list_is_complete : (i a : ℕ) → AllTaken w (history_by w actions) → IsCorrect w i → IsCorrect w a → lists_by w actions i a ≡ asked_values (history_by w actions a)
  list_is_complete i a all ci ca = list_is_all below w (history_by w actions) (genuine_stands below w actions few are) few all i a ci ca (asked_is_short below w actions a)

module _ (below : Below) (books : OfBooks) (w : Setting) (opening : List ℕ) (actions : List Action) (few : HasFewFaulty w) (are : AreGenuine w actions) where
  pub headline : Headline w opening actions
  headline = record {
    agree = λ one other i j a p q ci cj.
        books.entries_compare opening (lists_by w one i) (lists_by w other j) a
        (no_list_forks below w actions few are one other i j a p q ci cj);
    for_good = λ one other i a p q ci account.
        books.entries_grow opening (lists_by w one i) (lists_by w other i) (λ b _. list_stays below w one other i b p) a account;
    asked = λ one i a p ci ca.
        books.entries_were_asked opening (lists_by w one i) a (asked_values (history_by w one a))
        (list_was_asked below w one few (genuine_prefix w one actions p are) i a ci ca);
    book = λ one i p ci. book_of_lists books opening (lists_by w one i);
    equal = λ one other i j p q ci cj same.
        books.equal_books (lists_by w one i) (lists_by w other j) (book_by w opening one i) (book_by w opening other j) refl same
        (books.settled_book_exists opening (lists_by w one i)) (books.settled_book_exists opening (lists_by w other j));
  }

  pub books_converge : (i j : ℕ) → AllTaken w (history_by w actions) → IsCorrect w i → IsCorrect w j → book_by w opening actions i ≡ book_by w opening actions j
  books_converge i j all ci cj = ap (settled_book opening) (lists_are_equal below w actions few are i j all ci cj)
