-- Lists of accounts, each at most once.
use Rattle.std.proofs.Common.{◌≡◌, ◌≢◌, ℕ, ◌<◌, ◌≤◌, false, eqb, List, [], ◌∷◌, ◌++◌, length, get_or, sym, subst, arith, ⊎_elim}
use Rattle.std.specs.Prelude.{All, Contains}
use Rattle.std.specs.List.{list_any}
use Rattle.std.proofs.lemmas.Bool.{both_ways, eq-eqb, eqb-true}
use Rattle.std.proofs.lemmas.Bool.Decides.{Decides-eqb}
use Rattle.std.proofs.lemmas.List.{length-append, get_or_append_left}
use Rattle.std.proofs.lemmas.List.Elements.{All-nil, All-cons, All-head, All-tail, All-push, All-contains, Contains-push_cases}
use Rattle.std.proofs.lemmas.List.Folds.{list_any_at}
use Rattle.std.proofs.lemmas.List.Quantifiers.{all_pairs_push}
use Rattle.std.proofs.lemmas.Map.Made.{IsDistinct-from_AllPairs}
use Rattle.std.proofs.lemmas.Map.Steps.{length-le_from_distinct_below}
use Rattle.std.proofs.lemmas.Map.Views.{Contains-from_any}
use Rattle.pay_pending.specs.Waiting.{IsWaitingList}

-- no more accounts are on the list than there are
pub length-waiting : (n : ℕ) (waiting : List ℕ) → IsWaitingList n waiting → length waiting ≤ n
length-waiting n waiting list =
    length-le_from_distinct_below waiting n (IsDistinct-from_AllPairs Decides-eqb waiting list.once)
    (λ q e. All-contains (λ a. a < n) waiting q list.there (Contains-from_any (λ x y. eqb-true x y) q waiting e))

pub IsWaitingList-push : (n : ℕ) (waiting : List ℕ) (account : ℕ) → IsWaitingList n waiting → account < n → list_any (λ y. eqb y account) waiting ≡ false → IsWaitingList n (waiting ++ account ∷ [])
IsWaitingList-push n waiting account list h absent = record {
  there = All-push (λ a. a < n) waiting account list.there h;
  once = all_pairs_push (λ a b. a ≢ b) waiting account list.once
      (λ k d below e. both_ways (list_any (λ y. eqb y account) waiting) absent (list_any_at (λ y. eqb y account) waiting k d below (eq-eqb (get_or waiting k d) account e)));
}

-- so there is room for one that isn't on it
pub room_for_one : (n : ℕ) (waiting : List ℕ) (account : ℕ) → IsWaitingList n waiting → account < n → list_any (λ y. eqb y account) waiting ≡ false → length waiting < n
room_for_one n waiting account list h absent =
    let all = length-waiting n (waiting ++ account ∷ []) (IsWaitingList-push n waiting account list h absent) in
    let more = length-append waiting (account ∷ []) in
    omega arith

All-append_left : {X : Type 0} (P : X → Type 0) (xs ys : List X) → All P (xs ++ ys) → All P xs
All-append_left P [] ys all = All-nil P
All-append_left P (x ∷ xs) ys all =
    All-cons P x xs (All-head P x (xs ++ ys) all) (All-append_left P xs ys (All-tail P x (xs ++ ys) all))

-- the list without its last account
pub IsWaitingList-pop : (n : ℕ) (waiting rest : List ℕ) (account : ℕ) → waiting ≡ rest ++ account ∷ [] → IsWaitingList n waiting → IsWaitingList n rest
IsWaitingList-pop n waiting rest account e list =
    let P : List ℕ → Type 0 = λ xs. IsWaitingList n xs in
    shorter rest (subst P e list)
  where
    shorter : (rest : List ℕ) → IsWaitingList n (rest ++ account ∷ []) → IsWaitingList n rest
    shorter rest list =
        let long = length-append rest (account ∷ []) in
        record {
          there = All-append_left (λ a. a < n) rest (account ∷ []) list.there;
          once = λ i j d less below.
              (let both : get_or (rest ++ account ∷ []) i d ≢ get_or (rest ++ account ∷ []) j d = list.once i j d less (omega arith) in
              rw (← get_or_append_left rest (account ∷ []) d i (omega arith), ← get_or_append_left rest (account ∷ []) d j below) both);
        }

-- who was on it and isn't the last still is
pub still_waiting : (waiting rest : List ℕ) (account a : ℕ) → waiting ≡ rest ++ account ∷ [] → Contains waiting a → a ≢ account → Contains rest a
still_waiting waiting rest account a e on ne =
    let P : List ℕ → Type 0 = λ xs. Contains xs a in
    ⊎_elim (λ there. there) (λ same. absurd (ne (sym same))) (Contains-push_cases rest account a (subst P e on))
