-- One export more among those whose lists were compared.
use Rattle.std.proofs.Common.{◌≡◌, ⊎_elim, ℕ, zero, suc, ◌≤◌, ◌||◌, List, [], ◌∷◌, ◌++◌, length, map, nat_lt, Bool, true, false, Option, Some, None, Result, Ok, Err, IfOk, if◌then◌else◌, refl, ap, ap₂, sym, subst, append_assoc, append-nil, ◌∙◌, arith}
use Rattle.std.specs.Option.{is_some}
use Rattle.std.specs.List.{list_any}
use Rattle.std.proofs.lemmas.Bool.{cases_lt, lt-ltb, ltb-true}
use Rattle.std.proofs.lemmas.List.{map-append}
use Rattle.std.proofs.lemmas.Option.{same_Some}
use Rattle.pay_channel.specs.Prefix.{IsPrefix}
use Rattle.pay_audit.specs.Compared.{FirstDiffers, HasCompared, IsLongest, differences_of, lengths_of, longer}
use Rattle.pay_audit.specs.Export.{ExportFields, list_in, lists_of}
use Rattle.pay_audit.specs.Laws.{Agreeing}
use Rattle.pay_audit.specs.Said.{Each}
use Rattle.pay_audit.specs.Verdict.{fork_place}
use Rattle.pay_audit.proofs.OneList.{agree_swapped, begins_longer, shorter_begins, whole_begins}
use Rattle.pay_audit.proofs.Forking.{agree_at, at_agree}

-- ---- of each export, and of one more

pub each_more : (Is : ExportFields → Type 0) (xs : List ExportFields) (e : ExportFields) → Each Is xs → Is e → Each Is (xs ++ e ∷ [])
each_more Is [] e all is zero d got = subst Is (same_Some e d got) is
each_more Is [] e all is (suc x) d got = absurd cc
each_more Is (y ∷ xs) e all is zero d got = all zero d got
each_more Is (y ∷ xs) e all is (suc x) d got = each_more Is xs e (λ k c at. all (suc k) c at) is x d got

each_first : (Is : ExportFields → Type 0) (xs : List ExportFields) (e : ExportFields) → Each Is (xs ++ e ∷ []) → Each Is xs
each_first Is [] e all x d got = absurd cc
each_first Is (y ∷ xs) e all zero d got = all zero d got
each_first Is (y ∷ xs) e all (suc x) d got = each_first Is xs e (λ k c at. all (suc k) c at) x d got

each_last : (Is : ExportFields → Type 0) (xs : List ExportFields) (e : ExportFields) → Each Is (xs ++ e ∷ []) → Is e
each_last Is [] e all = all 0 e refl
each_last Is (y ∷ xs) e all = each_last Is xs e (λ k c at. all (suc k) c at)

-- ---- the longest list

longest_new : (xs : List ExportFields) (e : ExportFields) (a : ℕ) (list : List (List ℕ)) → IsLongest xs a list → Agreeing list (lists_of e a)
    → length list ≤ length (lists_of e a) → IsLongest (xs ++ e ∷ []) a (lists_of e a)
longest_new xs e a list l same order = record {
  begins = each_more (λ d. IsPrefix (lists_of d a) (lists_of e a)) xs e
      (λ x d got. begins_longer (lists_of d a) list (lists_of e a) (l.begins x d got) (shorter_begins list (lists_of e a) order same))
      (whole_begins (lists_of e a));
  agrees = λ w all. each_last (λ d. Agreeing (lists_of d a) w) xs e all;
}

longest_kept : (xs : List ExportFields) (e : ExportFields) (a : ℕ) (list : List (List ℕ)) → IsLongest xs a list → Agreeing list (lists_of e a)
    → length (lists_of e a) ≤ length list → IsLongest (xs ++ e ∷ []) a list
longest_kept xs e a list l same order = record {
  begins = each_more (λ d. IsPrefix (lists_of d a) list) xs e l.begins
      (shorter_begins (lists_of e a) list order (agree_swapped list (lists_of e a) same));
  agrees = λ w all. l.agrees w (each_first (λ d. Agreeing (lists_of d a) w) xs e all);
}

longest_of : (xs : List ExportFields) (e : ExportFields) (a : ℕ) (list : List (List ℕ)) → IsLongest xs a list → Agreeing list (lists_of e a)
    → IsLongest (xs ++ e ∷ []) a (longer list (lists_of e a))
longest_of xs e a list l same = go (nat_lt (length list) (length (lists_of e a))) refl where
  go : (b : Bool) → nat_lt (length list) (length (lists_of e a)) ≡ b → IsLongest (xs ++ e ∷ []) a (if b then lists_of e a else list)
  go true is = (let less = ltb-true (length list) (length (lists_of e a)) is in longest_new xs e a list l same (omega (arith, less)))
  go false is =
      ⊎_elim (λ less. (let yes = lt-ltb (length list) (length (lists_of e a)) less in absurd cc)) (λ order. longest_kept xs e a list l same order)
      (cases_lt (length list) (length (lists_of e a)))

-- ---- whether lists differ

no_place : (l m : List (List ℕ)) → Agreeing l m → fork_place l m ≡ None
unfolding fork_place
no_place l m same = at_agree 0 l m same

place_none : (l m : List (List ℕ)) → fork_place l m ≡ None → Agreeing l m
unfolding fork_place
place_none l m h = agree_at 0 l m h

none_differ : (longest lists : List (List (List ℕ))) → ((a : ℕ) → Agreeing (list_in longest a) (list_in lists a))
    → list_any is_some (differences_of longest lists) ≡ false
none_differ [] lists same = refl
none_differ (l ∷ longest) [] same = refl
none_differ (l ∷ longest) (m ∷ lists) same =
    ap₂ (λ b c. b || c) (ap is_some (no_place l m (same 0))) (none_differ longest lists (λ a. same (suc a)))

not_some : (o : Option ℕ) (b : Bool) → (is_some o || b) ≡ false → (o ≡ None) × (b ≡ false)
not_some None b h = (refl, h)
not_some (Some x) b h = absurd cc

agree_all : (longest lists : List (List (List ℕ))) → list_any is_some (differences_of longest lists) ≡ false
    → (a : ℕ) → Agreeing (list_in longest a) (list_in lists a)
agree_all [] lists h a = λ s v w hv hw. absurd cc
agree_all (l ∷ longest) [] h a = λ s v w hv hw. absurd cc
agree_all (l ∷ longest) (m ∷ lists) h zero = place_none l m (not_some (fork_place l m) (list_any is_some (differences_of longest lists)) h).0
agree_all (l ∷ longest) (m ∷ lists) h (suc a) =
    agree_all longest lists (not_some (fork_place l m) (list_any is_some (differences_of longest lists)) h).1 a

-- ---- one more

pub of_all_four : {A E : Type 0} (P Q R S T : A → Type 0) (r : Result A E) → IfOk r P → IfOk r Q → IfOk r R → IfOk r S
    → ((x : A) → P x → Q x → R x → S x → T x) → IfOk r T
of_all_four P Q R S T (Ok x) p q r s all = all x p q r s
of_all_four P Q R S T (Err e) p q r s all = tt

no_others : {A B : Type 0} (f : A → B) (xs : List A) → map f xs ≡ [] → xs ≡ []
no_others f [] h = refl
no_others f (x ∷ xs) h = absurd cc

pub none_compared : HasCompared [] [] [] []
none_compared = record {
  agreeing = [];
  others = [];
  parts = refl;
  are_longest = λ a. record { begins = λ x e got. absurd cc; agrees = λ w all s u v hu hv. absurd cc };
  accounts = λ x e got. absurd cc;
  are_lengths = refl;
  are_differences = refl;
  differs = tt;
}

pub joined : (exports : List ExportFields) (longest now : List (List (List ℕ))) (lengths : List (List ℕ)) (differences : List (List (Option ℕ))) (e : ExportFields)
    → HasCompared exports longest lengths differences → differences ≡ [] → list_any is_some (differences_of longest e.lists) ≡ false
    → ((a : ℕ) → list_in now a ≡ longer (list_in longest a) (lists_of e a)) → length e.lists ≤ length now → length longest ≤ length now
    → HasCompared (exports ++ e ∷ []) now (lengths ++ lengths_of e.lists ∷ []) differences
joined exports longest now lengths differences e h none alike is own order =
    let alone : h.others ≡ [] = no_others (λ (d : ExportFields). differences_of longest d.lists) h.others (sym h.are_differences ∙ none) in
    record {
      agreeing = h.agreeing ++ e ∷ [];
      others = [];
      parts = ap (λ xs. xs ++ e ∷ []) (h.parts ∙ ap (λ xs. h.agreeing ++ xs) alone ∙ append-nil h.agreeing) ∙ sym (append-nil (h.agreeing ++ e ∷ []));
      are_longest = λ a. subst (IsLongest (h.agreeing ++ e ∷ []) a) (sym (is a))
          (longest_of h.agreeing e a (list_in longest a) (h.are_longest a) (agree_all longest e.lists alike a));
      accounts = each_more (λ d. length d.lists ≤ length now) h.agreeing e
          (λ x d got. (let few = h.accounts x d got in omega (arith, few, order))) own;
      are_lengths = ap (λ ls. ls ++ lengths_of e.lists ∷ []) h.are_lengths ∙ sym (map-append (λ (d : ExportFields). lengths_of d.lists) h.agreeing (e ∷ []));
      are_differences = none;
      differs = tt;
    }

still_differs : (longest : List (List (List ℕ))) (others : List ExportFields) (e : ExportFields) → FirstDiffers longest others
    → (others ≡ [] → list_any is_some (differences_of longest e.lists) ≡ true) → FirstDiffers longest (others ++ e ∷ [])
still_differs longest [] e differs now = λ same. (let yes = now refl in let no = none_differ longest e.lists same in absurd cc)
still_differs longest (d ∷ others) e differs now = differs

none_of : {A B : Type 0} (f : A → B) (xs : List A) → xs ≡ [] → map f xs ≡ []
none_of f [] h = refl
none_of f (x ∷ xs) h = absurd cc

pub behind : (exports : List ExportFields) (longest : List (List (List ℕ))) (lengths : List (List ℕ)) (differences : List (List (Option ℕ))) (e : ExportFields)
    → HasCompared exports longest lengths differences → (differences ≡ [] → list_any is_some (differences_of longest e.lists) ≡ true)
    → HasCompared (exports ++ e ∷ []) longest lengths (differences ++ differences_of longest e.lists ∷ [])
behind exports longest lengths differences e h differs = record {
  agreeing = h.agreeing;
  others = h.others ++ e ∷ [];
  parts = ap (λ xs. xs ++ e ∷ []) h.parts ∙ append_assoc h.agreeing h.others (e ∷ []);
  are_longest = h.are_longest;
  accounts = h.accounts;
  are_lengths = h.are_lengths;
  are_differences = ap (λ ds. ds ++ differences_of longest e.lists ∷ []) h.are_differences
      ∙ sym (map-append (λ (d : ExportFields). differences_of longest d.lists) h.others (e ∷ []));
  differs = still_differs longest h.others e h.differs
      (λ none. differs (h.are_differences ∙ none_of (λ (d : ExportFields). differences_of longest d.lists) h.others none));
}
