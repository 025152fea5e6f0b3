-- Lists that one list begins with, and the longest of an account's lists so far.
use Rattle.std.proofs.Common.{◌≡◌, ⊎_elim, ℕ, zero, suc, ◌+◌, ◌≤◌, List, [], ◌∷◌, ◌++◌, length, slice_get, Some, below_more, refl, ap, sym, subst, ◌∙◌, arith}
use Rattle.std.proofs.lemmas.Bool.{cases_lt}
use Rattle.std.proofs.lemmas.Option.{none-some, same_Some, slice_get_cases, slice_get_within}
use Rattle.pay_channel.specs.Prefix.{IsPrefix}
use Rattle.pay_audit.specs.OneList.{HaveOneListEach, OneListIsNoFork}
use Rattle.pay_audit.specs.Export.{ExportFields, lists_of}
use Rattle.pay_audit.specs.Laws.{AgreeWith, Agreeing}
use Rattle.pay_audit.specs.Said.{EachBefore, EachTwo}
use Rattle.pay_audit.proofs.FirstFork.{all_agree, none_agrees}

-- ---- two lists

on_from : {X : Type 0} (xs more : List X) (s : ℕ) (x : X) → slice_get xs s ≡ Some x → slice_get (xs ++ more) s ≡ Some x
on_from [] more s x at = absurd cc
on_from (y ∷ xs) more zero x at = at
on_from (y ∷ xs) more (suc s) x at = on_from xs more s x at

in_whole : (one whole : List (List ℕ)) → IsPrefix one whole → (s : ℕ) (v : List ℕ) → slice_get one s ≡ Some v → slice_get whole s ≡ Some v
in_whole one whole p s v at = ap (λ l. slice_get l s) p.is ∙ on_from one p.rest s v at

-- prefixes of one list agree
pub prefixes_agree : (whole one other : List (List ℕ)) → IsPrefix one whole → IsPrefix other whole → Agreeing one other
prefixes_agree whole one other p q s v w hv hw =
    same_Some v w (sym (in_whole one whole p s v hv) ∙ in_whole other whole q s w hw)

further : (x y : List ℕ) (one whole : List (List ℕ)) → x ≡ y → IsPrefix one whole → IsPrefix (x ∷ one) (y ∷ whole)
further x y one whole e p = record { rest = p.rest; is = ap (λ z. z ∷ whole) (sym e) ∙ ap (λ zs. x ∷ zs) p.is }

-- what agrees with a list that is no shorter is how that one begins
pub shorter_begins : (one whole : List (List ℕ)) → length one ≤ length whole → Agreeing one whole → IsPrefix one whole
shorter_begins [] whole short same = record { rest = whole; is = refl }
shorter_begins (x ∷ one) [] short same = absurd (omega (arith, short))
shorter_begins (x ∷ one) (y ∷ whole) short same =
    further x y one whole (same 0 x y refl refl) (shorter_begins one whole (omega (arith, short)) (λ s v w hv hw. same (suc s) v w hv hw))

append_twice : (a b c : List (List ℕ)) → (a ++ b) ++ c ≡ a ++ (b ++ c)
append_twice [] b c = refl
append_twice (x ∷ a) b c = ap (λ l. x ∷ l) (append_twice a b c)

pub begins_longer : (one mid whole : List (List ℕ)) → IsPrefix one mid → IsPrefix mid whole → IsPrefix one whole
begins_longer one mid whole p q = record {
  rest = p.rest ++ q.rest;
  is = q.is ∙ ap (λ l. l ++ q.rest) p.is ∙ append_twice one p.rest q.rest;
}

pub whole_begins : (whole : List (List ℕ)) → IsPrefix whole whole
whole_begins [] = record { rest = []; is = refl }
whole_begins (x ∷ whole) = further x x whole whole refl (whole_begins whole)

pub agree_swapped : (one other : List (List ℕ)) → Agreeing one other → Agreeing other one
agree_swapped one other same s v w hv hw = sym (same s w v hw hv)

-- ---- each of the first ones

each_more : (Is : ExportFields → Type 0) (exports : List ExportFields) (n : ℕ) (e : ExportFields) → slice_get exports n ≡ Some e
    → EachBefore n Is exports → Is e → EachBefore (n + 1) Is exports
each_more Is exports n e at before here x d below got =
    below_more (λ k. (f : ExportFields) → slice_get exports k ≡ Some f → Is f) n (λ k under f is. before k f under is)
    (λ f is. subst Is (same_Some e f (sym at ∙ is)) here) x below d got

-- ---- the longest list of the first exports

-- it begins with each of them, and what agrees with each of them agrees with it
pub record IsLongest (exports : List ExportFields) (n a : ℕ) (list : List (List ℕ)) : Type 0 where
  pub begins : EachBefore n (λ e. IsPrefix (lists_of e a) list) exports
  pub agrees : (w : List (List ℕ)) → EachBefore n (λ e. Agreeing (lists_of e a) w) exports → Agreeing list w

pub of_none : (exports : List ExportFields) (a : ℕ) → IsLongest exports 0 a []
of_none exports a = record {
  begins = λ x e below got. absurd (omega (arith, below));
  agrees = λ w all s u v hu hv. absurd (none-some u hu);
}

pub longer : (exports : List ExportFields) (n a : ℕ) (list new : List (List ℕ)) (e : ExportFields) → IsLongest exports n a list
    → slice_get exports n ≡ Some e → new ≡ lists_of e a → Agreeing list new → length list ≤ length new → IsLongest exports (n + 1) a new
longer exports n a list new e l at is same long = record {
  begins =
      each_more (λ d. IsPrefix (lists_of d a) new) exports n e at
      (λ x d below got. begins_longer (lists_of d a) list new (l.begins x d below got) (shorter_begins list new long same))
      (subst (λ m. IsPrefix m new) is (whole_begins new));
  agrees = λ w all. subst (λ m. Agreeing m w) (sym is) (all n e (omega arith) at);
}

pub no_longer : (exports : List ExportFields) (n a : ℕ) (list new : List (List ℕ)) (e : ExportFields) → IsLongest exports n a list
    → slice_get exports n ≡ Some e → new ≡ lists_of e a → Agreeing list new → length new ≤ length list → IsLongest exports (n + 1) a list
no_longer exports n a list new e l at is same short = record {
  begins =
      each_more (λ d. IsPrefix (lists_of d a) list) exports n e at l.begins
      (subst (λ m. IsPrefix m list) is (shorter_begins new list short (agree_swapped list new same)));
  agrees = λ w all. l.agrees w (λ x d below got. all x d (omega (arith, below)) got);
}

-- ---- no fork

agree_by_lists : (exports : List ExportFields) → HaveOneListEach exports → EachTwo AgreeWith exports
agree_by_lists exports have x y one other at_one at_other a =
    let h = have a in
    prefixes_agree h.list (lists_of one a) (lists_of other a) (h.begins x one at_one) (h.begins y other at_other)

record SomeLongest (exports : List ExportFields) (n a : ℕ) : Type 0 where
  list : List (List ℕ)
  is : IsLongest exports n a list

next_longest : (exports : List ExportFields) (n a : ℕ) (e : ExportFields) → EachTwo AgreeWith exports → slice_get exports n ≡ Some e
    → SomeLongest exports n a → SomeLongest exports (n + 1) a
next_longest exports n a e same at l =
    let agree : Agreeing l.list (lists_of e a) = l.is.agrees (lists_of e a) (λ x d below got. same x n d e got at a) in
    ⊎_elim (λ shorter. record { list = lists_of e a; is = longer exports n a l.list (lists_of e a) e l.is at refl agree (omega (arith, shorter)) })
    (λ longer. record { list = l.list; is = no_longer exports n a l.list (lists_of e a) e l.is at refl agree longer }) (cases_lt (length l.list) (length (lists_of e a)))

longest : (exports : List ExportFields) (a : ℕ) → EachTwo AgreeWith exports → (n : ℕ) → n ≤ length exports → SomeLongest exports n a
longest exports a same zero within = record { list = []; is = of_none exports a }
longest exports a same (suc n) within =
    let before = longest exports a same n (omega (arith, within)) in
    ⊎_elim (λ inside. subst (λ k. SomeLongest exports k a) (let e : n + 1 ≡ suc n = omega arith in e) (next_longest exports n a inside.0 same inside.2 before))
    (λ past. absurd (omega (arith, within, past.0))) (slice_get_cases exports n).1

lists_by_agreeing : (exports : List ExportFields) → EachTwo AgreeWith exports → HaveOneListEach exports
lists_by_agreeing exports same a =
    let l = longest exports a same (length exports) (omega arith) in
    record { list = l.list; begins = λ x e got. l.is.begins x e (slice_get_within exports x e got) got }

pub one_list_is_no_fork : OneListIsNoFork
one_list_is_no_fork exports =
    (λ none. lists_by_agreeing exports (all_agree 0 exports none), λ have. none_agrees 0 exports (agree_by_lists exports have))
