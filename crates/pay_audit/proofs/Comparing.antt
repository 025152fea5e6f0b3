-- The first fork between exports by where their lists first differ from the longest.
use Rattle.std.proofs.Common.{◌≡◌, ℕ, suc, ◌+◌, ◌<◌, ◌≤◌, List, [], ◌∷◌, ◌++◌, drop, length, map, slice_get, nat_lt, Bool, true, false, Option, Some, None, option_map, if◌then◌else◌, refl, ap, ap₂, sym, ◌∙◌, arith}
use Rattle.std.specs.Option.{option_or}
use Rattle.std.specs.List.{zip}
use Rattle.std.specs.Str.{bytes_eq}
use Rattle.std.proofs.lemmas.Bool.{ltb-true, lt-ltb}
use Rattle.std.proofs.lemmas.List.{drop_all, length-map}
use Rattle.std.proofs.lemmas.Option.{same_Some, slice_get-map}
use Rattle.pay_channel.specs.Prefix.{IsPrefix}
use Rattle.pay_audit.specs.Compared.{FirstDiffers, HasCompared, IsLongest, differences_of, fork_among, fork_by, fork_if, fork_with, lengths_of, place_if_within}
use Rattle.pay_audit.specs.Export.{ExportFields, list_in, lists_of}
use Rattle.pay_audit.specs.Laws.{AgreeWith, Agreeing}
use Rattle.pay_audit.specs.Said.{Each, EachTwo}
use Rattle.pay_audit.specs.Verdict.{first_from, fork_between, fork_from, fork_of, fork_place, if_differ}
use Rattle.pay_audit.specs.declared.auditing.Verdict.{Verdict}
use Rattle.pay_audit.specs.declared.auditing.Verdict.TheVariants.{Fork}
use Rattle.pay_audit.proofs.OneList.{prefixes_agree}
use Rattle.pay_audit.proofs.Firsts.{nobody, unanswered}
use Rattle.pay_audit.proofs.Forking.{no_fork}

-- ---- answers joined

pub or_again : {B : Type 0} (a b c : Option B) → option_or (option_or a b) c ≡ option_or a (option_or b c)
or_again None b c = refl
or_again (Some x) b c = refl

pub or_none : {B : Type 0} (a : Option B) → option_or a None ≡ a
or_none None = refl
or_none (Some x) = refl

-- the first answer in two lists, one after the other
pub first_of_both : {A B : Type 0} (ask : ℕ → A → Option B) (k : ℕ) (xs ys : List A)
    → first_from ask k (xs ++ ys) ≡ option_or (first_from ask k xs) (first_from ask (k + length xs) ys)
first_of_both ask k [] ys = ap (λ n. first_from ask n ys) (let e : k ≡ k + 0 = omega arith in e)
first_of_both ask k (x ∷ xs) ys =
    ap (option_or (ask k x)) (first_of_both ask (k + 1) xs ys
    ∙ ap (λ n. option_or (first_from ask (k + 1) xs) (first_from ask n ys)) (let e : k + 1 + length xs ≡ k + suc (length xs) = omega arith in e))
    ∙ sym (or_again (ask k x) (first_from ask (k + 1) xs) (first_from ask (k + suc (length xs)) ys))

-- ---- a prefix of the longest list against another list

if_below : (b : Bool) (n s : ℕ) → nat_lt s n ≡ b → n ≤ s → None ≡ (if b then Some s else None)
if_below true n s h order = absurd (omega (arith, ltb-true s n h, order))
if_below false n s h order = refl

none_within : (n : ℕ) (o : Option ℕ) → ((s : ℕ) → o ≡ Some s → n ≤ s) → None ≡ place_if_within n o
none_within n None from = refl
none_within n (Some s) from = if_below (nat_lt s n) n s refl (from s refl)

if_past : (b : Bool) (n s : ℕ) → nat_lt s n ≡ b → s < n → Some s ≡ (if b then Some s else None)
if_past true n s h order = refl
if_past false n s h order = let yes = lt-ltb s n order in absurd cc

-- no place is answered before the one that was asked first
answered_from : (k : ℕ) (l m : List (List ℕ)) (s : ℕ) → first_from if_differ k (zip l m) ≡ Some s → k ≤ s
answered_from k [] m s h = absurd cc
answered_from k (v ∷ l) [] s h = absurd cc
answered_from k (v ∷ l) (w ∷ m) s h = go (bytes_eq v w) h (answered_from (k + 1) l m s) where
  go : (b : Bool) → option_or (if b then None else Some k) (first_from if_differ (k + 1) (zip l m)) ≡ Some s
      → (first_from if_differ (k + 1) (zip l m) ≡ Some s → k + 1 ≤ s) → k ≤ s
  go true e rest = omega (arith, rest e)
  go false e rest = omega (arith, same_Some k s e)

-- a list differs from a prefix where it differs from the whole, if the prefix has that place
differs_within : (k : ℕ) (l r m : List (List ℕ)) → first_from if_differ k (zip l m) ≡ place_if_within (k + length l) (first_from if_differ k (zip (l ++ r) m))
differs_within k [] r m =
    none_within (k + 0) (first_from if_differ k (zip r m)) (λ s h. (let from = answered_from k r m s h in omega (arith, from)))
differs_within k (v ∷ l) r [] = refl
differs_within k (v ∷ l) r (w ∷ m) = go (bytes_eq v w) (differs_within (k + 1) l r m) where
  more : k + 1 + length l ≡ k + suc (length l)
  more = omega arith

  go : (b : Bool) → first_from if_differ (k + 1) (zip l m) ≡ place_if_within (k + 1 + length l) (first_from if_differ (k + 1) (zip (l ++ r) m))
      → option_or (if b then None else Some k) (first_from if_differ (k + 1) (zip l m))
      ≡ place_if_within (k + suc (length l)) (option_or (if b then None else Some k) (first_from if_differ (k + 1) (zip (l ++ r) m)))
  go true rest = rest ∙ ap (λ n. place_if_within n (first_from if_differ (k + 1) (zip (l ++ r) m))) more
  go false rest = if_past (nat_lt k (k + suc (length l))) (k + suc (length l)) k refl (omega arith)

place_within : (l whole m : List (List ℕ)) → IsPrefix l whole → fork_place l m ≡ place_if_within (length l) (fork_place whole m)
unfolding fork_place
place_within l whole m p =
    differs_within 0 l p.rest m
    ∙ ap₂ (λ n (xs : List (List ℕ)). place_if_within n (first_from if_differ 0 (zip xs m))) (let e : 0 + length l ≡ length l = omega arith in e) (sym p.is)

-- ---- two exports

-- lists that are prefixes of the longest
abbrev pub Begin : List (List (List ℕ)) → List (List (List ℕ)) → Type 0
Begin lists longest = (a : ℕ) → IsPrefix (list_in lists a) (list_in longest a)

lists_by : (x y k : ℕ) (ls longest ms : List (List (List ℕ))) → Begin ls longest → length ls ≤ length longest
    → first_from (fork_of x y) k (zip ls ms) ≡ first_from (fork_if x y) k (zip (lengths_of ls) (differences_of longest ms))
lists_by x y k [] longest ms begin order = refl
lists_by x y k (l ∷ ls) [] ms begin order = absurd (omega (arith, order))
lists_by x y k (l ∷ ls) (w ∷ longest) [] begin order = refl
lists_by x y k (l ∷ ls) (w ∷ longest) (m ∷ ms) begin order =
    ap₂ option_or (ap (option_map (Fork x y k)) (place_within l w m (begin 0)))
    (lists_by x y (k + 1) ls longest ms (λ a. begin (suc a)) (omega (arith, order)))

export_by : (x y : ℕ) (one other : ExportFields) (longest : List (List (List ℕ))) → Begin one.lists longest → length one.lists ≤ length longest
    → fork_between x one y other ≡ fork_by x (lengths_of one.lists) y (differences_of longest other.lists)
unfolding fork_between fork_by
export_by x y one other longest begin order = lists_by x y 0 one.lists longest other.lists begin order

-- ---- an export against those that follow

pub behind_by : (x k : ℕ) (one : ExportFields) (longest : List (List (List ℕ))) (others : List ExportFields) → Begin one.lists longest
    → length one.lists ≤ length longest
    → first_from (fork_between x one) k others ≡ fork_with k (map (λ e. differences_of longest e.lists) others) x (lengths_of one.lists)
behind_by x k one longest [] begin order = refl
behind_by x k one longest (e ∷ others) begin order =
    ap₂ option_or (export_by x k one e longest begin order) (behind_by x (k + 1) one longest others begin order)

-- ---- the numbers of two exports, from a place on

no_pair : {A B : Type 0} (xs : List A) (ys : List B) → ys ≡ [] → zip xs ys ≡ []
no_pair [] ys none = refl
no_pair (x ∷ xs) [] none = refl
no_pair (x ∷ xs) (y ∷ ys) none = absurd cc

pub nothing_left : (ask : ℕ → ℕ × Option ℕ → Option Verdict) (lengths : List ℕ) (places : List (Option ℕ)) (n : ℕ) → length places ≤ n
    → first_from ask n (zip (drop n lengths) (drop n places)) ≡ None
nothing_left ask lengths places n short =
    ap (first_from ask n) (no_pair (drop n lengths) (drop n places) (drop_all n places short))

-- ---- all exports

-- each of these is how the longest lists begin
abbrev EachBegins : List (List (List ℕ)) → List ExportFields → Type 0
EachBegins longest exports = Each (λ e. Begin e.lists longest × (length e.lists ≤ length longest)) exports

-- an export that agrees with those after it of the first ones
none_among : (k : ℕ) (e : ExportFields) (exports : List ExportFields) → EachTwo AgreeWith (e ∷ exports) → first_from (fork_between k e) (k + 1) exports ≡ None
none_among k e exports same =
    unanswered (fork_between k e) (k + 1) exports (λ p d got. (no_fork k (k + 1 + p) e d).1 (same 0 (suc p) e d refl got))

-- the first fork is one between an export that agrees with all before it and one of the others, or else it is among these
forks_join : (longest : List (List (List ℕ))) (others : List ExportFields) (k : ℕ) (exports : List ExportFields) → EachTwo AgreeWith exports
    → EachBegins longest exports
    → fork_from k (exports ++ others)
    ≡ option_or (first_from (fork_with (k + length exports) (map (λ e. differences_of longest e.lists) others)) k (map (λ e. lengths_of e.lists) exports))
    (fork_from (k + length exports) others)
forks_join longest others k [] same begin = ap (λ n. fork_from n others) (let e : k ≡ k + 0 = omega arith in e)
forks_join longest others k (e ∷ exports) same begin =
    let after : k + 1 + length exports ≡ k + suc (length exports) = omega arith in
    let here : first_from (fork_between k e) (k + 1) (exports ++ others) ≡ fork_with (k + 1 + length exports) differences k (lengths_of e.lists) =
    first_of_both (fork_between k e) (k + 1) exports others
    ∙ ap (λ o. option_or o (first_from (fork_between k e) (k + 1 + length exports) others)) (none_among k e exports same)
    ∙ behind_by k (k + 1 + length exports) e longest others (begin 0 e refl).0 (begin 0 e refl).1 in
    ap₂ option_or here (forks_join longest others (k + 1) exports (λ x y one other at_one at_other. same (suc x) (suc y) one other at_one at_other) (λ x d got. begin (suc x) d got))
    ∙ sym (or_again (fork_with (k + 1 + length exports) differences k (lengths_of e.lists))
    (first_from (fork_with (k + 1 + length exports) differences) (k + 1) (map (λ d. lengths_of d.lists) exports))
    (fork_from (k + 1 + length exports) others))
    ∙ ap (λ n. option_or (option_or (fork_with n differences k (lengths_of e.lists)) (first_from (fork_with n differences) (k + 1) (map (λ d. lengths_of d.lists) exports))) (fork_from n others)) after
  where
    differences : List (List (Option ℕ))
    differences = map (λ d. differences_of longest d.lists) others

first_alone : {B : Type 0} (o rest : Option B) → (o ≡ None → rest ≡ None) → option_or o rest ≡ o
first_alone None rest none = none refl
first_alone (Some x) rest none = refl

-- the numbers of an export that is among these
numbers_at : (exports : List ExportFields) (x : ℕ) (e : ExportFields) → slice_get exports x ≡ Some e
    → slice_get (map (λ d. lengths_of d.lists) exports) x ≡ Some (lengths_of e.lists)
numbers_at exports x e got = slice_get-map (λ d. lengths_of d.lists) exports x ∙ ap (option_map (λ d. lengths_of d.lists)) got

module _ (longest : List (List (List ℕ))) (agreeing : List ExportFields) (are_longest : (account : ℕ) → IsLongest agreeing account (list_in longest account))
    (accounts : Each (λ e. length e.lists ≤ length longest) agreeing) where
  agree : EachTwo AgreeWith agreeing
  agree x y one other at_one at_other a =
      let l = are_longest a in
      prefixes_agree (list_in longest a) (lists_of one a) (lists_of other a) (l.begins x one at_one) (l.begins y other at_other)

  begin : EachBegins longest agreeing
  begin x e got = (λ a. (are_longest a).begins x e got, accounts x e got)

  -- where none forks with the others, the first of the others doesn't differ
  agrees_with_first : (n : ℕ) (e : ExportFields) (others : List ExportFields)
      → first_from (fork_with n (map (λ d. differences_of longest d.lists) (e ∷ others))) 0 (map (λ d. lengths_of d.lists) agreeing) ≡ None
      → (a : ℕ) → Agreeing (list_in longest a) (lists_of e a)
  agrees_with_first n e others none a =
      (are_longest a).agrees (lists_of e a) (λ x d got. (no_fork (0 + x) (n + 0) d e).0
      (nobody (fork_between (0 + x) d) n (e ∷ others)
      (behind_by (0 + x) n d longest (e ∷ others) (begin x d got).0 (begin x d got).1
      ∙ nobody (fork_with n (map (λ d. differences_of longest d.lists) (e ∷ others))) 0 (map (λ d. lengths_of d.lists) agreeing) none x (lengths_of d.lists) (numbers_at agreeing x d got))
      0 e refl) a)

  none_behind : (n : ℕ) (others : List ExportFields) → FirstDiffers longest others
      → first_from (fork_with n (map (λ d. differences_of longest d.lists) others)) 0 (map (λ d. lengths_of d.lists) agreeing) ≡ None
      → fork_from n others ≡ None
  none_behind n [] differs none = refl
  none_behind n (e ∷ others) differs none = absurd (differs (agrees_with_first n e others none))

  pub forks_of : (others : List ExportFields) → FirstDiffers longest others
      → fork_from 0 (agreeing ++ others)
      ≡ first_from (fork_with (length agreeing) (map (λ d. differences_of longest d.lists) others)) 0 (map (λ d. lengths_of d.lists) agreeing)
  forks_of others differs =
      let n : 0 + length agreeing ≡ length agreeing = omega arith in
      let differences = map (λ (d : ExportFields). differences_of longest d.lists) others in
      let lengths = map (λ (d : ExportFields). lengths_of d.lists) agreeing in
      forks_join longest others 0 agreeing agree begin
      ∙ ap (λ k. option_or (first_from (fork_with k differences) 0 lengths) (fork_from k others)) n
      ∙ first_alone (first_from (fork_with (length agreeing) differences) 0 lengths) (fork_from (length agreeing) others)
      (none_behind (length agreeing) others differs)

pub forks_are : (exports : List ExportFields) (longest : List (List (List ℕ))) (lengths : List (List ℕ)) (differences : List (List (Option ℕ)))
    → HasCompared exports longest lengths differences → fork_among lengths differences ≡ fork_from 0 exports
forks_are exports longest lengths differences h =
    let count : length lengths ≡ length h.agreeing = ap length h.are_lengths ∙ length-map h.agreeing (λ (d : ExportFields). lengths_of d.lists) in
    ap (λ n. first_from (fork_with n differences) 0 lengths) count
    ∙ ap₂ (λ (ls : List (List ℕ)) (ds : List (List (Option ℕ))). first_from (fork_with (length h.agreeing) ds) 0 ls) h.are_lengths h.are_differences
    ∙ sym (forks_of longest h.agreeing h.are_longest h.accounts h.others h.differs) ∙ ap (fork_from 0) (sym h.parts)
