-- Lists of a group, and the export that is made of them.
use Rattle.std.proofs.Common.{◌≡◌, ℕ, zero, suc, ◌+◌, ◌<◌, ◌≤◌, All, Bor, List, [], ◌∷◌, length, length-append, map, slice_get, Some, None, refl, ap, sym, subst, ◌∙◌, arith}
use Rattle.std.specs.List.{range_with_len}
use Rattle.std.proofs.lemmas.List.Elements.{All-head, All-tail}
use Rattle.std.proofs.lemmas.List.FromFn.{get_or-map-range_with_len}
use Rattle.std.proofs.lemmas.Option.{none-some, same_Some, slice_get-get_or}
use Rattle.pay_frame.specs.declared.limits.TheConstants.{SEQS}
use Rattle.pay_link.specs.Genesis.{GenesisFields}
use Rattle.pay_group.specs.Backing.{IsBacked, IsGroupList, IsSplit}
use Rattle.pay_group.specs.ListLaws.{BackedIsListed}
use Rattle.pay_group.specs.Listed.{list_of_owner}
use Rattle.pay_group.specs.declared.texts.GroupFault.{GroupFault}
use Rattle.pay_group.specs.declared.texts.GroupFault.TheVariants as group
use Rattle.pay_audit.specs.Auditor.{first_genesis}
use Rattle.pay_audit.specs.Export.{ExportFields, IsExport, list_in, lists_of}
use Rattle.pay_audit.specs.Said.{Each}
use Rattle.pay_group.specs.Book.{AreOfGroup, HasNoBook, listed_by, split_by}

-- ---- the exports that are lent

pub lent_lists : (sources : List (Bor ExportFields)) (owner : ℕ)
    → map (λ (s : Bor ExportFields). lists_of s.now owner) sources ≡ listed_by (map (λ (s : Bor ExportFields). s.now) sources) owner
lent_lists [] owner = refl
lent_lists (s ∷ sources) owner = ap (λ ls. lists_of s.now owner ∷ ls) (lent_lists sources owner)

-- ---- no list is longer than those of exports

short_in : (lists : List (List (List ℕ))) (a : ℕ) → All (λ l. length l ≤ SEQS) lists → length (list_in lists a) ≤ SEQS
short_in [] zero all = omega arith
short_in [] (suc a) all = omega arith
short_in (l ∷ lists) zero all = All-head (λ (l : List (List ℕ)). length l ≤ SEQS) l lists all
short_in (l ∷ lists) (suc a) all = short_in lists a (All-tail (λ (l : List (List ℕ)). length l ≤ SEQS) l lists all)

listed_at : (exports : List ExportFields) (owner k : ℕ) (list : List (List ℕ)) → slice_get (listed_by exports owner) k ≡ Some list
    → (e : ExportFields) × (slice_get exports k ≡ Some e) × (lists_of e owner ≡ list)
listed_at [] owner k list at = absurd (none-some list at)
listed_at (e ∷ exports) owner zero list at = (e, refl, same_Some (lists_of e owner) list at)
listed_at (e ∷ exports) owner (suc k) list at = listed_at exports owner k list at

backed_short : BackedIsListed → (exports : List ExportFields) → Each IsExport exports → (f owner : ℕ) (l : List (List ℕ))
    → IsBacked f (listed_by exports owner) l → length l ≤ SEQS
backed_short law exports sound f owner l backed =
    let found = law f (listed_by exports owner) l backed in
    let e = listed_at exports owner found.0 found.1 found.2 in
    let short : length found.1 ≤ SEQS = subst (λ (m : List (List ℕ)). length m ≤ SEQS) e.2 (short_in e.0.lists owner (sound found.0 e.0 e.1).short) in
    omega (arith, short, ap (λ (m : List (List ℕ)). length m) found.3.is, length-append l found.3.rest)

each_short : (lists : List (List (List ℕ))) → ((k : ℕ) (l : List (List ℕ)) → slice_get lists k ≡ Some l → length l ≤ SEQS)
    → (owner : ℕ) → length (list_of_owner lists owner) ≤ SEQS
each_short [] short zero = omega arith
each_short [] short (suc owner) = omega arith
each_short (l ∷ lists) short zero = short 0 l refl
each_short (l ∷ lists) short (suc owner) = each_short lists (λ k m at. short (suc k) m at) owner

-- the group's lists, of the sources that are lent
pub record AreLists (exports : List ExportFields) (f : ℕ) (lists : List (List (List ℕ))) : Type 0 where
  pub each : (owner : ℕ) (list : List (List ℕ)) → slice_get lists owner ≡ Some list → IsGroupList f (listed_by exports owner) list

pub lists_are : (exports : List ExportFields) (sources : List (Bor ExportFields)) (f : ℕ) (lists : List (List (List ℕ)))
    → map (λ (s : Bor ExportFields). s.now) sources ≡ exports
    → ((owner : ℕ) (list : List (List ℕ)) → slice_get lists owner ≡ Some list → IsGroupList f (map (λ (s : Bor ExportFields). lists_of s.now owner) sources) list)
    → AreLists exports f lists
lists_are exports sources f lists lent are = record {
  each = λ owner list at. subst (λ ls. IsGroupList f ls list) (lent_lists sources owner ∙ ap (λ es. listed_by es owner) lent) (are owner list at);
}

pub all_short : BackedIsListed → (exports : List ExportFields) → Each IsExport exports → (f : ℕ) (lists : List (List (List ℕ)))
    → AreLists exports f lists → (owner : ℕ) → length (list_of_owner lists owner) ≤ SEQS
all_short law exports sound f lists are owner =
    each_short lists (λ k l at. backed_short law exports sound f k l (are.each k l at).backed) owner

-- ---- what is made of them

shown : (f : ℕ → List (List ℕ)) (n a : ℕ) → a < n → list_in (map f (range_with_len 0 n)) a ≡ f a
shown f n a below = get_or-map-range_with_len f 0 n a a [] below (let e : 0 + a ≡ a = omega arith in e)

pub book_lists : (exports : List ExportFields) (f n : ℕ) (lists : List (List (List ℕ))) (e : ExportFields) (g : GenesisFields)
    → e.genesis ≡ g → f ≡ g.faults → n ≡ g.members → length lists ≡ n → AreLists exports f lists
    → e.lists ≡ map (list_of_owner lists) (range_with_len 0 g.members)
    → (account : ℕ) → account < e.genesis.members → IsGroupList e.genesis.faults (listed_by exports account) (lists_of e account)
book_lists exports f n lists e g genesis faults members count are made account known =
    let below : account < g.members = subst (λ (h : GenesisFields). account < h.members) genesis known in
    let within : account < length lists = omega (arith, below, members, count) in
    let same : lists_of e account ≡ list_of_owner lists account = ap (λ ls. list_in ls account) made ∙ shown (list_of_owner lists) g.members account below in
    let is : IsGroupList f (listed_by exports account) (list_of_owner lists account) =
    are.each account (list_of_owner lists account) (slice_get-get_or lists account [] within) in
    let f_same : f ≡ e.genesis.faults = faults ∙ ap (λ (h : GenesisFields). h.faults) (sym genesis) in
    subst (λ l. IsGroupList e.genesis.faults (listed_by exports account) l) (sym same)
    (subst (λ k. IsGroupList k (listed_by exports account) (list_of_owner lists account)) f_same is)

-- ---- or none

pub no_lists : (exports : List ExportFields) (sources : List (Bor ExportFields)) (g : GenesisFields) (f n : ℕ) (fault : GroupFault)
    → AreOfGroup g exports → map (λ (s : Bor ExportFields). s.now) sources ≡ exports → f ≡ g.faults → n ≡ g.members
    → ((owner place : ℕ) → fault ≡ group.Split owner place → (owner < n) × IsSplit f (map (λ (s : Bor ExportFields). lists_of s.now owner) sources) place)
    → ((owner place account : ℕ) → fault ≡ group.Split owner place → account < owner
    → (list : List (List ℕ)) × IsGroupList f (map (λ (s : Bor ExportFields). lists_of s.now account) sources) list)
    → HasNoBook exports (split_by fault)
no_lists exports sources g f n group.Memory of lent faults members split before = tt
no_lists exports sources g f n (group.Split owner place) of lent faults members split before =
    let same : (a : ℕ) → map (λ (s : Bor ExportFields). lists_of s.now a) sources ≡ listed_by exports a =
    λ a. lent_lists sources a ∙ ap (λ es. listed_by es a) lent in
    let s = split owner place refl in
    record {
      genesis = g;
      exports_are = of;
      known = omega (arith, s.0, members);
      split = subst (λ k. IsSplit k (listed_by exports owner) place) faults (subst (λ ls. IsSplit f ls place) (same owner) s.1);
      before = λ a lt. (let b = before owner place a refl lt in (b.0, subst (λ k. IsGroupList k (listed_by exports a) b.0) faults (subst (λ ls. IsGroupList f ls b.0) (same a) b.1)));
    }

-- no export, no genesis
pub none_there : (exports : List ExportFields) → None ≡ slice_get exports 0 → (g : GenesisFields) → first_genesis exports ≡ Some g → ⊥
none_there [] none g first = absurd cc
none_there (e ∷ exports) none g first = absurd cc
