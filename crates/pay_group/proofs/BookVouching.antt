-- Correct members vouch for a group's book.
use Rattle.std.proofs.Common.{◌≡◌, ℕ, zero, suc, ◌<◌, Bool, true, false, not, List, [], ◌∷◌, map, slice_get, Some, refl, ap, sym, subst, ◌∙◌, arith}
use Rattle.std.specs.List.{count_by}
use Rattle.std.proofs.lemmas.Option.{none-some, same_Some, slice_get-get_or}
use Rattle.pay_channel.specs.Prefix.{IsPrefix}
use Rattle.pay_group.specs.Backing.{IsBacked}
use Rattle.pay_group.specs.ListLaws.{BackedIsVouchedFor}
use Rattle.pay_audit.specs.Export.{ExportFields, lists_of}
use Rattle.pay_audit.specs.Said.{Each}
use Rattle.pay_group.specs.Book.{listed_by}
use Rattle.pay_group.specs.BookLaws.{BookIsVouchedFor, IsVouchedFor, MembersVouchOnce}
use Rattle.pay_group.proofs.Members.{one_size}
use Rattle.pay_group.proofs.Once.{counted_more, one_if}

abbrev Marked : Type 0
Marked = Bool × List (List ℕ)

module _ (faulty : ℕ → Bool) (account : ℕ) where
  mark : ExportFields → Marked
  mark e = (not (faulty e.member), lists_of e account)

  marked : List ExportFields → List Marked
  marked exports = map mark exports

  lists_marked : (exports : List ExportFields) → map (λ (m : Marked). m.1) (marked exports) ≡ listed_by exports account
  unfolding marked mark
  lists_marked [] = refl
  lists_marked (e ∷ exports) = ap (λ ls. lists_of e account ∷ ls) (lists_marked exports)

  twice_not : (b : Bool) → not (not b) ≡ b
  twice_not true = refl
  twice_not false = refl

  count_marked : (exports : List ExportFields) → count_by (λ (m : Marked). not m.0) (marked exports) ≡ count_by (λ (e : ExportFields). faulty e.member) exports
  unfolding marked mark
  count_marked [] = refl
  count_marked (e ∷ exports) =
      let rest : count_by (λ (m : Marked). not m.0) (map (λ (e : ExportFields). (not (faulty e.member), lists_of e account)) exports) ≡ count_by (λ (e : ExportFields). faulty e.member) exports = count_marked exports in
      let one = counted_more (λ (m : Marked). not m.0) (not (faulty e.member), lists_of e account) (map (λ (e : ExportFields). (not (faulty e.member), lists_of e account)) exports) in
      let other = counted_more (λ (e : ExportFields). faulty e.member) e exports in
      let here : one_if (not (not (faulty e.member))) ≡ one_if (faulty e.member) = ap one_if (twice_not (faulty e.member)) in
      omega (arith, rest, one, other, here)

  is_false : (b : Bool) → not b ≡ true → b ≡ false
  is_false true h = absurd cc
  is_false false h = refl

  found : (exports : List ExportFields) (l : List (List ℕ)) (k : ℕ) (m : Marked) → slice_get (marked exports) k ≡ Some m → m.0 ≡ true → IsPrefix l m.1
      → IsVouchedFor exports faulty account l
  unfolding marked mark
  found [] l k m at correct begins = absurd (none-some m at)
  found (e ∷ exports) l zero m at correct begins =
      let same : (not (faulty e.member), lists_of e account) ≡ m = same_Some (not (faulty e.member), lists_of e account) m at in
      record {
        place = 0;
        export = e;
        at = refl;
        correct = is_false (faulty e.member) (ap (λ (m : Marked). m.0) same ∙ correct);
        begins = subst (λ list. IsPrefix l list) (sym (ap (λ (m : Marked). m.1) same)) begins;
      }
  found (e ∷ exports) l (suc k) m at correct begins =
      let r = found exports l k m at correct begins in
      record { place = suc r.place; export = r.export; at = r.at; correct = r.correct; begins = r.begins }

pub vouched_for : BackedIsVouchedFor → MembersVouchOnce → BookIsVouchedFor
vouched_for law once exports b faulty sound book few account known =
    let size : (k : ℕ) (e : ExportFields) → slice_get exports k ≡ Some e → e.genesis.members ≡ b.genesis.members =
    one_size exports b.genesis book.exports_are.first book.exports_are.geneses in
    let members : Each (λ e. e.member < b.genesis.members) exports =
    λ k e at. subst (λ n. e.member < n) (size k e at) (sound k e at).member in
    let most = once exports b.genesis.members faulty book.exports_are.members members in
    let count = count_marked faulty account exports in
    let backed : IsBacked b.genesis.faults (map (λ (m : Marked). m.1) (marked faulty account exports)) (lists_of b account) =
    subst (λ ls. IsBacked b.genesis.faults ls (lists_of b account)) (sym (lists_marked faulty account exports)) (book.lists account known).backed in
    let v = law b.genesis.faults (marked faulty account exports) (lists_of b account) (omega (arith, few, most, count)) backed in
    let at : slice_get (marked faulty account exports) v.1.0 ≡ Some v.0 =
    slice_get-get_or (marked faulty account exports) v.1.0 v.0 v.1.1 ∙ ap (λ m. Some m) v.1.2 in
    found faulty account exports (lists_of b account) v.1.0 v.0 at v.2 v.3
