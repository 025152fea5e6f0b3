-- Exports have one book, or none.
use Rattle.std.proofs.Common.{◌≡◌, ℕ, suc, ◌<◌, List, [], ◌∷◌, length, slice_get, Some, refl, ap, ap₂, sym, subst, ◌∙◌, arith}
use Rattle.std.proofs.lemmas.Option.{same_Some}
use Rattle.pay_link.specs.Genesis.{GenesisFields}
use Rattle.pay_group.specs.Backing.{IsGroupList, IsSplit}
use Rattle.pay_group.specs.ListLaws.{NoListOfASplit, OneGroupList}
use Rattle.pay_book.specs.Settled.{settled_book}
use Rattle.pay_audit.specs.Auditor.{first_genesis}
use Rattle.pay_audit.specs.ByLists.{HasOwnBook}
use Rattle.pay_audit.specs.Export.{ExportFields, list_in, lists_of}
use Rattle.pay_group.specs.Book.{listed_by}
use Rattle.pay_group.specs.BookLaws.{BookIsOne, NoBookOfAFault}
use Rattle.pay_group.specs.declared.booking.BookFault.TheVariants.{Memory, OtherGenesis, Twice, Few, Split}

some_first : (exports : List ExportFields) (g : GenesisFields) → first_genesis exports ≡ Some g → (e : ExportFields) × (slice_get exports 0 ≡ Some e)
some_first [] g first = absurd cc
some_first (e ∷ exports) g first = (e, refl)

same_lists : (xs ys : List (List (List ℕ))) → length xs ≡ length ys → ((a : ℕ) → a < length xs → list_in xs a ≡ list_in ys a) → xs ≡ ys
same_lists [] [] long same = refl
same_lists [] (y ∷ ys) long same = absurd (omega (arith, long))
same_lists (x ∷ xs) [] long same = absurd (omega (arith, long))
same_lists (x ∷ xs) (y ∷ ys) long same =
    ap₂ (λ z zs. z ∷ zs) (same 0 (omega arith)) (same_lists xs ys (omega (arith, long)) (λ a lt. same (suc a) (omega (arith, lt))))

-- the export whose book is that of its lists
made : GenesisFields → ℕ → List (List (List ℕ)) → ExportFields
made g member lists = record {
  genesis = g;
  member = member;
  lists = lists;
  front = (settled_book g.opening (list_in lists)).front;
  balances = (settled_book g.opening (list_in lists)).balances;
}

as_made : (b : ExportFields) → HasOwnBook b → b ≡ made b.genesis b.member b.lists
unfolding made
as_made b own =
    ap₂ (λ front balances. record { genesis = b.genesis; member = b.member; lists = b.lists; front = front; balances = balances }) own.front own.balances

pub one_book : OneGroupList → BookIsOne
one_book one exports b c is_b is_c =
    let genesis : b.genesis ≡ c.genesis = same_Some b.genesis c.genesis (sym is_b.exports_are.first ∙ is_c.exports_are.first) in
    let first = some_first exports b.genesis is_b.exports_are.first in
    let member : b.member ≡ c.member = is_b.member first.0 first.1 ∙ sym (is_c.member first.0 first.1) in
    let members : b.genesis.members ≡ c.genesis.members = ap (λ (g : GenesisFields). g.members) genesis in
    let listed : (g : GenesisFields) (a : ℕ) → g ≡ c.genesis → a < g.members → IsGroupList g.faults (listed_by exports a) (lists_of c a) =
    λ g a is lt. subst (λ (h : GenesisFields). IsGroupList h.faults (listed_by exports a) (lists_of c a)) (sym is) (is_c.lists a (subst (λ (h : GenesisFields). a < h.members) is lt)) in
    let lists : b.lists ≡ c.lists =
    same_lists b.lists c.lists (is_b.is_export.lists ∙ members ∙ sym is_c.is_export.lists)
    (λ a lt. let below = subst (λ n. a < n) is_b.is_export.lists lt in
    one b.genesis.faults (listed_by exports a) (lists_of b a) (lists_of c a) (is_b.lists a below) (listed b.genesis a genesis below)) in
    as_made b is_b.book ∙ ap₂ (λ g m. made g m b.lists) genesis member ∙ ap (made c.genesis c.member) lists ∙ sym (as_made c is_c.book)

pub no_book : NoListOfASplit → NoBookOfAFault
no_book not_both exports b Memory is none = refl
no_book not_both exports b (OtherGenesis x) is other = absurd (let e = sym is.exports_are.geneses ∙ other in cc)
no_book not_both exports b (Twice x y) is twice = absurd (let e = sym is.exports_are.members ∙ twice.1 in cc)
no_book not_both exports b (Few count) is few =
    absurd (let f = few.few b.genesis is.exports_are.first in omega (arith, f, few.are, is.exports_are.many))
no_book not_both exports b (Split account seq) is split =
    let genesis : split.genesis ≡ b.genesis = same_Some split.genesis b.genesis (sym split.exports_are.first ∙ is.exports_are.first) in
    let known = subst (λ (g : GenesisFields). account < g.members) genesis split.known in
    absurd (not_both b.genesis.faults (listed_by exports account) (lists_of b account) seq (is.lists account known)
    (subst (λ (g : GenesisFields). IsSplit g.faults (listed_by exports account) seq) genesis split.split))
