-- The text of a member's export.
use Rattle.std.proofs.Common.{◌≡◌, ℕ, zero, suc, ◌<◌, ◌≤◌, ◌||◌, max, List, [], ◌∷◌, map, length, slice_get, Bool, false, Some, None, Ok, if◌then◌else◌, refl, ap, ap₂, ◌∙◌, arith}
use Rattle.std.specs.List.{range_with_len}
use Rattle.std.specs.Str.{IsUtf8}
use Rattle.std.proofs.Math.Nat.{max-le}
use Rattle.std.proofs.lemmas.List.{length-map}
use Rattle.std.proofs.lemmas.List.Elements.{All-cons, All-nil}
use Rattle.std.proofs.lemmas.List.FromFn.{length-range_with_len}
use Rattle.std.proofs.lemmas.Str.{is_utf8-from_IsUtf8}
use Rattle.serde_json.specs.Data.{Data, depth, items_depth, object}
use Rattle.serde_json.specs.Read.{max_depth, read}
use Rattle.serde_json.specs.View.{items_of}
use Rattle.serde_json.specs.Written.{has_float, items_have_float}
use Rattle.pay_channel.specs.History.{seqs}
use Rattle.pay_channel.specs.ListLaws.{ListedIsDelivered, ListIsShort}
use Rattle.pay_link.specs.Json.{value_in}
use Rattle.pay_link.specs.Genesis.{GenesisFields, IsGenesis}
use Rattle.pay_member.specs.Events.{events}
use Rattle.pay_member.specs.Group.{group_in}
use Rattle.pay_member.specs.Laws.{BookIsSettled, DeliveredAreValues}
use Rattle.pay_member.specs.Legal.{IsValue, Legal}
use Rattle.pay_member.specs.Member.{MemberFields}
use Rattle.pay_audit.specs.Export.{AreShort, ExportFields, IsExport, export_in, list_in}
use Rattle.pay_audit.specs.Exporting.{export_data, export_of, genesis_members, list_data, lists_of_member, number_data, value_data}
use Rattle.pay_audit.specs.ReadBack.{ExportReadsBack, HasValues}
use Rattle.pay_audit.proofs.Pushing.{balances, fronts}

-- ---- no floats

numbers_whole : (ns : List ℕ) → items_have_float (items_of (map number_data ns)) ≡ false
numbers_whole [] = refl
numbers_whole (n ∷ ns) = numbers_whole ns

values_whole : (vs : List (List ℕ)) → items_have_float (items_of (map value_data vs)) ≡ false
values_whole [] = refl
values_whole (v ∷ vs) = values_whole vs

lists_whole : (ls : List (List (List ℕ))) → items_have_float (items_of (map list_data ls)) ≡ false
lists_whole [] = refl
lists_whole (l ∷ ls) = ap₂ (λ a b. a || b) (values_whole l) (lists_whole ls)

none_of : (a b c d : Bool) → a ≡ false → b ≡ false → c ≡ false → d ≡ false
    → (a || (false || (b || (c || (false || (false || (d || false))))))) ≡ false
none_of a b c d ea eb ec ed = cc

pub whole : (e : ExportFields) → has_float (export_data e) ≡ false
unfolding export_data
whole e =
    none_of (items_have_float (items_of (map number_data e.balances))) (items_have_float (items_of (map number_data e.front)))
    (items_have_float (items_of (map list_data e.lists))) (items_have_float (items_of (map number_data e.genesis.opening)))
    (numbers_whole e.balances) (numbers_whole e.front) (lists_whole e.lists) (numbers_whole e.genesis.opening)

pub genesis_whole : (g : GenesisFields) → has_float (object (genesis_members g)) ≡ false
genesis_whole g = numbers_last (items_have_float (items_of (map number_data g.opening))) (numbers_whole g.opening) where
  numbers_last : (o : Bool) → o ≡ false → (false || (false || (o || false))) ≡ false
  numbers_last o e = cc

-- ---- not deep

numbers_flat : (ns : List ℕ) → items_depth (items_of (map number_data ns)) ≤ 0
numbers_flat [] = omega arith
numbers_flat (n ∷ ns) = max-le {a = 0} (omega arith) (numbers_flat ns)

values_flat : (vs : List (List ℕ)) → items_depth (items_of (map value_data vs)) ≤ 0
values_flat [] = omega arith
values_flat (v ∷ vs) = max-le {a = 0} (omega arith) (values_flat vs)

lists_flat : (ls : List (List (List ℕ))) → items_depth (items_of (map list_data ls)) ≤ 1
lists_flat [] = omega arith
lists_flat (l ∷ ls) = max-le (let flat = values_flat l in omega (arith, flat)) (lists_flat ls)

flat_enough : (a b c d : ℕ) → a ≤ 2 → b ≤ 2 → c ≤ 2 → d ≤ 2
    → suc (max a (max 0 (max b (max c (max 0 (max 0 (max d 0))))))) ≤ max_depth
flat_enough a b c d la lb lc ld =
    let none : 0 ≤ 2 = omega arith in
    let all = max-le la (max-le none (max-le lb (max-le lc (max-le none (max-le none (max-le ld none)))))) in
    omega (arith, all)

pub shallow : (e : ExportFields) → depth (export_data e) ≤ max_depth
unfolding export_data
shallow e =
    let b = numbers_flat e.balances in
    let f = numbers_flat e.front in
    let l = lists_flat e.lists in
    let o = numbers_flat e.genesis.opening in
    flat_enough (suc (items_depth (items_of (map number_data e.balances)))) (suc (items_depth (items_of (map number_data e.front))))
    (suc (items_depth (items_of (map list_data e.lists)))) (suc (items_depth (items_of (map number_data e.genesis.opening))))
    (omega (arith, b)) (omega (arith, f)) (omega (arith, l)) (omega (arith, o))

-- ---- a member's own

all_short : (f : ℕ → List (List ℕ)) → ((a : ℕ) → length (f a) ≤ seqs) → (ns : List ℕ) → AreShort (map f ns)
all_short f short [] = All-nil (λ (l : List (List ℕ)). length l ≤ seqs)
all_short f short (n ∷ ns) = All-cons (λ (l : List (List ℕ)). length l ≤ seqs) (f n) (map f ns) (short n) (all_short f short ns)

pub exported_sound : BookIsSettled → ListIsShort → (m : MemberFields) → IsGenesis m.genesis → m.keys.own < m.genesis.members → IsExport (export_of m)
exported_sound book short m genesis known = record {
  genesis = genesis;
  member = known;
  lists = length-map (range_with_len 0 m.genesis.members) (lists_of_member m) ∙ length-range_with_len 0 m.genesis.members;
  front = fronts book m.genesis m.keys.own (events m.history) genesis;
  balances = balances book m.genesis m.keys.own (events m.history) genesis;
  short = all_short (lists_of_member m) (short (group_in m.genesis m.keys.own) (events m.history)) (range_with_len 0 m.genesis.members);
}

-- what holds of the values of each owner holds of those of a list for each
listed_values :
    (f : ℕ → List (List ℕ)) → ((a s : ℕ) (v : List ℕ) → slice_get (f a) s ≡ Some v → IsValue v) → (ns : List ℕ)
    → (a s : ℕ) (v : List ℕ) → slice_get (list_in (map f ns) a) s ≡ Some v → IsValue v
listed_values f are [] a s v at = absurd cc
listed_values f are (n ∷ ns) zero s v at = are n s v at
listed_values f are (n ∷ ns) (suc a) s v at = listed_values f are ns a s v at

pub exported_values :
    ListedIsDelivered → DeliveredAreValues → (m : MemberFields) → Legal m.genesis m.keys m.history → HasValues (export_of m)
exported_values listed values m legal a s v at =
    listed_values (lists_of_member m)
    (λ b t w there. values m.genesis m.keys m.history b t w legal (listed (group_in m.genesis m.keys.own) (events m.history) b t w there))
    (range_with_len 0 m.genesis.members) a s v at

value_from : (text : List ℕ) (d : Data) → IsUtf8 text → read text ≡ Some d → value_in text ≡ Some d
unfolding value_in
value_from text d utf8 is = ap (λ b. if b then read text else None) (is_utf8-from_IsUtf8 text utf8) ∙ is

-- a text that is read as the value is read as the export
pub text_back :
    ExportReadsBack → (e : ExportFields) (text : List ℕ) → IsExport e → IsUtf8 text → read text ≡ Some (export_data e)
    → HasValues e → export_in text ≡ Ok e
text_back back e text sound utf8 value are = back e text sound are (value_from text (export_data e) utf8 value)
