-- An export's value read as the parts that it was made of.
use Rattle.std.proofs.Common.{◌≡◌, ◌↔◌, ℕ, suc, ◌≤◌, ◌==◌, ◌&&◌, nat_lt, List, [], ◌∷◌, codes, map, length, slice_get, Bool, true, Some, None, option_and_then, option_map, if◌then◌else◌, refl, ap, ap₂, ◌∙◌}
use Rattle.std.proofs.lemmas.Bool.{eq-eqb, le-leb, lt-ltb}
use Rattle.std.proofs.lemmas.List.Elements.{All-head, All-tail}
use Rattle.serde_json.specs.View.{items_of}
use Rattle.hex.specs.Hex.{encode_lower}
use Rattle.hex.proofs.HexLemmas.{decode_of-encode_lower}
use Rattle.pay_frame.specs.declared.limits.TheConstants.{GREATEST_VALUE, SEQS}
use Rattle.pay_link.specs.Json.{number_at, numbers_at, numbers_in}
use Rattle.pay_link.specs.Genesis.{GenesisFields, IsGenesis, genesis_fault}
use Rattle.pay_link.specs.Files.{genesis_said}
use Rattle.pay_member.specs.Legal.{IsValue}
use Rattle.pay_audit.specs.Export.{AreShort, ExportFields, IsExport, decoded_bytes, if_short, is_sized, list_in, list_said, lists_in_data, lists_said, parts_in, value_of_text, values_said}
use Rattle.pay_audit.specs.Exporting.{export_data, list_data, number_data, value_data}
use Rattle.pay_audit.specs.ReadBack.{ExportReadsBack, HasValues}

-- ---- lists

numbers_back : (ns : List ℕ) → numbers_in (items_of (map number_data ns)) ≡ Some ns
numbers_back [] = refl
numbers_back (n ∷ ns) = ap (option_map (λ ms. n ∷ ms)) (numbers_back ns)

short_back : {A : Type 0} (most : ℕ) (xs : List A) → length xs ≤ most → if_short most xs ≡ Some xs
short_back most xs short = ap (λ b. if b then Some xs else None) (le-leb (length xs) most short)

value_back : (v : List ℕ) → IsValue v → value_of_text (encode_lower v) ≡ Some v
unfolding value_of_text
value_back v is =
    ap (λ r. option_and_then (if_short GREATEST_VALUE) (decoded_bytes r)) (decode_of-encode_lower v is.bytes.fits)
    ∙ short_back GREATEST_VALUE v is.size

values_back : (vs : List (List ℕ)) → ((s : ℕ) (v : List ℕ) → slice_get vs s ≡ Some v → IsValue v)
    → values_said (items_of (map value_data vs)) ≡ Some vs
values_back [] are = refl
values_back (v ∷ vs) are =
    ap₂ (λ o r. option_and_then (λ w. option_map (λ ws. w ∷ ws) r) o) (value_back v (are 0 v refl))
    (values_back vs (λ s w got. are (suc s) w got))

list_back : (vs : List (List ℕ)) → length vs ≤ SEQS → ((s : ℕ) (v : List ℕ) → slice_get vs s ≡ Some v → IsValue v)
    → list_said (list_data vs) ≡ Some vs
unfolding list_said
list_back vs short are = ap (option_and_then (if_short SEQS)) (values_back vs are) ∙ short_back SEQS vs short

lists_back : (ls : List (List (List ℕ))) → AreShort ls → ((a s : ℕ) (v : List ℕ) → slice_get (list_in ls a) s ≡ Some v → IsValue v)
    → lists_said (items_of (map list_data ls)) ≡ Some ls
lists_back [] short are = refl
lists_back (l ∷ ls) short are =
    let P : List (List ℕ) → Type 0 = λ k. length k ≤ SEQS in
    ap₂ (λ o r. option_and_then (λ k. option_map (λ ks. k ∷ ks) r) o) (list_back l (All-head P l ls short) (λ s v got. are 0 s v got))
    (lists_back ls (All-tail P l ls short) (λ a s v got. are (suc a) s v got))

-- ---- an object

members_at : (e : ExportFields) → number_at (codes "members") (export_data e) ≡ Some e.genesis.members
unfolding export_data
members_at e = refl

faults_at : (e : ExportFields) → number_at (codes "faults") (export_data e) ≡ Some e.genesis.faults
unfolding export_data
faults_at e = refl

member_at : (e : ExportFields) → number_at (codes "member") (export_data e) ≡ Some e.member
unfolding export_data
member_at e = refl

opening_at : (e : ExportFields) → numbers_at (codes "opening") (export_data e) ≡ Some e.genesis.opening
unfolding export_data
opening_at e = numbers_back e.genesis.opening

front_at : (e : ExportFields) → numbers_at (codes "front") (export_data e) ≡ Some e.front
unfolding export_data
front_at e = numbers_back e.front

balances_at : (e : ExportFields) → numbers_at (codes "balances") (export_data e) ≡ Some e.balances
unfolding export_data
balances_at e = numbers_back e.balances

lists_at : (e : ExportFields) → AreShort e.lists → HasValues e → lists_in_data (export_data e) ≡ Some e.lists
unfolding export_data lists_in_data
lists_at e short are = lists_back e.lists short are

genesis_at : (e : ExportFields) → genesis_said (export_data e) ≡ Some e.genesis
genesis_at e =
    let m = members_at e in
    let f = faults_at e in
    let o = opening_at e in
    cc

parts_back : (e : ExportFields) → AreShort e.lists → HasValues e → parts_in (export_data e) ≡ Some e
unfolding parts_in
parts_back e short are =
    let g = genesis_at e in
    let m = member_at e in
    let l = lists_at e short are in
    let f = front_at e in
    let b = balances_at e in
    cc

-- ---- an export

all_hold : (a b c d : Bool) → a ≡ true → b ≡ true → c ≡ true → d ≡ true → (a && b && c && d) ≡ true
all_hold a b c d ea eb ec ed = cc

sized : (e : ExportFields) → IsExport e → is_sized e ≡ true
sized e is =
    all_hold (nat_lt e.member e.genesis.members) (length e.lists == e.genesis.members) (length e.front == e.genesis.members)
    (length e.balances == e.genesis.members) (lt-ltb e.member e.genesis.members is.member) (eq-eqb (length e.lists) e.genesis.members is.lists)
    (eq-eqb (length e.front) e.genesis.members is.front) (eq-eqb (length e.balances) e.genesis.members is.balances)

pub reads_back : ((g : GenesisFields) → (genesis_fault g ≡ None) ↔ IsGenesis g) → ExportReadsBack
reads_back limits e text is are value =
    let parts = parts_back e is.short are in
    let size = sized e is in
    let none = (limits e.genesis).1 is.genesis in
    cc
