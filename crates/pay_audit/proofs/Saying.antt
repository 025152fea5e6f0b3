-- What a verdict says of other geneses, wrong fronts and wrong balances.
use Rattle.std.proofs.Common.{◌≡◌, ◌≢◌, ℕ, ◌+◌, ◌<◌, ◌==◌, ◌&&◌, pos, List, [], ◌∷◌, length, slice_get, slice_index, Bool, true, false, Option, Some, None, option_map, if◌then◌else◌, refl, ap, sym, subst, ◌∙◌, arith}
use Rattle.std.specs.Str.{bytes_eq}
use Rattle.std.specs.Cmp.Lexicographic.{same_text}
use Rattle.std.proofs.lemmas.Bool.{and_parts, eqb-true, eq-eqb}
use Rattle.std.proofs.lemmas.Option.{get_or_from_slice_get, same_Some, slice_get-get_or, slice_get_within}
use Rattle.std.proofs.lemmas.Slice.Eq.{bytes_eq-Decides}
use Rattle.pay_link.specs.Genesis.{GenesisFields}
use Rattle.pay_book.specs.Balance.{AreBalances}
use Rattle.pay_book.specs.Front.{IsLargest}
use Rattle.pay_book.specs.Laws.{LargestIsComputed, LargestIsOne, SettledBookExists}
use Rattle.pay_audit.specs.Export.{ExportFields, IsExport, lists_of}
use Rattle.pay_audit.specs.Laws.{HasRightBalances, HasRightFront, logs_of}
use Rattle.pay_audit.specs.Said.{BeginAlike, Each, EachTwo, IsFirstWrongBalanceOf, IsFirstWrongFrontOf, IsSaid}
use Rattle.pay_audit.specs.Verdict.{book_of, first_from, if_other, other_genesis, other_genesis_at, same_genesis, wrong_balance_at, wrong_balance_of, wrong_front_at, wrong_front_of}
use Rattle.pay_audit.specs.declared.auditing.Verdict.{Verdict}
use Rattle.pay_audit.specs.declared.auditing.Verdict.TheVariants.{OtherGenesis, WrongBalance, WrongFront}
use Rattle.pay_audit.proofs.Firsts.{first_is, nobody}
use Rattle.pay_audit.proofs.Judging.{front_is, pos_is, right_balances, right_front}
use Rattle.pay_audit.proofs.Forking.{unmapped}

-- ---- answers with and without

pub test_failed : {B : Type 0} (b : Bool) (v w : B) → (if b then None else Some v) ≡ Some w → (b ≡ false) × (w ≡ v)
test_failed true v w h = absurd cc
test_failed false v w h = (refl, sym (same_Some v w h))

pub test_passed : {B : Type 0} (b : Bool) (v : B) → (if b then None else Some v) ≡ None → b ≡ true
test_passed true v h = refl
test_passed false v h = absurd cc

pub mapped_from : (f : ℕ → Verdict) (o : Option ℕ) (v : Verdict) → option_map f o ≡ Some v → (n : ℕ) × (o ≡ Some n) × (v ≡ f n)
mapped_from f None v h = absurd cc
mapped_from f (Some n) v h = (n, refl, sym (same_Some (f n) v h))

-- ---- geneses

genesis_of : ℕ → ℕ → List ℕ → GenesisFields
genesis_of m f o = record { members = m; faults = f; opening = o }

genesis_same : (g h : GenesisFields) → same_genesis g h ≡ true → g ≡ h
unfolding genesis_of
genesis_same g h is =
    let counts = (and_parts ((g.members == h.members) && (g.faults == h.faults)) (bytes_eq g.opening h.opening) is).0 in
    let openings = (and_parts ((g.members == h.members) && (g.faults == h.faults)) (bytes_eq g.opening h.opening) is).1 in
    let members = (and_parts (g.members == h.members) (g.faults == h.faults) counts).0 in
    let faults = (and_parts (g.members == h.members) (g.faults == h.faults) counts).1 in
    ap (λ n. genesis_of n g.faults g.opening) (eqb-true g.members h.members members)
    ∙ ap (λ n. genesis_of h.members n g.opening) (eqb-true g.faults h.faults faults)
    ∙ ap (λ o. genesis_of h.members h.faults o) (same_text g.opening h.opening (sym openings))

all_true : (a b c : Bool) → a ≡ true → b ≡ true → c ≡ true → (a && b && c) ≡ true
all_true a b c ea eb ec = cc

pub same_itself : (g : GenesisFields) → same_genesis g g ≡ true
same_itself g =
    all_true (g.members == g.members) (g.faults == g.faults) (bytes_eq g.opening g.opening) (eq-eqb g.members g.members refl)
    (eq-eqb g.faults g.faults refl) ((bytes_eq-Decides g.opening g.opening).1 refl)

genesis_other : (g h : GenesisFields) → same_genesis g h ≡ false → g ≢ h
genesis_other g h is same =
    let yes : same_genesis g h ≡ true = subst (λ x. same_genesis g x ≡ true) same (same_itself g) in
    absurd cc

alike_at : (first : ExportFields) (x : ℕ) (e : ExportFields) → other_genesis_at first.genesis x e ≡ None → BeginAlike first e
alike_at first x e h = genesis_same first.genesis e.genesis (test_passed (same_genesis first.genesis e.genesis) (OtherGenesis x) h)

pub all_alike : (exports : List ExportFields) → other_genesis exports ≡ None → EachTwo BeginAlike exports
all_alike [] h x y one other at_one at_other = absurd cc
all_alike (first ∷ es) h x y one other at_one at_other =
    sym (alike_at first (0 + x) one (nobody (other_genesis_at first.genesis) 0 (first ∷ es) h x one at_one))
    ∙ alike_at first (0 + y) other (nobody (other_genesis_at first.genesis) 0 (first ∷ es) h y other at_other)

pub other_said : (exports : List ExportFields) (v : Verdict) → other_genesis exports ≡ Some v → IsSaid exports v
other_said [] v h = absurd cc
other_said (first ∷ es) v h =
    let r = first_is (other_genesis_at first.genesis) 0 (first ∷ es) v h in
    let failed = test_failed (same_genesis first.genesis r.item.genesis) (OtherGenesis (0 + r.place)) v r.answer in
    let is : v ≡ OtherGenesis r.place = failed.1 ∙ ap (λ x. OtherGenesis x) (let e : 0 + r.place ≡ r.place = omega arith in e) in
    subst (IsSaid (first ∷ es)) (sym is) (record {
      first = first;
      export = r.item;
      at_first = refl;
      at = r.at;
      other = genesis_other first.genesis r.item.genesis failed.0;
      before = λ x e below got. alike_at first (0 + x) e (r.before x e below got);
    })

-- ---- numbers

pub number_other : (right : List ℕ) (a n : ℕ) → (n == slice_index right a) ≡ false → n ≢ slice_index right a
number_other right a n is same =
    let yes : (n == slice_index right a) ≡ true = eq-eqb n (slice_index right a) same in
    absurd cc

-- the first number that isn't the right one
record FirstOther (right ns : List ℕ) (a : ℕ) : Type 0 where
  within : a < length ns
  differs : slice_index ns a ≢ slice_index right a
  before : (b : ℕ) → b < a → slice_index ns b ≡ slice_index right b

first_other : (right ns : List ℕ) (a : ℕ) → first_from (if_other right) 0 ns ≡ Some a → FirstOther right ns a
first_other right ns a h =
    let r = first_is (if_other right) 0 ns a h in
    let failed = test_failed (r.item == slice_index right (0 + r.place)) (0 + r.place) a r.answer in
    let is : r.place ≡ a = omega (arith, failed.1) in
    let n : slice_index ns r.place ≡ r.item = get_or_from_slice_get ns r.place r.item 0 r.at in
    subst (FirstOther right ns) is (record {
      within = slice_get_within ns r.place r.item r.at;
      differs = λ same. number_other right (0 + r.place) r.item failed.0 (sym n ∙ same ∙ ap (slice_index right) (let e : r.place ≡ 0 + r.place = omega arith in e));
      before = λ b below. earlier r.place b below (slice_get_within ns r.place r.item r.at) r.before;
    }) where
      earlier : (place b : ℕ) → b < place → place < length ns
          → ((p y : ℕ) → p < place → slice_get ns p ≡ Some y → if_other right (0 + p) y ≡ None)
          → slice_index ns b ≡ slice_index right b
      earlier place b below within none =
          let got = slice_get-get_or ns b 0 (omega (arith, below, within)) in
          let passed = test_passed (slice_index ns b == slice_index right (0 + b)) (0 + b) (none b (slice_index ns b) below got) in
          eqb-true (slice_index ns b) (slice_index right (0 + b)) passed
          ∙ ap (slice_index right) (let e : 0 + b ≡ b = omega arith in e)

-- ---- fronts and balances

module _ (computed : LargestIsComputed) (single : LargestIsOne) (exists : SettledBookExists) where
  front_at : (x : ℕ) (e : ExportFields) → IsExport e → wrong_front_at x e ≡ None → HasRightFront e
  front_at x e sound h = (right_front computed single e sound).0 (unmapped (WrongFront x) (wrong_front_of e) h)

  balance_at_export : (x : ℕ) (e : ExportFields) → IsExport e → HasRightFront e → wrong_balance_at x e ≡ None → HasRightBalances e
  balance_at_export x e sound front h =
      (right_balances computed exists e sound ((right_front computed single e sound).1 front)).0
      (unmapped (WrongBalance x) (wrong_balance_of e) h)

  pub all_fronts : (exports : List ExportFields) → Each IsExport exports → first_from wrong_front_at 0 exports ≡ None → Each HasRightFront exports
  all_fronts exports sound h x e got = front_at (0 + x) e (sound x e got) (nobody wrong_front_at 0 exports h x e got)

  pub all_balances :
      (exports : List ExportFields) → Each IsExport exports → Each HasRightFront exports → first_from wrong_balance_at 0 exports ≡ None
      → Each HasRightBalances exports
  all_balances exports sound fronts h x e got =
      balance_at_export (0 + x) e (sound x e got) (fronts x e got) (nobody wrong_balance_at 0 exports h x e got)

  -- the first account whose front is wrong
  wrong_front : (e : ExportFields) → IsExport e → (a : ℕ) → wrong_front_of e ≡ Some a → IsFirstWrongFrontOf e a
  unfolding wrong_front_of
  wrong_front e sound a h =
      let r = first_other (book_of e).front e.front a h in
      let largest : IsLargest e.genesis.opening (logs_of e) (slice_index (book_of e).front) = (computed e.genesis.opening (logs_of e)).1 in
      record {
        known = omega (arith, r.within, sound.front);
        wrong = λ right. r.differs (right (slice_index (book_of e).front) largest);
        before = λ b below front is.
            r.before b below ∙ single e.genesis.opening (logs_of e) (slice_index (book_of e).front) front largest is b;
      }

  pub front_said :
      (exports : List ExportFields) → Each IsExport exports → EachTwo BeginAlike exports
      → (v : Verdict) → first_from wrong_front_at 0 exports ≡ Some v → IsSaid exports v
  front_said exports sound alike v h =
      let r = first_is wrong_front_at 0 exports v h in
      let m = mapped_from (WrongFront (0 + r.place)) (wrong_front_of r.item) v r.answer in
      let is : v ≡ WrongFront r.place m.0 = m.2 ∙ ap (λ x. WrongFront x m.0) (let e : 0 + r.place ≡ r.place = omega arith in e) in
      subst (IsSaid exports) (sym is) (record {
        geneses = alike;
        export = r.item;
        at = r.at;
        wrong = wrong_front r.item (sound r.place r.item r.at) m.0 m.1;
        before = λ x e below got. front_at (0 + x) e (sound x e got) (r.before x e below got);
      })

  -- the first account whose balance is wrong, after a right front
  wrong_balance : (e : ExportFields) → IsExport e → HasRightFront e → (a : ℕ) → wrong_balance_of e ≡ Some a → IsFirstWrongBalanceOf e a
  unfolding wrong_balance_of
  wrong_balance e sound front a h =
      let r = first_other (book_of e).balances e.balances a h in
      let fronts = front_is computed e sound ((right_front computed single e sound).1 front) in
      let At : List ℕ → Type 0 = λ f. AreBalances e.genesis.opening (logs_of e) (slice_index f) (book_of e).balances in
      let are : At e.front = subst At (sym fronts) (exists e.genesis.opening (lists_of e)).is.are in
      let known : a < e.genesis.members = omega (arith, r.within, sound.balances) in
      record {
        known = known;
        wrong = λ right. r.differs (pos_is (slice_index e.balances a) (slice_index (book_of e).balances a)
            (right ∙ sym (are.exact a (omega (arith, known, sound.genesis.opening)))));
        before = λ b below. ap pos (r.before b below) ∙ are.exact b (omega (arith, below, known, sound.genesis.opening));
      }

  pub balance_said :
      (exports : List ExportFields) → Each IsExport exports → EachTwo BeginAlike exports → Each HasRightFront exports
      → (v : Verdict) → first_from wrong_balance_at 0 exports ≡ Some v → IsSaid exports v
  balance_said exports sound alike fronts v h =
      let r = first_is wrong_balance_at 0 exports v h in
      let m = mapped_from (WrongBalance (0 + r.place)) (wrong_balance_of r.item) v r.answer in
      let is : v ≡ WrongBalance r.place m.0 = m.2 ∙ ap (λ x. WrongBalance x m.0) (let e : 0 + r.place ≡ r.place = omega arith in e) in
      subst (IsSaid exports) (sym is) (record {
        geneses = alike;
        fronts = fronts;
        export = r.item;
        at = r.at;
        wrong = wrong_balance r.item (sound r.place r.item r.at) (fronts r.place r.item r.at) m.0 m.1;
        before = λ x e below got. balance_at_export (0 + x) e (sound x e got) (fronts x e got) (r.before x e below got);
      })
