-- What a value of several payments says.
use Rattle.std.proofs.Common.{◌≡◌, ℕ, suc, ◌+◌, ◌*◌, ◌<◌, ◌≤◌, List, [], ◌∷◌, length, map, take, drop, refl, ap, ◌∙◌, sym, arith, true}
use Rattle.std.specs.Prelude.{◌-◌, slice_index, All}
use Rattle.std.proofs.lemmas.Bool.{and_from, cond-true, eq-eqb, lt-ltb, le-leb}
use Rattle.std.specs.List.{flat_map, range_with_len}
use Rattle.std.specs.Int.{from_be_bytes, w16, w64}
use Rattle.std.proofs.Math.Seq.{take-append_seam, drop-append_seam}
use Rattle.std.proofs.lemmas.List.{length-append, drop-drop}
use Rattle.std.proofs.lemmas.List.Elements.{All-head, All-tail}
use Rattle.std.proofs.lemmas.Nat.{from_be_bytes-to_be_bytes_2, from_be_bytes-to_be_bytes_8}
use Rattle.pay_book.specs.declared.payment.Entry.{Entry}
use Rattle.pay_book.specs.declared.payment.Payment.{Payment}
use Rattle.pay_book.specs.declared.payment.TheConstants.{PAIR_LENGTH, MOST_PAYMENTS}
use Rattle.pay_book.specs.Payment.{pair_at, pair_bytes, pair_entry, entry_of, payment_value, payments_value, is_several, entries_in}
use Rattle.pay_book.specs.Laws.{FitsBytes, entry_for}

pub length-pairs : (ps : List Payment) → length (flat_map pair_bytes ps) ≡ PAIR_LENGTH * length ps
length-pairs [] = refl
length-pairs (p ∷ ps) =
    let rest = length-pairs ps in
    let all = length-append (pair_bytes p) (flat_map pair_bytes ps) in
    omega arith

pub length-payments_value : (ps : List Payment) → length (payments_value ps) ≡ 2 + PAIR_LENGTH * length ps
unfolding payments_value
length-payments_value ps = let pairs = length-pairs ps in omega arith

pair_entry-bytes : (accounts owner : ℕ) (p : Payment) → FitsBytes p → pair_entry accounts owner (pair_bytes p) ≡ entry_for accounts owner p
unfolding pair_entry
pair_entry-bytes accounts owner p (low, high) =
    rw (from_be_bytes-to_be_bytes_2 p.payee low, from_be_bytes-to_be_bytes_8 p.amount high)

-- pairs from a place on
entries_from : (accounts owner : ℕ) (value : List ℕ) (place : ℕ) (ps : List Payment) → All FitsBytes ps
    → drop (2 + PAIR_LENGTH * place) value ≡ flat_map pair_bytes ps
    → map (λ k. pair_entry accounts owner (pair_at value k)) (range_with_len place (length ps)) ≡ map (entry_for accounts owner) ps
entries_from accounts owner value place [] fit here = refl
entries_from accounts owner value place (p ∷ ps) fit here =
    let start = 2 + PAIR_LENGTH * place in
    let ten : start + PAIR_LENGTH - start ≡ PAIR_LENGTH = omega arith in
    let pair : pair_at value place ≡ pair_bytes p =
    ap (λ n. take n (drop start value)) ten ∙ ap (take PAIR_LENGTH) here
    ∙ take-append_seam (pair_bytes p) (flat_map pair_bytes ps) in
    let next : 2 + PAIR_LENGTH * (place + 1) ≡ start + PAIR_LENGTH = omega arith in
    let behind : drop (2 + PAIR_LENGTH * (place + 1)) value ≡ flat_map pair_bytes ps =
    ap (λ n. drop n value) next ∙ sym (drop-drop PAIR_LENGTH start value) ∙ ap (drop PAIR_LENGTH) here
    ∙ drop-append_seam (pair_bytes p) (flat_map pair_bytes ps) in
    let first : pair_entry accounts owner (pair_at value place) ≡ entry_for accounts owner p =
    ap (pair_entry accounts owner) pair ∙ pair_entry-bytes accounts owner p (All-head FitsBytes p ps fit) in
    ap (λ (e : Entry). e ∷ map (λ k. pair_entry accounts owner (pair_at value k)) (range_with_len (place + 1) (length ps))) first
    ∙ ap (λ (es : List Entry). entry_for accounts owner p ∷ es)
    (entries_from accounts owner value (place + 1) ps (All-tail FitsBytes p ps fit) behind)

pub is_several-encoded : (ps : List Payment) → 0 < length ps → length ps ≤ MOST_PAYMENTS → is_several (payments_value ps) ≡ true
unfolding is_several payments_value
is_several-encoded ps some few =
    let long = length-pairs ps in
    and_from _ _ (and_from _ _ (lt-ltb 0 (length ps) some) (le-leb (length ps) MOST_PAYMENTS few))
    (eq-eqb (suc (suc (length (flat_map pair_bytes ps)))) (2 + PAIR_LENGTH * length ps) (omega arith))

pub entries_in-encoded : (accounts owner : ℕ) (ps : List Payment) → All FitsBytes ps → 0 < length ps → length ps ≤ MOST_PAYMENTS
    → entries_in accounts owner (payments_value ps) ≡ map (entry_for accounts owner) ps
unfolding entries_in payments_value
entries_in-encoded accounts owner ps fit some few =
    cond-true (is_several (payments_value ps)) _ _ (is_several-encoded ps some few)
    ∙ entries_from accounts owner (payments_value ps) 0 ps fit refl

-- numbers that have the same bytes are the same
same_pair : (p q : Payment) → FitsBytes p → FitsBytes q → pair_bytes p ≡ pair_bytes q → p ≡ q
same_pair p q (p_low, p_high) (q_low, q_high) same =
    let payee : p.payee ≡ q.payee =
    sym (from_be_bytes-to_be_bytes_2 p.payee p_low) ∙ ap (λ bytes. from_be_bytes w16 (take 2 bytes)) same
    ∙ from_be_bytes-to_be_bytes_2 q.payee q_low in
    let amount : p.amount ≡ q.amount =
    sym (from_be_bytes-to_be_bytes_8 p.amount p_high) ∙ ap (λ bytes. from_be_bytes w64 (drop 2 bytes)) same
    ∙ from_be_bytes-to_be_bytes_8 q.amount q_high in
    ap (λ (n : ℕ). record { payee = n; amount = p.amount }) payee ∙ ap (λ (n : ℕ). record { payee = q.payee; amount = n }) amount

pub same_pairs : (ps qs : List Payment) → All FitsBytes ps → All FitsBytes qs → flat_map pair_bytes ps ≡ flat_map pair_bytes qs → ps ≡ qs
same_pairs [] [] fit fits same = refl
same_pairs [] (q ∷ qs) fit fits same = absurd (let bad = ap length same in omega arith)
same_pairs (p ∷ ps) [] fit fits same = absurd (let bad = ap length same in omega arith)
same_pairs (p ∷ ps) (q ∷ qs) fit fits same =
    let first : pair_bytes p ≡ pair_bytes q =
    sym (take-append_seam (pair_bytes p) (flat_map pair_bytes ps)) ∙ ap (take PAIR_LENGTH) same
    ∙ take-append_seam (pair_bytes q) (flat_map pair_bytes qs) in
    let others : flat_map pair_bytes ps ≡ flat_map pair_bytes qs =
    sym (drop-append_seam (pair_bytes p) (flat_map pair_bytes ps)) ∙ ap (drop PAIR_LENGTH) same
    ∙ drop-append_seam (pair_bytes q) (flat_map pair_bytes qs) in
    ap (λ (x : Payment). x ∷ ps) (same_pair p q (All-head FitsBytes p ps fit) (All-head FitsBytes q qs fits) first)
    ∙ ap (λ (xs : List Payment). q ∷ xs) (same_pairs ps qs (All-tail FitsBytes p ps fit) (All-tail FitsBytes q qs fits) others)

pub payment_value-same : (p q : Payment) → FitsBytes p → FitsBytes q → payment_value p.payee p.amount ≡ payment_value q.payee q.amount → p ≡ q
unfolding payment_value
payment_value-same p q fit fits same = same_pair p q fit fits (ap (drop 1) same)

pub payments_value-same : (ps qs : List Payment) → All FitsBytes ps → All FitsBytes qs → payments_value ps ≡ payments_value qs → ps ≡ qs
unfolding payments_value
payments_value-same ps qs fit fits same = same_pairs ps qs fit fits (ap (drop 2) same)

pub values-apart : (p : Payment) (qs : List Payment) → payment_value p.payee p.amount ≡ payments_value qs → ⊥
unfolding payment_value payments_value
values-apart p qs same = let bad = ap (λ value. slice_index value 0) same in omega arith

pub entries_in-one : (accounts owner : ℕ) (p : Payment) → FitsBytes p → entries_in accounts owner (payment_value p.payee p.amount) ≡ entry_for accounts owner p ∷ []
unfolding entries_in is_several entry_of payment_value pair_entry
entries_in-one accounts owner p (low, high) =
    rw (from_be_bytes-to_be_bytes_2 p.payee low, from_be_bytes-to_be_bytes_8 p.amount high) refl
