-- Files of logs.
use Rattle.std.proofs.Common.{◌≡◌, ◌≢◌, ◌⊎◌, inl, inr, ℕ, ◌+◌, ◌≤◌, List, [], ◌∷◌, ◌++◌, length, refl, sym, ap, ◌∙◌, subst, arith, append_assoc, append-nil, length-append, take, drop, take-append-drop}
use Rattle.std.specs.List.{All}
use Rattle.std.specs.Str.{bytes_eq}
use Rattle.std.proofs.lemmas.Bool.{cases_Bool, false≢true}
use Rattle.std.proofs.lemmas.List.{nil_from_length, drop_at}
use Rattle.std.proofs.lemmas.List.Elements.{All-head, All-tail, All-append, All-cons, All-nil}
use Rattle.std.proofs.lemmas.Slice.Eq.{bytes_eq-Decides}
use Rattle.pay_log.specs.declared.chunk.TheConstants.{BESIDE_LEN}
use Rattle.pay_log.specs.Chunks.{BeginsWith, next_place, chunk_of, chunks_of, last_place, IsShort, IsEnd}
use Rattle.pay_log.specs.Laws.{AcknowledgedAreRead, IsBeginning}
use Rattle.pay_log.specs.Logs.{end_place, log_bytes, IsLog, IsWithOrWithout}
use Rattle.pay_log.proofs.Chunks.{Front, decide_front, length-chunk, none_at_nothing, one_front}

-- ---- lists of chunks

pub chunks-push : (key : List ℕ) (sum : ℕ) (ps : List (List ℕ)) (p : List ℕ) → chunks_of key sum (ps ++ p ∷ []) ≡ chunks_of key sum ps ++ chunk_of key (last_place sum ps) p
chunks-push key sum [] p = append-nil (chunk_of key sum p)
chunks-push key sum (q ∷ ps) p =
    ap (λ (l : List ℕ). chunk_of key sum q ++ l) (chunks-push key (next_place sum q) ps p)
    ∙ sym (append_assoc (chunk_of key sum q) (chunks_of key (next_place sum q) ps) (chunk_of key (last_place (next_place sum q) ps) p))

pub last_place-push : (key : List ℕ) (sum : ℕ) (ps : List (List ℕ)) (p : List ℕ) → last_place sum (ps ++ p ∷ []) ≡ next_place (last_place sum ps) p
last_place-push key sum [] p = refl
last_place-push key sum (q ∷ ps) p = last_place-push key (next_place sum q) ps p

cancel : (xs ys zs : List ℕ) → xs ++ ys ≡ xs ++ zs → ys ≡ zs
cancel xs ys zs same = sym (drop_at xs ys (length xs) refl) ∙ ap (λ (l : List ℕ). drop (length xs) l) same ∙ drop_at xs zs (length xs) refl

-- the same bytes hold one list of chunks
pub one_list :
    (key : List ℕ) (sum : ℕ) (ps qs : List (List ℕ)) (a b : List ℕ) → All IsShort ps → All IsShort qs
    → chunks_of key sum ps ++ a ≡ chunks_of key sum qs ++ b → IsEnd key (last_place sum ps) a → IsEnd key (last_place sum qs) b → ps ≡ qs
one_list key sum [] [] a b short_p short_q same end_a end_b = refl
one_list key sum [] (q ∷ qs) a b short_p short_q same end_a end_b =
    absurd (end_a q (All-head IsShort q qs short_q) (record { rest = chunks_of key (next_place sum q) qs ++ b; is = same ∙ append_assoc (chunk_of key sum q) (chunks_of key (next_place sum q) qs) b }))
one_list key sum (p ∷ ps) [] a b short_p short_q same end_a end_b =
    absurd (end_b p (All-head IsShort p ps short_p) (record { rest = chunks_of key (next_place sum p) ps ++ a; is = sym same ∙ append_assoc (chunk_of key sum p) (chunks_of key (next_place sum p) ps) a }))
one_list key sum (p ∷ ps) (q ∷ qs) a b short_p short_q same end_a end_b =
    let split_p = append_assoc (chunk_of key sum p) (chunks_of key (next_place sum p) ps) a in
    let split_q = append_assoc (chunk_of key sum q) (chunks_of key (next_place sum q) qs) b in
    let both : chunk_of key sum p ++ (chunks_of key (next_place sum p) ps ++ a) ≡ chunk_of key sum q ++ (chunks_of key (next_place sum q) qs ++ b) = sym split_p ∙ same ∙ split_q in
    let head : p ≡ q =
    one_front key sum p q (chunk_of key sum p ++ (chunks_of key (next_place sum p) ps ++ a)) (All-head IsShort p ps short_p) (All-head IsShort q qs short_q)
    (record { rest = chunks_of key (next_place sum p) ps ++ a; is = refl })
    (record { rest = chunks_of key (next_place sum q) qs ++ b; is = both }) in
    let P : List ℕ → Type 0 = λ x. (chunk_of key sum p ++ (chunks_of key (next_place sum p) ps ++ a) ≡ chunk_of key sum x ++ (chunks_of key (next_place sum x) qs ++ b)) × IsEnd key (last_place (next_place sum x) qs) b in
    let at_p : P p = subst P (sym head) (both, end_b) in
    let tails = cancel (chunk_of key sum p) (chunks_of key (next_place sum p) ps ++ a) (chunks_of key (next_place sum p) qs ++ b) at_p.0 in
    let rest : ps ≡ qs = one_list key (next_place sum p) ps qs a b (All-tail IsShort p ps short_p) (All-tail IsShort q qs short_q) tails end_a at_p.1 in
    (λ i. head i ∷ rest i)

-- ---- logs

pub log-push : (key : List ℕ) (header : List ℕ) (ps : List (List ℕ)) (p : List ℕ) → log_bytes key header (ps ++ p ∷ []) ≡ log_bytes key header ps ++ chunk_of key (end_place ps) p
unfolding log_bytes
log-push key header ps p =
    ap (λ (l : List ℕ). header ++ l) (chunks-push key 0 ps p)
    ∙ sym (append_assoc header (chunks_of key 0 ps) (chunk_of key (end_place ps) p))

pub one_log : (key header file : List ℕ) (ps qs : List (List ℕ)) → IsLog key header file ps → IsLog key header file qs → ps ≡ qs
unfolding log_bytes
one_log key header file ps qs is_p is_q =
    let sum : ℕ = 0 in
    let both : header ++ (chunks_of key sum ps ++ is_p.rest) ≡ header ++ (chunks_of key sum qs ++ is_q.rest) =
    sym (append_assoc header (chunks_of key sum ps) is_p.rest) ∙ sym is_p.is ∙ is_q.is ∙ append_assoc header (chunks_of key sum qs) is_q.rest in
    one_list key sum ps qs is_p.rest is_q.rest is_p.short is_q.short (cancel header _ _ both) is_p.ended is_q.ended

pub read_again : (key : List ℕ) (header : List ℕ) (ps : List (List ℕ)) → All IsShort ps → IsLog key header (log_bytes key header ps) ps
read_again key header ps short = record {
  short = short;
  rest = [];
  is = sym (append-nil (log_bytes key header ps));
  ended = none_at_nothing key (end_place ps);
}

pub all_push : (ps : List (List ℕ)) (p : List ℕ) → All IsShort ps → IsShort p → All IsShort (ps ++ p ∷ [])
all_push ps p short one = All-append IsShort ps (p ∷ []) short (All-cons IsShort p [] one (All-nil IsShort))

-- ---- what a crash leaves of one chunk more

pub same_or_not : (xs ys : List ℕ) → (xs ≡ ys) ⊎ (xs ≢ ys)
same_or_not xs ys = elim (cases_Bool (bytes_eq xs ys)) [
  | inl same ↦ inl ((bytes_eq-Decides xs ys).0 same)
  | inr differ ↦ inr (λ same. false≢true (sym differ ∙ (bytes_eq-Decides xs ys).1 same))
]

pub torn :
    (key : List ℕ) (header : List ℕ) (ps : List (List ℕ)) (p file tail : List ℕ) → All IsShort ps → IsShort p → file ≡ log_bytes key header ps ++ tail
    → length tail ≤ length (chunk_of key (end_place ps) p) → IsWithOrWithout key header ps p file
torn key header ps p file tail short short_p is few = elim (decide_front key (end_place ps) tail) [
  | inl front ↦ elim (same_or_not front.payload p) [
    | inl same ↦ inr (inl (whole front same))
    | inr differs ↦ inr (inr (record {
      other = front.payload;
      differs = differs;
      stands = record { rest = front.at.rest; is = longer front.payload front.at };
    }))
  ]
  | inr end ↦ inl (record { short = short; rest = tail; is = is; ended = end })
]
  where
    longer : (q : List ℕ) (at : BeginsWith tail (chunk_of key (end_place ps) q)) → file ≡ log_bytes key header (ps ++ q ∷ []) ++ at.rest
    longer q at =
        is ∙ ap (λ (l : List ℕ). log_bytes key header ps ++ l) at.is
        ∙ sym (append_assoc (log_bytes key header ps) (chunk_of key (end_place ps) q) at.rest)
        ∙ ap (λ (l : List ℕ). l ++ at.rest) (sym (log-push key header ps q))

    whole : (front : Front key (end_place ps) tail) → front.payload ≡ p → IsLog key header file (ps ++ p ∷ [])
    whole front same =
        let at : BeginsWith tail (chunk_of key (end_place ps) p) = subst (λ (q : List ℕ). BeginsWith tail (chunk_of key (end_place ps) q)) same front.at in
        let chunk = chunk_of key (end_place ps) p in
        let none : at.rest ≡ [] = nil_from_length at.rest (omega (arith, ap length at.is, length-append chunk at.rest, few)) in
        record {
          short = all_push ps p short short_p;
          rest = [];
          is = longer p at ∙ ap (λ (l : List ℕ). log_bytes key header (ps ++ p ∷ []) ++ l) none;
          ended = none_at_nothing key (end_place (ps ++ p ∷ []));
        }

-- ---- one chunk more that was read

pub next_chunk :
    (key : List ℕ) (first : ℕ) (ps : List (List ℕ)) (place : ℕ) (bytes rest p after : List ℕ) → bytes ≡ chunks_of key first ps ++ rest → place ≡ last_place first ps
    → rest ≡ chunk_of key place p ++ after → bytes ≡ chunks_of key first (ps ++ p ∷ []) ++ after
next_chunk key first ps place bytes rest p after is place_is rest_is =
    is ∙ ap (λ (l : List ℕ). chunks_of key first ps ++ l) (rest_is ∙ ap (λ (s : ℕ). chunk_of key s p ++ after) place_is)
    ∙ sym (append_assoc (chunks_of key first ps) (chunk_of key (last_place first ps) p) after)
    ∙ ap (λ (l : List ℕ). l ++ after) (sym (chunks-push key first ps p))

pub next_size :
    (key : List ℕ) (first : ℕ) (ps : List (List ℕ)) (p : List ℕ) → length (chunks_of key first (ps ++ p ∷ [])) ≡ length (chunks_of key first ps) + (BESIDE_LEN + length p)
next_size key first ps p =
    omega (arith, ap length (chunks-push key first ps p), length-append (chunks_of key first ps) (chunk_of key (last_place first ps) p), length-chunk key (last_place first ps) p)

-- a place is how many bytes of chunks stand before it
pub place-length : (key : List ℕ) (first : ℕ) (ps : List (List ℕ)) → last_place first ps ≡ first + length (chunks_of key first ps)
place-length key first [] = omega arith
place-length key first (p ∷ ps) =
    omega (arith, place-length key (next_place first p) ps, length-append (chunk_of key first p) (chunks_of key (next_place first p) ps), length-chunk key first p)

-- ---- a file that was read

pub log_size : (key : List ℕ) (header : List ℕ) (ps : List (List ℕ)) (len : ℕ) → len ≡ length (chunks_of key 0 ps) → length header + len ≡ length (log_bytes key header ps)
unfolding log_bytes
log_size key header ps len size = omega (arith, size, length-append header (chunks_of key 0 ps))

-- ---- what is read of what a crash left

beginning_same : (xs ys : List (List ℕ)) → xs ≡ ys → IsBeginning xs ys
beginning_same xs ys same = record { rest = []; is = sym same ∙ sym (append-nil xs) }

pub acknowledged : AcknowledgedAreRead
acknowledged key header file ps qs p (inl without) is =
    let same : ps ≡ qs = one_log key header file ps qs without is in
    inl (beginning_same ps qs same, record { rest = p ∷ []; is = ap (λ (l : List (List ℕ)). l ++ p ∷ []) same })
acknowledged key header file ps qs p (inr (inl with')) is =
    let same : ps ++ p ∷ [] ≡ qs = one_log key header file (ps ++ p ∷ []) qs with' is in
    inl (record { rest = p ∷ []; is = sym same }, beginning_same qs (ps ++ p ∷ []) (sym same))
acknowledged key header file ps qs p (inr (inr stray)) is = inr stray

-- what stands after a header that a file begins with
pub after_header : (header file : List ℕ) (n : ℕ) → take n file ≡ header → file ≡ header ++ drop n file
after_header header file n front = sym (take-append-drop n file) ∙ ap (λ (l : List ℕ). l ++ drop n file) front
