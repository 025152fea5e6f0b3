-- Chunks at the front of bytes: which one stands there, if one does.
use Rattle.std.proofs.Common.{◌≡◌, ◌≢◌, ◌⊎◌, inl, inr, ℕ, zero, suc, ◌+◌, ◌^◌, ◌<◌, ◌≤◌, Bool, true, false, ◌&&◌, List, [], ◌∷◌, ◌++◌, length, get_or, take, drop, refl, sym, ap, ◌∙◌, subst, arith, codes, append_assoc, append-nil, length-append, take-append-drop, drop-drop, leb, leb-true, lit<}
use Rattle.std.proofs.Math.Seq.{take-add}
use Rattle.std.specs.Int.{w32, to_be_bytes}
use Rattle.std.specs.Str.{bytes_eq}
use Rattle.std.proofs.lemmas.Bool.{and_parts, and_from, cases_Bool, false≢true}
use Rattle.std.proofs.lemmas.Bool.Decides.{nat_tests}
use Rattle.std.proofs.lemmas.List.{drop-take, get_or-drop, length-drop, length-take, length-take-le, take-take, take_at, drop_at}
use Rattle.std.proofs.lemmas.Nat.{from_be_bytes-to_be_bytes_4, be_bytes_4}
use Rattle.std.proofs.lemmas.Slice.Eq.{bytes_eq-Decides}
use Rattle.pay_hmac.specs.Mac.{mac, length-mac}
use Rattle.pay_log.specs.declared.chunk.TheConstants.{BESIDE_LEN, FRONT_LEN, HEAD_LEN, MOST_PAYLOAD}
use Rattle.pay_log.specs.Chunks.{BeginsWith, chunk_body, sum_of, chunk_of, chunk_head, length_at, number_of_four, IsHead, IsHeadless, IsShort, IsEnd}
use Rattle.pay_log.specs.Keys.{front_of, place_bytes, secret_mark}

pub mark_long : (key : List ℕ) → length (secret_mark key) ≡ 8
mark_long key = length-take-le 8 (mac key (codes "payd log mark")) (omega (arith, length-mac key (codes "payd log mark")))

pub front_long : (key : List ℕ) (place : ℕ) → length (front_of key place) ≡ FRONT_LEN
front_long key place = omega (arith, length-append (secret_mark key) (place_bytes place), mark_long key, eight_long place)
  where
    eight_long : (place : ℕ) → length (place_bytes place) ≡ 8
    eight_long place = refl

four : (n : ℕ) → length (to_be_bytes w32 n) ≡ 4
four n = refl

head_long : (key : List ℕ) (place n : ℕ) → length (chunk_head key place n) ≡ HEAD_LEN
head_long key place n = omega (arith, length-append (front_of key place) (to_be_bytes w32 n), front_long key place, four n)

body_long : (key : List ℕ) (place : ℕ) (p : List ℕ) → length (chunk_body key place p) ≡ HEAD_LEN + length p
body_long key place p = omega (arith, length-append (chunk_head key place (length p)) p, head_long key place (length p))

sum_long : (key : List ℕ) (place : ℕ) (p : List ℕ) → length (sum_of key place p) ≡ 32
sum_long key place p = length-mac key (place_bytes place ++ chunk_body key place p)

pub length-chunk : (key : List ℕ) (place : ℕ) (p : List ℕ) → length (chunk_of key place p) ≡ BESIDE_LEN + length p
unfolding chunk_of
length-chunk key place p =
    omega (arith, length-append (chunk_body key place p) (sum_of key place p), body_long key place p, sum_long key place p)

-- the parts of a chunk, each at its place
spread : (key : List ℕ) (place : ℕ) (p rest : List ℕ) → chunk_of key place p ++ rest ≡ chunk_head key place (length p) ++ (p ++ (sum_of key place p ++ rest))
unfolding chunk_of
spread key place p rest =
    append_assoc (chunk_body key place p) (sum_of key place p) rest ∙ append_assoc (chunk_head key place (length p)) p (sum_of key place p ++ rest)

pub from_front : (key : List ℕ) (place : ℕ) (p rest : List ℕ) → chunk_of key place p ++ rest ≡ front_of key place ++ (to_be_bytes w32 (length p) ++ (p ++ (sum_of key place p ++ rest)))
from_front key place p rest =
    spread key place p rest ∙ append_assoc (front_of key place) (to_be_bytes w32 (length p)) (p ++ (sum_of key place p ++ rest))

-- the mark, the place and all else
pub from_mark :
    (key : List ℕ) (place : ℕ) (p rest : List ℕ)
    → chunk_of key place p ++ rest ≡ secret_mark key ++ (place_bytes place ++ (to_be_bytes w32 (length p) ++ (p ++ (sum_of key place p ++ rest))))
from_mark key place p rest =
    from_front key place p rest ∙ append_assoc (secret_mark key) (place_bytes place) (to_be_bytes w32 (length p) ++ (p ++ (sum_of key place p ++ rest)))

short_fits : (n : ℕ) → n ≤ MOST_PAYLOAD → n < 2 ^ 32
short_fits n short = omega arith

pub length_is : (key : List ℕ) (place : ℕ) (p bytes : List ℕ) → IsShort p → BeginsWith bytes (chunk_of key place p) → length_at bytes ≡ length p
length_is key place p bytes short begins =
    let after : List ℕ = p ++ (sum_of key place p ++ begins.rest) in
    ap length_at (begins.is ∙ from_front key place p begins.rest)
    ∙ ap number_of_four (drop_at (front_of key place) (to_be_bytes w32 (length p) ++ after) FRONT_LEN (front_long key place))
    ∙ from_be_bytes-to_be_bytes_4 (length p) (short_fits (length p) short)

pub payload_is : (key : List ℕ) (place : ℕ) (p bytes : List ℕ) → BeginsWith bytes (chunk_of key place p) → take (length p) (drop HEAD_LEN bytes) ≡ p
payload_is key place p bytes begins =
    ap (λ (l : List ℕ). take (length p) (drop HEAD_LEN l)) (begins.is ∙ spread key place p begins.rest)
    ∙ ap (take (length p)) (drop_at (chunk_head key place (length p)) (p ++ (sum_of key place p ++ begins.rest)) HEAD_LEN (head_long key place (length p)))
    ∙ take_at p (sum_of key place p ++ begins.rest) (length p) refl

pub body_is : (key : List ℕ) (place : ℕ) (p bytes : List ℕ) → BeginsWith bytes (chunk_of key place p) → take (HEAD_LEN + length p) bytes ≡ chunk_body key place p
unfolding chunk_of
body_is key place p bytes begins =
    ap (λ (l : List ℕ). take (HEAD_LEN + length p) l) (begins.is ∙ append_assoc (chunk_body key place p) (sum_of key place p) begins.rest)
    ∙ take_at (chunk_body key place p) (sum_of key place p ++ begins.rest) (HEAD_LEN + length p) (body_long key place p)

pub sum_is : (key : List ℕ) (place : ℕ) (p bytes : List ℕ) → BeginsWith bytes (chunk_of key place p) → take 32 (drop (HEAD_LEN + length p) bytes) ≡ sum_of key place p
unfolding chunk_of
sum_is key place p bytes begins =
    ap (λ (l : List ℕ). take 32 (drop (HEAD_LEN + length p) l)) (begins.is ∙ append_assoc (chunk_body key place p) (sum_of key place p) begins.rest)
    ∙ ap (take 32) (drop_at (chunk_body key place p) (sum_of key place p ++ begins.rest) (HEAD_LEN + length p) (body_long key place p))
    ∙ take_at (sum_of key place p) begins.rest 32 (sum_long key place p)

pub room_is : (key : List ℕ) (place : ℕ) (p bytes : List ℕ) → BeginsWith bytes (chunk_of key place p) → BESIDE_LEN + length p ≤ length bytes
room_is key place p bytes begins =
    omega (arith, ap length begins.is, length-append (chunk_of key place p) begins.rest, length-chunk key place p)

-- no two chunks stand at the front of the same bytes
pub one_front : (key : List ℕ) (place : ℕ) (p q bytes : List ℕ) → IsShort p → IsShort q → BeginsWith bytes (chunk_of key place p) → BeginsWith bytes (chunk_of key place q) → p ≡ q
one_front key place p q bytes short_p short_q at_p at_q =
    let same : length p ≡ length q = sym (length_is key place p bytes short_p at_p) ∙ length_is key place q bytes short_q at_q in
    sym (payload_is key place p bytes at_p) ∙ ap (λ (n : ℕ). take n (drop HEAD_LEN bytes)) same ∙ payload_is key place q bytes at_q

-- a chunk takes bytes
pub none_at_nothing : (key : List ℕ) (place : ℕ) → IsEnd key place []
none_at_nothing key place p short begins = absurd (omega (arith, room_is key place p [] begins))

-- whether one stands there
pub record Front (key : List ℕ) (place : ℕ) (bytes : List ℕ) : Type 0 where
  pub payload : List ℕ
  pub short : IsShort payload
  pub at : BeginsWith bytes (chunk_of key place payload)

abbrev payload_at : List ℕ → List ℕ → List ℕ
payload_at key bytes = take (length_at bytes) (drop HEAD_LEN bytes)

-- whether these bytes begin with the chunk of a payload
abbrev fits : List ℕ → ℕ → List ℕ → List ℕ → Bool
fits key place bytes q = bytes_eq (take (length (chunk_of key place q)) bytes) (chunk_of key place q) && leb (length q) MOST_PAYLOAD

found : (key : List ℕ) (place : ℕ) (bytes q : List ℕ) → fits key place bytes q ≡ true → Front key place bytes
found key place bytes q fitting =
    let both = and_parts (bytes_eq (take (length (chunk_of key place q)) bytes) (chunk_of key place q)) (leb (length q) MOST_PAYLOAD) fitting in
    let same : take (length (chunk_of key place q)) bytes ≡ chunk_of key place q = (bytes_eq-Decides (take (length (chunk_of key place q)) bytes) (chunk_of key place q)).0 both.0 in
    record {
      payload = q;
      short = leb-true (length q) MOST_PAYLOAD both.1;
      at = record {
        rest = drop (length (chunk_of key place q)) bytes;
        is = sym (take-append-drop (length (chunk_of key place q)) bytes) ∙ ap (λ (l : List ℕ). l ++ drop (length (chunk_of key place q)) bytes) same;
      };
    }

none : (key : List ℕ) (place : ℕ) (bytes : List ℕ) → fits key place bytes (payload_at key bytes) ≡ false → IsEnd key place bytes
none key place bytes unfit p short begins =
    let same : payload_at key bytes ≡ p = ap (λ (m : ℕ). take m (drop HEAD_LEN bytes)) (length_is key place p bytes short begins) ∙ payload_is key place p bytes begins in
    let chunk : take (length (chunk_of key place p)) bytes ≡ chunk_of key place p =
    ap (λ (l : List ℕ). take (length (chunk_of key place p)) l) begins.is ∙ take_at (chunk_of key place p) begins.rest (length (chunk_of key place p)) refl in
    let fitting : fits key place bytes p ≡ true =
    and_from (bytes_eq (take (length (chunk_of key place p)) bytes) (chunk_of key place p)) (leb (length p) MOST_PAYLOAD)
    ((bytes_eq-Decides (take (length (chunk_of key place p)) bytes) (chunk_of key place p)).1 chunk) (grind (arith, nat_tests)) in
    let P : List ℕ → Type 0 = λ x. fits key place bytes x ≡ true in
    false≢true (sym unfit ∙ subst P (sym same) fitting)

pub decide_front : (key : List ℕ) (place : ℕ) (bytes : List ℕ) → Front key place bytes ⊎ IsEnd key place bytes
decide_front key place bytes = elim (cases_Bool (fits key place bytes (payload_at key bytes))) [
  | inl fitting ↦ inl (found key place bytes (payload_at key bytes) fitting)
  | inr unfit ↦ inr (none key place bytes unfit)
]

-- ---- by the tests that are made

pub too_short : (key : List ℕ) (place : ℕ) (bytes : List ℕ) → length bytes < HEAD_LEN → IsEnd key place bytes
too_short key place bytes few p short begins = absurd (omega (arith, room_is key place p bytes begins))

pub too_long : (key : List ℕ) (place : ℕ) (bytes : List ℕ) → MOST_PAYLOAD < length_at bytes → IsEnd key place bytes
too_long key place bytes long p short begins = absurd (omega (arith, length_is key place p bytes short begins, short))

pub no_room : (key : List ℕ) (place : ℕ) (bytes : List ℕ) → length bytes < BESIDE_LEN + length_at bytes → IsEnd key place bytes
no_room key place bytes few p short begins = absurd (omega (arith, length_is key place p bytes short begins, room_is key place p bytes begins))

pub other_sum :
    (key : List ℕ) (place : ℕ) (bytes : List ℕ)
    → (take 32 (drop (HEAD_LEN + length_at bytes) bytes) ≡ mac key (place_bytes place ++ take (HEAD_LEN + length_at bytes) bytes) → ⊥)
    → IsEnd key place bytes
other_sum key place bytes other p short begins =
    let n = length_is key place p bytes short begins in
    other
    (ap (λ (m : ℕ). take 32 (drop (HEAD_LEN + m) bytes)) n ∙ sum_is key place p bytes begins
    ∙ ap (λ (l : List ℕ). mac key (place_bytes place ++ l)) (sym (ap (λ (m : ℕ). take (HEAD_LEN + m) bytes) n ∙ body_is key place p bytes begins)))

pub front_is : (key : List ℕ) (place : ℕ) (p bytes : List ℕ) → BeginsWith bytes (chunk_of key place p) → take FRONT_LEN bytes ≡ front_of key place
front_is key place p bytes begins =
    ap (take FRONT_LEN) (begins.is ∙ from_front key place p begins.rest)
    ∙ take_at (front_of key place) (to_be_bytes w32 (length p) ++ (p ++ (sum_of key place p ++ begins.rest))) FRONT_LEN (front_long key place)

pub other_front : (key : List ℕ) (place : ℕ) (bytes : List ℕ) → take FRONT_LEN bytes ≢ front_of key place → IsEnd key place bytes
other_front key place bytes other p short begins = other (front_is key place p bytes begins)

-- four bytes are those of the number in them
four_at : (l : List ℕ) → 4 ≤ length l → ((i : ℕ) → get_or l i 0 < 256) → take 4 l ≡ to_be_bytes w32 (number_of_four l)
four_at [] room small = absurd (omega arith)
four_at (a ∷ []) room small = absurd (omega arith)
four_at (a ∷ b ∷ []) room small = absurd (omega arith)
four_at (a ∷ b ∷ c ∷ []) room small = absurd (omega arith)
four_at (a ∷ b ∷ c ∷ d ∷ rest) room small = sym (be_bytes_4 (a ∷ b ∷ c ∷ d ∷ []) (number_of_four (a ∷ b ∷ c ∷ d ∷ rest)) refl (λ i. four_fit i) refl)
  where
    four_fit : (i : ℕ) → get_or (a ∷ b ∷ c ∷ d ∷ []) i 0 < 256
    four_fit zero = small 0
    four_fit (suc zero) = small 1
    four_fit (suc (suc zero)) = small 2
    four_fit (suc (suc (suc zero))) = small 3
    four_fit (suc (suc (suc (suc i)))) = lit< tt

pub body_at :
    (key : List ℕ) (place : ℕ) (bytes : List ℕ) (n : ℕ) → take FRONT_LEN bytes ≡ front_of key place → n ≡ length_at bytes
    → BESIDE_LEN + n ≤ length bytes → ((i : ℕ) → get_or bytes i 0 < 256)
    → take (HEAD_LEN + n) bytes ≡ chunk_body key place (take n (drop HEAD_LEN bytes))
body_at key place bytes n marked is room small =
    let m : ℕ = FRONT_LEN in
    let p : List ℕ = take n (drop HEAD_LEN bytes) in
    let long : length p ≡ n = length-take-le n (drop HEAD_LEN bytes) (omega (arith, room, length-drop HEAD_LEN bytes)) in
    let fit : (i : ℕ) → get_or (drop m bytes) i 0 < 256 = λ i. subst (λ (x : ℕ). x < 256) (sym (get_or-drop m bytes i 0)) (small (m + i)) in
    let number : take 4 (drop m bytes) ≡ to_be_bytes w32 (length p) =
    four_at (drop m bytes) (omega (arith, room, length-drop m bytes)) fit ∙ ap (to_be_bytes w32) (sym is ∙ sym long) in
    take-add HEAD_LEN n bytes
    ∙ ap (λ (l : List ℕ). l ++ p)
    (take-add m 4 bytes ∙ ap (λ (l : List ℕ). l ++ take 4 (drop m bytes)) marked ∙ ap (λ (l : List ℕ). front_of key place ++ l) number)

pub whole_chunk :
    (key : List ℕ) (place : ℕ) (bytes : List ℕ) (n : ℕ) → take FRONT_LEN bytes ≡ front_of key place → n ≡ length_at bytes
    → BESIDE_LEN + n ≤ length bytes → ((i : ℕ) → get_or bytes i 0 < 256)
    → take 32 (drop (HEAD_LEN + n) bytes) ≡ mac key (place_bytes place ++ take (HEAD_LEN + n) bytes)
    → bytes ≡ chunk_of key place (take n (drop HEAD_LEN bytes)) ++ drop (BESIDE_LEN + n) bytes
unfolding chunk_of
whole_chunk key place bytes n marked is room small fitting =
    let p : List ℕ = take n (drop HEAD_LEN bytes) in
    let body = body_at key place bytes n marked is room small in
    let tail : drop (HEAD_LEN + n) bytes ≡ sum_of key place p ++ drop (BESIDE_LEN + n) bytes =
    sym (take-append-drop 32 (drop (HEAD_LEN + n) bytes))
    ∙ ap (λ (l : List ℕ). l ++ drop 32 (drop (HEAD_LEN + n) bytes)) (fitting ∙ ap (λ (l : List ℕ). mac key (place_bytes place ++ l)) body)
    ∙ ap (λ (l : List ℕ). sum_of key place p ++ l) (drop-drop 32 (HEAD_LEN + n) bytes ∙ ap (λ (m : ℕ). drop m bytes) (beside key n)) in
    sym (take-append-drop (HEAD_LEN + n) bytes)
    ∙ ap (λ (l : List ℕ). l ++ drop (HEAD_LEN + n) bytes) body
    ∙ ap (λ (l : List ℕ). chunk_body key place p ++ l) tail
    ∙ sym (append_assoc (chunk_body key place p) (sum_of key place p) (drop (BESIDE_LEN + n) bytes))
  where
    beside : (key : List ℕ) (n : ℕ) → HEAD_LEN + n + 32 ≡ BESIDE_LEN + n
    beside key n = omega arith

-- ---- by the head alone

pub headless_end : (key : List ℕ) (place : ℕ) (bytes : List ℕ) → IsHeadless key place bytes → IsEnd key place bytes
headless_end key place bytes (inl few) = too_short key place bytes few
headless_end key place bytes (inr (inl unmarked)) = other_front key place bytes unmarked
headless_end key place bytes (inr (inr long)) = too_long key place bytes long.1

number_in_four : (l : List ℕ) → 4 ≤ length l → number_of_four (take 4 l) ≡ number_of_four l
number_in_four [] room = absurd (omega arith)
number_in_four (a ∷ []) room = absurd (omega arith)
number_in_four (a ∷ b ∷ []) room = absurd (omega arith)
number_in_four (a ∷ b ∷ c ∷ []) room = absurd (omega arith)
number_in_four (a ∷ b ∷ c ∷ d ∷ rest) room = refl

length_in_front : (key : List ℕ) (rest : List ℕ) → HEAD_LEN ≤ length rest → length_at (take HEAD_LEN rest) ≡ length_at rest
length_in_front key rest room =
    ap number_of_four (drop-take FRONT_LEN 4 rest) ∙ number_in_four (drop FRONT_LEN rest) (omega (arith, room, length-drop FRONT_LEN rest))

front_in_front : (key : List ℕ) (rest : List ℕ) → take FRONT_LEN (take HEAD_LEN rest) ≡ take FRONT_LEN rest
front_in_front key rest = take-take FRONT_LEN HEAD_LEN rest (omega arith)

-- what the head's bytes say of a head, all say
pub headless_front : (key : List ℕ) (place : ℕ) (rest : List ℕ) → IsHeadless key place (take HEAD_LEN rest) → IsHeadless key place rest
headless_front key place rest (inl few) = inl (omega (arith, few, length-take HEAD_LEN rest))
headless_front key place rest (inr (inl unmarked)) = inr (inl (λ marked. unmarked (front_in_front key rest ∙ marked)))
headless_front key place rest (inr (inr long)) =
    let room : HEAD_LEN ≤ length rest = omega (arith, long.0, length-take HEAD_LEN rest) in
    inr (inr (room, omega (arith, long.1, length_in_front key rest room)))

pub head_front : (key : List ℕ) (place : ℕ) (rest : List ℕ) (n : ℕ) → IsHead key place (take HEAD_LEN rest) n → n ≡ length_at rest
head_front key place rest n head = head.is ∙ length_in_front key rest (omega (arith, head.room, length-take HEAD_LEN rest))

-- ---- by so many bytes as the head says

pub window_end :
    (key : List ℕ) (place : ℕ) (rest window : List ℕ) (n : ℕ) → n ≡ length_at rest → window ≡ take (BESIDE_LEN + n) rest
    → IsEnd key place window → IsEnd key place rest
window_end key place rest window n is cut none p short begins =
    none p short (record {
      rest = [];
      is = cut ∙ ap (λ (m : ℕ). take (BESIDE_LEN + m) rest) (is ∙ length_is key place p rest short begins)
          ∙ ap (λ (l : List ℕ). take (BESIDE_LEN + length p) l) begins.is
          ∙ take_at (chunk_of key place p) begins.rest (BESIDE_LEN + length p) (length-chunk key place p)
          ∙ sym (append-nil (chunk_of key place p));
    })

pub window_chunk :
    (key : List ℕ) (place : ℕ) (rest window p : List ℕ) (w m : ℕ) → window ≡ take w rest → length p ≡ m
    → window ≡ chunk_of key place p ++ drop (BESIDE_LEN + m) window → rest ≡ chunk_of key place p ++ drop (BESIDE_LEN + m) rest
window_chunk key place rest window p w m cut long is =
    let chunk : List ℕ = chunk_of key place p in
    let begins : rest ≡ chunk ++ (drop (BESIDE_LEN + m) window ++ drop w rest) =
    sym (take-append-drop w rest) ∙ ap (λ (l : List ℕ). l ++ drop w rest) (sym cut ∙ is)
    ∙ append_assoc chunk (drop (BESIDE_LEN + m) window) (drop w rest) in
    begins
    ∙ ap (λ (l : List ℕ). chunk ++ l)
    (sym (ap (drop (BESIDE_LEN + m)) begins
    ∙ drop_at chunk (drop (BESIDE_LEN + m) window ++ drop w rest) (BESIDE_LEN + m) (length-chunk key place p ∙ ap (λ (k : ℕ). BESIDE_LEN + k) long)))
