-- Chunks after the end of a log.
use Rattle.std.proofs.Common.{◌≡◌, ◌≢◌, inl, inr, ℕ, ◌^◌, ◌<◌, ◌≤◌, List, [], ◌∷◌, ◌++◌, length, refl, sym, ap, ◌∙◌, subst, arith, append_assoc, length-append, drop}
use Rattle.std.specs.List.{All}
use Rattle.std.proofs.lemmas.List.{nil_from_length, drop_at, length-drop}
use Rattle.pay_log.specs.Chunks.{BeginsWith, chunk_of, IsEnd, IsShort}
use Rattle.pay_log.specs.Damage.{HasChunkIn, IsByChance, IsChunkAt, IsDamaged}
use Rattle.pay_log.specs.Logs.{end_place, log_bytes, IsLog}
use Rattle.pay_log.proofs.Chunks.{Front, decide_front, none_at_nothing, room_is}
use Rattle.pay_log.proofs.Logs.{all_push, log-push, one_log, same_or_not}

cancel : (xs ys zs : List ℕ) → xs ++ ys ≡ xs ++ zs → ys ≡ zs
cancel xs ys zs same = sym (drop_at xs ys (length xs) refl) ∙ ap (λ (l : List ℕ). drop (length xs) l) same ∙ drop_at xs zs (length xs) refl

-- a chunk has room before the end
pub inside : (key bytes : List ℕ) (at : ℕ) → IsChunkAt key bytes at → at < length bytes
inside key bytes at chunk =
    omega (arith, room_is key chunk.made_for chunk.payload (drop at bytes) chunk.stands, length-drop at bytes)

none_in_nothing : (key : List ℕ) → HasChunkIn key [] → ⊥
none_in_nothing key has = absurd (omega (arith, inside key [] has.at has.chunk))

-- a file's log has one end
pub same_rest : (key header file : List ℕ) (ps qs : List (List ℕ)) → (p : IsLog key header file ps) (q : IsLog key header file qs) → p.rest ≡ q.rest
same_rest key header file ps qs p q =
    let same : ps ≡ qs = one_log key header file ps qs p q in
    cancel (log_bytes key header ps) p.rest q.rest
    (sym p.is ∙ q.is ∙ ap (λ (l : List (List ℕ)). log_bytes key header l ++ q.rest) (sym same))

-- damage as it is seen from any reading of the file
pub damage_at :
    (key header file : List ℕ) (ps : List (List ℕ)) (count : ℕ) (log : IsLog key header file ps) → IsDamaged key header file count
    → HasChunkIn key log.rest
damage_at key header file ps count log damaged =
    subst (λ (b : List ℕ). HasChunkIn key b) (same_rest key header file damaged.ps ps damaged.log log) damaged.has

-- ---- what a crash leaves of one chunk more

pub torn_damage :
    (key : List ℕ) (header : List ℕ) (ps : List (List ℕ)) (p file tail : List ℕ) (count : ℕ) → All IsShort ps → IsShort p
    → end_place ps < 2 ^ 64 → file ≡ log_bytes key header ps ++ tail → length tail ≤ length (chunk_of key (end_place ps) p)
    → IsDamaged key header file count → IsByChance key header ps p file
torn_damage key header ps p file tail count short short_p fits is few damaged = elim (decide_front key (end_place ps) tail) [
  | inl front ↦ elim (same_or_not front.payload p) [
    | inl same ↦ absurd (whole front same)
    | inr differs ↦ at_end front differs
  ]
  | inr end ↦
      let log : IsLog key header file ps = record { short = short; rest = tail; is = is; ended = end } in
      let has : HasChunkIn key tail = damage_at key header file ps count log damaged in
      record { tail = tail; is = is; at = has.at; chunk = has.chunk; unwritten = λ first own same. ended_there end has first own }
]
  where
    ended_there : IsEnd key (end_place ps) tail → (has : HasChunkIn key tail) → has.at ≡ 0 → has.chunk.made_for ≡ end_place ps → ⊥
    ended_there end has first own =
        let at_first : BeginsWith tail (chunk_of key has.chunk.made_for has.chunk.payload) =
        subst (λ (n : ℕ). BeginsWith (drop n tail) (chunk_of key has.chunk.made_for has.chunk.payload)) first has.chunk.stands in
        end has.chunk.payload has.chunk.short (subst (λ (n : ℕ). BeginsWith tail (chunk_of key n has.chunk.payload)) own at_first)

    at_end : (front : Front key (end_place ps) tail) → front.payload ≢ p → IsByChance key header ps p file
    at_end front differs = record {
      tail = tail;
      is = is;
      at = 0;
      chunk = record {
        payload = front.payload;
        short = front.short;
        made_for = end_place ps;
        within = fits;
        stands = front.at;
      };
      unwritten = λ first own same. differs same;
    }

    whole : (front : Front key (end_place ps) tail) → front.payload ≡ p → ⊥
    whole front same =
        let chunk : List ℕ = chunk_of key (end_place ps) p in
        let at : BeginsWith tail chunk = subst (λ (q : List ℕ). BeginsWith tail (chunk_of key (end_place ps) q)) same front.at in
        let none : at.rest ≡ [] = nil_from_length at.rest (omega (arith, ap length at.is, length-append chunk at.rest, few)) in
        let longer : file ≡ log_bytes key header (ps ++ p ∷ []) ++ [] =
        is ∙ ap (λ (l : List ℕ). log_bytes key header ps ++ l) (at.is ∙ ap (λ (l : List ℕ). chunk ++ l) none)
        ∙ sym (append_assoc (log_bytes key header ps) chunk [])
        ∙ ap (λ (l : List ℕ). l ++ []) (sym (log-push key header ps p)) in
        let log : IsLog key header file (ps ++ p ∷ []) =
        record { short = all_push ps p short short_p; rest = []; is = longer; ended = none_at_nothing key (end_place (ps ++ p ∷ [])) } in
        none_in_nothing key (damage_at key header file (ps ++ p ∷ []) count log damaged)
