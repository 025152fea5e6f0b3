-- What a crash leaves while a log grows by a chunk.
use Rattle.std.proofs.Common.{◌≡◌, ℕ, ◌^◌, ◌<◌, List, [], ◌++◌, length, sym, ◌∙◌, ap, subst, arith, inl, append-nil}
use Rattle.std.specs.List.{All}
use Rattle.pay_log.specs.Device.{Torn, Follows, Only}
use Rattle.pay_log.specs.Chunks.{chunk_of, IsShort}
use Rattle.pay_log.specs.Logs.{end_place, log_bytes, IsLog, IsWithOrWithout}
use Rattle.pay_log.specs.Damage.{IsByChance, IsDamaged}
use Rattle.pay_log.proofs.Behind.{torn_damage}
use Rattle.pay_log.proofs.Logs.{read_again, torn}

-- ---- a chunk more

pub at_rest : (key : List ℕ) (header : List ℕ) (ps : List (List ℕ)) (p file : List ℕ) → All IsShort ps → file ≡ log_bytes key header ps → IsWithOrWithout key header ps p file
at_rest key header ps p file short is = inl (subst (λ (f : List ℕ). IsLog key header f ps) (sym is) (read_again key header ps short))

pub behind :
    (key : List ℕ) (header : List ℕ) (ps : List (List ℕ)) (p chunk file : List ℕ) (old new : List ℕ → Type 0) → All IsShort ps → IsShort p → file ≡ log_bytes key header ps
    → chunk ≡ chunk_of key (end_place ps) p → Only file old → Follows (Torn (length chunk)) old new
    → (c : List ℕ) → new c → IsWithOrWithout key header ps p c
behind key header ps p chunk file old new short short_p is made only follows c left =
    let from = follows c left in
    let torn_so = from.2 in
    let whole : c ≡ log_bytes key header ps ++ torn_so.tail = torn_so.is ∙ ap (λ (l : List ℕ). l ++ torn_so.tail) (only from.0 from.1 ∙ is) in
    torn key header ps p c torn_so.tail short short_p whole (omega (arith, torn_so.no_longer, ap length made))

-- ---- damage

pub behind_damage :
    (key : List ℕ) (header : List ℕ) (ps : List (List ℕ)) (p chunk file : List ℕ) (old new : List ℕ → Type 0) → All IsShort ps → IsShort p → end_place ps < 2 ^ 64
    → file ≡ log_bytes key header ps → chunk ≡ chunk_of key (end_place ps) p → Only file old → Follows (Torn (length chunk)) old new
    → (c : List ℕ) → new c → (count : ℕ) → IsDamaged key header c count → IsByChance key header ps p c
behind_damage key header ps p chunk file old new short short_p fits is made only follows c left count =
    let from = follows c left in
    let torn_so = from.2 in
    let whole : c ≡ log_bytes key header ps ++ torn_so.tail = torn_so.is ∙ ap (λ (l : List ℕ). l ++ torn_so.tail) (only from.0 from.1 ∙ is) in
    torn_damage key header ps p c torn_so.tail count short short_p fits whole (omega (arith, torn_so.no_longer, ap length made))

pub rest_damage : (key : List ℕ) (header : List ℕ) (ps : List (List ℕ)) (p file : List ℕ) → All IsShort ps → IsShort p → end_place ps < 2 ^ 64
    → file ≡ log_bytes key header ps → (count : ℕ) → IsDamaged key header file count → IsByChance key header ps p file
rest_damage key header ps p file short short_p fits is count =
    torn_damage key header ps p file [] count short short_p fits (is ∙ sym (append-nil (log_bytes key header ps))) (omega arith)
