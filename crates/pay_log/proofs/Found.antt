-- A log that was read.
use Rattle.std.proofs.Common.{◌≡◌, ℕ, ◌+◌, List, ◌++◌, length, take, drop, sym, ap, ◌∙◌, subst, arith, append_assoc}
use Rattle.std.proofs.lemmas.List.{drop-drop}
use Rattle.pay_log.specs.declared.chunk.TheConstants.{HEADER_LEN}
use Rattle.pay_log.specs.Chunks.{IsEnd, chunks_of}
use Rattle.pay_log.specs.Damage.{HasChunkIn, IsDamaged}
use Rattle.pay_log.specs.Logs.{IsLog, end_place, log_bytes}
use Rattle.pay_log.specs.Recovery.{HasRead, IsReadLog}
use Rattle.pay_log.specs.Sinks.{TakesAll}
use Rattle.pay_log.proofs.Behind.{damage_at}
use Rattle.pay_log.proofs.Logs.{after_header, log_size, place-length}

pub record Found {S : Type 0} (takes : S → S → List ℕ → Type 0) (key header file : List ℕ) (old new : S) (n len count : ℕ) : Type 0 where
  pub ps : List (List ℕ)
  pub log : IsLog key header file ps
  pub rest : log.rest ≡ drop (n + len) file
  pub place : len ≡ end_place ps
  pub size : n + len ≡ length (log_bytes key header ps)
  pub counted : length ps ≡ count
  pub taken : TakesAll takes old new ps

pub found :
    {S : Type 0} (takes : S → S → List ℕ → Type 0) (key header file : List ℕ) (old new : S) (n len count : ℕ) → length header ≡ n → take n file ≡ header
    → HasRead takes key (drop n file) old new len count → Found takes key header file old new n len count
unfolding log_bytes
found takes key header file old new n len count long front read =
    let ps = read.to.ps in
    let rest : List ℕ = drop n file in
    let place : len ≡ end_place ps = omega (arith, read.to.size, place-length key 0 ps) in
    record {
      ps = ps;
      log = record {
        short = read.to.short;
        rest = drop len rest;
        is = after_header header file n front ∙ ap (λ (l : List ℕ). header ++ l) read.to.is ∙ sym (append_assoc header (chunks_of key 0 ps) (drop len rest));
        ended = subst (λ (s : ℕ). IsEnd key s (drop len rest)) place read.ended;
      };
      rest = drop-drop len n file;
      place = place;
      size = omega (arith, log_size key header ps len read.to.size, long);
      counted = sym read.to.counted;
      taken = read.to.taken;
    }

pub found_sound :
    {S : Type 0} (takes : S → S → List ℕ → Type 0) (key header file : List ℕ) (old new : S) (len count : ℕ)
    → Found takes key header file old new HEADER_LEN len count → (HasChunkIn key (drop (HEADER_LEN + len) file) → ⊥)
    → IsReadLog takes key header file old new len
found_sound takes key header file old new len count at none = record {
  ps = at.ps;
  log = at.log;
  sound = λ has. none (subst (λ (b : List ℕ). HasChunkIn key b) at.rest has);
  place = at.place;
  size = at.size;
  taken = at.taken;
}

pub found_damaged :
    {S : Type 0} (takes : S → S → List ℕ → Type 0) (key header file : List ℕ) (old new : S) (n len count : ℕ)
    → Found takes key header file old new n len count → HasChunkIn key (drop (n + len) file)
    → IsDamaged key header file count
found_damaged takes key header file old new n len count at has = record {
  ps = at.ps;
  log = at.log;
  counted = at.counted;
  has = subst (λ (b : List ℕ). HasChunkIn key b) (sym at.rest) has;
}

-- a log that was read is not damaged
pub read_sound :
    {S : Type 0} (takes : S → S → List ℕ → Type 0) (key header file : List ℕ) (old new : S) (len count : ℕ)
    → IsReadLog takes key header file old new len → IsDamaged key header file count → ⊥
read_sound takes key header file old new len count read damaged =
    read.sound (damage_at key header file read.ps count read.log damaged)
