-- Chunks that are read one after the other.
use Rattle.std.proofs.Common.{◌≡◌, ℕ, ◌+◌, ◌≤◌, List, [], ◌∷◌, ◌++◌, length, drop, refl, sym, ap, ◌∙◌, subst, arith, length-append}
use Rattle.std.proofs.lemmas.List.{drop-drop}
use Rattle.std.proofs.lemmas.List.Elements.{All-nil}
use Rattle.pay_log.specs.declared.chunk.TheConstants.{BESIDE_LEN, MOST_PAYLOAD}
use Rattle.pay_log.specs.Chunks.{IsShort, chunk_of, chunks_of}
use Rattle.pay_log.specs.Recovery.{HasReadTo}
use Rattle.pay_log.specs.Sinks.{TakesAll}
use Rattle.pay_log.proofs.Logs.{all_push, next_chunk, next_size, place-length}

pub takes_push :
    {S : Type 0} (takes : S → S → List ℕ → Type 0) (old mid new : S) (ps : List (List ℕ)) (p : List ℕ) → TakesAll takes old mid ps
    → takes mid new p → TakesAll takes old new (ps ++ p ∷ [])
takes_push takes old mid new [] p same step = (new, subst (λ s. takes s new p) same step, refl)
takes_push takes old mid new (q ∷ ps) p all step = (all.0, all.1, takes_push takes all.0 mid new ps p all.2 step)

pub none_read : {S : Type 0} (takes : S → S → List ℕ → Type 0) (key : List ℕ) (bytes : List ℕ) (old : S) → HasReadTo takes key bytes old old 0 0
none_read takes key bytes old = record {
  ps = [];
  short = All-nil IsShort;
  is = refl;
  size = refl;
  counted = refl;
  taken = refl;
}

pub one_more :
    {S : Type 0} (takes : S → S → List ℕ → Type 0) (key : List ℕ) (bytes : List ℕ) (old mid new : S) (len count m : ℕ) (p : List ℕ)
    → HasReadTo takes key bytes old mid len count → drop len bytes ≡ chunk_of key len p ++ drop (BESIDE_LEN + m) (drop len bytes)
    → length p ≡ m → m ≤ MOST_PAYLOAD → takes mid new p → HasReadTo takes key bytes old new (len + (BESIDE_LEN + m)) (count + 1)
one_more takes key bytes old mid new len count m p so_far here long short step =
    let place : len ≡ 0 + length (chunks_of key 0 so_far.ps) = omega (arith, so_far.size) in
    record {
      ps = so_far.ps ++ p ∷ [];
      short = all_push so_far.ps p so_far.short (omega (arith, long, short));
      is = next_chunk key 0 so_far.ps len bytes (drop len bytes) p (drop (len + (BESIDE_LEN + m)) bytes) so_far.is (place ∙ sym (place-length key 0 so_far.ps))
          (here ∙ ap (λ (l : List ℕ). chunk_of key len p ++ l) (drop-drop (BESIDE_LEN + m) len bytes));
      size = omega (arith, so_far.size, long, next_size key 0 so_far.ps p);
      counted = omega (arith, so_far.counted, length-append so_far.ps (p ∷ []));
      taken = takes_push takes old mid new so_far.ps p so_far.taken step;
    }
