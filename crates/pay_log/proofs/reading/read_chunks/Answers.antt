use Rattle.std.proofs.Common.{[], ◌∷◌, ◌≡◌, ◌+◌, ◌++◌, ◌≤◌, ◌<◌, ℕ, List, refl, length, take, drop, sym, ap, ◌∙◌, subst, arith, rules}
use Rattle.std.specs.Prelude.{IfNone, IfSome, None, Option, Some}
use Rattle.std.proofs.lemmas.List.{drop-drop, length-take-le, length-drop}
use Rattle.pay_log.specs.declared.chunk.TheConstants.{BESIDE_LEN, HEAD_LEN, MOST_PAYLOAD, MOST_PLACE}
use Rattle.pay_log.specs.declared.reading.Chunk.{Chunk}
use Rattle.pay_log.specs.Chunks.{IsEnd, chunk_of, chunks_of}
use Rattle.pay_log.specs.declared.reading.Refused.TheVariants.{Record}
use Rattle.pay_log.proofs.Refusals.{record_refused}
use Rattle.pay_log.proofs.Logs.{next_chunk, place-length}
use Rattle.pay_log.proofs.Moments.{unchanged_still}
use Rattle.pay_log.proofs.Taken.{one_more, takes_push}
use Rattle.pay_log.proofs.reading.read_chunks.Goals as goal

pub loop-chunk-preserved : goal.loop-chunk-preserved
loop-chunk-preserved g c =
    let i = c.loop-chunk.invariant in
    let key = c.args.key.now in
    let from : ℕ = 75 in
    let len = c.loop-chunk.len in
    let old = c.args.device.now in
    let bytes : List ℕ = drop from (g.D.Device.seen old) in
    let n = c.in-Some.chunk.len in
    let window : List ℕ = c.in-Some.chunk.bytes.items in
    let Room : Option Chunk → Type 0 = λ o. IfSome o (λ chunk.
    (len < MOST_PLACE) × (chunk.len ≤ MOST_PAYLOAD) × (BESIDE_LEN + chunk.len ≤ length chunk.bytes.items)) in
    let room : (len < MOST_PLACE) × (n ≤ MOST_PAYLOAD) × (BESIDE_LEN + n ≤ length window) = subst Room c.in-Some.is c.in_ok-chunk.ensures.room in
    let p : List ℕ = take n (drop HEAD_LEN window) in
    let step : g.S.Sink.takes c.loop-chunk.sink c.take.new.self p =
    subst (λ (l : List ℕ). g.S.Sink.takes c.loop-chunk.sink c.take.new.self l)
    c.payload.ensures c.in_ok-take.ensures.taken in
    record {
      room = omega (arith, room.0, room.1);
      fewer = omega (arith, i.fewer);
      fed = (i.fed.0 ++ p ∷ [], takes_push g.S.Sink.takes c.args.sink.now c.loop-chunk.sink c.take.new.self i.fed.0 p i.fed.1 step);
      unchanged = λ known.
          let so_far = i.unchanged known in
          unchanged_still g.D.Device.is_known g.D.Device.seen g.D.Device.may_leave g.D.Device.moment g.D.Device.left_since
          old c.loop-chunk.device c.next_chunk.new.device so_far (c.next_chunk.ensures.unchanged so_far.known);
      read = λ known.
          let so_far = i.unchanged known in
          let seen : List ℕ = g.D.Device.seen c.loop-chunk.device in
          let Here : Option Chunk → Type 0 = λ o. IfSome o (λ chunk.
          drop (from + len) seen ≡ chunk_of key len (take chunk.len (drop HEAD_LEN chunk.bytes.items)) ++ drop (BESIDE_LEN + chunk.len) (drop (from + len) seen)) in
          let here : drop (from + len) seen ≡ chunk_of key len p ++ drop (BESIDE_LEN + n) (drop (from + len) seen) =
          subst Here c.in-Some.is (c.in_ok-chunk.ensures.chunk so_far.known) in
          let place : drop (from + len) seen ≡ drop len bytes =
          ap (λ (l : List ℕ). drop (from + len) l) so_far.seen_same ∙ sym (drop-drop len from (g.D.Device.seen old)) in
          let P : List ℕ → Type 0 = λ l. l ≡ chunk_of key len p ++ drop (BESIDE_LEN + n) l in
          one_more g.S.Sink.takes key bytes c.args.sink.now c.loop-chunk.sink c.take.new.self len c.loop-chunk.count n p (i.read known)
          (subst P place here) (length-take-le n (drop HEAD_LEN window) (omega (arith, room.2, length-drop HEAD_LEN window))) room.1 step;
    }

pub returns-in_err-take-clause-illegal : goal.returns-in_err-take-clause-illegal
returns-in_err-take-clause-illegal g c number said known =
    let i = c.loop-chunk.invariant in
    let key = c.args.key.now in
    let from : ℕ = 75 in
    let len = c.loop-chunk.len in
    let bytes : List ℕ = drop from (g.D.Device.seen c.args.device.now) in
    let n = c.in-Some.chunk.len in
    let window : List ℕ = c.in-Some.chunk.bytes.items in
    let Room : Option Chunk → Type 0 = λ o. IfSome o (λ chunk.
    (len < MOST_PLACE) × (chunk.len ≤ MOST_PAYLOAD) × (BESIDE_LEN + chunk.len ≤ length chunk.bytes.items)) in
    let room : (len < MOST_PLACE) × (n ≤ MOST_PAYLOAD) × (BESIDE_LEN + n ≤ length window) = subst Room c.in-Some.is c.in_ok-chunk.ensures.room in
    let p : List ℕ = take n (drop HEAD_LEN window) in
    let payload : c.payload.result.now ≡ p = c.payload.ensures in
    let so_far = i.unchanged known in
    let read = i.read known in
    let Here : Option Chunk → Type 0 = λ o. IfSome o (λ chunk.
    drop (from + len) (g.D.Device.seen c.loop-chunk.device) ≡ chunk_of key len (take chunk.len (drop HEAD_LEN chunk.bytes.items)) ++ drop (BESIDE_LEN + chunk.len) (drop (from + len) (g.D.Device.seen c.loop-chunk.device))) in
    let place : drop (from + len) (g.D.Device.seen c.loop-chunk.device) ≡ drop len bytes =
    ap (λ (l : List ℕ). drop (from + len) l) so_far.seen_same ∙ sym (drop-drop len from (g.D.Device.seen c.args.device.now)) in
    let P : List ℕ → Type 0 = λ l. l ≡ chunk_of key len p ++ drop (BESIDE_LEN + n) l in
    let here : drop len bytes ≡ chunk_of key len p ++ drop (BESIDE_LEN + n) (drop len bytes) = subst P place (subst Here c.in-Some.is (c.in_ok-chunk.ensures.chunk so_far.known)) in
    let after : len ≡ 0 + length (chunks_of key 0 read.ps) = omega (arith, read.size) in
    let is : c.in_err-take.field-0.0 ≡ Record number = record_refused c.in_err-take.field-0.0 number (search (rules, said)) in
    record {
      before = read.ps;
      payload = p;
      at = c.loop-chunk.sink;
      stands = record {
        rest = drop (BESIDE_LEN + n) (drop len bytes);
        is = next_chunk key 0 read.ps len bytes (drop len bytes) p (drop (BESIDE_LEN + n) (drop len bytes)) read.is (after ∙ sym (place-length key 0 read.ps)) here;
      };
      taken = read.taken;
      refused = subst (λ (l : List ℕ). g.S.Sink.refuses c.loop-chunk.sink l number) payload (c.take.ensures.refused number (search (rules, is)));
    }

none_there : {P : Type 0} (o : Option Chunk) → ((chunk : Chunk) → o ≡ Some chunk → ⊥) → IfNone o P → P
none_there None other p = p
none_there (Some chunk) other p = absurd (other chunk refl)

pub returns-clause-read : goal.returns-clause-read
returns-clause-read g c known =
    let i = c.loop-chunk.invariant in
    let key = c.args.key.now in
    let len = c.loop-chunk.len in
    let so_far = i.unchanged known in
    let place : drop (75 + len) (g.D.Device.seen c.loop-chunk.device) ≡ drop len (drop 75 (g.D.Device.seen c.args.device.now)) =
    ap (λ (l : List ℕ). drop (75 + len) l) so_far.seen_same ∙ sym (drop-drop len 75 (g.D.Device.seen c.args.device.now)) in
    record {
      to = i.read known;
      ended = subst (λ (l : List ℕ). IsEnd key len l) place (none_there c.in_ok-chunk.field-0 c.in_default.not-Some (c.in_ok-chunk.ensures.none so_far.known));
    }
