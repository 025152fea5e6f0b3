use Rattle.std.proofs.Common.{◌≡◌, ◌+◌, ◌++◌, ◌≤◌, ℕ, List, length, take, drop, ap, ◌∙◌, subst, arith}
use Rattle.std.proofs.lemmas.List.{length-take-le, length-drop}
use Rattle.pay_log.specs.Chunks.{IsEnd, IsHead, IsHeadless, chunk_of}
use Rattle.pay_log.specs.declared.chunk.TheConstants.{BESIDE_LEN, HEAD_LEN}
use Rattle.pay_log.proofs.Chunks.{head_front, headless_end, headless_front, window_chunk, window_end}
use Rattle.pay_log.proofs.reading.next_chunk.Goals as goal

pub returns-in_default-clause-none : goal.returns-in_default-clause-none
returns-in_default-clause-none g c known =
    let key = c.args.key.now in
    let rest : List ℕ = drop (75 + c.args.place) (g.D.Device.seen c.args.device.now) in
    let head : c.deref.result.now ≡ take HEAD_LEN rest =
    c.deref.ensures.value ∙ c.in_ok-head.ensures.bytes known in
    headless_end key c.args.place rest (headless_front key c.args.place rest (subst (IsHeadless key c.args.place) head c.in_default.ensures.none))

pub returns-in-Some-front-clause-chunk : goal.returns-in-Some-front-clause-chunk
returns-in-Some-front-clause-chunk g c known =
    let key = c.args.key.now in
    let n = c.in-Some.length in
    let m = c.in-Some-front.len in
    let at = 75 + c.args.place in
    let rest : List ℕ = drop at (g.D.Device.seen c.args.device.now) in
    let bytes : List ℕ = c.in_ok-bytes.bytes.items in
    let same = c.read.ensures.unchanged known in
    let window : bytes ≡ take (BESIDE_LEN + n) rest =
    c.in_ok-bytes.ensures.bytes same.known ∙ ap (λ (l : List ℕ). take (BESIDE_LEN + n) (drop at l)) same.seen_same in
    let value : c.deref-2.result.now ≡ bytes = c.deref-2.ensures.value in
    let room : BESIDE_LEN + m ≤ length bytes = omega (arith, c.in-Some-front.ensures.room.1, ap length value) in
    let P : List ℕ → Type 0 = λ l. l ≡ chunk_of key c.args.place (take m (drop HEAD_LEN l)) ++ drop (BESIDE_LEN + m) l in
    window_chunk key c.args.place rest bytes (take m (drop HEAD_LEN bytes)) (BESIDE_LEN + n) m window
    (length-take-le m (drop HEAD_LEN bytes) (omega (arith, room, length-drop HEAD_LEN bytes)))
    (subst P value c.in-Some-front.ensures.chunk)

pub returns-clause-none : goal.returns-clause-none
returns-clause-none g c known =
    let key = c.args.key.now in
    let n = c.in-Some.length in
    let at = 75 + c.args.place in
    let rest : List ℕ = drop at (g.D.Device.seen c.args.device.now) in
    let bytes : List ℕ = c.in_ok-bytes.bytes.items in
    let same = c.read.ensures.unchanged known in
    let window : bytes ≡ take (BESIDE_LEN + n) rest =
    c.in_ok-bytes.ensures.bytes same.known ∙ ap (λ (l : List ℕ). take (BESIDE_LEN + n) (drop at l)) same.seen_same in
    let head : c.deref.result.now ≡ take HEAD_LEN rest =
    c.deref.ensures.value ∙ c.in_ok-head.ensures.bytes known in
    let P : List ℕ → Type 0 = λ l. IsHead key c.args.place l n in
    window_end key c.args.place rest bytes n (head_front key c.args.place rest n (subst P head c.in-Some.ensures.some)) window
    (subst (IsEnd key c.args.place) c.deref-2.ensures.value c.in-None.ensures.none)
