use Rattle.std.proofs.Common.{◌≡◌, ◌+◌, ℕ, List, drop, sym, ◌∙◌, subst, rules, true}
use Rattle.std.specs.Prelude.{◌↔◌, IsTrue}
use Rattle.std.proofs.lemmas.Bool.{false≢true}
use Rattle.pay_log.specs.Damage.{HasChunkIn, IsDamaged}
use Rattle.pay_log.specs.Headers.{header_bytes}
use Rattle.pay_log.specs.Recovery.{HasRead}
use Rattle.pay_log.proofs.Headed.{header_length}
use Rattle.pay_log.proofs.Found.{found, found_damaged, found_sound}
use Rattle.pay_log.proofs.reading.read_log.Goals as goal

truth : IsTrue true
truth = search rules

pub returns-then-branch-clause-damaged : goal.returns-then-branch-clause-damaged
returns-then-branch-clause-damaged g c count said known =
    let key : List ℕ = c.args.key.now in
    let header : List ℕ = header_bytes c.args.header.now in
    let file : List ℕ = g.D.Device.seen c.args.device.now in
    let len = c.in_ok-len.field-0.len in
    let same_1 = c.judge_header.ensures.unchanged known in
    let same_2 = c.read_chunks.ensures.unchanged same_1.known in
    let Read : List ℕ → List ℕ → Type 0 = λ k l. HasRead g.S.Sink.takes k (drop 75 l) c.args.sink.now c.read_chunks.new.sink len c.in_ok-len.field-0.count in
    let read = subst (λ (l : List ℕ). Read key l) same_1.seen_same (subst (λ (k : List ℕ). Read k (g.D.Device.seen c.judge_header.new.device)) c.new-key.ensures (c.in_ok-len.ensures.read same_1.known)) in
    let at = found g.S.Sink.takes key header file c.args.sink.now c.read_chunks.new.sink 75 len c.in_ok-len.field-0.count
    (header_length c.args.header.now (search rules) (search rules)) (c.in_ok-judge_header.ensures.same known) read in
    let More : List ℕ → List ℕ → Type 0 = λ k l. IsTrue c.in_ok-has_more.field-0 ↔ HasChunkIn k (drop (75 + len) l) in
    let more : IsTrue c.in_ok-has_more.field-0 ↔ HasChunkIn key (drop (75 + len) file) =
    subst (λ (l : List ℕ). More key l) (same_2.seen_same ∙ same_1.seen_same)
    (subst (λ (k : List ℕ). More k (g.D.Device.seen c.read_chunks.new.device)) c.new-key.ensures (c.in_ok-has_more.ensures.value same_2.known)) in
    let here : HasChunkIn key (drop (75 + len) file) = more.0 (subst IsTrue (sym c.if-branch.true) truth) in
    let number : c.in_ok-len.field-0.count ≡ count = search (rules, said) in
    subst (λ (k : ℕ). IsDamaged key header file k) number
    (found_damaged g.S.Sink.takes key header file c.args.sink.now c.read_chunks.new.sink 75 len c.in_ok-len.field-0.count at here)

pub returns-clause-read : goal.returns-clause-read
returns-clause-read g c known =
    let key : List ℕ = c.args.key.now in
    let header : List ℕ = header_bytes c.args.header.now in
    let file : List ℕ = g.D.Device.seen c.args.device.now in
    let len = c.in_ok-len.field-0.len in
    let same_1 = c.judge_header.ensures.unchanged known in
    let same_2 = c.read_chunks.ensures.unchanged same_1.known in
    let Read : List ℕ → List ℕ → Type 0 = λ k l. HasRead g.S.Sink.takes k (drop 75 l) c.args.sink.now c.read_chunks.new.sink len c.in_ok-len.field-0.count in
    let read = subst (λ (l : List ℕ). Read key l) same_1.seen_same (subst (λ (k : List ℕ). Read k (g.D.Device.seen c.judge_header.new.device)) c.new-key.ensures (c.in_ok-len.ensures.read same_1.known)) in
    let at = found g.S.Sink.takes key header file c.args.sink.now c.read_chunks.new.sink 75 len c.in_ok-len.field-0.count
    (header_length c.args.header.now (search rules) (search rules)) (c.in_ok-judge_header.ensures.same known) read in
    let More : List ℕ → List ℕ → Type 0 = λ k l. IsTrue c.in_ok-has_more.field-0 ↔ HasChunkIn k (drop (75 + len) l) in
    let more : IsTrue c.in_ok-has_more.field-0 ↔ HasChunkIn key (drop (75 + len) file) =
    subst (λ (l : List ℕ). More key l) (same_2.seen_same ∙ same_1.seen_same)
    (subst (λ (k : List ℕ). More k (g.D.Device.seen c.read_chunks.new.device)) c.new-key.ensures (c.in_ok-has_more.ensures.value same_2.known)) in
    found_sound g.S.Sink.takes key header file c.args.sink.now c.read_chunks.new.sink len c.in_ok-len.field-0.count at
    (λ has. false≢true (subst IsTrue c.if-branch.false (more.1 has)))
