use Rattle.std.proofs.Common.{◌≡◌, ℕ, List, length, take, subst}
use Rattle.std.specs.Prelude.{◌↔◌, IsTrue}
use Rattle.pay_log.specs.Keys.{secret_mark}
use Rattle.pay_log.proofs.Chunks.{mark_long}
use Rattle.pay_log.proofs.chunk.LogKey.has_mark.Goals as goal

pub returns : goal.returns
returns c =
    let key : List ℕ = c.args.self.now in
    let bytes : List ℕ = c.args.bytes.now in
    let P : List ℕ → Type 0 = λ l. IsTrue c.begins_with.result ↔ (take (length l) bytes ≡ l) in
    let Q : ℕ → Type 0 = λ n. IsTrue c.begins_with.result ↔ (take n bytes ≡ secret_mark key) in
    subst Q (mark_long key) (subst P c.mark.ensures c.begins_with.ensures)
