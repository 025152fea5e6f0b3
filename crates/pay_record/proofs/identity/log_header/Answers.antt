use Rattle.std.proofs.Common.{ℕ, List, codes, ap, ◌∙◌}
use Rattle.sha2.specs.Sha256.{sha256}
use Rattle.pay_hmac.specs.Mac.{mac}
use Rattle.pay_log.specs.declared.header.Header.{Header}
use Rattle.pay_record.specs.Identity.{genesis_bytes}
use Rattle.pay_record.proofs.identity.log_header.Goals as goal

pub returns : goal.returns
returns c =
    let A : List ℕ → Header = λ g. record { genesis = g; member = c.own.result; keys = c.mac.result } in
    let genesis = sha256 c.in_ok-bytes.bytes.items in
    let own = c.args.keys.now.own in
    let B : ℕ → Header = λ n. record { genesis = genesis; member = n; keys = c.mac.result } in
    let C : List ℕ → Header = λ k. record { genesis = genesis; member = own; keys = k } in
    let D : List ℕ → List ℕ → Header = λ b k. record { genesis = sha256 b; member = own; keys = mac k (codes "payd log keys 4") } in
    ap A (c.digest.ensures ∙ ap sha256 c.as_slice.ensures.value)
    ∙ ap B c.own.ensures.value
    ∙ ap C c.mac.ensures
    ∙ ap (λ (b : List ℕ). D b c.in_ok-key.key) c.in_ok-bytes.ensures
    ∙ ap (λ (k : List ℕ). D (genesis_bytes c.args.genesis.now) k) c.in_ok-key.ensures
