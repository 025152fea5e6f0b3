use Rattle.std.proofs.Common.{◌≡◌, ◌++◌, ℕ, List, take, drop, length, rules, true, ap, ◌∙◌}
use Rattle.std.specs.Prelude.{IsTrue}
use Rattle.std.proofs.lemmas.Bool.{false≢true}
use Rattle.pay_log.specs.Headers.{magic, version}
use Rattle.pay_log.proofs.Headed.{before_keys, from_parts}
use Rattle.pay_log.proofs.header.Header.judge.Goals as goal

truth : IsTrue true
truth = search rules

pub returns-clause-same : goal.returns-clause-same
returns-clause-same c =
    let genesis = c.args.self.now.genesis in
    let keys = c.args.self.now.keys in
    let number = c.to_be_bytes.result in
    let long_g : length genesis ≡ 32 = search rules in
    let long_k : length keys ≡ 32 = search rules in
    let long_n : length number ≡ 2 = search rules in
    let before =
    before_keys c.args.front.now genesis number long_g long_n
    (c.if-not-is_at.ensures.0 truth) (c.if-not-is_at-2.ensures.0 truth) (c.if-not-is_at-3.ensures.0 truth) (c.if-not-is_at-4.ensures.0 truth) in
    from_parts c.args.front.now genesis number keys long_k before (c.if-not-is_at-5.ensures.0 truth)
    ∙ ap (λ (n : List ℕ). magic ++ version ++ genesis ++ n ++ keys) c.to_be_bytes.ensures

pub returns-then-not-is_at-5-clause-differs : goal.returns-then-not-is_at-5-clause-differs
returns-then-not-is_at-5-clause-differs c =
    let genesis = c.args.self.now.genesis in
    let keys = c.args.self.now.keys in
    let number = c.to_be_bytes.result in
    let long_g : length genesis ≡ 32 = search rules in
    let long_k : length keys ≡ 32 = search rules in
    let long_n : length number ≡ 2 = search rules in (
      before_keys c.args.front.now genesis number long_g long_n
          (c.if-not-is_at.ensures.0 truth) (c.if-not-is_at-2.ensures.0 truth) (c.if-not-is_at-3.ensures.0 truth) (c.if-not-is_at-4.ensures.0 truth)
          ∙ ap (λ (n : List ℕ). magic ++ version ++ genesis ++ n) c.to_be_bytes.ensures,
      λ same. false≢true (c.if-not-is_at-5.ensures.1 (ap (λ (m : ℕ). take m (drop 43 c.args.front.now)) long_k ∙ same)),
    )
