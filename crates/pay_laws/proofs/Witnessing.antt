-- More than f witnesses show that a member has lost state.
use Rattle.std.proofs.Common.{◌≡◌, ℕ, ◌<◌, Bool, true, get_or, None, Some, ap, ◌∙◌, arith, lt-ltb}
use Rattle.std.specs.List.{count_by}
use Rattle.std.proofs.lemmas.Bool.{cond-true}
use Rattle.std.proofs.lemmas.Option.{get_or_from_slice_get}
use Rattle.pay_echo.specs.Quorums.{PartIsSmaller}
use Rattle.pay_node.specs.Comparing.{is_beyond}
use Rattle.pay_laws.specs.Released.{LossIsFound}
use Rattle.pay_laws.proofs.Sizes.{count_is_size}
use Rattle.pay_laws.proofs.Noting.{claim_since}

pub loss_is_found : PartIsSmaller → LossIsFound
loss_is_found part w t c witnesses unforged fresh compares many are =
    let beyond : ℕ → Bool = λ p. is_beyond c.sent (get_or c.claims p None) in
    let sized = count_is_size (is_beyond c.sent) c.claims None w.members compares.one_for_each in
    let more = part w.members witnesses beyond is in
    let same = compares.faults in
    cond-true _ _ _ (lt-ltb c.faults (count_by (is_beyond c.sent) c.claims) (omega (arith, sized, more, same, many))) where
      is : (p : ℕ) → p < w.members → witnesses p ≡ true → is_beyond c.sent (get_or c.claims p None) ≡ true
      is p below so =
          let i = are p below so in
          let s = claim_since w t c unforged fresh compares p i.taken i.correct i.claim in
          let more = i.more s.until s.since s.moment in
          let exact = s.exact in
          ap (is_beyond c.sent) (get_or_from_slice_get c.claims p (Some i.taken) None i.claim)
          ∙ lt-ltb c.sent i.taken (omega arith)
