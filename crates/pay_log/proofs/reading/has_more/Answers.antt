use Rattle.std.proofs.Common.{◌≡◌, ◌+◌, ◌<◌, ℕ, List, length, take, drop, ap, ◌∙◌, subst, arith}
use Rattle.std.specs.Prelude.{◌↔◌, IsTrue}
use Rattle.std.proofs.lemmas.List.{length-take, take_all}
use Rattle.pay_log.specs.Damage.{HasChunkIn}
use Rattle.pay_log.proofs.reading.has_more.Goals as goal

-- fewer bytes than were asked for are all
all_of_it : (xs tail : List ℕ) (n : ℕ) → tail ≡ take n xs → length tail < n → tail ≡ xs
all_of_it xs tail n cut few = cut ∙ take_all n xs (omega (arith, length-take n xs, ap length cut, few))

pub returns-clause-value : goal.returns-clause-value
returns-clause-value g c known =
    let rest : List ℕ = drop (75 + c.args.place) (g.D.Device.seen c.args.device.now) in
    let n : ℕ = 18446744073709551615 in
    let cut : c.deref.result.now ≡ take n rest = c.deref.ensures.value ∙ c.in_ok-tail.ensures.bytes known in
    let tail : c.deref.result.now ≡ rest = all_of_it rest c.deref.result.now n cut (omega (arith, c.deref.type_inv.1)) in
    let P : List ℕ → Type 0 = λ l. IsTrue c.has_chunk_in.result ↔ HasChunkIn c.args.key.now l in
    subst P tail c.has_chunk_in.ensures
