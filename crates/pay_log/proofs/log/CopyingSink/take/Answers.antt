use Rattle.std.proofs.Common.{◌≡◌, ◌++◌, ℕ, List, refl, ap, ◌∙◌, arith, length}
use Rattle.pay_log.specs.Chunks.{chunk_of}
use Rattle.pay_log.proofs.Chunks.{length-chunk}
use Rattle.pay_log.proofs.log.CopyingSink.take.Goals as goal

pub returns-clause-taken : goal.returns-clause-taken
returns-clause-taken g c =
    let log = c.args.self.now.log in
    let p : List ℕ = c.args.payload.now in
    let made : c.deref.result.now ≡ chunk_of log.key log.place p = c.deref.ensures.value ∙ c.in_ok-chunk.ensures in (
      c.in_ok-take.ensures.taken,
      record {
        key = refl;
        works = refl;
        place = omega (arith, c.len.ensures, ap length c.in_ok-chunk.ensures, length-chunk log.key log.place p);
        known = c.append.ensures.known;
        grown = λ known. c.in_ok-append.ensures.appended known ∙ ap (λ (l : List ℕ). g.D.Device.seen log.device ++ l) made;
      },
    )
