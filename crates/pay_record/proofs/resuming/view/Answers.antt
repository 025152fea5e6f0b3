use Rattle.std.proofs.Common.{◌≡◌, ℕ, List, ap}
use Rattle.std.proofs.Math.Path.{transport}
use Rattle.pay_log.specs.Headers.{header_bytes}
use Rattle.pay_log.specs.declared.header.Header.{Header}
use Rattle.pay_member.specs.Member.{MemberFields}
use Rattle.pay_record.specs.Resuming.{IsLogOf}
use Rattle.pay_record.specs.Starts.{fresh_member}
use Rattle.pay_record.proofs.TakenOn.{is_log_of, taken_from_none}
use Rattle.pay_record.proofs.resuming.view.Goals as goal

pub returns-clause-genesis : goal.returns-clause-genesis
returns-clause-genesis g c =
    let fed = c.in_ok-len.ensures.fed in
    let taken = taken_from_none c.read_log.new.sink c.in_ok-resuming.resuming fed.0 (λ s. s.member) (λ s. s.ids.items)
    (fresh_member c.args.genesis.now c.args.keys.now) c.in_ok-resuming.ensures.member c.in_ok-resuming.ensures.ids fed.1 in
    ap (λ (m : MemberFields). m.genesis) taken.grown

pub returns-clause-keys : goal.returns-clause-keys
returns-clause-keys g c =
    let fed = c.in_ok-len.ensures.fed in
    let taken = taken_from_none c.read_log.new.sink c.in_ok-resuming.resuming fed.0 (λ s. s.member) (λ s. s.ids.items)
    (fresh_member c.args.genesis.now c.args.keys.now) c.in_ok-resuming.ensures.member c.in_ok-resuming.ensures.ids fed.1 in
    ap (λ (m : MemberFields). m.keys) taken.grown

pub returns-clause-viewed : goal.returns-clause-viewed
returns-clause-viewed g c known =
    let found = c.in_ok-len.ensures.read known in
    let k = c.args.keys.now in
    let sink = c.read_log.new.sink in
    let file : List ℕ = g.D.Device.seen c.args.device.now in
    let P : List ℕ → Header → Type 0 = λ b h. IsLogOf k b (header_bytes h) file (record { member = sink.member; ids = sink.ids.items; len = c.in_ok-len.len }) found.ps in (
      found.ps,
      transport (λ i. P (c.in_ok-key.ensures i) (c.in_ok-header.ensures i))
          (is_log_of (λ s. s.member) (λ s. s.ids.items) c.args.genesis.now k c.in_ok-resuming.resuming sink _ _ file c.in_ok-len.len
          c.in_ok-resuming.ensures.member c.in_ok-resuming.ensures.ids found),
    )
