use Rattle.std.proofs.Common.{◌≡◌, ℕ, List, rules, sym, ◌∙◌, ap, subst, true, refl}
use Rattle.std.proofs.Math.Path.{transport}
use Rattle.pay_link.specs.Genesis.{GenesisFields}
use Rattle.pay_link.specs.Keys.{KeyFields}
use Rattle.pay_log.specs.Damage.{IsDamaged}
use Rattle.pay_log.specs.Headers.{header_bytes}
use Rattle.pay_log.specs.declared.header.Header.{Header}
use Rattle.pay_member.specs.Events.{events}
use Rattle.pay_member.specs.Group.{group_in}
use Rattle.pay_member.specs.Member.{MemberFields}
use Rattle.pay_member.specs.Remembering.{HasForgotten, Remembers}
use Rattle.pay_record.specs.Identity.{log_key_of}
use Rattle.pay_record.specs.Resuming.{IsIllegalLog, IsLogOf, IsResumed}
use Rattle.pay_record.specs.Starts.{fresh_member}
use Rattle.pay_record.proofs.TakenOn.{is_illegal, is_resumed, of_records, taken_from_none}
use Rattle.pay_record.proofs.resuming.restart.Goals as goal

pub returns-in_err-log-clause-illegal : goal.returns-in_err-log-clause-illegal
returns-in_err-log-clause-illegal g c number said known =
    let k = c.args.keys.now in
    let file : List ℕ = g.D.Device.seen c.args.old.now in
    let Q : List ℕ → Header → Type 0 = λ b h. IsIllegalLog k b (header_bytes h) file (fresh_member c.args.genesis.now k) number in
    transport (λ i. Q (c.in_ok-key.ensures i) (c.in_ok-header.ensures i))
    (is_illegal (λ s. s.member) (λ s. s.ids.items) c.args.genesis.now k c.in_ok-resuming.resuming _ _ file number
    c.in_ok-resuming.ensures.member c.in_ok-resuming.ensures.ids (c.in_err-log.ensures.illegal number (search (rules, said)) known))

pub returns-in_err-refuse_forgotten-clause-forgotten : goal.returns-in_err-refuse_forgotten-clause-forgotten
returns-in_err-refuse_forgotten-clause-forgotten g c said known known_new empty =
    let g' = c.args.genesis.now in
    let k' = c.args.keys.now in
    let r = c.in_ok-log.field-0 in
    let m = r.sink.member in
    let ids = r.sink.ids.items in
    let file : List ℕ = g.D.Device.seen c.args.old.now in
    let fed = c.in_ok-log.ensures.fed in
    let taken = taken_from_none r.sink c.in_ok-resuming.resuming fed.0 (λ s. s.member) (λ s. s.ids.items) (fresh_member g' k')
    c.in_ok-resuming.ensures.member c.in_ok-resuming.ensures.ids fed.1 in
    let genesis : m.genesis ≡ g' = ap (λ (n : MemberFields). n.genesis) taken.grown in
    let keys : m.keys ≡ k' = ap (λ (n : MemberFields). n.keys) taken.grown in
    let found = is_resumed (λ s. s.member) (λ s. s.ids.items) g' k' (record { is_known = g.D.Device.is_known; seen = g.D.Device.seen; may_leave = g.D.Device.may_leave }) c.in_ok-resuming.resuming (header_bytes c.in_ok-header.header) file r
    c.in_ok-resuming.ensures.member c.in_ok-resuming.ensures.ids (c.in_ok-log.ensures.recovered known known_new empty) in
    let key : r.log.key ≡ log_key_of k' = c.in_ok-log.ensures.key ∙ c.in_ok-key.ensures in
    let P : List ℕ → Header → MemberFields → Type 0 = λ b h n. IsLogOf k' b (header_bytes h) file (record { member = n; ids = ids; len = r.len }) found.ps in
    record {
      history = m.history;
      ids = ids;
      len = r.len;
      ps = found.ps;
      is = transport (λ i. P (key i) (c.in_ok-header.ensures i) (record { genesis = genesis i; keys = keys i; history = m.history })) found.was;
      forgot = subst (λ (k : KeyFields). HasForgotten (group_in g' k.own) (events m.history)) keys
          (subst (λ (x : GenesisFields). HasForgotten (group_in x m.keys.own) (events m.history)) genesis
          c.in_err-refuse_forgotten.ensures.forgotten.1);
    }

pub returns-clause-genesis : goal.returns-clause-genesis
returns-clause-genesis g c =
    let fed = c.in_ok-log.ensures.fed in
    let taken = taken_from_none c.in_ok-log.field-0.sink c.in_ok-resuming.resuming fed.0 (λ s. s.member) (λ s. s.ids.items)
    (fresh_member c.args.genesis.now c.args.keys.now) c.in_ok-resuming.ensures.member c.in_ok-resuming.ensures.ids fed.1 in
    ap (λ (m : MemberFields). m.genesis) taken.grown

pub returns-clause-keys : goal.returns-clause-keys
returns-clause-keys g c =
    let fed = c.in_ok-log.ensures.fed in
    let taken = taken_from_none c.in_ok-log.field-0.sink c.in_ok-resuming.resuming fed.0 (λ s. s.member) (λ s. s.ids.items)
    (fresh_member c.args.genesis.now c.args.keys.now) c.in_ok-resuming.ensures.member c.in_ok-resuming.ensures.ids fed.1 in
    ap (λ (m : MemberFields). m.keys) taken.grown

pub returns-clause-records : goal.returns-clause-records
returns-clause-records g c =
    let fed = c.in_ok-log.ensures.fed in
    let k = c.args.keys.now in
    let fresh = fresh_member c.args.genesis.now k in
    let sink = c.in_ok-log.field-0.sink in (
      fed.0,
      of_records k fresh sink.member sink.ids.items fed.0 refl (taken_from_none sink c.in_ok-resuming.resuming fed.0 (λ s. s.member) (λ s. s.ids.items) fresh
          c.in_ok-resuming.ensures.member c.in_ok-resuming.ensures.ids fed.1),
    )

pub returns-clause-resumed : goal.returns-clause-resumed
returns-clause-resumed g c known known_new empty =
    let r = c.in_ok-log.field-0 in
    let k = c.args.keys.now in
    let file : List ℕ = g.D.Device.seen c.args.old.now in
    let P : Header → Type 0 = λ h. IsResumed (record { is_known = g.D.Device.is_known; seen = g.D.Device.seen; may_leave = g.D.Device.may_leave }) k (header_bytes h) file (record { member = r.sink.member; ids = r.sink.ids.items; len = r.len }) r.log in
    subst P c.in_ok-header.ensures (is_resumed (λ s. s.member) (λ s. s.ids.items) c.args.genesis.now k (record { is_known = g.D.Device.is_known; seen = g.D.Device.seen; may_leave = g.D.Device.may_leave }) c.in_ok-resuming.resuming _ file r
    c.in_ok-resuming.ensures.member c.in_ok-resuming.ensures.ids (c.in_ok-log.ensures.recovered known known_new empty))

pub returns-clause-undamaged : goal.returns-clause-undamaged
returns-clause-undamaged g c known count damaged =
    let file : List ℕ = g.D.Device.seen c.args.old.now in
    let P : List ℕ → Header → Type 0 = λ k h. IsDamaged k (header_bytes h) file count in
    c.in_ok-log.ensures.undamaged known count
    (subst (λ (k : List ℕ). P k c.in_ok-header.header) (sym c.in_ok-key.ensures)
    (subst (λ (h : Header). P (log_key_of c.args.keys.now) h) (sym c.in_ok-header.ensures) damaged))

pub returns-clause-remembers : goal.returns-clause-remembers
returns-clause-remembers g c =
    let g' = c.args.genesis.now in
    let k' = c.args.keys.now in
    let sink = c.in_ok-log.field-0.sink in
    let m = sink.member in
    let fed = c.in_ok-log.ensures.fed in
    let taken = taken_from_none sink c.in_ok-resuming.resuming fed.0 (λ s. s.member) (λ s. s.ids.items) (fresh_member g' k')
    c.in_ok-resuming.ensures.member c.in_ok-resuming.ensures.ids fed.1 in
    let genesis : m.genesis ≡ g' = ap (λ (n : MemberFields). n.genesis) taken.grown in
    let keys : m.keys ≡ k' = ap (λ (n : MemberFields). n.keys) taken.grown in
    subst (λ (k : KeyFields). Remembers (group_in g' k.own) (events m.history)) keys
    (subst (λ (x : GenesisFields). Remembers (group_in x m.keys.own) (events m.history)) genesis
    c.in_ok-refuse_forgotten.ensures.remembers)
