use Rattle.std.proofs.Common.{◌≡◌, ℕ, Some, length, refl, sym, ap, subst, arith}
use Rattle.pay_member.specs.declared.event.Event.TheVariants.{Query}
use Rattle.pay_member.specs.Replay.{ReplayFields, next_event}
use Rattle.pay_member.proofs.Replays.{next_within, replay_queried}
use Rattle.pay_member.proofs.replay.Replay.query_again.Goals as goal

abbrev IsQueryNext : ℕ → ReplayFields → Type 0
IsQueryNext a r = next_event r ≡ Some (Query a)

pub prove-unreachable-requires : goal.prove-unreachable-requires
prove-unreachable-requires g c =
    let r : ReplayFields = record { member = c.self.inside.member.now; taken = c.self.inside.taken } in
    let within = next_within r (Query c.args.account) (subst (IsQueryNext c.args.account) (sym c.self.view_is) c.requires) in
    let long = ap length c.history-entries.ensures.value in
    omega arith

pub invariant_of-self : goal.invariant_of-self
invariant_of-self g c =
    let r : ReplayFields = record { member = c.self.inside.member.now; taken = c.self.inside.taken } in
    replay_queried r c.self.inside.ledger c.self.inside.fronts c.self.inside.lies.items (Query c.args.account) c.self.invariant c.history-entries.ensures.legal
    (subst (IsQueryNext c.args.account) (sym c.self.view_is) c.requires) refl
