use Rattle.std.proofs.Common.{rules, ◌≡◌, ℕ, List, Option, None, replicate, sym, ap, ◌∙◌, subst}
use Rattle.pay_member.specs.declared.event.HistoryEntry.{HistoryEntry}
use Rattle.pay_member.specs.declared.ledger.Lie.{Lie}
use Rattle.pay_member.specs.Member.{IsMember}
use Rattle.pay_member.proofs.Members.{member_fresh}
use Rattle.pay_member.proofs.LiesFound.{found_at_first}
use Rattle.pay_member.proofs.member.Member.new.Goals as goal

pub invariant_of-result : goal.invariant_of-result
invariant_of-result g c =
    let At : List HistoryEntry → Type 0 = λ h. IsMember (record { genesis = c.args.genesis; keys = c.args.keys; history = h }) c.in_ok-ledger.ledger c.in_ok-fronts.fronts c.in_ok-lies.lies.items in
    let items : c.in_ok-lies.lies.items ≡ replicate {A = Option Lie} c.from.result None = search rules in
    subst At (sym c.new-3.ensures.items)
    (member_fresh c.nothing_at_first.ensures.taken c.nothing_at_first.ensures.lists c.args.genesis c.args.keys c.own.result c.in_ok-ledger.ledger c.in_ok-fronts.fronts c.in_ok-lies.lies.items
    c.members.ensures.limits c.requires c.own.ensures.value c.in_ok-ledger.ensures.tracks c.in_ok-ledger.ensures.fresh
    (c.in_ok-fronts.ensures ∙ ap (λ n. replicate n 0) c.members.ensures.value)
    (found_at_first c.args.genesis.members c.in_ok-lies.lies.items
    (items ∙ ap (λ (n : ℕ). replicate {A = Option Lie} n None) (c.from.ensures ∙ c.members-2.ensures.value))))
