use Rattle.std.proofs.Common.{◌≡◌, ◌<◌, List, [], ◌∷◌, ◌++◌, arith, refl, sym, ap, ◌∙◌, subst}
use Rattle.std.proofs.lemmas.Grind.{common_steps}
use Rattle.pay_member.specs.declared.event.Event.TheVariants.{Query}
use Rattle.pay_member.specs.declared.event.Reply.TheVariants as reply
use Rattle.pay_member.specs.declared.event.HistoryEntry.{HistoryEntry}
use Rattle.pay_member.specs.declared.event.Told.{Told}
use Rattle.pay_member.specs.Events.{events}
use Rattle.pay_member.specs.Reply.{told_of}
use Rattle.pay_member.specs.Member.{MemberFields, IsMember}
use Rattle.pay_member.proofs.Members.{member_queried, query_taken, told_is}
use Rattle.pay_member.proofs.member.Member.query.Goals as goal

pub invariant_of-self-2 : goal.invariant_of-self-2
invariant_of-self-2 g c =
    let h = c.self.inside.history.items in
    let x : HistoryEntry = record { stamp = c.args.stamp; event = Query c.args.account; reply = reply.Told (record { balance = c.balance.result; front = c.front.result; listed = c.list_len.result }) } in
    let m : MemberFields = record { genesis = c.self.inside.genesis; keys = c.self.inside.keys; history = h } in
    let items : c.push_reserved.new.self.items ≡ h ++ x ∷ [] = c.push_reserved.ensures.items ∙ ap (λ l. l ++ x ∷ []) c.in_ok-reserve.ensures.items in
    let At : List HistoryEntry → Type 0 = λ l. IsMember (record { genesis = c.self.inside.genesis; keys = c.self.inside.keys; history = l }) c.self.inside.ledger c.self.inside.fronts c.self.inside.lies.items in
    let member : c.args.account < c.self.inside.genesis.members = omega arith in
    subst At (sym items)
    (member_queried m c.self.inside.ledger c.self.inside.fronts c.self.inside.lies.items x c.self.invariant refl
    (record {
      kept = tt;
      taken = query_taken m.genesis m.keys (events h) c.args.account member;
      reply = ap reply.Told
          (told_is c.a_channel_follows.ensures.lists c.settled_book_is_one.ensures m.genesis m.keys.own (events h) c.self.inside.ledger c.args.account
          c.balance.result c.front.result c.list_len.result c.self.invariant.tracks c.balance.ensures c.front.ensures c.list_len.ensures);
    }))

pub returns-clause-told : goal.returns-clause-told
returns-clause-told g c =
    let At : MemberFields → Type 0 = λ m. ◌≡◌ {A = Told} (record { balance = c.balance.result; front = c.front.result; listed = c.list_len.result }) (told_of m.genesis m.keys.own (events m.history) c.args.account) in
    subst At c.self.view_is
    (told_is c.a_channel_follows.ensures.lists c.settled_book_is_one.ensures c.self.inside.genesis c.self.inside.keys.own (events c.self.inside.history.items) c.self.inside.ledger c.args.account
    c.balance.result c.front.result c.list_len.result c.self.invariant.tracks c.balance.ensures c.front.ensures c.list_len.ensures)

pub returns-clause-entry : goal.returns-clause-entry
returns-clause-entry g c = grind (arith, common_steps)
