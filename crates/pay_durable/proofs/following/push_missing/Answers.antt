use Rattle.std.proofs.Common.{ℕ, ◌+◌, List, ◌∷◌, ◌++◌, take, drop, sym, ap, ◌∙◌, subst, arith}
use Rattle.pay_member.specs.declared.event.HistoryEntry.{HistoryEntry}
use Rattle.pay_member.specs.Legal.{Legal}
use Rattle.pay_record.specs.Records.{record_of}
use Rattle.pay_record.specs.Records.{LoggedFields}
use Rattle.pay_durable.proofs.Followed.{one_more, parts_at}
use Rattle.pay_durable.proofs.following.push_missing.Goals as goal

pub push_record-requires : goal.push_record-requires
push_record-requires c =
    let m = c.args.member.now in
    let history = c.history-history.result.now in
    let e = c.index-history-count.result in
    let parts = parts_at history c.loop-count.count e c.loop-count-test.true c.index-history-count.is in
    let legal : Legal m.genesis m.keys (take c.loop-count.count history ++ e ∷ drop (c.loop-count.count + 1) history) =
    subst (λ (h : List HistoryEntry). Legal m.genesis m.keys h) (sym c.history-history.ensures.value ∙ parts) c.history-history.ensures.legal in
    c.legal_entries_have_room.ensures m.genesis m.keys (take c.loop-count.count history) e (drop (c.loop-count.count + 1) history) legal

pub loop-count-preserved : goal.loop-count-preserved
loop-count-preserved c =
    let e = c.index-history-count.result in
    let P : ℕ → LoggedFields = λ id. record { entry = e; id = id } in
    record {
      gathered = one_more c.args.ids.now c.history-history.result.now c.args.count.now c.loop-count.count c.args.pending.now.items c.loop-count.pending.items c.push_record.new.out.items e
          c.loop-count.invariant.gathered c.loop-count-test.true c.index-history-count.is
          (c.in_ok-push_record.ensures.appended ∙ ap (λ (id : ℕ). c.loop-count.pending.items ++ record_of (P id)) c.id_under.ensures);
      short = omega (arith, c.in_ok-push_record.ensures.size, c.if-len-le-FULL.true, c.len.ensures);
    }
