-- The answer to a frame tells whether the sent list has grown by it.
use Rattle.std.proofs.Common.{◌≡◌, ◌↔◌, ℕ, ◌+◌, ◌<◌, Bool, true, false, ◌||◌, IsTrue, Option, Some, None, Result, Ok, Err, List, [], ◌∷◌, ◌++◌, length, refl, sym, ap, ap₂, ◌∙◌, arith, length-append}
use Rattle.pay_frame.specs.declared.body.Kind.{Kind}
use Rattle.pay_frame.specs.declared.body.Kind.TheVariants.{Echo, Ready}
use Rattle.pay_frame.specs.Frame.{BodyFields}
use Rattle.pay_echo.specs.Broadcast.{echoed, readied}
use Rattle.pay_echo.specs.Meaning.{became}
use Rattle.pay_channel.specs.History as channel
use Rattle.pay_channel.specs.History.{newly, out, says, votes}
use Rattle.pay_channel.specs.SentLaws.{OutByOneMore}
use Rattle.pay_link.specs.Checked.{CheckedFields}
use Rattle.pay_link.specs.Genesis.{GenesisFields}
use Rattle.pay_member.specs.declared.event.HistoryEntry.{HistoryEntry}
use Rattle.pay_member.specs.declared.event.Event.TheVariants.{Taken}
use Rattle.pay_member.specs.declared.event.Reply.TheVariants as reply
use Rattle.pay_member.specs.declared.fault.TakeFault.{TakeFault}
use Rattle.pay_member.specs.declared.event.Took.{Took}
use Rattle.pay_member.specs.Answer.{IsAnswer}
use Rattle.pay_member.specs.EventLaws.{EventsByOneMore}
use Rattle.pay_member.specs.Events.{events}
use Rattle.pay_member.specs.Group.{group_in}
use Rattle.pay_member.specs.Member.{MemberFields}
use Rattle.pay_member.specs.Reply.{took_by}
use Rattle.pay_node.specs.Seats.{behind}
use Rattle.pay_node.specs.Sending.{HasSent, sent_by}

abbrev counted : Bool → ℕ
counted true = 1
counted false = 0

either : (x y : Bool) → IsTrue (x || y) ↔ (0 < counted x + counted y)
either true y = (λ _. omega arith, λ _. refl)
either false true = (λ _. omega arith, λ _. refl)
either false false = (λ t. absurd (cc), λ below. absurd (omega arith))

length-newly : (kind : Kind) (a s : ℕ) (old new : Option (List ℕ)) → length (newly kind a s old new) ≡ counted (became old new)
length-newly kind a s None None = refl
length-newly kind a s None (Some v) = refl
length-newly kind a s (Some w) new = refl

length-says : (g : GenesisFields) (own : ℕ) (before : List channel.Event) (p : ℕ) (body : BodyFields)
    → length (says (group_in g own) before (channel.From p body))
    ≡ counted (took_by g own before (channel.From p body)).echo + counted (took_by g own before (channel.From p body)).ready
unfolding says took_by
length-says g own before p body =
    let group = group_in g own in
    let old = votes own body.owner body.seq before in
    let new = votes own body.owner body.seq (before ++ channel.From p body ∷ []) in
    length-append (newly Echo body.owner body.seq (echoed old) (echoed new)) (newly Ready body.owner body.seq (readied group old) (readied group new))
    ∙ ap₂ (λ (n m : ℕ). n + m)
    (length-newly Echo body.owner body.seq (echoed old) (echoed new))
    (length-newly Ready body.owner body.seq (readied group old) (readied group new))

length-sent : OutByOneMore → EventsByOneMore → (m : MemberFields) (stamp : ℕ) (c : CheckedFields) (took : Took)
    → IsAnswer m (Taken c) (Ok (reply.Took took))
    → length (sent_by (behind m stamp (Taken c) (Ok (reply.Took took)))) ≡ length (sent_by m) + (counted took.echo + counted took.ready)
length-sent out_more events_more m stamp c took is =
    let e : HistoryEntry = record { stamp = stamp; event = Taken c; reply = reply.Took took } in
    let group = group_in m.genesis m.keys.own in
    let event = channel.From c.frame.from c.frame.body in
    let before = events m.history in
    let same : took ≡ took_by m.genesis m.keys.own before event = cc (is.1) in
    ap (λ (h : List channel.Event). length (out group h)) (events_more m.history e)
    ∙ ap length (out_more group before event)
    ∙ length-append (out group before) (says group before event)
    ∙ ap (λ (n : ℕ). length (out group before) + n)
    (length-says m.genesis m.keys.own before c.frame.from c.frame.body
    ∙ ap (λ (t : Took). counted t.echo + counted t.ready) (sym same))

abbrev pub told : Result Took TakeFault → Bool
told (Ok took) = took.echo || took.ready
told (Err fault) = false

pub tells : OutByOneMore → EventsByOneMore → (answer : Result Took TakeFault) (grown : Bool) → grown ≡ told answer → HasSent answer grown
tells out_more events_more (Ok took) grown same m stamp c is =
    let more = length-sent out_more events_more m stamp c took is in
    let one = either took.echo took.ready in
    (λ grew. (let some = one.0 (sym same ∙ grew) in omega arith), λ longer. same ∙ one.1 (omega arith))
tells out_more events_more (Err fault) grown same m stamp c is = (λ grew. absurd (cc (same, grew)), λ longer. absurd (omega arith))
