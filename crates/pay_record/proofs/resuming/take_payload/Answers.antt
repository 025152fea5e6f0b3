use Rattle.std.proofs.Common.{◌≡◌, ◌++◌, List, ℕ, Bool, true, false, Err, inl, inr, length, rules, sym, ap, ◌∙◌, subst, append_assoc, arith}
use Rattle.std.specs.Bool.{OnTrue}
use Rattle.std.proofs.lemmas.List.{length-drop}
use Rattle.pay_link.specs.Keys.{KeyFields}
use Rattle.pay_member.specs.declared.event.HistoryEntry.{HistoryEntry}
use Rattle.pay_member.specs.Member.{MemberFields, with_entry}
use Rattle.pay_record.specs.Loggable.{IsReadAs, StandsIn}
use Rattle.pay_record.specs.Records.{LoggedFields, record_of}
use Rattle.pay_record.specs.declared.reading.RecordFault.{RecordFault}
use Rattle.pay_record.specs.declared.reading.RecordFault.TheVariants.{Memory, NoRecord}
use Rattle.pay_record.proofs.Stands.{behind, room}
use Rattle.pay_record.proofs.TakenOn.{one_taken, refused_at, taken_on}
use Rattle.pay_record.proofs.resuming.take_payload.Goals as goal

where_true : {P : Type 0} (b : Bool) → b ≡ true → OnTrue b P → P
where_true true is p = p
where_true false is p = absurd cc

pub loop-rest-preserved : goal.loop-rest-preserved
loop-rest-preserved g c =
    let i = c.loop-rest.invariant in
    let k = c.args.member.now.keys in
    let logged : LoggedFields = record { entry = c.in-Ok.found.0; id = c.in-Ok.found.1 } in
    let same : c.keys.result.now ≡ k = c.keys.ensures.value ∙ ap (λ (m : MemberFields). m.keys) i.taken.grown in
    let stands : StandsIn k c.loop-rest.rest.now logged = subst (λ (x : KeyFields). StandsIn x c.loop-rest.rest.now logged) same c.in-Ok.ensures.0 in
    let took = where_true {P = c.take_again.new.member ≡ with_entry c.loop-rest.member logged.entry} c.in_ok-take_again.field-0 c.if-not-branch.false c.in_ok-take_again.ensures.owed in
    record {
      done = i.done ++ record_of logged;
      taken = taken_on k c.args.member.now c.loop-rest.member c.take_again.new.member c.args.ids.now.items c.loop-rest.ids.items c.note.new.ids.items i.done (record_of logged) i.taken
          (one_taken k c.loop-rest.member c.take_again.new.member c.loop-rest.ids.items c.note.new.ids.items logged took c.in_ok-note.ensures stands.loggable);
      is = i.is ∙ ap (λ (l : List ℕ). i.done ++ l) (behind k c.loop-rest.rest.now logged c.in-Ok.found.2 stands c.in-Ok.ensures.1 ∙ ap (λ (l : List ℕ). record_of logged ++ l) (sym c.bytes_after-rest.ensures))
          ∙ sym (append_assoc i.done (record_of logged) c.bytes_after-rest.result.now);
    }

pub returns-then-not-branch-clause-refused : goal.returns-then-not-branch-clause-refused
returns-then-not-branch-clause-refused g c number said =
    let i = c.loop-rest.invariant in
    let k = c.args.member.now.keys in
    let logged : LoggedFields = record { entry = c.in-Ok.found.0; id = c.in-Ok.found.1 } in
    let same : c.keys.result.now ≡ k = c.keys.ensures.value ∙ ap (λ (m : MemberFields). m.keys) i.taken.grown in
    let stands : StandsIn k c.loop-rest.rest.now logged = subst (λ (x : KeyFields). StandsIn x c.loop-rest.rest.now logged) same c.in-Ok.ensures.0 in
    let counted : length c.history.result.now ≡ number = search (rules, said) in
    refused_at k c.args.member.now c.loop-rest.member c.args.ids.now.items c.loop-rest.ids.items c.args.payload.now c.loop-rest.rest.now number i
    (ap (λ (h : List HistoryEntry). length h) (sym c.history.ensures.value) ∙ counted)
    (inr (logged, stands.loggable, record { rest = stands.rest; is = stands.is }, c.in_ok-take_again.ensures.other (search rules)))

none_read : (k : KeyFields) (bytes : List ℕ) (fault : RecordFault) → fault ≡ NoRecord → IsReadAs k bytes (Err fault) → (l : LoggedFields) → StandsIn k bytes l → ⊥
none_read k bytes Memory is read = absurd cc
none_read k bytes NoRecord is read = read

pub returns-in-Err-NoRecord-clause-refused : goal.returns-in-Err-NoRecord-clause-refused
returns-in-Err-NoRecord-clause-refused g c number said =
    let i = c.loop-rest.invariant in
    let k = c.args.member.now.keys in
    let rest : List ℕ = c.loop-rest.rest.now in
    let same : c.keys.result.now ≡ k = c.keys.ensures.value ∙ ap (λ (m : MemberFields). m.keys) i.taken.grown in
    let none = none_read c.keys.result.now rest c.in-Err-NoRecord.field-0 c.in-Err-NoRecord.field-0-is c.in-Err-NoRecord.ensures in
    let counted : length c.history.result.now ≡ number = search (rules, said) in
    refused_at k c.args.member.now c.loop-rest.member c.args.ids.now.items c.loop-rest.ids.items c.args.payload.now rest number i
    (ap (λ (h : List HistoryEntry). length h) (sym c.history.ensures.value) ∙ counted)
    (inl (λ l loggable begins. none l (subst (λ (x : KeyFields). StandsIn x rest l) (sym same) (record { loggable = loggable; rest = begins.rest; is = begins.is }))))

pub loop-rest-smaller : goal.loop-rest-smaller
loop-rest-smaller g c =
    let logged : LoggedFields = record { entry = c.in-Ok.found.0; id = c.in-Ok.found.1 } in
    let rest : List ℕ = c.loop-rest.rest.now in
    let some = room c.keys.result.now rest logged c.in-Ok.found.2 c.in-Ok.ensures.0 c.in-Ok.ensures.1 in
    omega (arith, some.0, some.1, ap (λ (l : List ℕ). length l) c.bytes_after-rest.ensures, length-drop c.in-Ok.found.2 rest)
