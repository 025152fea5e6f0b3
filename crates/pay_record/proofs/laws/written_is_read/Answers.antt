use Rattle.std.proofs.Common.{◌≡◌, ◌⊎◌, inl, inr, ℕ, List, ◌++◌, Result, Ok, Err, length, refl, ap, ◌∙◌}
use Rattle.pay_link.specs.Keys.{KeyFields}
use Rattle.pay_member.specs.declared.event.HistoryEntry.{HistoryEntry}
use Rattle.pay_record.specs.Records.{LoggedFields}
use Rattle.pay_record.specs.declared.reading.RecordFault.{RecordFault}
use Rattle.pay_record.specs.declared.reading.RecordFault.TheVariants.{Memory, NoRecord}
use Rattle.pay_record.specs.Laws.{OneRecord}
use Rattle.pay_record.specs.Loggable.{IsLoggable, IsReadAs}
use Rattle.pay_record.specs.Records.{record_of}
use Rattle.pay_record.proofs.laws.written_is_read.Goals as goal

read_again :
    OneRecord → (k : KeyFields) (l : LoggedFields) (rest : List ℕ) (answer : Result (HistoryEntry × ℕ × ℕ) RecordFault)
    → IsLoggable k l → IsReadAs k (record_of l ++ rest) answer
    → (answer ≡ Ok (l.entry, l.id, length (record_of l))) ⊎ (answer ≡ Err Memory)
read_again law k l rest (Ok (entry, id, len)) loggable read =
    let found : LoggedFields = record { entry = entry; id = id } in
    let same : found ≡ l = (law k (record_of l ++ rest) found l read.0 (record { loggable = loggable; rest = rest; is = refl })).0 in
    let P : LoggedFields → Result (HistoryEntry × ℕ × ℕ) RecordFault = λ x. Ok (x.entry, x.id, length (record_of x)) in
    inl (ap (λ (n : ℕ). Ok (entry, id, n)) read.1 ∙ ap P same)
read_again law k l rest (Err NoRecord) loggable read = absurd (read l (record { loggable = loggable; rest = rest; is = refl }))
read_again law k l rest (Err Memory) loggable read = inr refl

pub returns : goal.returns
returns c = read_again c.one_record.ensures
