use Rattle.std.proofs.Common.{◌≡◌, ℕ, List, length, ap, ◌∙◌, arith, length-append}
use Rattle.pay_record.specs.Records.{LoggedFields, record_of}
use Rattle.pay_record.proofs.Sizes.{record_small}
use Rattle.pay_record.proofs.writing.push_record.Goals as goal

pub returns-clause-size : goal.returns-clause-size
returns-clause-size c =
    let l : LoggedFields = record { entry = c.args.entry.now; id = c.args.id } in
    let record_is : c.deref.result.now ≡ record_of l = c.deref.ensures.value ∙ c.in_ok-record.ensures in
    omega (
      arith,
      ap (λ (x : List ℕ). length x) c.in_ok-extend_from_slice.ensures.items,
      length-append c.args.out.now.items c.deref.result.now,
      ap (λ (x : List ℕ). length x) record_is,
      record_small l c.requires c.is_sound.ensures,
    )
