-- What is read of an export that was written.
use Rattle.std.specs.Prelude.{◌≡◌, ℕ, List, slice_get, Some, Ok}
use Rattle.pay_link.specs.Json.{value_in}
use Rattle.pay_member.specs.Legal.{IsValue}
use Rattle.pay_audit.specs.Export.{ExportFields, IsExport, export_in, lists_of}
use Rattle.pay_audit.specs.Exporting.{export_data}

-- all values of the lists are bytes that fit a frame
abbrev pub HasValues : ExportFields → Type 0
HasValues e = (a s : ℕ) (v : List ℕ) → slice_get (lists_of e a) s ≡ Some v → IsValue v

-- an export is read from any text that has the value written for it
abbrev pub ExportReadsBack : Type 0
ExportReadsBack =
    (e : ExportFields) (text : List ℕ) → IsExport e → HasValues e
    → value_in text ≡ Some (export_data e) → export_in text ≡ Ok e
