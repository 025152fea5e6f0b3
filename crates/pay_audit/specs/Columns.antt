-- The numbers that an export has for each account.
use Rattle.std.specs.Prelude.{ℕ, List}
use Rattle.pay_audit.specs.declared.export_writing.Column.{Column}
use Rattle.pay_audit.specs.declared.export_writing.Column.TheVariants.{Balances, Front, Opening}
use Rattle.pay_audit.specs.Export.{ExportFields}

abbrev pub column_of : ExportFields → Column → List ℕ
column_of e Balances = e.balances
column_of e Front = e.front
column_of e Opening = e.genesis.opening
