-- The texts about an export that words request.
use Rattle.std.specs.Prelude.{◌≡◌, ◌⊎◌, ℕ, Bool, true, false, List, map, Option, Some, None}
use Rattle.std.specs.Prelude.{option_map, ◌∷◌, [], ◌++◌}
use Rattle.std.specs.List.{AllZip}
use Rattle.pay_audit.specs.Export.{ExportFields}
use Rattle.pay_frame.specs.declared.engine.EngineFault.TheVariants as engine
use Rattle.pay_journal.specs.Statements.{account_named, statement_in, statements_in}
use Rattle.pay_group.specs.Text.{IsBookText}
use Rattle.pay_group.specs.declared.texts.BookForm.{BookForm}
use Rattle.pay_group.specs.declared.texts.BookForm.TheVariants.{AsExport, Lines, NextGenesis}
use Rattle.pay_audit.specs.Verdict.{verdict_of, verdict_words}
use Rattle.pay_audit.specs.declared.auditing.Verdict.{Verdict}
use Rattle.pay_audit.specs.Findings.{findings_words}
use Rattle.pay_audit.specs.declared.findings.Named.{Named}
use Rattle.payd.specs.Files.{IsExportOf, IsExportStop, IsExportsStop, IsVerdictOn}
use Rattle.payd.specs.declared.stop.Stop.{Stop}
use Rattle.payd.specs.declared.stop.Stop.TheVariants.{Engine, Account, Forms}

-- the statement of the account that a word names, if it names one, or without a word those of all
abbrev pub statement_said : ExportFields → Option (List ℕ) → Option (List ℕ)
statement_said e None = Some (statements_in e)
statement_said e (Some word) = option_map (statement_in e) (account_named e word)

-- why there is no statement: the word names no account, or memory ran out
abbrev pub IsStatementStop : ExportFields → Option (List ℕ) → Stop → Type 0
IsStatementStop e account (Account word) =
    (account ≡ Some word.now) × (statement_said e account ≡ None)
IsStatementStop e account (Engine fault) = fault ≡ engine.Memory
IsStatementStop e account _ = ⊥

-- The file of this name is read as an export, and this is its statement.
pub record IsStatementIn (holds : List ℕ → List ℕ → Type 0) (name : List ℕ)
    (account : Option (List ℕ)) (text : List ℕ) : Type 0 where
  pub e : ExportFields
  pub read : IsExportOf holds name e
  pub said : Some text ≡ statement_said e account

-- why there is no statement in a file: the file isn't an export, or there is no statement of that
-- account
abbrev pub IsNoStatementIn :
    (List ℕ → List ℕ → Type 0) → List ℕ → Option (List ℕ) → Stop → Type 0
IsNoStatementIn holds name account stop =
    IsExportStop holds name stop
    ⊎ ((e : ExportFields) × IsExportOf holds name e × IsStatementStop e account stop)

-- the form of a group ledger, according to its two flags; both together give none
abbrev pub form_by : Bool → Bool → Option BookForm
form_by false false = Some Lines
form_by true false = Some NextGenesis
form_by false true = Some AsExport
form_by true true = None

-- Each file is read as an export, and this text is said about them: it is a group ledger's, or a
-- fault's.
pub record IsBookSaid (holds : List ℕ → List ℕ → Type 0) (names : List (List ℕ)) (form : BookForm)
    (is_book : Bool) (text : List ℕ) : Type 0 where
  pub exports : List ExportFields
  pub read : AllZip (IsExportOf holds) names exports
  pub said : IsBookText exports form is_book text

-- Some text is said about these files' exports in this form, and it is a group ledger's or a
-- fault's.
pub record IsBookIn (holds : List ℕ → List ℕ → Type 0) (names : List (List ℕ))
    (form : Option BookForm) (is_book : Bool) : Type 0 where
  pub which : BookForm
  pub in_form : form ≡ Some which
  pub text : List ℕ
  pub said : IsBookSaid holds names which is_book text

-- a verdict as a line
abbrev pub verdict_line : Verdict → List ℕ
verdict_line verdict = verdict_words verdict ++ 10 ∷ []

-- Each file is read as an export, and this line says the verdict on these.
pub record IsVerdictSaid (holds : List ℕ → List ℕ → Type 0) (names : List (List ℕ))
    (verdict : Verdict) (text : List ℕ) : Type 0 where
  pub on : IsVerdictOn holds names verdict
  pub said : text ≡ verdict_line verdict

-- This is the verdict on these exports, and then all that is wrong with them, each by the name at
-- its place.
pub record AreSaid (names : List (List ℕ)) (exports : List ExportFields) (text : List ℕ)
    : Type 0 where
  pub named : List Named
  pub by_name : map (λ n. n.name.now) named ≡ names
  pub of : map (λ n. n.export.now) named ≡ exports
  pub said : text ≡ verdict_line (verdict_of exports) ++ findings_words named

-- Each file is read as an export; this is the verdict on these, and the text says it and all that
-- is wrong with them.
pub record AreFindings (holds : List ℕ → List ℕ → Type 0) (names : List (List ℕ))
    (verdict : Verdict) (text : List ℕ) : Type 0 where
  pub exports : List ExportFields
  pub read : AllZip (IsExportOf holds) names exports
  pub judged : verdict ≡ verdict_of exports
  pub are : AreSaid names exports text

-- why nothing is said: a file isn't an export, or memory ran out
abbrev pub IsTextStop : (List ℕ → List ℕ → Type 0) → List (List ℕ) → Stop → Type 0
IsTextStop holds names stop = IsExportsStop holds names stop ⊎ (stop ≡ Engine engine.Memory)

-- why no group ledger is written, or not all of it; this includes a request for two forms, and a
-- text that can't be written
abbrev pub IsBookStop :
    (List ℕ → List ℕ → Type 0) → List (List ℕ) → Option BookForm → Stop → Type 0
IsBookStop holds names form stop =
    IsTextStop holds names stop
    ⊎ ((stop ≡ Forms) × (form ≡ None)) ⊎ (stop ≡ Engine engine.Write)

-- why an audit says nothing, or not all; this includes a text that can't be written
abbrev pub IsAuditStop : (List ℕ → List ℕ → Type 0) → List (List ℕ) → Stop → Type 0
IsAuditStop holds names stop = IsTextStop holds names stop ⊎ (stop ≡ Engine engine.Write)
