-- Lists of an account that are all prefixes of one list. It is proved as a public law that exports
-- have no fork exactly if each account has such a list.
use Rattle.std.specs.Prelude.{◌≡◌, ◌↔◌, ℕ, List, None}
use Rattle.pay_channel.specs.Prefix.{IsPrefix}
use Rattle.pay_audit.specs.Export.{ExportFields, lists_of}
use Rattle.pay_audit.specs.Said.{Each}
use Rattle.pay_audit.specs.Verdict.{fork_from}

-- one list begins with each export's list of this account
pub record HaveOneList (exports : List ExportFields) (account : ℕ) : Type 0 where
  pub list : List (List ℕ)
  pub begins : Each (λ e. IsPrefix (lists_of e account) list) exports

abbrev pub HaveOneListEach : List ExportFields → Type 0
HaveOneListEach exports = (account : ℕ) → HaveOneList exports account

-- no two exports fork exactly if each account has one list that begins with all of theirs
abbrev pub OneListIsNoFork : Type 0
OneListIsNoFork =
    (exports : List ExportFields) → (fork_from 0 exports ≡ None) ↔ HaveOneListEach exports
