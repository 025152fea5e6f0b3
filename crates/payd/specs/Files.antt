-- What is read from the files that words name. `holds name bytes` says that a name's file may hold
-- these bytes.
use Rattle.std.specs.Prelude.{◌≡◌, ℕ, ◌⊎◌, ◌+◌, ◌*◌, ◌==◌, ◌||◌, nat_lt, min, Bool, List, []}
use Rattle.std.specs.Prelude.{◌∷◌, ◌++◌, Option, Some, None, Result, length, sum_by}
use Rattle.std.specs.Prelude.{Ok, Err, if◌then◌else◌}
use Rattle.std.specs.Borrow.{Bor}
use Rattle.std.specs.List.{AllZip}
use Rattle.pay_audit.specs.Export.{ExportFields, export_in}
use Rattle.pay_audit.specs.Verdict.{verdict_of}
use Rattle.pay_audit.specs.declared.exported.ExportFault.TheVariants as export
use Rattle.pay_audit.specs.declared.auditing.Verdict.{Verdict}
use Rattle.pay_frame.specs.declared.engine.EngineFault.TheVariants as engine
use Rattle.pay_link.specs.Files.{genesis_in, keys_in_file}
use Rattle.pay_link.specs.Genesis.{GenesisFields}
use Rattle.pay_link.specs.Keys.{KeyFields}
use Rattle.pay_link.specs.TestKeys.{test_keys_of}
use Rattle.pay_link.specs.declared.genesis.GenesisFault.{GenesisFault}
use Rattle.pay_link.specs.declared.genesis.GenesisFault.TheVariants as genesis
use Rattle.pay_link.specs.declared.keys.KeysFault.{KeysFault}
use Rattle.pay_link.specs.declared.keys.KeysFault.TheVariants as keys
use Rattle.pay_net.specs.Ports.{HasPorts, IsPortsFault}
use Rattle.pay_net.specs.declared.ports.PortsFault.{PortsFault}
use Rattle.payd.specs.Groups.{IsOther, digits_named, digits_of}
use Rattle.payd.specs.declared.stop.Stop.{Stop}
use Rattle.payd.specs.declared.stop.Stop.TheVariants.{Engine, Genesis, Keys, Ports, Export, File}
use Rattle.payd.specs.declared.stop.Stop.TheVariants.{OtherGroup, Parts}

-- the greatest size of a file that is read
abbrev pub most_bytes : ℕ
most_bytes = 1073741824

-- How much memory a byte of JSON may stand for. A comma stands for an item of a list, `[` for the
-- room of its items, and a colon for an object's first member. `"` stands for an end of a text, and
-- `]`, `{` and `}` for almost nothing.
abbrev pub memory_of_byte : ℕ → ℕ
memory_of_byte b =
    if b == 44 then 33 else if b == 91 then 176 else if b == 58 then 900 else if b == 34 then 7
    else if b == 93 || b == 123 || b == 125 then 1 else 14

-- a file's contents may take 16 times its size, and four megabytes more
abbrev pub takes_too_much : List ℕ → Bool
takes_too_much bytes =
    nat_lt (16 * length bytes + 4194304) (min (sum_by memory_of_byte bytes) 18446744073709551615)

-- bytes that the file may hold have this judgement
abbrev pub IsFileJudged :
    {X : Type 0} → (List ℕ → List ℕ → Type 0) → List ℕ → (List ℕ → X) → X → Type 0
IsFileJudged holds name judge verdict =
    (bytes : List ℕ) × holds name bytes × (judge bytes ≡ verdict)

-- why the bytes of a file aren't available: it can't be read, has too many parts, or memory ran out
abbrev pub IsUnread : List ℕ → Stop → Type 0
IsUnread name (File named kind) = named.now ≡ name
IsUnread name (Parts named) = named.now ≡ name
IsUnread name (Engine fault) = fault ≡ engine.Memory
IsUnread name _ = ⊥

-- a fault names the file of this name
abbrev pub IsSaidOf : {E : Type 0} → List ℕ → (E → Bor (List ℕ) → Stop) → E → Stop → Type 0
IsSaidOf name said fault stop =
    (named : Bor (List ℕ)) × (named.now ≡ name) × (stop ≡ said fault named)

-- why a file isn't what it should be: its bytes aren't available, memory ran out, or they have this
-- fault
abbrev pub IsStop :
    {X E : Type 0} → (List ℕ → List ℕ → Type 0) → List ℕ → (List ℕ → Result X E)
    → (E → Bor (List ℕ) → Stop) → E → Stop → Type 0
IsStop {X} {E} holds name judge said memory stop =
    IsUnread name stop ⊎ IsSaidOf name said memory stop
    ⊎ ((fault : E) × IsSaidOf name said fault stop × IsFileJudged holds name judge (Err fault))

-- ---- a genesis

-- four members, and one of them may be faulty
abbrev pub own_genesis : GenesisFields
own_genesis = record { members = 4; faults = 1; opening = 100 ∷ 0 ∷ 0 ∷ 50 ∷ [] }

abbrev pub IsGenesisOf : (List ℕ → List ℕ → Type 0) → Option (List ℕ) → GenesisFields → Type 0
IsGenesisOf holds None g = g ≡ own_genesis
IsGenesisOf holds (Some name) g = IsFileJudged holds name genesis_in (Ok g)

abbrev pub IsGenesisStop : (List ℕ → List ℕ → Type 0) → Option (List ℕ) → Stop → Type 0
IsGenesisStop holds None stop = stop ≡ Engine engine.Memory
IsGenesisStop holds (Some name) stop = IsStop holds name genesis_in Genesis genesis.Memory stop

-- ---- keys, for a genesis of `members` members

-- member 1, or 0 if it is alone
abbrev pub own_member : ℕ → ℕ
own_member members = if nat_lt 1 members then 1 else 0

abbrev pub AreKeysIn : (List ℕ → List ℕ → Type 0) → ℕ → Option (List ℕ) → KeyFields → Type 0
AreKeysIn holds members None k = k ≡ test_keys_of members (own_member members)
AreKeysIn holds members (Some name) k = IsFileJudged holds name (keys_in_file members) (Ok k)

abbrev pub IsKeysStop : (List ℕ → List ℕ → Type 0) → ℕ → Option (List ℕ) → Stop → Type 0
IsKeysStop holds members None stop = stop ≡ Engine engine.Memory
IsKeysStop holds members (Some name) stop =
    IsStop holds name (keys_in_file members) Keys keys.Memory stop

-- ---- a member, by its genesis and keys

-- why bytes of a file of this name are no genesis: they have this fault, or memory ran out
abbrev pub IsGenesisFault : List ℕ → List ℕ → Stop → Type 0
IsGenesisFault name bytes stop =
    IsSaidOf name Genesis genesis.Memory stop
    ⊎ ((fault : GenesisFault) × IsSaidOf name Genesis fault stop × (genesis_in bytes ≡ Err fault))

-- why bytes of a file of this name are no keys, for a genesis of `members` members: they have this
-- fault, or memory ran out
abbrev pub IsKeysFault : List ℕ → ℕ → List ℕ → Stop → Type 0
IsKeysFault name members bytes stop =
    IsSaidOf name Keys keys.Memory stop
    ⊎ ((fault : KeysFault) × IsSaidOf name Keys fault stop
    × (keys_in_file members bytes ≡ Err fault))

-- Bytes that the files of these names may hold are this genesis, and these keys, which name no
-- other group.
pub record AreOfMember (holds : List ℕ → List ℕ → Type 0) (genesis keys : List ℕ)
    (g : GenesisFields) (k : KeyFields) : Type 0 where
  pub file : List ℕ
  pub said : List ℕ
  pub file_held : holds genesis file
  pub said_held : holds keys said
  pub is : genesis_in file ≡ Ok g
  pub are : keys_in_file g.members said ≡ Ok k
  pub one : ¬ (IsOther (digits_named said) (digits_of g file))

-- The keys are of another group.
pub record IsOtherGroup (holds : List ℕ → List ℕ → Type 0) (genesis keys : List ℕ) (stop : Stop)
    : Type 0 where
  pub named : Bor (List ℕ)
  pub name : named.now ≡ keys
  pub stopped : stop ≡ OtherGroup named
  pub g : GenesisFields
  pub file : List ℕ
  pub said : List ℕ
  pub file_held : holds genesis file
  pub said_held : holds keys said
  pub is : genesis_in file ≡ Ok g
  pub other : IsOther (digits_named said) (digits_of g file)

-- why there is no member: for its genesis, its keys, or both
abbrev pub IsMemberStop : (List ℕ → List ℕ → Type 0) → List ℕ → List ℕ → Stop → Type 0
IsMemberStop holds genesis keys stop =
    IsUnread genesis stop ⊎ IsUnread keys stop
    ⊎ ((bytes : List ℕ) × holds genesis bytes × IsGenesisFault genesis bytes stop)
    ⊎ ((members : ℕ) × (bytes : List ℕ) × holds keys bytes × IsKeysFault keys members bytes stop)
    ⊎ IsOtherGroup holds genesis keys stop

-- ---- ports, for a genesis of `members` members

abbrev pub ArePortsIn : (List ℕ → List ℕ → Type 0) → ℕ → List ℕ → List ℕ → Type 0
ArePortsIn holds members name ports =
    (bytes : List ℕ) × holds name bytes × HasPorts members bytes ports

abbrev pub IsPortsStop : (List ℕ → List ℕ → Type 0) → ℕ → List ℕ → Stop → Type 0
IsPortsStop holds members name stop =
    IsUnread name stop
    ⊎ ((fault : PortsFault) × IsSaidOf name Ports fault stop × (bytes : List ℕ) × holds name bytes
    × IsPortsFault members bytes fault)

-- ---- exports

abbrev pub IsExportOf : (List ℕ → List ℕ → Type 0) → List ℕ → ExportFields → Type 0
IsExportOf holds name e = IsFileJudged holds name export_in (Ok e)

abbrev pub IsExportStop : (List ℕ → List ℕ → Type 0) → List ℕ → Stop → Type 0
IsExportStop holds name stop = IsStop holds name export_in Export export.Memory stop

-- Exports of the first names are read, and the file after them isn't an export.
pub record IsExportsStop (holds : List ℕ → List ℕ → Type 0) (names : List (List ℕ)) (stop : Stop)
    : Type 0 where
  pub first : List (List ℕ)
  pub name : List ℕ
  pub others : List (List ℕ)
  pub parts : names ≡ first ++ name ∷ others
  pub exports : List ExportFields
  pub read : AllZip (IsExportOf holds) first exports
  pub stopped : IsExportStop holds name stop

-- Each file is read as an export, and this is the verdict on these.
pub record IsVerdictOn (holds : List ℕ → List ℕ → Type 0) (names : List (List ℕ))
    (verdict : Verdict) : Type 0 where
  pub exports : List ExportFields
  pub read : AllZip (IsExportOf holds) names exports
  pub is : verdict ≡ verdict_of exports
