-- The group that a script's first line says is within its limits.
use Rattle.std.proofs.Common.{◌≡◌, ◌↔◌, ℕ, List, Option, Some, None, option_and_then, Result, Ok, Err, refl, sym, ap, ◌∙◌, subst}
use Rattle.std.specs.Option.{option_map_or}
use Rattle.std.specs.Result.{result_ok}
use Rattle.pay_link.specs.Json.{Data, value_in}
use Rattle.pay_link.specs.declared.genesis.GenesisFault.{GenesisFault}
use Rattle.pay_link.specs.declared.genesis.GenesisFault.TheVariants as genesis
use Rattle.pay_link.specs.Files.{◌>>=◌, genesis_in, genesis_said}
use Rattle.pay_link.specs.Genesis.{GenesisFields, IsGenesis, genesis_fault}
use Rattle.pay_world.specs.declared.liars.LiarFault.{LiarFault}
use Rattle.pay_world.specs.Liars.{AreLiars, LiarFields, liar_fault, liars_in}
use Rattle.pay_sim.specs.declared.group.ScriptGroup.{ScriptGroup}
use Rattle.pay_sim.specs.Group.{fitting, script_group_in, liars_said, with_liars}
use Rattle.pay_sim.specs.RunLaws.{IsGroup}
use Rattle.std.specs.Prelude.{ok_or}

-- a file's genesis has no fault
faultless : (bytes : List ℕ) (g : GenesisFields) → genesis_in bytes ≡ Ok g → genesis_fault g ≡ None
faultless bytes g is = value (value_in bytes) is where
  fault : (said : GenesisFields) (o : Option GenesisFault) → genesis_fault said ≡ o → ◌≡◌ {A = Result GenesisFields GenesisFault} (option_map_or Err o (Ok said)) (Ok g) → genesis_fault g ≡ None
  fault said None at is = let same : said ≡ g = cc in ap genesis_fault (sym same) ∙ at
  fault said (Some f) at is = absurd cc

  said : (o : Option GenesisFields) → ◌≡◌ {A = Result GenesisFields GenesisFault} (ok_or o genesis.BadShape >>= λ said. option_map_or Err (genesis_fault said) (Ok said)) (Ok g) → genesis_fault g ≡ None
  said None is = absurd cc
  said (Some s) is = fault s (genesis_fault s) refl is

  value : (o : Option Data) → ◌≡◌ {A = Result GenesisFields GenesisFault} (ok_or o genesis.BadJson >>= λ d. (ok_or (genesis_said d) genesis.BadShape >>= λ said. option_map_or Err (genesis_fault said) (Ok said))) (Ok g) → genesis_fault g ≡ None
  value None is = absurd cc
  value (Some d) is = said (genesis_said d) is

some_and_then : {X Y : Type 0} (f : X → Option Y) (o : Option X) (y : Y) → option_and_then f o ≡ Some y → (x : X) × (o ≡ Some x) × (f x ≡ Some y)
some_and_then f None y is = absurd cc
some_and_then f (Some x) y is = (x, refl, is)

some_ok : {X E : Type 0} (r : Result X E) (x : X) → result_ok r ≡ Some x → r ≡ Ok x
some_ok (Ok y) x is = cc
some_ok (Err e) x is = absurd cc

pub said_group : ((g : GenesisFields) → (genesis_fault g ≡ None) ↔ IsGenesis g) → ((l : LiarFields) → (liar_fault l ≡ None) ↔ AreLiars l)
    → (line : List ℕ) (c : ScriptGroup) → script_group_in line ≡ Some c → IsGroup c
unfolding script_group_in with_liars
said_group limits lying line c is =
    let first = some_and_then (λ g. option_and_then (with_liars g) (fitting (liars_said line))) (result_ok (genesis_in line)) c is in
    let g = first.0 in
    let second = some_and_then (with_liars g) (fitting (liars_said line)) c first.2 in
    let liars = liars_in g second.0 in
    let sound = (limits g).0 (faultless line g (some_ok (genesis_in line) g first.1)) in
    go g second.0 (liar_fault liars) refl second.2 sound where
      go : (g : GenesisFields) (l : List ℕ) (o : Option LiarFault) → liar_fault (liars_in g l) ≡ o → option_map_or (λ fault. None) o (Some (record { genesis = g; liars = liars_in g l })) ≡ Some c
          → IsGenesis g → IsGroup c
      go g l (Some f) at same sound = absurd cc
      go g l None at same sound =
          let is : ◌≡◌ {A = ScriptGroup} (record { genesis = g; liars = liars_in g l }) c = cc in
          subst IsGroup is (record { genesis = sound; liars = (lying (liars_in g l)).0 at; of = record { members = refl; faults = refl } })
