-- The port that each member listens on, as a file of JSON (RFC 8259) contains it.
use Rattle.std.specs.Prelude.{◌≡◌, ℕ, ◌^◌, ◌<◌, List, length, codes, Some, None, ⊤}
use Rattle.std.specs.List.{All}
use Rattle.pay_link.specs.Json.{Data, numbers_at, value_in}
use Rattle.pay_net.specs.declared.ports.PortsFault.{PortsFault}
use Rattle.pay_net.specs.declared.ports.PortsFault.TheVariants.{Memory, BadJson, BadShape}

-- a port of TCP (RFC 9293) that can be named: 16 bits, and not 0 (RFC 6335)
abbrev pub IsPort : ℕ → Type 0
IsPort port = (0 < port) × (port < 2 ^ 16)

-- an object has a list of ports, one for each of `members` members
-- page: `SaysPorts`: ports are those of RFC 6335 and RFC 9293
pub record SaysPorts (members : ℕ) (d : Data) (ports : List ℕ) : Type 0 where
  pub listed : numbers_at (codes "ports") d ≡ Some ports
  pub count : length ports ≡ members
  pub each : All IsPort ports

-- bytes are a text of JSON with these ports
pub record HasPorts (members : ℕ) (bytes ports : List ℕ) : Type 0 where
  pub value : Data
  pub read : value_in bytes ≡ Some value
  pub says : SaysPorts members value ports

-- bytes are a text of JSON, but with no such list
pub record LacksPorts (members : ℕ) (bytes : List ℕ) : Type 0 where
  pub value : Data
  pub read : value_in bytes ≡ Some value
  pub none : (ports : List ℕ) → ¬ (SaysPorts members value ports)

-- what is wrong with bytes that contain no ports; if memory runs out that isn't known
abbrev pub IsPortsFault : ℕ → List ℕ → PortsFault → Type 0
IsPortsFault members bytes Memory = ⊤
IsPortsFault members bytes BadJson = value_in bytes ≡ None
IsPortsFault members bytes BadShape = LacksPorts members bytes
