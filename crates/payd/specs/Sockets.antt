-- The name of the socket of a node's desk.
use Rattle.std.specs.Prelude.{List, ℕ, ◌++◌, codes, Option, Some, None}

-- the given name, or otherwise the one in the folder
abbrev pub socket_name : Option (List ℕ) → Option (List ℕ) → Option (List ℕ)
socket_name folder (Some given) = Some given
socket_name (Some folder) None = Some (folder ++ codes "/desk")
socket_name None None = None
