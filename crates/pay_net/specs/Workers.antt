-- What the workers of a node leave of the seats that they were lent.
use Rattle.std.specs.Prelude.{◌≡◌, ℕ, ◌<◌, ◌++◌, ◌∷◌, List, [], Vec, length, slice_index_or, ⊤}
use Rattle.std.specs.Global.{Global}
use Rattle.pay_peers.specs.declared.feeding.PeerReader.{PeerReader}
use Rattle.pay_peers.specs.Growing.{EachGrows}
use Rattle.pay_net.specs.declared.workers.Worker.{Worker}
use Rattle.pay_net.specs.declared.workers.Worker.TheVariants.{Notice, Welcome, Accept, Show, Read}

-- the seats of the readers grew, and the other workers have no seats
abbrev pub HasWorked : Worker → Worker → Type 0
HasWorked (Read old) (Read new) = EachGrows old.items new.items
HasWorked (Read old) _ = ⊥
HasWorked _ _ = ⊤

-- each worker has worked, at its place
pub record AllWorked (old new : List Worker) : Type 0 where
  pub many : length new ≡ length old
  pub each :
      (k : ℕ) (d : Worker) → k < length old
      → HasWorked (slice_index_or old k d) (slice_index_or new k d)

-- the last worker has the readers
pub record EndsInReader (workers : List Worker) : Type 0 where
  pub others : List Worker
  pub readers : Vec (ℕ × PeerReader) Global
  pub is : workers ≡ others ++ Read readers ∷ []
