use Rattle.std.proofs.Common.{◌≡◌, ℕ, List, Some, length, map, slice_get}
use Rattle.pay_group.specs.Backing.{IsGroupList}
use Rattle.pay_group.proofs.listing.group_lists.Given as goal

-- the lists of the accounts so far
abbrev pub invariant-loop-owner : goal.invariant-loop-owner
invariant-loop-owner g l =
    record {
      count : length l.lists.items ≡ l.owner;
      each : (k : ℕ) (list : List (List ℕ)) → slice_get l.lists.items k ≡ Some list
          → IsGroupList l.faults (map (λ s. g.S.Source.lists s.now k) l.sources) list;
    }
