use Rattle.std.proofs.Common.{◌≡◌, ℕ, ◌<◌, ◌≤◌, List, slice_get, Some, Bor}
use Rattle.std.specs.List.{count_by}
use Rattle.pay_group.specs.Backing.{has_at}
use Rattle.pay_group.proofs.listing.supported_value.Given as goal

-- what stands at the place in the lists so far has few of them all
abbrev pub invariant-loop-source : goal.invariant-loop-source
invariant-loop-source g l =
    let list = λ (s : Bor g.row.S.Denot). g.S.Source.lists s.now l.owner in
    (i : ℕ) (s : Bor g.row.S.Denot) (v : List ℕ) → i < l.source-index → slice_get l.sources i ≡ Some s → slice_get (list s) l.place ≡ Some v
    → count_by (λ s. has_at l.place v (list s)) l.sources ≤ l.faults
