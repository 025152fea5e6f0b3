-- What correct members' histories that stand say of deliveries: no two values, and only what was asked for.
use Rattle.std.proofs.Common.{◌≡◌, ◌⊎◌, ℕ, ◌≤◌, ◌&&◌, List, slice_get, Some, sym, ap, ◌∙◌, arith}
use Rattle.std.proofs.lemmas.Bool.{and_parts}
use Rattle.pay_echo.specs.Broadcast.{size, echo_set, ready_set}
use Rattle.pay_channel.specs.Prefix.{IsPrefix}
use Rattle.pay_channel.specs.History.{Event, delivered_at, list_of}
use Rattle.pay_channel.specs.Asked.{asked_values}
use Rattle.pay_world.specs.Setting.{Setting, group_at, IsCorrect, HasFewFaulty}
use Rattle.pay_world.specs.Stands.{votes_at, HasQuorum, Stands, Grow}
use Rattle.pay_world.specs.Below.{Below}
use Rattle.pay_world.proofs.Lists.{some_same}
use Rattle.pay_world.proofs.Heard.{heard_echo, heard_ready, heard_send}

module _ (below : Below) (w : Setting) (histories : ℕ → List Event) (stands : Stands w histories) (few : HasFewFaulty w) where
  -- two quorums share a correct member, and it echoed one value
  pub one_value : (a s : ℕ) (v u : List ℕ) → HasQuorum w histories a s v → HasQuorum w histories a s u → v ≡ u
  one_value a s v u one other =
      let k = one.holder in
      let l = other.holder in
      let ones = echo_set (group_at w k) (votes_at histories k a s) v in
      let others = echo_set (group_at w l) (votes_at histories l a s) u in
      let most : size w.members w.faulty ≤ w.faults = few.few in
      let shared = below.sets.quorums_share w.members w.faults ones others one.quorum other.quorum in
      let found = below.sets.larger_has_another w.members (λ p. ones p && others p) w.faulty (omega arith) in
      let p = found.0 in
      let cp : IsCorrect w p = record { member = found.1; honest = found.3 } in
      let both = and_parts (ones p) (others p) found.2 in
      let first = (below.one.in_echo_set (group_at w k) (votes_at histories k a s) v p).0 both.0 in
      let second = (below.one.in_echo_set (group_at w l) (votes_at histories l a s) u p).0 both.1 in
      some_same v u
      (sym (heard_echo below w histories k p a s v (stands.authentic k p one.correct cp) first)
      ∙ heard_echo below w histories l p a s u (stands.authentic l p other.correct cp) second)

  -- of those that are READY, some correct member is
  pub delivered_has_quorum :
      (i a s : ℕ) (v : List ℕ) → IsCorrect w i → delivered_at (group_at w i) (histories i) a s ≡ Some v → HasQuorum w histories a s v
  delivered_has_quorum i a s v ci is =
      let many = below.one.why_delivered (group_at w i) (votes_at histories i a s) v (sym (below.channel.delivered_is (group_at w i) (histories i) a s) ∙ is) in
      let most : size w.members w.faulty ≤ w.faults = few.few in
      let found = below.sets.larger_has_another w.members (ready_set (group_at w i) (votes_at histories i a s) v) w.faulty (omega arith) in
      let p = found.0 in
      let cp : IsCorrect w p = record { member = found.1; honest = found.3 } in
      let heard = (below.one.in_ready_set (group_at w i) (votes_at histories i a s) v p).0 found.2 in
      stands.ruled p a s v cp (heard_ready below w histories i p a s v (stands.authentic i p ci cp) heard)

  -- a quorum has a correct member, which echoed what the owner was asked for
  pub quorum_was_asked :
      (a s : ℕ) (v : List ℕ) → IsCorrect w a → HasQuorum w histories a s v → slice_get (asked_values (histories a)) s ≡ Some v
  quorum_was_asked a s v ca has =
      let k = has.holder in
      let set = echo_set (group_at w k) (votes_at histories k a s) v in
      let most : size w.members w.faulty ≤ w.faults = few.few in
      let more = below.sets.quorum_is_more w.members w.faults set has.quorum in
      let found = below.sets.larger_has_another w.members set w.faulty (omega arith) in
      let p = found.0 in
      let cp : IsCorrect w p = record { member = found.1; honest = found.3 } in
      let heard = (below.one.in_echo_set (group_at w k) (votes_at histories k a s) v p).0 found.2 in
      heard_send below w histories p a s v (stands.authentic p a cp ca) (stands.proper a ca)
      (heard_echo below w histories k p a s v (stands.authentic k p has.correct cp) heard)

  pub integrity :
      (i a s : ℕ) (v : List ℕ) → IsCorrect w i → IsCorrect w a
      → delivered_at (group_at w i) (histories i) a s ≡ Some v → slice_get (asked_values (histories a)) s ≡ Some v
  integrity i a s v ci ca is = quorum_was_asked a s v ca (delivered_has_quorum i a s v ci is)

  pub list_is_asked :
      (i a : ℕ) → IsCorrect w i → IsCorrect w a → IsPrefix (list_of (group_at w i) (histories i) a) (asked_values (histories a))
  list_is_asked i a ci ca =
      below.channel.list_begins_values (group_at w i) (histories i) a (asked_values (histories a)) (λ s v is. integrity i a s v ci ca is)

  -- ---- at two moments before

  lifted :
      (before : ℕ → List Event) (i a s : ℕ) (v : List ℕ) → Grow before histories
      → delivered_at (group_at w i) (before i) a s ≡ Some v → delivered_at (group_at w i) (histories i) a s ≡ Some v
  lifted before i a s v grow is =
      let longer = grow.each i in
      ap (λ l. delivered_at (group_at w i) l a s) longer.is
      ∙ below.channel.delivery_stays (group_at w i) (before i) longer.rest a s v is

  pub agreement :
      (one other : ℕ → List Event) (i j a s : ℕ) (v u : List ℕ) → Grow one histories → Grow other histories → IsCorrect w i → IsCorrect w j
      → delivered_at (group_at w i) (one i) a s ≡ Some v → delivered_at (group_at w j) (other j) a s ≡ Some u → v ≡ u
  agreement one other i j a s v u first second ci cj p q =
      one_value a s v u
      (delivered_has_quorum i a s v ci (lifted one i a s v first p))
      (delivered_has_quorum j a s u cj (lifted other j a s u second q))

  pub lists_compare :
      (one other : ℕ → List Event) (i j a : ℕ) → Grow one histories → Grow other histories → IsCorrect w i → IsCorrect w j
      → IsPrefix (list_of (group_at w i) (one i) a) (list_of (group_at w j) (other j) a)
      ⊎ IsPrefix (list_of (group_at w j) (other j) a) (list_of (group_at w i) (one i) a)
  lists_compare one other i j a first second ci cj =
      below.channel.lists_compare (group_at w i) (group_at w j) (one i) (other j) a
      (λ s v u p q. agreement one other i j a s v u first second ci cj p q)

-- a member's list at an earlier moment
pub list_grows : (below : Below) (w : Setting) (old new : ℕ → List Event) (i a : ℕ) → Grow old new → IsPrefix (list_of (group_at w i) (old i) a) (list_of (group_at w i) (new i) a)
list_grows below w old new i a grow =
    let longer = grow.each i in
    let later = below.channel.lists_grow (group_at w i) (old i) longer.rest a in
    record { rest = later.rest; is = ap (λ l. list_of (group_at w i) l a) longer.is ∙ later.is }
