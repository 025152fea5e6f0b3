-- What one vote does to what is known, worked out from that alone. This is a tool of this crate:
-- its representations are proved against it, and a law ties it to `Meaning`.
use Rattle.std.specs.Prelude.{◌≡◌, ◌<◌, length, ℕ, ◌+◌, ◌*◌, Bool, false, true, ◌&&◌, ◌||◌, nat_lt}
use Rattle.std.specs.Prelude.{if◌then◌else◌, List, slice_set, slice_index_or, Option, Some, None}
use Rattle.std.specs.Prelude.{is_none}
use Rattle.std.specs.List.{count_by}
use Rattle.pay_echo.specs.Broadcast.{Vote, Send, Echo, Ready, value_of, is_for}
use Rattle.pay_echo.specs.Meaning.{Meaning}
use Rattle.pay_echo.specs.declared.instance.Moves.{Moves}

-- the vote of process p, or nothing if there is no such process
abbrev pub vote_at : List (Option (List ℕ)) → ℕ → Option (List ℕ)
vote_at votes p = slice_index_or votes p None

-- what stands in this vote's place
abbrev pub vote_before : Meaning → Vote → Option (List ℕ)
vote_before m (Send v) = m.echoed
vote_before m (Echo p v) = vote_at m.echoes p
vote_before m (Ready p v) = vote_at m.readys p

abbrev pub is_send : Vote → Bool
is_send (Send v) = true
is_send (Echo p v) = false
is_send (Ready p v) = false

abbrev pub is_ready : Vote → Bool
is_ready (Send v) = false
is_ready (Echo p v) = false
is_ready (Ready p v) = true

-- the counts of ECHOs and READYs for this vote's value, including this vote; the process echoes a
-- SEND
abbrev pub echo_count : Meaning → Vote → ℕ
echo_count m x =
    let before = count_by (is_for (value_of x)) m.echoes in
    if is_ready x then before else before + 1

abbrev pub ready_count : Meaning → Vote → ℕ
ready_count m x =
    let before = count_by (is_for (value_of x)) m.readys in
    if is_ready x then before + 1 else before

-- whether the process may send READY, or deliver, for a value with these counts
abbrev pub can_ready : Meaning → ℕ → ℕ → Bool
can_ready m echoes readys =
    is_none m.readied
    && (nat_lt (m.group.members + m.group.faults) (2 * echoes) || nat_lt m.group.faults readys)

abbrev pub can_deliver : Meaning → ℕ → Bool
can_deliver m readys = is_none m.delivered && nat_lt (2 * m.group.faults) readys

-- what a vote makes known if none stands in its place; the process's own READY counts for the
-- delivery
unfoldable pub moves_by : Meaning → Vote → Moves
moves_by m x =
    let ready = can_ready m (echo_count m x) (ready_count m x) in
    record {
      echo = is_send x;
      ready = ready;
      deliver = can_deliver m (ready_count m x + (if ready then 1 else 0));
    }

-- the places of ECHOs and of READYs, with something written in a vote's place
abbrev pub put_echo : {X : Type 0} → ℕ → Vote → X → List (Option X) → List (Option X)
put_echo own (Send v) x echoes = slice_set echoes own (Some x)
put_echo own (Echo p v) x echoes = slice_set echoes p (Some x)
put_echo own (Ready p v) x echoes = echoes

abbrev pub put_ready : {X : Type 0} → Vote → X → List (Option X) → List (Option X)
put_ready (Send v) x readys = readys
put_ready (Echo p v) x readys = readys
put_ready (Ready p v) x readys = slice_set readys p (Some x)

-- written at process p's place if it is due
abbrev pub put_if : {X : Type 0} → Bool → ℕ → X → List (Option X) → List (Option X)
put_if due p x votes = if due then slice_set votes p (Some x) else votes

-- with this vote, if none stands in its place, and with the READY and the delivery that come with
-- it
abbrev pub with_moves : Meaning → Vote → Moves → Meaning
with_moves m x moves =
    record m {
      echoed = if is_send x then Some (value_of x) else m.echoed;
      echoes = put_echo m.group.own x (value_of x) m.echoes;
      readied = if moves.ready then Some (value_of x) else m.readied;
      readys = put_if moves.ready m.group.own (value_of x) (put_ready x (value_of x) m.readys);
      delivered = if moves.deliver then Some (value_of x) else m.delivered;
    }

-- with this vote, if none stands in its place, and what it makes known
unfoldable pub with_vote : Meaning → Vote → Meaning
with_vote m x = with_moves m x (moves_by m x)

-- Each member has its places, and what the process echoed and readied stands at its own place.
pub record IsPlaced (m : Meaning) : Type 0 where
  pub own : m.group.own < m.group.members
  pub echoes : length m.echoes ≡ m.group.members
  pub readys : length m.readys ≡ m.group.members
  pub echoed : m.echoed ≡ vote_at m.echoes m.group.own
  pub readied : m.readied ≡ vote_at m.readys m.group.own

-- A vote counts if none stands in its place, and otherwise does nothing.
abbrev pub after : Meaning → Vote → Meaning
after m x = if is_none (vote_before m x) then with_vote m x else m
