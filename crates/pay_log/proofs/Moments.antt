-- How a run of device calls goes on.
use Rattle.std.proofs.Common.{inl, inr, ⊎_elim, ℕ, List, refl, ◌∙◌, arith}
use Rattle.pay_log.specs.Device.{Elapses, IsUnchanged, LeavesOnly}

module _ {D : Type 0} (moment : D → ℕ) (left_since : D → ℕ → List ℕ → Type 0) where
  -- before the first call
  pub started : (old : D) (P : List ℕ → Type 0) → ((c : List ℕ) → left_since old (moment old) c → P c) → LeavesOnly moment left_since old old P
  started old P here = record { later = omega arith; each = here; before = λ t c le left. inl left }

  -- one call more, after which a crash leaves what has P
  pub goes_on : (old mid new : D) (P may_leave : List ℕ → Type 0) → LeavesOnly moment left_since old mid P → Elapses (moment mid) (moment new) (left_since mid) (left_since new) may_leave
      → ((c : List ℕ) → may_leave c → P c) → LeavesOnly moment left_since old new P
  goes_on old mid new P may_leave so_far time here = record {
    later = omega (arith, so_far.later, time.later);
    each = λ c left. ⊎_elim (so_far.each c) (here c) (time.nothing_else (moment old) c so_far.later left);
    before = λ t c le left. ⊎_elim (so_far.before t c le) (λ now. inr (here c now)) (time.nothing_else t c (omega (arith, le, so_far.later)) left);
  }

  -- what has P has Q
  pub leaves_so : (old new : D) (P Q : List ℕ → Type 0) → LeavesOnly moment left_since old new P → ((c : List ℕ) → P c → Q c) → LeavesOnly moment left_since old new Q
  leaves_so old new P Q leaves so = record {
    later = leaves.later;
    each = λ c left. so c (leaves.each c left);
    before = λ t c le left. ⊎_elim (λ past. inl past) (λ now. inr (so c now)) (leaves.before t c le left);
  }

  -- what is left before a call and during it
  pub leaves_then : (old mid new : D) (P Q : List ℕ → Type 0) → LeavesOnly moment left_since old mid P → LeavesOnly moment left_since mid new Q
      → ((c : List ℕ) → Q c → P c) → LeavesOnly moment left_since old new P
  leaves_then old mid new P Q first second so = record {
    later = omega (arith, first.later, second.later);
    each = λ c left. ⊎_elim (first.each c) (so c) (second.before (moment old) c first.later left);
    before = λ t c le left. ⊎_elim (first.before t c le) (λ now. inr (so c now)) (second.before t c (omega (arith, le, first.later)) left);
  }

module _ {D : Type 0} (is_known : D → Type 0) (seen : D → List ℕ) (may_leave : D → List ℕ → Type 0) (moment : D → ℕ) (left_since : D → ℕ → List ℕ → Type 0) where
  abbrev Unchanged : D → D → Type 0
  Unchanged old new = IsUnchanged is_known seen may_leave moment left_since old new

  -- before the first read
  pub unchanged_yet : (old : D) → is_known old → ((c : List ℕ) → left_since old (moment old) c → may_leave old c) → Unchanged old old
  unchanged_yet old known only = record {
    known = known;
    seen_same = refl;
    crash = λ c left. left;
    time = started moment left_since old (may_leave old) only;
  }

  -- after one more
  pub unchanged_still : (old mid new : D) → Unchanged old mid → Unchanged mid new → Unchanged old new
  unchanged_still old mid new first second = record {
    known = second.known;
    seen_same = second.seen_same ∙ first.seen_same;
    crash = λ c left. first.crash c (second.crash c left);
    time = leaves_then moment left_since old mid new (may_leave old) (may_leave mid) first.time second.time (λ c left. first.crash c left);
  }
