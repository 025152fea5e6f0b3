use Rattle.std.proofs.Common.{◌≡◌, ◌<◌, ◌-◌, ℕ, List, get_or, length, Some, slice_get, ap, sym, ◌∙◌, arith}
use Rattle.std.specs.Prelude.{slice_range}
use Rattle.std.proofs.lemmas.Grind.{get_or_default_zero}
use Rattle.pay_audit.specs.Rows.{rows_from}
use Rattle.pay_audit.proofs.Rows.{begin_of, begins_first, begins_later, in_order, row_at, so_many}
use Rattle.pay_audit.proofs.exported.OwnerList.at.Goals as goal
use Rattle.pay_audit.proofs.exported.OwnerList.at.Goals.{then-place-eq0, else-place-eq0}

within : (bytes ends : List ℕ) (values : List (List ℕ)) (place : ℕ) → rows_from 0 bytes ends ≡ values → place < length values → place < length ends
within bytes ends values place is below = omega (arith, so_many 0 bytes ends, ap length is, below)

pub index-requires : goal.index-requires
index-requires c =
    let l = c.self.inside in
    omega (arith, within l.bytes.items l.ends.items c.args.self.now c.args.place c.self.view_is c.requires, l.ends.ok.0)

pub index-requires-2 : goal.index-requires-2
index-requires-2 c =
    let l = c.self.inside in
    omega (arith, within l.bytes.items l.ends.items c.args.self.now c.args.place c.self.view_is c.requires, l.ends.ok.0)

pub slice_bounds-result-count : goal.slice_bounds-result-count
slice_bounds-result-count c =
    let l = c.self.inside in
    let place = c.args.place in
    let ends = l.ends.items in
    let end = c.index-2.result.now in
    let below = within l.bytes.items ends c.args.self.now place c.self.view_is c.requires in
    let starts : c.if-place-eq0.start ≡ begin_of 0 ends place = elim c.if-place-eq0.branch [
      | then-place-eq0 w ↦ w.start-is ∙ begins_first 0 ends place w.if-place-eq0.true
      | else-place-eq0 w ↦
          w.start-is ∙ w.index.ensures ∙ get_or_default_zero ends (place - 1) w.index.result.now (omega (arith, below))
          ∙ begins_later 0 ends place w.if-place-eq0.false
    ] in
    let finishes : end ≡ get_or ends place 0 = c.index-2.ensures ∙ get_or_default_zero ends place end below in
    let order = in_order 0 (length l.bytes.items) ends place c.self.invariant.1 below in
    omega (arith, starts, finishes, order.0, order.1, c.deref.ensures.len, l.bytes.ok.0)

pub slice_bounds-result-start : goal.slice_bounds-result-start
slice_bounds-result-start c =
    let l = c.self.inside in
    let place = c.args.place in
    let ends = l.ends.items in
    let end = c.index-2.result.now in
    let below = within l.bytes.items ends c.args.self.now place c.self.view_is c.requires in
    let starts : c.if-place-eq0.start ≡ begin_of 0 ends place = elim c.if-place-eq0.branch [
      | then-place-eq0 w ↦ w.start-is ∙ begins_first 0 ends place w.if-place-eq0.true
      | else-place-eq0 w ↦
          w.start-is ∙ w.index.ensures ∙ get_or_default_zero ends (place - 1) w.index.result.now (omega (arith, below))
          ∙ begins_later 0 ends place w.if-place-eq0.false
    ] in
    let finishes : end ≡ get_or ends place 0 = c.index-2.ensures ∙ get_or_default_zero ends place end below in
    let order = in_order 0 (length l.bytes.items) ends place c.self.invariant.1 below in
    omega (arith, starts, finishes, order.0, order.1, c.deref.ensures.len, l.bytes.ok.0)

pub slice_bounds-result-end : goal.slice_bounds-result-end
slice_bounds-result-end c =
    let l = c.self.inside in
    let place = c.args.place in
    let ends = l.ends.items in
    let end = c.index-2.result.now in
    let below = within l.bytes.items ends c.args.self.now place c.self.view_is c.requires in
    let starts : c.if-place-eq0.start ≡ begin_of 0 ends place = elim c.if-place-eq0.branch [
      | then-place-eq0 w ↦ w.start-is ∙ begins_first 0 ends place w.if-place-eq0.true
      | else-place-eq0 w ↦
          w.start-is ∙ w.index.ensures ∙ get_or_default_zero ends (place - 1) w.index.result.now (omega (arith, below))
          ∙ begins_later 0 ends place w.if-place-eq0.false
    ] in
    let finishes : end ≡ get_or ends place 0 = c.index-2.ensures ∙ get_or_default_zero ends place end below in
    let order = in_order 0 (length l.bytes.items) ends place c.self.invariant.1 below in
    omega (arith, starts, finishes, order.0, order.1, c.deref.ensures.len, l.bytes.ok.0)

pub returns : goal.returns
returns c =
    let l = c.self.inside in
    let place = c.args.place in
    let bytes = l.bytes.items in
    let ends = l.ends.items in
    let start = c.if-place-eq0.start in
    let end = c.index-2.result.now in
    let below = within bytes ends c.args.self.now place c.self.view_is c.requires in
    let starts : start ≡ begin_of 0 ends place = elim c.if-place-eq0.branch [
      | then-place-eq0 w ↦ w.start-is ∙ begins_first 0 ends place w.if-place-eq0.true
      | else-place-eq0 w ↦
          w.start-is ∙ w.index.ensures ∙ get_or_default_zero ends (place - 1) w.index.result.now (omega (arith, below))
          ∙ begins_later 0 ends place w.if-place-eq0.false
    ] in
    let finishes : end ≡ get_or ends place 0 = c.index-2.ensures ∙ get_or_default_zero ends place end below in
    ap (λ vs. slice_get vs place) (sym c.self.view_is) ∙ row_at 0 bytes ends place below
    ∙ ap (λ s. Some (slice_range bytes s (get_or ends place 0))) (sym starts)
    ∙ ap (λ e. Some (slice_range bytes start e)) (sym finishes)
    ∙ ap (λ bs. Some (slice_range bs start end)) (sym c.deref.ensures.value)
