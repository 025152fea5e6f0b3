use Rattle.std.proofs.Common.{◌≡◌, ℕ, suc, ◌+◌, ◌<◌, ◌≤◌, List, [], length, take, refl, ap, ap₂, subst, sym, ◌∙◌, arith}
use Rattle.std.proofs.lemmas.Grind.{common_steps}
use Rattle.pay_frame.specs.declared.limits.TheConstants.{MOST_MEMBERS, SEQS}
use Rattle.pay_book.specs.Book.{Standing, fresh, IsSettled, CanSettle}
use Rattle.pay_audit.specs.Export.{ExportFields, IsExport, list_in}
use Rattle.pay_audit.proofs.Showing.{one_more, short}
use Rattle.pay_audit.proofs.auditing.settle_export.Goals as goal

pub loop-owner-init : goal.loop-owner-init
loop-owner-init g c =
    let e = c.args.export.now in
    let book = g.B.Settle.shows c.in_ok-book.book in
    let same = ap (λ (x : ExportFields). x.genesis.opening) c.export.view_is in
    let is : book ≡ fresh e.genesis.opening = c.in_ok-book.ensures ∙ ap fresh same in
    let P : Standing → Type 0 = λ b. IsSettled (list_in []) b in
    record {
      opening = ap (λ (b : Standing). b.opening) is;
      settled = subst P (sym is) (c.fresh_book_is_settled.ensures e.genesis.opening (list_in []) (λ a h. refl));
    }

pub settle-requires : goal.settle-requires
settle-requires g c =
    let e = c.args.export.now in
    let book = g.B.Settle.shows c.loop-owner.book in
    let owner = c.loop-owner.owner in
    let sound : IsExport e = subst IsExport c.export.view_is c.export.invariant in
    let lists : c.deref.result.now ≡ e.lists = c.deref.ensures.value ∙ ap (λ (x : ExportFields). x.lists) c.export.view_is in
    let count : c.from.result + 1 ≡ suc owner = omega (arith, c.from.ensures) in
    let accounts : length book.opening ≡ e.genesis.members = ap length c.loop-owner.invariant.opening ∙ sound.genesis.opening in
    let within : owner < length book.opening = omega (arith, c.loop-owner-test.true, c.members-owner-end.ensures.value, ap (λ (x : ExportFields). x.genesis.members) c.export.view_is) in
    let few : length book.opening ≤ MOST_MEMBERS = omega (arith, sound.genesis.few) in
    let Can : List (List (List ℕ)) → Type 0 = λ xs. CanSettle (list_in xs) book owner in
    let now = list_in (take (suc owner) e.lists) in
    subst Can (sym (ap₂ take count lists))
    (c.grown_list_can_settle.ensures (list_in (take owner e.lists)) now book owner c.loop-owner.invariant.settled (one_more e.lists owner) within
    (c.group_lists_are_countable.ensures now book (λ a _. short e.lists SEQS (suc owner) a sound.short) few))

pub loop-owner-preserved : goal.loop-owner-preserved
loop-owner-preserved g c = grind (arith, common_steps)

pub returns : goal.returns
returns g c = grind (arith, common_steps)
