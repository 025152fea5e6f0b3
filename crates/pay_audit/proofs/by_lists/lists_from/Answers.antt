use Rattle.std.proofs.Common.{◌≡◌, ◌≤◌, ℕ, List, [], ◌∷◌, ◌++◌, length, ap, sym, subst, zero-add, ◌∙◌}
use Rattle.std.proofs.lemmas.List.Elements.{All-push}
use Rattle.std.proofs.lemmas.List.FromFn.{map-range_with_len_more}
use Rattle.pay_frame.specs.declared.limits.TheConstants.{SEQS}
use Rattle.pay_audit.specs.Export.{AreShort}
use Rattle.pay_audit.proofs.by_lists.lists_from.Goals as goal

pub loop-owner-preserved : goal.loop-owner-preserved
loop-owner-preserved g c =
    let lists = g.S.Source.lists c.args.source.now in
    let owner = c.loop-owner.owner in
    let old = c.loop-owner.lists.items in
    let inv = c.loop-owner.invariant in
    let all : c.push.new.self.items ≡ old ++ lists owner ∷ [] = c.in_ok-push.ensures.items ∙ ap (λ (l : List (List ℕ)). old ++ l ∷ []) c.in_ok-from_source.ensures in
    record {
      lists = all ∙ ap (λ ls. ls ++ lists owner ∷ []) inv.lists ∙ sym (map-range_with_len_more lists 0 owner owner (zero-add owner));
      short = subst AreShort (sym all)
          (All-push (λ (l : List (List ℕ)). length l ≤ SEQS) old (lists owner) inv.short (c.requires owner));
    }
