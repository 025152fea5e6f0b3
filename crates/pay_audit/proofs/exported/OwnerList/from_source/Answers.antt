use Rattle.std.proofs.Common.{◌≡◌, [], ◌∷◌, ◌++◌, length, length-append, ap, ap₂, sym, subst, ◌∙◌, arith}
use Rattle.pay_audit.specs.Rows.{AreRows, rows_from}
use Rattle.pay_audit.proofs.Pushing.{take_next}
use Rattle.pay_audit.proofs.Rows.{one_more, still_rows}
use Rattle.pay_audit.proofs.exported.OwnerList.from_source.Goals as goal

pub loop-place-preserved : goal.loop-place-preserved
loop-place-preserved g c =
    let values = g.S.Source.lists c.args.source.now c.args.owner in
    let place = c.loop-place.place in
    let value = c.at.result.now in
    let bytes = c.loop-place.bytes.items in
    let ends = c.loop-place.ends.items in
    let inv = c.loop-place.invariant in
    let grown : c.extend_from_slice.new.self.items ≡ bytes ++ value = c.in_ok-extend_from_slice.ensures.items in
    let end : c.len.result ≡ length (bytes ++ value) = c.len.ensures ∙ c.extend_from_slice.new.self.ok.0 ∙ ap length grown in
    let pushed : c.push.new.self.items ≡ ends ++ length (bytes ++ value) ∷ [] = c.in_ok-push.ensures.items ∙ ap (λ n. ends ++ n ∷ []) end in
    record {
      values =
          ap₂ (rows_from 0) grown pushed ∙ one_more 0 bytes ends value inv.rows ∙ ap (λ vs. vs ++ value ∷ []) inv.values
          ∙ sym (take_next values place value c.at.ensures);
      rows =
          subst (AreRows 0 (length c.extend_from_slice.new.self.items)) (sym pushed)
          (subst (λ n. AreRows 0 n (ends ++ length (bytes ++ value) ∷ [])) (sym (ap length grown))
          (still_rows 0 (length bytes) (length (bytes ++ value)) ends inv.rows (omega (arith, length-append bytes value))));
      so_many = omega (arith, ap length pushed, length-append ends (length (bytes ++ value) ∷ []), inv.so_many);
    }
