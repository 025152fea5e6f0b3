use Rattle.std.proofs.Common.{◌≡◌, [], ◌∷◌, ◌++◌, length, length-append, Some, slice_get, refl, ap, ap₂, sym, subst, ◌∙◌, arith}
use Rattle.std.proofs.lemmas.Option.{slice_get_read}
use Rattle.pay_audit.specs.Rows.{AreRows, rows_from}
use Rattle.pay_audit.proofs.Pushing.{take_next}
use Rattle.pay_audit.proofs.Rows.{one_more, still_rows}
use Rattle.pay_audit.proofs.exported.OwnerList.of.Goals as goal

pub loop-value-preserved : goal.loop-value-preserved
loop-value-preserved c =
    let values = c.args.values.now in
    let place = c.loop-value.value-index in
    let value = c.value-item.result in
    let bytes = c.loop-value.bytes.items in
    let ends = c.loop-value.ends.items in
    let inv = c.loop-value.invariant in
    let at : slice_get values place ≡ Some value = slice_get_read values (length values) place value refl (omega arith) c.value-item.is in
    let grown : c.extend_from_slice.new.self.items ≡ bytes ++ value = c.in_ok-extend_from_slice.ensures.items ∙ ap (λ v. bytes ++ v) c.as_slice.ensures.value in
    let end : c.len.result ≡ length (bytes ++ value) = c.len.ensures ∙ c.extend_from_slice.new.self.ok.0 ∙ ap length grown in
    let pushed : c.push.new.self.items ≡ ends ++ length (bytes ++ value) ∷ [] = c.in_ok-push.ensures.items ∙ ap (λ n. ends ++ n ∷ []) end in
    record {
      values =
          ap₂ (rows_from 0) grown pushed ∙ one_more 0 bytes ends value inv.rows ∙ ap (λ vs. vs ++ value ∷ []) inv.values
          ∙ sym (take_next values place value at);
      rows =
          subst (AreRows 0 (length c.extend_from_slice.new.self.items)) (sym pushed)
          (subst (λ n. AreRows 0 n (ends ++ length (bytes ++ value) ∷ [])) (sym (ap length grown))
          (still_rows 0 (length bytes) (length (bytes ++ value)) ends inv.rows (omega (arith, length-append bytes value))));
      so_many = omega (arith, ap length pushed, length-append ends (length (bytes ++ value) ∷ []), inv.so_many);
    }
