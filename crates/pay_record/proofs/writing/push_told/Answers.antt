use Rattle.std.proofs.Common.{◌++◌, List, ℕ, ap, ◌∙◌, append_assoc}
use Rattle.std.specs.Int.{w32, w64, to_be_bytes}
use Rattle.pay_record.proofs.writing.push_told.Goals as goal

pub returns : goal.returns
returns c =
    let balance = c.to_be_bytes.result in
    let front = c.to_be_bytes-2.result in
    let listed = c.to_be_bytes-3.result in
    let old = c.args.out.now.items in
    c.in_ok-extend_from_slice-3.ensures.items
    ∙ ap (λ (l : List ℕ). l ++ listed) (c.in_ok-extend_from_slice-2.ensures.items ∙ ap (λ (l : List ℕ). l ++ front) c.in_ok-extend_from_slice.ensures.items)
    ∙ append_assoc (old ++ balance) front listed
    ∙ append_assoc old balance (front ++ listed)
    ∙ ap (λ (l : List ℕ). old ++ (l ++ (front ++ listed))) c.to_be_bytes.ensures
    ∙ ap (λ (l : List ℕ). old ++ (to_be_bytes w64 c.args.told.balance ++ (l ++ listed))) c.to_be_bytes-2.ensures
    ∙ ap (λ (l : List ℕ). old ++ (to_be_bytes w64 c.args.told.balance ++ (to_be_bytes w32 c.args.told.front ++ l))) c.to_be_bytes-3.ensures
