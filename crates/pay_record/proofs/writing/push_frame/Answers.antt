use Rattle.std.proofs.Common.{◌≡◌, ◌++◌, List, ℕ, OnOk, Result, Ok, Err, ap, ◌∙◌, append_assoc}
use Rattle.std.specs.Int.{w16, w64, to_be_bytes}
use Rattle.pay_frame.specs.Frame.{BodyFields}
use Rattle.pay_record.specs.Records.{body_bytes}
use Rattle.pay_record.proofs.writing.push_frame.Goals as goal

on_ok : {A E P Q : Type 0} (r : Result A E) → OnOk r P → (P → Q) → OnOk r Q
on_ok (Ok a) p f = f p
on_ok (Err e) p f = tt

pub returns : goal.returns
returns c =
    let from = c.to_be_bytes.result in
    let number = c.to_be_bytes-2.result in
    let old = c.args.out.now.items in
    let f = c.args.checked.now.frame in
    let body = c.body.result.now in
    on_ok c.push_body.result c.push_body.ensures (λ (grown : c.push_body.new.out.items ≡ _ ++ body_bytes body).
    grown
    ∙ ap (λ (l : List ℕ). l ++ body_bytes body) (c.in_ok-extend_from_slice-2.ensures.items ∙ ap (λ (l : List ℕ). l ++ number) c.in_ok-extend_from_slice.ensures.items)
    ∙ append_assoc (old ++ from) number (body_bytes body)
    ∙ append_assoc old from (number ++ body_bytes body)
    ∙ ap (λ (l : List ℕ). old ++ (l ++ (number ++ body_bytes body))) (c.to_be_bytes.ensures ∙ ap (λ (n : ℕ). to_be_bytes w16 n) c.from.ensures)
    ∙ ap (λ (l : List ℕ). old ++ (to_be_bytes w16 f.from ++ (l ++ body_bytes body))) (c.to_be_bytes-2.ensures ∙ ap (λ (n : ℕ). to_be_bytes w64 n) c.number.ensures)
    ∙ ap (λ (b : BodyFields). old ++ (to_be_bytes w16 f.from ++ (to_be_bytes w64 f.number ++ body_bytes b))) c.body.ensures.value)
