use Rattle.std.proofs.Common.{◌∷◌, [], ◌≡◌, ◌<◌, false, ap, map, length, take, nat_lt, slice_index, decimal, ◌++◌, ◌∙◌, ◌+◌, arith, rules}
use Rattle.std.proofs.lemmas.List.{take_all}
use Rattle.std.proofs.lemmas.Option.{slice_get-get_or}
use Rattle.serde_json.specs.Written.{comma_if}
use Rattle.pay_link.specs.Genesis.{GenesisFields}
use Rattle.pay_audit.specs.Columns.{column_of}
use Rattle.pay_audit.specs.Exporting.{export_of, number_data}
use Rattle.pay_audit.specs.Gathering.{Adds, state}
use Rattle.pay_audit.proofs.ColumnLengths.{length-column_of}
use Rattle.pay_audit.proofs.Gathering.{adds_next, adds_then}
use Rattle.pay_audit.proofs.Items.{all_in_array, begun, next_in_array}
use Rattle.pay_audit.proofs.export_writing.add_column.Goals as goal

pub loop-account-preserved : goal.loop-account-preserved
loop-account-preserved g c =
    let at = state g.W.Output.contents g.W.Output.failure_count in
    let m = c.args.member.now in
    let list = column_of (export_of m) c.args.column in
    let k = c.loop-account.account in
    let count : length list ≡ m.genesis.members = length-column_of c.book_of_events.ensures.settled m c.args.column c.genesis.ensures.limits in
    let members : c.members-account-end.result ≡ m.genesis.members = c.members-account-end.ensures.value ∙ ap (λ (x : GenesisFields). x.members) c.genesis.ensures.value in
    let within : k < length list = omega (arith, count, members, c.loop-account-test.true) in
    let start = at c.args.text.now c.args.writer.now in
    let behind = at c.add_comma.new.self c.add_comma.new.writer in
    let so_far = 91 ∷ begun false (map number_data (take k list)) in
    let comma : Adds (at c.loop-account.text c.loop-account.writer) behind (comma_if (nat_lt 0 k)) = search rules in
    adds_next start behind (at c.add_number.new.self c.add_number.new.writer)
    (so_far ++ comma_if (nat_lt 0 k)) (decimal c.number_at.result) (91 ∷ begun false (map number_data (take (k + 1) list)))
    (adds_then start (at c.loop-account.text c.loop-account.writer) behind so_far (comma_if (nat_lt 0 k)) c.loop-account.invariant comma)
    c.add_number.ensures (next_in_array number_data list k (slice_index list k) (decimal c.number_at.result) (slice_get-get_or list k 0 within) (ap decimal c.number_at.ensures))

pub returns : goal.returns
returns g c =
    let at = state g.W.Output.contents g.W.Output.failure_count in
    let m = c.args.member.now in
    let list = column_of (export_of m) c.args.column in
    let k = c.loop-account.account in
    let count : length list ≡ m.genesis.members = length-column_of c.book_of_events.ensures.settled m c.args.column c.genesis.ensures.limits in
    let members : c.members-account-end.result ≡ m.genesis.members = c.members-account-end.ensures.value ∙ ap (λ (x : GenesisFields). x.members) c.genesis.ensures.value in
    let all : take k list ≡ list = take_all k list (omega (arith, count, members, c.loop-account-test.false)) in
    adds_next (at c.args.text.now c.args.writer.now) (at c.loop-account.text c.loop-account.writer) (at c.add-2.new.self c.add-2.new.writer)
    (91 ∷ begun false (map number_data (take k list))) (93 ∷ []) _
    c.loop-account.invariant c.add-2.ensures (all_in_array number_data list k all)
