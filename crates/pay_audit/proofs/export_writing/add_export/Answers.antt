use Rattle.std.proofs.Common.{ap, subst, ◌∙◌}
use Rattle.pay_link.specs.Genesis.{GenesisFields}
use Rattle.pay_link.specs.Keys.{KeyFields}
use Rattle.pay_audit.specs.Exporting.{export_of}
use Rattle.pay_audit.specs.Gathering.{Adds, state}
use Rattle.pay_audit.proofs.ExportText.{whole}
use Rattle.pay_audit.proofs.Gathering.{adds_then}
use Rattle.pay_audit.proofs.export_writing.add_export.Goals as goal

pub returns : goal.returns
returns g c =
    let at = state g.W.Output.contents g.W.Output.failure_count in
    let m = c.args.member.now in
    let s0 = at c.args.text.now c.args.writer.now in
    let s1 = at c.add.new.self c.add.new.writer in
    let s2 = at c.add_column.new.text c.add_column.new.writer in
    let s3 = at c.add-2.new.self c.add-2.new.writer in
    let s4 = at c.add_number.new.self c.add_number.new.writer in
    let s5 = at c.add-3.new.self c.add-3.new.writer in
    let s6 = at c.add_column-2.new.text c.add_column-2.new.writer in
    let s7 = at c.add-4.new.self c.add-4.new.writer in
    let s8 = at c.add_lists.new.text c.add_lists.new.writer in
    let s9 = at c.add-5.new.self c.add-5.new.writer in
    let s10 = at c.add_number-2.new.self c.add_number-2.new.writer in
    let s11 = at c.add-6.new.self c.add-6.new.writer in
    let s12 = at c.add_number-3.new.self c.add_number-3.new.writer in
    let s13 = at c.add-7.new.self c.add-7.new.writer in
    let s14 = at c.add_column-3.new.text c.add_column-3.new.writer in
    let s15 = at c.add-8.new.self c.add-8.new.writer in
    let faults = c.from.ensures ∙ c.faults.ensures.value ∙ ap (λ (x : GenesisFields). x.faults) c.genesis-genesis.ensures.value in
    let member = c.from-2.ensures ∙ c.own.ensures.value ∙ ap (λ (x : KeyFields). x.own) c.keys.ensures.value in
    let count = c.from-3.ensures ∙ c.members.ensures.value ∙ ap (λ (x : GenesisFields). x.members) c.genesis-genesis.ensures.value in
    subst (Adds s0 s15) (whole (export_of m) c.from.result c.from-2.result c.from-3.result faults member count)
    (adds_then s0 s1 s15 _ _ c.add.ensures
    (adds_then s1 s2 s15 _ _ c.add_column.ensures
    (adds_then s2 s3 s15 _ _ c.add-2.ensures
    (adds_then s3 s4 s15 _ _ c.add_number.ensures
    (adds_then s4 s5 s15 _ _ c.add-3.ensures
    (adds_then s5 s6 s15 _ _ c.add_column-2.ensures
    (adds_then s6 s7 s15 _ _ c.add-4.ensures
    (adds_then s7 s8 s15 _ _ c.add_lists.ensures
    (adds_then s8 s9 s15 _ _ c.add-5.ensures
    (adds_then s9 s10 s15 _ _ c.add_number-2.ensures
    (adds_then s10 s11 s15 _ _ c.add-6.ensures
    (adds_then s11 s12 s15 _ _ c.add_number-3.ensures
    (adds_then s12 s13 s15 _ _ c.add-7.ensures
    (adds_then s13 s14 s15 _ _ c.add_column-3.ensures
    (c.add-8.ensures)))))))))))))))
