use Rattle.std.proofs.Common.{◌≡◌, [], rules, subst}
use Rattle.std.specs.Io.KnownBytes.{Appends}
use Rattle.pay_audit.proofs.Gathering.{begins, passed}
use Rattle.pay_audit.proofs.export_writing.Gathered.hold.Goals as goal

pub returns-in_err-write_all-2-clause-beginning : goal.returns-in_err-write_all-2-clause-beginning
returns-in_err-write_all-2-clause-beginning g c =
    let contents = g.W.Output.contents in
    let is : c.as_slice.result.now ≡ c.args.self.now.held.items = search rules in
    let first = subst (Appends (contents c.args.writer.now) (contents c.write_all.new.writer)) is c.in_ok-write_all.ensures.ok in
    let wrote = begins (contents c.args.writer.now) (contents c.write_all.new.writer) (contents c.write_all-2.new.writer) c.args.self.now.held.items c.args.bytes.now first c.in_err-write_all-2.ensures.beginning in
    search (rules, wrote)

pub returns-clause-moves : goal.returns-clause-moves
returns-clause-moves g c =
    let contents = g.W.Output.contents in
    let is : c.as_slice.result.now ≡ c.args.self.now.held.items = search rules in
    let first = subst (Appends (contents c.args.writer.now) (contents c.write_all.new.writer)) is c.in_ok-write_all.ensures.ok in
    let none : c.try_extend_from_slice-2.new.self.items ≡ [] = search rules in
    passed (contents c.args.writer.now) (contents c.write_all.new.writer) (contents c.write_all-2.new.writer) c.args.self.now.held.items c.try_extend_from_slice-2.new.self.items c.args.bytes.now first c.in_ok-write_all-2.ensures.ok none
