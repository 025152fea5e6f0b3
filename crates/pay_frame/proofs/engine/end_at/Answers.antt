use Rattle.std.proofs.Common.{◌≡◌, ◌∙◌, ◌++◌, ap}
use Rattle.std.specs.Io.KnownBytes.{Appends}
use Rattle.pay_frame.specs.Device.{WroteBeginning}
use Rattle.pay_frame.proofs.Handlings.{all_to, some_to, none_written}
use Rattle.pay_frame.proofs.engine.end_at.Goals as goal

pub returns-in_default-clause-handles : goal.returns-in_default-clause-handles
returns-in_default-clause-handles g c =
    λ start left rest held reads going none stream whole. some_to _ start _ left rest _ _ held reads c.args.fault going none stream whole (none_written _ _)

pub returns-in-Err-clause-handles : goal.returns-in-Err-clause-handles
returns-in-Err-clause-handles g c =
    let contents = g.Out.Output.contents in
    let last = (g.H.FrameHandler.handling c.args.handler.now).fault_text c.args.state.now c.args.fault in
    let text : c.end.new.out.items ≡ last = c.in-Ok.ensures.text ∙ ap (λ xs. xs ++ last) c.clear.ensures.items in
    let wrote : WroteBeginning (contents c.args.writer.now) (contents c.write_text.new.writer) last = rw text at (rw c.deref.ensures.value at c.in-Err.ensures.beginning) in
    λ start left rest held reads going none stream whole. some_to _ start _ left rest _ _ held reads c.args.fault going none stream whole wrote

pub returns-in-Ok-write_text-clause-handles : goal.returns-in-Ok-write_text-clause-handles
returns-in-Ok-write_text-clause-handles g c =
    let contents = g.Out.Output.contents in
    let last = (g.H.FrameHandler.handling c.args.handler.now).fault_text c.args.state.now c.args.fault in
    let text : c.end.new.out.items ≡ last = c.in-Ok.ensures.text ∙ ap (λ xs. xs ++ last) c.clear.ensures.items in
    let written : Appends (contents c.args.writer.now) (contents c.write_text.new.writer) last = rw text at (rw c.deref.ensures.value at c.in-Ok-write_text.ensures.ok) in
    λ start left rest held reads going none stream whole. all_to _ start _ left rest _ _ held reads c.args.fault going none stream whole written
