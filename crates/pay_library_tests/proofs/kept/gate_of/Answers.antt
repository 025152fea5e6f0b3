use Rattle.pay_library_tests.proofs.kept.gate_of.Goals as goal

-- the contents of this disk are never known
pub new-kept-requires : goal.new-kept-requires
new-kept-requires g c all = absurd (all c.args.log.device)
