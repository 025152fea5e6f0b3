use Rattle.payd.proofs.nodes.serve_restarted.Goals as goal

-- the contents of a real file are never known
pub new-kept-requires : goal.new-kept-requires
new-kept-requires g c all = absurd (all c.args.member.0.log.device)
