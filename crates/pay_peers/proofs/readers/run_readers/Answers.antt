use Rattle.std.proofs.Common.{ℕ, slice_index_or, subst, rules}
use Rattle.pay_peers.specs.declared.feeding.PeerReader.{PeerReader}
use Rattle.pay_peers.specs.Growing.{HasGrown}
use Rattle.pay_peers.proofs.readers.run_readers.Goals as goal

pub returns : goal.returns
returns g c = record {
  many = search rules;
  each = λ k d within.
      let at = (c.for_each_mut.ensures k d within).1 in
      let grown : HasGrown at.argument.now at.after_call.now = at.call in
      subst (λ (new : ℕ × PeerReader). HasGrown (slice_index_or c.args.pairs.now k d) new) at.left (subst (λ (old : ℕ × PeerReader). HasGrown old at.after_call.now) at.argument_is grown);
}
