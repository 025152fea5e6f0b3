use Rattle.std.proofs.Common.{◌≡◌, length, map, rules}
use Rattle.pay_net.specs.Desks.{desk_streams}
use Rattle.pay_net.specs.Running.{peers_of}
use Rattle.pay_net.proofs.Endings.{counts_failed, desk_fault}
use Rattle.pay_net.proofs.Seatings.{all_fresh, desk_failed, has_run, peers_same}
use Rattle.pay_net.proofs.Workings.{ends_in_reader, grown_to, last_worked}
use Rattle.pay_net.proofs.running.Site.run_threads.Goals as goal

pub seat_threads-requires-clause-fresh : goal.seat_threads-requires-clause-fresh
seat_threads-requires-clause-fresh g c = all_fresh _ _ c.requires.fresh

pub readers_of-requires : goal.readers_of-requires
readers_of-requires g c =
    ends_in_reader _ _ (last_worked c.in_ok-seats.seats.readers c.in_ok-workers.ensures.0 _ _ c.in_ok-workers.ensures.1 c.serve-desk.ensures.workers)

pub returns-in-Ok-clause-ran : goal.returns-in-Ok-clause-ran
returns-in-Ok-clause-ran g c =
    let seated = c.in_ok-seats.ensures in
    let peers : map (λ r. r.0) c.in_ok-seats.seats.readers.items ≡ peers_of c.args.node.now.keys =
    peers_same c.args.node.now.keys c.own-own.result c.members-members.result _ seated.peers (search rules) (search rules) in
    let worked = last_worked c.in_ok-seats.seats.readers c.in_ok-workers.ensures.0 _ _ c.in_ok-workers.ensures.1 c.serve-desk.ensures.workers in
    has_run _ _ _ c.serve-desk.result.0 _ _ _ _ _ peers seated.fresh
    (grown_to _ _ _ worked c.readers_of.ensures) c.in_ok-gather_seats-in-Ok.ensures c.in-Ok.is c.serve-desk.ensures.served

pub returns-clause-ran : goal.returns-clause-ran
returns-clause-ran g c =
    desk_fault c.args.node.now _ c.args.self.now.config.now.ports.now
    (desk_streams (g.In.Input.remaining c.args.reader.now) (g.In.Input.remaining c.serve-desk.new.reader)
    (g.Out.Output.contents c.args.writer.now) (g.Out.Output.contents c.serve-desk.new.writer)) c.in-Err.fault
    (desk_failed _ c.serve-desk.result.0 _ _ _ c.in-Err.is c.serve-desk.ensures.served)

pub returns-clause-reads : goal.returns-clause-reads
returns-clause-reads g c =
    counts_failed _ _ _ g.Out.Output.failure_count _ _ c.args.writer.now c.serve-desk.new.writer c.in-Err.fault _ c.in-Err.is c.serve-desk.ensures.counts
