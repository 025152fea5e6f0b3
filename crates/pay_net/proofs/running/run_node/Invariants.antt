use Rattle.pay_net.specs.Desks.{first_desk}
use Rattle.pay_net.specs.Running.{node_of}
use Rattle.pay_net.proofs.running.run_node.Given as goal

-- the member and the desk that the node begins with
abbrev pub ghosts-run-S-Beginning : goal.ghosts-run-S-Beginning
ghosts-run-S-Beginning g a = record { beginning = a.start.member }

abbrev pub ghosts-run-S-FirstDesk : goal.ghosts-run-S-FirstDesk
ghosts-run-S-FirstDesk g a = record { first = first_desk (node_of a.start) a.start.kept }
