use Rattle.pay_library_tests.proofs.peers.feeding.fed_and_closed.Given as goal

-- the member
abbrev pub ghosts-fed_and_closed_by : goal.ghosts-fed_and_closed_by
ghosts-fed_and_closed_by g a = record { beginning = a.member }
