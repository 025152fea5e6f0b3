use Rattle.pay_library_tests.proofs.peers.admissions.outcome.Given as goal

-- the member
abbrev pub ghosts-outcome_by : goal.ghosts-outcome_by
ghosts-outcome_by g a = record { beginning = a.member }
