use Rattle.pay_library_tests.proofs.node.plays.unmet.Given as goal

-- the member
abbrev pub ghosts-unmet_by : goal.ghosts-unmet_by
ghosts-unmet_by g a = record { beginning = a.member }
