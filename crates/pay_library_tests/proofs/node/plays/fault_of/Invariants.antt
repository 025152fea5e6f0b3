use Rattle.pay_library_tests.proofs.node.plays.fault_of.Given as goal

-- the member
abbrev pub ghosts-fault_by : goal.ghosts-fault_by
ghosts-fault_by g a = record { beginning = a.member }
