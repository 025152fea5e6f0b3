use Rattle.pay_library_tests.proofs.node.plays.started_again.Given as goal

-- the member
abbrev pub ghosts-faults_of_two : goal.ghosts-faults_of_two
ghosts-faults_of_two g a = record { beginning = a.member }
