use Rattle.pay_library_tests.proofs.node.plays.others.Given as goal

-- the member
abbrev pub ghosts-eight_seats : goal.ghosts-eight_seats
ghosts-eight_seats a = record { beginning = a.member }
