use Rattle.pay_library_tests.proofs.node.compares.came_of.Given as goal

-- the member
abbrev pub ghosts-compares : goal.ghosts-compares
ghosts-compares g a = record { beginning = a.member }
