use Rattle.pay_library_tests.proofs.kept.fresh_in_vain.Given as goal

-- the member
abbrev pub ghosts-tried_in_vain : goal.ghosts-tried_in_vain
ghosts-tried_in_vain g a = record { beginning = a.member }
