use Rattle.pay_library_tests.proofs.kept.paid_at_once.Given as goal

-- the member
abbrev pub ghosts-all_pay : goal.ghosts-all_pay
ghosts-all_pay g a = record { beginning = a.member }
