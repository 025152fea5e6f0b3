use Rattle.pay_library_tests.proofs.kept.pay_until_crash.Given as goal

-- the member
abbrev pub ghosts-pay_each : goal.ghosts-pay_each
ghosts-pay_each g a = record { beginning = a.member }
