use Rattle.pay_library_tests.proofs.kept.live_once.Given as goal

-- the member
abbrev pub ghosts-pay_next : goal.ghosts-pay_next
ghosts-pay_next g a = record { beginning = a.member }
