use Rattle.pay_library_tests.proofs.peers.overlap.overlaps.Given as goal

-- the member
abbrev pub ghosts-overlaps_at : goal.ghosts-overlaps_at
ghosts-overlaps_at g a = record { beginning = a.member }
