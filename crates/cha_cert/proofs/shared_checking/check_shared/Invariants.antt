use Rattle.cha_cert.proofs.shared_checking.check_shared.Given as goal

abbrev pub ghosts-check_shared_from : goal.ghosts-check_shared_from
ghosts-check_shared_from a = record { name = a.blank.name; parts = a.blank.parts }
