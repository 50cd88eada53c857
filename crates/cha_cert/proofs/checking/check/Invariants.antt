use Rattle.cha_cert.proofs.checking.check.Given as goal

abbrev pub ghosts-check_from : goal.ghosts-check_from
ghosts-check_from a = record { name = a.blank.name; parts = a.blank.parts }
