use Rattle.cert_par.proofs.nodes.node_fails.Given as goal

abbrev pub ghosts-fails_from : goal.ghosts-fails_from
ghosts-fails_from a = record { name = a.blank.name; parts = a.blank.parts }
