use Rattle.finding_tests.proofs.stores.a_name_is_linked_and_unlinked.Given as goal

abbrev pub ghosts-one_name : goal.ghosts-one_name
ghosts-one_name g a = record { name = a.blank.name; parts = a.blank.parts }
