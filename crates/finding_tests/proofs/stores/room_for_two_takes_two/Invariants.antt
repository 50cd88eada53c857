use Rattle.finding_tests.proofs.stores.room_for_two_takes_two.Given as goal

abbrev pub ghosts-two_with_room : goal.ghosts-two_with_room
ghosts-two_with_room g a = record { name = a.blank.name; parts = a.blank.parts }
