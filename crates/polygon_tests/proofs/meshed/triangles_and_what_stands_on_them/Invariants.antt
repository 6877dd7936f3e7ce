use Rattle.polygon_tests.proofs.meshed.triangles_and_what_stands_on_them.Given as goal

abbrev pub ghosts-all_parts : goal.ghosts-all_parts
ghosts-all_parts g a = record { name = a.blank.name; parts = a.blank.parts }
