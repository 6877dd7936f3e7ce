use Rattle.script_tests.proofs.counted.scripts_points_and_paths.Given as goal

abbrev pub ghosts-all_tables : goal.ghosts-all_tables
ghosts-all_tables g a = record { name = a.blank.name; parts = a.blank.parts }
