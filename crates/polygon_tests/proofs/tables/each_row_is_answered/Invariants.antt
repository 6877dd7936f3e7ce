use Rattle.polygon_tests.proofs.tables.each_row_is_answered.Given as goal

abbrev pub ghosts-all_tables : goal.ghosts-all_tables
ghosts-all_tables g a = record { name = a.blank.name; parts = a.blank.parts }
