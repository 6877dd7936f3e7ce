use Rattle.geo_run.proofs.run.geo_main.Given as goal

-- a counter is over the new ledger
abbrev pub ghosts-run_script : goal.ghosts-run_script
ghosts-run_script g a = record { name = a.blank.name; parts = a.blank.parts }

abbrev pub ghosts-write_comb : goal.ghosts-write_comb
ghosts-write_comb g a = record { name = a.blank.name; parts = a.blank.parts }
