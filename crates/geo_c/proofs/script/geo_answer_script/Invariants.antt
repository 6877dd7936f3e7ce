use Rattle.geo_c.proofs.script.geo_answer_script.Given as goal

-- a ledger that nobody else counts in
abbrev pub ghosts-answer_whole : goal.ghosts-answer_whole
ghosts-answer_whole a = record { name = a.blank.name; parts = a.blank.parts }
