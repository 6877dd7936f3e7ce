use Rattle.geo_c.proofs.tests.many.many_questions.Given as goal

-- a ledger that nobody else counts in
abbrev pub ghosts-large_fractions : goal.ghosts-large_fractions
ghosts-large_fractions g a = record { name = a.blank.name; parts = a.blank.parts }
