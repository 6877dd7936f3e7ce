use Rattle.geo_c.proofs.session.geo_session_answer.Given as goal

-- a ledger that nobody else counts in
abbrev pub ghosts-answer : goal.ghosts-answer
ghosts-answer a = record { name = a.blank.name; parts = a.blank.parts }
