use Rattle.geo_c.proofs.session.geo_session_reach.Given as goal

-- a ledger that nobody else counts in
abbrev pub ghosts-reach : goal.ghosts-reach
ghosts-reach a = record { name = a.blank.name; parts = a.blank.parts }
