use Rattle.geo_c.proofs.ask.geo_session_points.Given as goal

-- a ledger that nobody else counts in
abbrev pub ghosts-copy_points : goal.ghosts-copy_points
ghosts-copy_points a = record { name = a.blank.name; parts = a.blank.parts }
