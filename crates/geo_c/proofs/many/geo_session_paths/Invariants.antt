use Rattle.geo_c.proofs.many.geo_session_paths.Given as goal

-- a ledger that nobody else counts in
abbrev pub ghosts-tell_paths : goal.ghosts-tell_paths
ghosts-tell_paths a = record { name = a.blank.name; parts = a.blank.parts }
