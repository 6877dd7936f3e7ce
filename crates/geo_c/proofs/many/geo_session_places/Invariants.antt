use Rattle.geo_c.proofs.many.geo_session_places.Given as goal

-- a ledger that nobody else counts in
abbrev pub ghosts-tell_places : goal.ghosts-tell_places
ghosts-tell_places a = record { name = a.blank.name; parts = a.blank.parts }
