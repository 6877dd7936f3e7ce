use Rattle.geo_c.proofs.ask.geo_session_fractions.Given as goal

-- a ledger that nobody else counts in
abbrev pub ghosts-copy_fractions : goal.ghosts-copy_fractions
ghosts-copy_fractions a = record { name = a.blank.name; parts = a.blank.parts }
