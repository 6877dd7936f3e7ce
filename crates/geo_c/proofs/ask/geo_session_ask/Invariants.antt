use Rattle.geo_c.proofs.ask.geo_session_ask.Given as goal

-- a ledger that nobody else counts in
abbrev pub ghosts-ask : goal.ghosts-ask
ghosts-ask a = record { name = a.blank.name; parts = a.blank.parts }
