use Rattle.script_tests.proofs.asked_again.asked_again.Given as goal

abbrev pub ghosts-ask_all : goal.ghosts-ask_all
ghosts-ask_all g a = record { name = a.blank.name; parts = a.blank.parts }
