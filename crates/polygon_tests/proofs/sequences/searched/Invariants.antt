use Rattle.polygon_tests.proofs.sequences.searched.Given as goal

abbrev pub decreases-loop-halves : goal.decreases-loop-halves
decreases-loop-halves g l = l.search.levels
