use Rattle.inside_test.proofs.position.place.Goals as goal

pub returns-clause-inside : goal.returns-clause-inside
returns-clause-inside g c = rw c.of_pt.ensures.point at c.place_hom.ensures.inside
