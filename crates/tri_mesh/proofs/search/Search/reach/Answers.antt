use Rattle.tri_mesh.proofs.SearchSteps.{done_by}
use Rattle.tri_mesh.proofs.search.Search.reach.Goals as goal

pub add-requires-clause-in_list : goal.add-requires-clause-in_list
add-requires-clause-in_list c = (c.requires.owner.some c.in-Some.k c.in-Some.is).0

pub returns-in-Some-clause-done : goal.returns-in-Some-clause-done
returns-in-Some-clause-done c =
    let k = c.in-Some.k in
    let owner = c.requires.owner.some k c.in-Some.is in
    done_by c.args.tris.now c.add.new.self.order.items c.args.from c.args.to k c.requires.sides owner.0 owner.1 c.add.ensures.reached
