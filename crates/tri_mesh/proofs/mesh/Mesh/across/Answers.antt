use Rattle.tri_mesh.proofs.Neighbours.{kept_edge, kept_none, kept_some}
use Rattle.tri_mesh.proofs.mesh.Mesh.across.Goals as goal

pub returns-clause-none : goal.returns-clause-none
returns-clause-none c =
    let keeps = rw c.self.view_is at c.self.invariant.0 in
    kept_none c.args.self.now _ _ c.args.i c.args.side keeps c.requires.in_list c.requires.side c.index.ensures

pub returns-clause-some : goal.returns-clause-some
returns-clause-some c =
    let keeps = rw c.self.view_is at c.self.invariant.0 in
    kept_some c.args.self.now _ _ c.args.i c.args.side keeps c.requires.in_list c.requires.side c.index.ensures

pub returns-clause-edges : goal.returns-clause-edges
returns-clause-edges c =
    let keeps = rw c.self.view_is at c.self.invariant.0 in
    kept_edge c.args.self.now _ _ c.args.i c.args.side keeps c.requires.in_list c.requires.side c.index.ensures
