use Rattle.std.proofs.Common.{arith}
use Rattle.tri_mesh.proofs.Firsts.{corner_within, first_has, first_in_list, none_before}
use Rattle.tri_mesh.proofs.mesh.Mesh.first_at.Goals as goal

pub index-requires : goal.index-requires
index-requires c =
    let keeps = rw c.self.view_is at c.self.invariant.1 in
    let below = corner_within c.args.self.now c.self.inside.firsts.items c.args.i keeps c.requires in
    omega (arith, below)

pub returns-clause-in_list : goal.returns-clause-in_list
returns-clause-in_list c =
    let keeps = rw c.self.view_is at c.self.invariant.1 in
    first_in_list c.args.self.now _ c.args.i keeps c.requires _ c.index.ensures

pub returns-clause-corner : goal.returns-clause-corner
returns-clause-corner c =
    let keeps = rw c.self.view_is at c.self.invariant.1 in
    first_has c.args.self.now _ c.args.i keeps c.requires _ c.index.ensures

pub returns-clause-first : goal.returns-clause-first
returns-clause-first c =
    let keeps = rw c.self.view_is at c.self.invariant.1 in
    none_before c.args.self.now _ c.args.i keeps c.requires _ c.index.ensures
