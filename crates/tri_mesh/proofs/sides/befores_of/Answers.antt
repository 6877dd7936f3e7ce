use Rattle.std.proofs.Common.{◌∙◌, ◌<◌, length, arith}
use Rattle.tri_mesh.proofs.SideLists.{one_more}
use Rattle.tri_mesh.proofs.sides.befores_of.Goals as goal

pub loop-tri-preserved : goal.loop-tri-preserved
loop-tri-preserved c =
    let tris = c.args.tris.now in
    let k = c.loop-tri.tri-index in
    let in_list : k < length tris = omega (arith, c.loop-tri-test.true) in
    let zero = c.loop-tri.invariant.count in
    let first = c.add.ensures.count ∙ zero in
    let second = c.add-in-loop-tri.ensures.count ∙ first in
    let corners = c.requires.corners k in_list in
    let xs = c.loop-tri.befores.items in
    let ys = c.add.new.befores.items in
    let zs = c.add-in-loop-tri.new.befores.items in
    let one = one_more tris k 0 xs ys c.loop-tri.marks c.add.new.marks (rw zero corners) (omega arith) (omega (arith, c.loop-tri.invariant.number))
    c.loop-tri.invariant.chained (rw c.max.ensures at c.add.ensures.befores) (rw c.max.ensures at c.add.ensures.marks) in
    let two = one_more tris k 1 ys zs c.add.new.marks c.add-in-loop-tri.new.marks (rw first corners) (omega arith) (omega (arith, one.0))
    one.1 (rw c.max-in-loop-tri.ensures at c.add-in-loop-tri.ensures.befores) (rw c.max-in-loop-tri.ensures at c.add-in-loop-tri.ensures.marks) in
    let three = one_more tris k 2 zs c.add-in-loop-tri-2.new.befores.items c.add-in-loop-tri.new.marks c.add-in-loop-tri-2.new.marks
    (rw second corners) (omega arith) (omega (arith, two.0)) two.1
    (rw c.max-in-loop-tri-2.ensures at c.add-in-loop-tri-2.ensures.befores) (rw c.max-in-loop-tri-2.ensures at c.add-in-loop-tri-2.ensures.marks) in
    record {
      number = omega (arith, three.0);
      count = c.add-in-loop-tri-2.ensures.count ∙ second;
      chained = three.1;
      room = omega (arith, c.add.ensures.same_room, c.add-in-loop-tri.ensures.same_room, c.add-in-loop-tri-2.ensures.same_room, c.loop-tri.invariant.room);
    }
