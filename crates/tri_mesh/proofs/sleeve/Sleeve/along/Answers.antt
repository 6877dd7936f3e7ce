use Rattle.std.proofs.Common.{◌≡◌, ◌-◌, ◌<◌, length, arith}
use Rattle.std.proofs.lemmas.List.{get_or_read}
use Rattle.std.specs.Prelude.{slice_index_or}
use Rattle.meshes.proofs.Sides.{one_more_along}
use Rattle.tri_mesh.proofs.sleeve.Sleeve.along.Goals as goal

pub loop-i-preserved : goal.loop-i-preserved
loop-i-preserved c =
    let before = c.loop-i.invariant in
    let walk = c.args.walk.items in
    let below : c.loop-i.i < length walk = omega (arith, c.len-i-end.ensures, c.args.walk.ok.0) in
    let from : c.index.result.now ≡ slice_index_or walk (c.loop-i.i - 1) 0 =
    get_or_read walk (c.loop-i.i - 1) c.index.result.now (omega arith) c.index.ensures 0 in
    let to : c.index-in-loop-i.result.now ≡ slice_index_or walk c.loop-i.i 0 =
    get_or_read walk c.loop-i.i c.index-in-loop-i.result.now below c.index-in-loop-i.ensures 0 in
    record {
      count = omega (arith, c.in_ok-push.ensures.len);
      along = rw c.in_ok-push.ensures.items
          (one_more_along c.args.mesh.now walk c.loop-i.diagonals.items c.between.result c.loop-i.i before.count before.along
          (rw (from, to) at c.between.ensures));
    }
