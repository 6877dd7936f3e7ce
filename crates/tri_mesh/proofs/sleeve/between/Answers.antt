use Rattle.meshes.proofs.Sides.{lies_across, lies_last}
use Rattle.tri_mesh.proofs.sleeve.between.Goals as goal

pub returns-then-is_some_of : goal.returns-then-is_some_of
returns-then-is_some_of c =
    rw c.tri-tri.ensures
    (lies_across c.args.mesh.now c.args.from c.args.to 0 c.across.result (record { none = c.across.ensures.none; some = c.across.ensures.some })
    (c.is_some_of.ensures.0 c.if-is_some_of.true))

pub returns-then-is_some_of-2 : goal.returns-then-is_some_of-2
returns-then-is_some_of-2 c =
    let across = c.across-else-is_some_of in
    rw c.tri-tri.ensures
    (lies_across c.args.mesh.now c.args.from c.args.to 1 across.result (record { none = across.ensures.none; some = across.ensures.some })
    (c.is_some_of-else-is_some_of.ensures.0 c.if-is_some_of-2.true))

pub returns-else-is_some_of-2 : goal.returns-else-is_some_of-2
returns-else-is_some_of-2 c =
    let across = c.across-else-is_some_of in
    rw c.tri-tri.ensures
    (lies_last c.args.mesh.now c.count-count.ensures.sides c.args.from c.args.to c.requires.from c.requires.to c.requires.different
    c.across.result across.result
    (record { none = c.across.ensures.none; some = c.across.ensures.some })
    (record { none = across.ensures.none; some = across.ensures.some })
    (λ is. absurd (cc (c.is_some_of.ensures.1 is)))
    (λ is. absurd (cc (c.is_some_of-else-is_some_of.ensures.1 is)))
    c.requires.share)
