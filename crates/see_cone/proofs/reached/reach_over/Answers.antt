use Rattle.std.proofs.Common.{ap, refl, length-append, arith}
use Rattle.see_cone.proofs.ReachedMore.{back_done, none_done, over_all, side_below}
use Rattle.see_cone.proofs.reached.reach_over.Goals as goal
use Rattle.see_cone.specs.Reached.{IsAcrossSide, tri_there}
use Rattle.see_cone.specs.declared.reached.Reached.{Reached}

pub corner-requires : goal.corner-requires
corner-requires g c =
    rw (ap (λ p. p.1) c.side_ends-begin.ensures, c.tri.ensures, c.at.ensures)
    (side_below c.requires.fits c.requires.reached c.args.side.place c.requires.place c.args.side.number c.requires.side).1

pub corner-requires-then-tri-here : goal.corner-requires-then-tri-here
corner-requires-then-tri-here g c =
    rw (ap (λ p. p.0) c.side_ends-begin.ensures, c.tri.ensures, c.at.ensures)
    (side_below c.requires.fits c.requires.reached c.args.side.place c.requires.place c.args.side.number c.requires.side).0

pub returns-in_ok-push-in-Some : goal.returns-in_ok-push-in-Some
returns-in_ok-push-in-Some g c =
    let at = c.at.ensures in
    let two = rw at at c.in-Some.ensures.some in
    let beyond : IsAcrossSide c.args.mesh.now (tri_there c.args.reached.now.items c.args.side.place) c.args.side.number c.in-Some.tri =
    record { in_list = two.other_in_list; has = two.other_has } in
    let other = rw at at c.if-tri-here.true in
    let cone = rw (
      c.corner.ensures,
      c.corner-then-tri-here.ensures,
      ap (λ p. p.0) c.side_ends-begin.ensures,
      ap (λ p. p.1) c.side_ends-begin.ensures,
      c.tri.ensures,
      at,
    ) at c.narrowed-cone.ensures.cone in
    let over = over_all c.requires.fits c.requires.reached c.args.side.place c.requires.place (omega arith) c.args.side.number c.requires.side c.in-Some.tri
    beyond other (c.requires.new c.in-Some.tri beyond other) c.narrowed-cone.result cone in
    rw (c.in_ok-push-in-Some.ensures.items, at) (record {
      grown = over.1.0;
      reached = over.0;
      done = over.1.1;
      each = omega (arith, length-append {A = Reached}, c.narrowed-cone.ensures.steps);
      steps = omega (arith, c.narrowed-cone.ensures.steps);
    })

pub returns-else-tri-here-clause-done : goal.returns-else-tri-here-clause-done
returns-else-tri-here-clause-done g c =
    let two = rw c.at.ensures at c.in-Some.ensures.some in
    back_done c.requires.fits c.requires.reached c.args.side.place c.requires.place (omega arith) c.args.side.number c.requires.side c.in-Some.tri
    (record { in_list = two.other_in_list; has = two.other_has }) (rw c.at.ensures at c.if-tri-here.false)

pub returns-in-None-clause-done : goal.returns-in-None-clause-done
returns-in-None-clause-done g c =
    none_done c.requires.fits c.requires.reached c.args.side.place c.requires.place (omega arith) c.args.side.number c.requires.side
    (rw c.at.ensures at (c.in-None.ensures.none.0 refl))
