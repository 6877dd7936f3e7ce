use Rattle.std.proofs.Common.{◌≡◌, [], ◌∷◌, ◌++◌, Some, ap, arith, length, refl, subst, ◌∙◌}
use Rattle.meshes.proofs.Sides.{two_fewer}
use Rattle.meshes.specs.Cone.{Cone}
use Rattle.see_cone.proofs.ReachedMore.{few_reached, reached_one}
use Rattle.see_cone.proofs.reached.reach_seen.Goals as goal
use Rattle.see_cone.specs.Reached.{AreDone, AreReached}
use Rattle.see_cone.specs.declared.reached.Reached.{Reached}

pub loop-place-init : goal.loop-place-init
loop-place-init g c =
    let q = c.args.q.now in
    let cone : Cone = record { left = q; right = q } in
    let home : Reached = record { tri = c.args.home; from = c.args.home; cone = Some cone } in
    let is : c.push.new.self.items ≡ home ∷ [] =
    c.in_ok-push.ensures.items ∙ ap (λ xs. xs ++ home ∷ []) c.new-reached.ensures.items in
    rw is (record {
      are = reached_one c.requires.fits {q = q} c.args.home (Some cone) c.requires.home c.requires.place refl;
      done = λ p h. absurd (omega arith);
      place = omega arith;
      steps = omega arith;
    })

pub returns-in_err-reach_around-clause-steps : goal.returns-in_err-reach_around-clause-steps
returns-in_err-reach_around-clause-steps g c =
    let corners = c.args.ring.now.corners in
    let tris = c.args.mesh.now in
    let before = c.loop-place.invariant in
    let few = few_reached c.requires.fits before.are in
    omega (arith, few, two_fewer corners tris c.requires.fits, before.steps, c.reach_around.ensures.steps)

pub loop-place-smaller : goal.loop-place-smaller
loop-place-smaller g c =
    let before = c.loop-place.invariant in
    let few = few_reached c.requires.fits before.are in
    omega (arith, few, c.loop-place-test.true, c.loop-place.reached.ok.0)

pub returns-clause-reached : goal.returns-clause-reached
returns-clause-reached g c =
    let before = c.loop-place.invariant in
    let reached = c.loop-place.reached.items in
    let all : c.loop-place.place ≡ length reached = omega (arith, before.place, c.loop-place-test.false, c.loop-place.reached.ok.0) in
    record {
      are = subst (AreReached c.args.ring.now.corners c.args.mesh.now c.args.q.now reached) all before.are;
      done = subst (AreDone c.args.mesh.now reached) all before.done;
    }

pub returns-clause-steps : goal.returns-clause-steps
returns-clause-steps g c =
    let corners = c.args.ring.now.corners in
    let tris = c.args.mesh.now in
    let before = c.loop-place.invariant in
    let few = few_reached c.requires.fits before.are in
    omega (arith, few, two_fewer corners tris c.requires.fits, before.steps)
