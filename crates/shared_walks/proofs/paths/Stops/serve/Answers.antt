use Rattle.std.proofs.Common.{◌≡◌, inl, inr, sym, ap, subst, ◌∙◌, ◌+◌, ◌<◌, [], length, get_or, set, arith}
use Rattle.std.proofs.lemmas.Bool.{cases_eq, false≢true}
use Rattle.std.proofs.lemmas.List.{get_or_default, map-set}
use Rattle.plane.specs.Point.{whole}
use Rattle.rings.specs.Chain.{point_at}
use Rattle.rings.specs.Ring.{origin}
use Rattle.meshes.proofs.Sides.{fitting_sides}
use Rattle.meshes.specs.Fits.{IsInTri}
use Rattle.meshes.specs.Side.{tri_at}
use Rattle.funnel_walk.proofs.EachGoal.{each_goal}
use Rattle.shared_walks.proofs.FoundPaths.{finds_more, finds_none, paid_for, there}
use Rattle.shared_walks.proofs.paths.Stops.serve.Goals as goal
use Rattle.shared_walks.proofs.paths.Stops.serve.Goals.{then-is_due+in_ok-path, else-is_due}
use Rattle.shared_walks.specs.Several.{IsPathOfFewPoints, listed}

pub path_behind-requires-clause-arrived : goal.path_behind-requires-clause-arrived
path_behind-requires-clause-arrived g c =
    let corners = c.args.self.now.ring.now.corners in
    let tris = c.args.self.now.mesh.now in
    let sleeve = c.args.sleeve.now in
    let i = c.args.front.now.funnel.at in
    let j = c.loop-j.j in
    let due = (rw c.deref.ensures.value at c.is_due.ensures.due).0 c.if-is_due.true in
    let same = (fitting_sides corners tris c.requires.fits).once _ _ _ _ (c.requires.held.in_mesh j c.loop-j-test.true)
    (c.requires.of_mesh.walk.in_list (i + 1) (omega (arith, c.requires.on.within, c.requires.of_mesh.count))) due.1
    (c.requires.of_mesh.diagonals i c.requires.on.within).of_second in
    let point = get_or_default c.args.self.now.points.now j origin c.index-self-j.result c.loop-j-test.true in
    record {
      tris = tris;
      fits = c.requires.fits;
      sleeve = sleeve;
      of_mesh = c.requires.of_mesh;
      i = i;
      below = c.requires.on.within;
      in_goal = subst (λ p. IsInTri corners (tri_at tris (get_or sleeve.walk (i + 1) 0)) (whole p)) point
          (subst (λ k. IsInTri corners (tri_at tris k) (whole (point_at c.args.self.now.points.now j))) same (c.requires.held.held j c.loop-j-test.true));
      walked = each_goal corners c.args.self.now.start.now _ _ _ _ _ _ _ (rw (c.requires.on.left, c.requires.on.right) at c.requires.front.walked);
    }

pub returns-in_err-path-clause-steps : goal.returns-in_err-path-clause-steps
returns-in_err-path-clause-steps g c =
    let due = (rw c.deref.ensures.value at c.is_due.ensures.due).0 c.if-is_due.true in
    paid_for _ _ _ _ _ _ _ _ c.loop-j.invariant.finds c.loop-j.j c.loop-j-test.true due.0 _ (omega (arith, c.path_behind.ensures.steps, c.requires.front.few, c.requires.front.near))

pub loop-j-preserved : goal.loop-j-preserved
loop-j-preserved g c =
    let inv = c.loop-j.invariant in
    let points = c.args.self.now.points.now in
    let corners = c.args.self.now.ring.now.corners in
    let s = c.args.self.now.start.now in
    let j = c.loop-j.j in
    let asked = rw c.deref.ensures.value at c.is_due.ensures.due in
    elim c.if-is_due.branch [
      | then-is_due+in_ok-path w ↦
          let due = asked.0 w.if-is_due.true in
          let old = listed c.loop-j.found.items in
          let path = w.in_ok-path.path.items in
          let point = get_or_default points j origin w.index-self-j.result c.loop-j-test.true in
          let put : listed w.put.new.found.items ≡ set old j path = ap listed w.put.ensures ∙ map-set (λ chain. chain.items) c.loop-j.found.items j w.in_ok-path.path in
          let is : IsPathOfFewPoints corners s (point_at points j) path = subst (λ p. IsPathOfFewPoints corners s p path) (sym point) w.in_ok-path.ensures.path in
          let finds = finds_more corners s points _ _ _ old _ inv.finds j c.loop-j-test.true due.0 path w.path_behind.new.steps is
          (omega (arith, w.in_ok-path.ensures.steps, c.requires.front.few, c.requires.front.near)) in
          let kept = (finds_more corners s points 0 old 0 old 0 (finds_none corners s points 0 old 0 inv.finds.so_far) j c.loop-j-test.true due.0 path 0 is (omega arith)).kept in
          rw (w.found-is, w.steps-is, put) (record {
            finds = finds;
            served = λ k below has. elim (cases_eq k j) [
              | inl same ↦ subst (λ i. 0 < length (get_or (set old j path) i [])) (sym same)
                  (there corners s points _ _ _ old _ inv.finds j c.loop-j-test.true due.0 path is.some)
              | inr other ↦ kept k (inv.served k (omega (arith, below, other)) has)
            ];
          })
      | else-is_due w ↦ rw (w.found-is, w.steps-is)
          (record {
            finds = inv.finds;
            served = λ k below has. elim (cases_eq k j) [
              | inl same ↦ elim (cases_eq (length (get_or (listed c.loop-j.found.items) k [])) 0) [
                | inl none ↦ absurd (false≢true (sym w.if-is_due.false ∙ asked.1 (rw same at none, rw same at has)))
                | inr some ↦ omega (arith, some)
              ]
              | inr other ↦ inv.served k (omega (arith, below, other)) has
            ];
          })
    ]
