use Rattle.std.proofs.Common.{refl, sym, false, IsTrue}
use Rattle.std.proofs.lemmas.Bool.{true≢false}
use Rattle.dual_tree.proofs.SideHits.{on_first, on_second, on_third}
use Rattle.dual_tree.proofs.location.side_at.Goals as goal

not_true : IsTrue false → ⊥
not_true e = true≢false (sym e)

pub returns-then-not-is_left-clause-on : goal.returns-then-not-is_left-clause-on
returns-then-not-is_left-clause-on g c =
    on_first c.args.ring.now.corners _ (c.requires.fits.triangles c.args.k c.requires.within).counterclockwise c.args.p.now c.requires.held
    (λ left. not_true (c.if-not-is_left.ensures.left.1 (rw (c.corners_of.ensures.a, c.corners_of.ensures.b, c.tri.ensures) left)))

pub returns-then-not-is_left-2-clause-on : goal.returns-then-not-is_left-2-clause-on
returns-then-not-is_left-2-clause-on g c =
    on_second c.args.ring.now.corners _ (c.requires.fits.triangles c.args.k c.requires.within).counterclockwise c.args.p.now c.requires.held
    (λ left. not_true (c.if-not-is_left-2.ensures.left.1 (rw (c.corners_of.ensures.b, c.corners_of.ensures.c, c.tri.ensures) left)))

pub returns-then-not-is_left-3-clause-on : goal.returns-then-not-is_left-3-clause-on
returns-then-not-is_left-3-clause-on g c =
    on_third c.args.ring.now.corners _ (c.requires.fits.triangles c.args.k c.requires.within).counterclockwise c.args.p.now c.requires.held
    (λ left. not_true (c.if-not-is_left-3.ensures.left.1 (rw (c.corners_of.ensures.c, c.corners_of.ensures.a, c.tri.ensures) left)))

pub returns-else-not-is_left-3-clause-strictly : goal.returns-else-not-is_left-3-clause-strictly
returns-else-not-is_left-3-clause-strictly g c = λ _.
    record {
      left_of_first = rw (c.corners_of.ensures.a, c.corners_of.ensures.b, c.tri.ensures) at (c.if-not-is_left.ensures.left.0 refl);
      left_of_second = rw (c.corners_of.ensures.b, c.corners_of.ensures.c, c.tri.ensures) at (c.if-not-is_left-2.ensures.left.0 refl);
      left_of_third = rw (c.corners_of.ensures.c, c.corners_of.ensures.a, c.tri.ensures) at (c.if-not-is_left-3.ensures.left.0 refl);
    }
