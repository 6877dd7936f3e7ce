use Rattle.std.proofs.Common.{◌≡◌, ℕ, inl, inr, sym, subst, get_or, arith}
use Rattle.std.proofs.Math.Nat.{eq-or-lt_of_le}
use Rattle.std.proofs.lemmas.List.{get_or_read}
use Rattle.plane.specs.Point.{IsInBounds, Point}
use Rattle.exact_plane.specs.Boxes.{Encloses}
use Rattle.exact_plane.proofs.bounding_box.BoundingBox.of.Goals as goal

pub loop-k-preserved : goal.loop-k-preserved
loop-k-preserved g c = (
  λ j below other.
      let points = c.args.points.now in
      let new = c.with-around.result in
      let more = c.with-around.ensures in
      let at : c.index-points-k.result ≡ get_or points c.loop-k.k other = get_or_read points c.loop-k.k _ c.loop-k-test.true c.index-points-k.is other in
      elim (eq-or-lt_of_le {n = j} {m = c.loop-k.k} (omega (arith, below))) [
        | inl last ↦
            subst (λ (i : ℕ). Encloses new (get_or points i other) × IsInBounds (get_or points i other)) (sym last)
            (subst (λ (p : Point). Encloses new p × IsInBounds p) at (more.new, more.limits))
        | inr earlier ↦ let (old, limits) = c.loop-k.invariant.0 j earlier other in (more.old _ old, limits)
      ],
  omega (arith, c.loop-k.invariant.1, c.add.ensures),
)
