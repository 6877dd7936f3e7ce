-- The coordinates of a point, as they are read from its fields.
use Rattle.std.proofs.Common.{◌≡◌, ap, arith}
use Rattle.std.proofs.lemmas.Int.{ints}
use Rattle.plane.specs.Point.{IsInBounds, Point}
use Rattle.exact_plane.proofs.Registers.{short}
use Rattle.exact_plane.specs.declared.pt.Pt.TheInside.{Inside}

-- they are those of the point that it stands for
pub passes : (p : Inside) (q : Point) → IsInBounds (record { x = p.x; y = p.y }) → (record { x = p.x; y = p.y }) ≡ q → (short p.x ≡ q.x) × (short p.y ≡ q.y)
passes p q bounds view_is =
    let x : p.x ≡ q.x = ap (λ (p : Point). p.x) view_is in
    let y : p.y ≡ q.y = ap (λ (p : Point). p.y) view_is in
    let x_in_limit = bounds.x_in_limit in
    let y_in_limit = bounds.y_in_limit in
    (omega (arith, ints), omega (arith, ints))
