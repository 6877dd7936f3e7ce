-- The points of a box, all to one side of a rational point. This project's own. No public clause cites this module.
use Rattle.std.specs.Prelude.{◌⊎◌, ◌*ℤ◌, ◌<ℤ◌}
use Rattle.plane.specs.Point.{IsInBounds, Point, Triple}
use Rattle.exact_plane.specs.Boxes.{Encloses}
use Rattle.exact_plane.specs.declared.bounding_box.BoundingBox.{BoundingBox}

-- a property of all points of the box
abbrev pub OfAllEnclosed : BoundingBox → (Point → Type 0) → Type 0
OfAllEnclosed b P = (v : Point) → IsInBounds v → Encloses b v → P v

-- they are above the point, below it, left of it, right of it
abbrev pub IsBoxAbove : BoundingBox → Triple → Type 0
IsBoxAbove b p = OfAllEnclosed b (λ v. p.Y <ℤ (v.y *ℤ p.W))

abbrev pub IsBoxBelow : BoundingBox → Triple → Type 0
IsBoxBelow b p = OfAllEnclosed b (λ v. (v.y *ℤ p.W) <ℤ p.Y)

abbrev pub IsBoxLeft : BoundingBox → Triple → Type 0
IsBoxLeft b p = OfAllEnclosed b (λ v. (v.x *ℤ p.W) <ℤ p.X)

abbrev pub IsBoxRight : BoundingBox → Triple → Type 0
IsBoxRight b p = OfAllEnclosed b (λ v. p.X <ℤ (v.x *ℤ p.W))

-- the ray from the point to the right has none of them beside it or ahead
abbrev pub IsBoxMissed : BoundingBox → Triple → Type 0
IsBoxMissed b p = IsBoxAbove b p ⊎ IsBoxBelow b p ⊎ IsBoxLeft b p
