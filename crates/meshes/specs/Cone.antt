-- Cones of sight: what a point sees of the triangles of a mesh, side by side on the way from its own. After Guibas, Hershberger,
-- Leven, Sharir and Tarjan 1987. No public clause cites this module.
use Rattle.std.specs.Int.Signed.{lt_z}
use Rattle.std.specs.Prelude.{◌≡◌, ◌⊎◌, ◌↔◌, ℕ, pos, Bool, ◌||◌, if◌then◌else◌, List, Option, Some, None}
use Rattle.plane.specs.Line.{cross_product}
use Rattle.plane.specs.Prelude.{determinant, IsLeft, IsPoint, IsRight, IsStraight, Point, Triple, whole}
use Rattle.rings.specs.Sees.{Sees}
use Rattle.meshes.specs.Fits.{IsInTri}
use Rattle.meshes.specs.Side.{tri_at}
use Rattle.meshes.specs.declared.tri.Tri.{Tri}

-- a closed cone at a point q, by a point on each of its two rays: all points where both are q, and one ray where the two are in line
pub record Cone : Type 0 where
  pub left : Point
  pub right : Point

-- the cone at q holds x: x is not left of the left ray and not right of the right one
pub record Holds (q : Point) (cone : Cone) (x : Triple) : Type 0 where
  pub not_left : ¬ IsLeft (whole q) (whole cone.left) x
  pub not_right : ¬ IsRight (whole q) (whole cone.right) x

-- ---- the cone beyond a side, by turns

-- the turn from q over a to b is to the left,
abbrev pub is_left : Point → Point → Point → Bool
is_left q a b = lt_z (pos 0) (determinant (whole q) (whole a) (whole b))

-- and to the right
abbrev pub is_right : Point → Point → Point → Bool
is_right q a b = lt_z (determinant (whole q) (whole a) (whole b)) (pos 0)

-- the cone at q does not hold x
abbrev pub is_off : Point → Cone → Point → Bool
is_off q cone x = is_left q cone.left x || is_right q cone.right x

-- of the ends l and r of a side, one that the cone at q holds, as one ray
abbrev pub ray_to_end : Point → Cone → Point → Point → Option Cone
ray_to_end q cone l r =
    if is_off q cone l
    then (if is_off q cone r then None else Some (record { left = r; right = r }))
    else Some (record { left = l; right = l })

-- the left point of a cone that is narrowed to a side with the left end l, or its right point to one with the right end r
abbrev pub narrowed_left : Point → Point → Point → Point
narrowed_left q left l = if is_left q left l then left else l

abbrev pub narrowed_right : Point → Point → Point → Point
narrowed_right q right r = if is_right q right r then right else r

-- a cone at q narrowed to the side of a triangle on the left of the way from r to l: what q sees of the triangle beyond
abbrev pub narrowed : Point → Option Cone → Point → Point → Option Cone
narrowed q None l r = None
narrowed q (Some cone) l r =
    if is_right q r l then ray_to_end q cone l r
    else if is_left q cone.left r || is_right q cone.right l then None
    else Some (record { left = narrowed_left q cone.left l; right = narrowed_right q cone.right r })

-- ---- what is known of the cone

-- all of the triangle is in front of q, left of one line through q, and so are both points of the cone
pub record IsInFront (corners : List Point) (t : Tri) (q : Point) (cone : Cone) : Type 0 where
  pub toward : Point
  pub triangle : (x : Triple) → IsPoint x → IsInTri corners t x → IsLeft (whole q) (whole toward) x
  pub left : IsLeft (whole q) (whole toward) (whole cone.left)
  pub right : IsLeft (whole q) (whole toward) (whole cone.right)

-- of the triangle q sees just what the cone holds; the cone does not turn to the right; and q is in the triangle, or this is in front
pub record IsSeenThrough (corners : List Point) (t : Tri) (q : Point) (cone : Cone) : Type 0 where
  pub seen : (x : Triple) → IsPoint x → IsInTri corners t x → Sees corners (whole q) x ↔ Holds q cone x
  pub in_order : ¬ IsRight (whole q) (whole cone.right) (whole cone.left)
  pub place : IsInTri corners t (whole q) ⊎ IsInFront corners t q cone

-- of triangle k q sees nothing, where there is no cone, and else just what the cone holds
abbrev pub IsConeOf : List Point → List Tri → Point → ℕ → Option Cone → Type 0
IsConeOf corners tris q k None = (x : Triple) → IsPoint x → IsInTri corners (tri_at tris k) x → ¬ Sees corners (whole q) x
IsConeOf corners tris q k (Some cone) = IsSeenThrough corners (tri_at tris k) q cone

-- an end of the part of a side from r to l that a cone leaves, with c on the ray of the cone: the meeting of that ray and the side's line,
-- and where they are parallel the end e of the side
pub record IsPartEnd (q c r l e : Point) (m : Triple) : Type 0 where
  pub rational : IsPoint m
  pub at_end : cross_product q c r l ≡ pos 0 → m ≡ whole e
  pub on_ray : ¬ (cross_product q c r l ≡ pos 0) → IsStraight (whole q) (whole c) m
  pub on_line : ¬ (cross_product q c r l ≡ pos 0) → IsStraight (whole r) (whole l) m
