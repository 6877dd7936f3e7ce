-- What a point sees of a side of a triangle, by the cone through which it sees the triangle.
use Rattle.std.proofs.Common.{◌≡◌, ◌⊎◌, ◌↔◌, inl, inr, refl, List, pos, ◌<ℤ◌, ◌≤ℤ◌, Some, None}
use Rattle.std.specs.Prelude.{Option}
use Rattle.plane.proofs.Points.{same_sym, same_trans, whole_is_point}
use Rattle.plane.proofs.Segments.{on_first_end, on_last_end, on_same_point}
use Rattle.plane.proofs.Turns.{determinant_shift}
use Rattle.plane.specs.Prelude.{determinant, IsLeft, IsPoint, IsRight, IsSame, IsStraight, On, Point, Triple, whole}
use Rattle.rings.specs.Sees.{Sees}
use Rattle.meshes.proofs.Cones.Narrowing.{ray_to_end_by}
use Rattle.meshes.proofs.Sight.{sees_before}
use Rattle.meshes.specs.Cone.{Cone, Holds, IsSeenThrough, ray_to_end}
use Rattle.meshes.specs.Prelude.{IsInTri}
use Rattle.meshes.specs.declared.tri.Tri.{Tri}

-- ---- views of a side

-- the ray from q to c meets the side from r to l, and is not along it
pub record ReachesSide (q l r c : Point) : Type 0 where
  pub not_past_right : determinant (whole q) (whole c) (whole r) ≤ℤ pos 0
  pub not_past_left : pos 0 ≤ℤ determinant (whole q) (whole c) (whole l)
  pub apart : determinant (whole q) (whole c) (whole r) <ℤ determinant (whole q) (whole c) (whole l)

-- from q on its left, the side is seen just where it is in a cone whose rays meet it
pub record IsWindow (ring : List Point) (q l r : Point) (cone : Cone) : Type 0 where
  pub before : IsLeft (whole q) (whole r) (whole l)
  pub left_ray : ReachesSide q l r cone.left
  pub right_ray : ReachesSide q l r cone.right
  pub in_order : ¬ IsRight (whole q) (whole cone.right) (whole cone.left)
  pub seen : (y : Triple) → IsPoint y → On y (whole r) (whole l) → Sees ring (whole q) y ↔ Holds q cone y

-- what q sees of the side from r to l, beside the narrowed cone: nothing; what a window leaves; all of the side, in line with it; or
-- from beyond its line one end
pub data SideView (ring : List Point) (q l r : Point) (sight : Option Cone) : Type 0 where
  hidden : sight ≡ None → ((y : Triple) → IsPoint y → On y (whole r) (whole l) → ¬ Sees ring (whole q) y) → SideView ring q l r sight
  through_window : (cone : Cone) → sight ≡ Some cone → IsWindow ring q l r cone → SideView ring q l r sight
  whole_side : sight ≡ Some (record { left = l; right = r }) → IsStraight (whole q) (whole r) (whole l)
      → ((y : Triple) → IsPoint y → On y (whole r) (whole l) → Sees ring (whole q) y) → SideView ring q l r sight
  one_end : (c : Point) → sight ≡ Some (record { left = c; right = c }) → (c ≡ l) ⊎ (c ≡ r) → IsRight (whole q) (whole r) (whole l)
      → ((y : Triple) → IsPoint y → On y (whole r) (whole l) → Sees ring (whole q) y ↔ IsSame y (whole c)) → SideView ring q l r sight

-- all that q sees of the side from r to l is the point c
abbrev pub SeesOnly : List Point → Point → Point → Point → Point → Type 0
SeesOnly ring q l r c = (y : Triple) → IsPoint y → On y (whole r) (whole l) → Sees ring (whole q) y → IsSame y (whole c)

-- a triangle on the left of its side from r to l, of which q sees one end at most from beyond
pub record IsFacing (corners : List Point) (t : Tri) (q l r : Point) : Type 0 where
  pub side : (y : Triple) → IsPoint y → On y (whole r) (whole l) → IsInTri corners t y
  pub sees : (x y : Triple) → IsPoint x → IsPoint y → IsInTri corners t x → IsInTri corners t y → Sees corners x y
  pub only : IsRight (whole r) (whole l) (whole q) → SeesOnly corners q l r l ⊎ SeesOnly corners q l r r

-- ---- the view from beyond the line of the side

module _ (corners : List Point) (t : Tri) (q l r : Point) (facing : IsFacing corners t q l r) (cone : Cone)
    (through : IsSeenThrough corners t q cone) where
  -- the points of the side are seen just where the cone holds them
  pub side_seen : (y : Triple) → IsPoint y → On y (whole r) (whole l) → Sees corners (whole q) y ↔ Holds q cone y
  side_seen y at_y on = through.seen y at_y (facing.side y at_y on)

  module _ (right : IsRight (whole q) (whole r) (whole l)) where
    abbrev Only : Point → Type 0
    Only c = SeesOnly corners q l r c

    only : Only l ⊎ Only r
    only = facing.only (rw (determinant_shift (whole q) (whole r) (whole l)) right)

    -- an end that is held is all that is seen
    end_view : (c : Point) → (c ≡ l) ⊎ (c ≡ r) → On (whole c) (whole r) (whole l) → Holds q cone (whole c)
        → SideView corners q l r (Some (record { left = c; right = c }))
    end_view c which on_c holds =
        let C = whole c in
        let at_c = whole_is_point c in
        let sees_c = (side_seen C at_c on_c).1 holds in
        one_end c refl which right (λ y at_y on_y. (
          λ sees. elim only [
            | inl end ↦ same_trans (whole_is_point l) (end y at_y on_y sees) (same_sym (end C at_c on_c sees_c))
            | inr end ↦ same_trans (whole_is_point r) (end y at_y on_y sees) (same_sym (end C at_c on_c sees_c))
          ],
          λ same. sees_before corners (whole q) y C (whole_is_point q) at_y at_c
              (on_same_point at_c (same_sym same) (on_last_end (whole q) C)) sees_c,
        ))

    -- where the one end is not held, nothing is seen
    nothing_seen : (c : Point) → On (whole c) (whole r) (whole l) → ¬ Holds q cone (whole c) → Only c
        → (y : Triple) → IsPoint y → On y (whole r) (whole l) → ¬ Sees corners (whole q) y
    nothing_seen c on_c off end y at_y on_y sees =
        let at_c = whole_is_point c in
        off ((side_seen (whole c) at_c on_c).0 (sees_before corners (whole q) (whole c) y (whole_is_point q) at_c at_y
        (on_same_point at_y (end y at_y on_y sees) (on_last_end (whole q) y)) sees))

    -- so it is with the ray to an end
    pub beyond_view : SideView corners q l r (ray_to_end q cone l r)
    beyond_view =
        let on_l = on_last_end (whole r) (whole l) in
        let on_r = on_first_end (whole r) (whole l) in
        ray_to_end_by q cone l r (SideView corners q l r) (end_view l (inl refl) on_l) (end_view r (inr refl) on_r)
        (λ off_l off_r. hidden refl (λ y at_y on_y. elim only [
          | inl end ↦ nothing_seen l on_l off_l end y at_y on_y
          | inr end ↦ nothing_seen r on_r off_r end y at_y on_y
        ]))
