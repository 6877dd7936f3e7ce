-- Sight along a sleeve: a point on one of its diagonals is in both triangles beside it, and so on each side that they share.
use Rattle.std.proofs.Common.{inl, inr, sym, subst, ℕ, ◌+◌, ◌<◌, List, length, get_or, arith}
use Rattle.std.specs.List.{range_with_len}
use Rattle.plane.specs.Point.{Point, Triple, whole}
use Rattle.plane.specs.Segment.{Meet}
use Rattle.rings.specs.Ring.{vertex}
use Rattle.meshes.proofs.Parts.{side_in, paved}
use Rattle.meshes.proofs.Sight.{separation_law, sleeve_law}
use Rattle.meshes.specs.Fits.{Fits, IsInTri}
use Rattle.meshes.specs.Laws.{CrossesSide}
use Rattle.meshes.specs.Side.{IsWalkBetween, tri_at}
use Rattle.meshes.specs.Sleeve.{IsOneOf, Sleeve, diagonal_at}
use Rattle.meshes.specs.declared.tri.Tri.{Tri}
use Rattle.dual_tree.specs.Sight.{MeetsDiagonals, SeesThrough}

module _ (tris : List Tri) (sleeve : Sleeve) (of_mesh : IsOneOf tris sleeve) where
  -- the walk crosses each diagonal
  crosses_diagonal : (m : ℕ) → m < length sleeve.diagonals → CrossesSide tris sleeve.walk m (diagonal_at sleeve m).left (diagonal_at sleeve m).right
  crosses_diagonal m within = record {
    has_next = omega (arith, of_mesh.count);
    of_this = inr (of_mesh.diagonals m within).of_first;
    of_next = inl (of_mesh.diagonals m within).of_second;
  }

  module _ (corners : List Point) (fits : Fits corners tris) (p q : Triple) where
    -- who meets each diagonal meets each side that the walk crosses
    meets_sides : MeetsDiagonals corners sleeve p q → (m i j : ℕ) → CrossesSide tris sleeve.walk m i j
        → Meet p q (whole (vertex corners i)) (whole (vertex corners j))
    meets_sides meets m i j crosses =
        let all = range_with_len 0 (length corners) in
        let walk = sleeve.walk in
        let within : m < length sleeve.diagonals = omega (arith, of_mesh.count, crosses.has_next) in
        let meet = meets m within in
        let d = diagonal_at sleeve m in
        let own = crosses_diagonal m within in
        let in_this = side_in corners all tris (paved fits) (get_or walk m 0) d.left d.right (of_mesh.walk.in_list m (omega (arith, own.has_next)))
        own.of_this meet.point meet.rational meet.on_second in
        let in_next = side_in corners all tris (paved fits) (get_or walk (m + 1) 0) d.left d.right (of_mesh.walk.in_list (m + 1) own.has_next)
        own.of_next meet.point meet.rational meet.on_second in
        record {
          point = meet.point;
          rational = meet.rational;
          on_first = meet.on_first;
          on_second = separation_law corners all tris fits walk of_mesh.walk m i j crosses m (m + 1) (omega arith) (omega arith) own.has_next
              meet.point meet.rational in_this in_next;
        }

  -- the sleeve law, by the diagonals
  pub sees_through : (from to : ℕ) → IsWalkBetween tris from to sleeve.walk → SeesThrough tris from to sleeve
  sees_through from to between corners fits p q at_p at_q first last =
      let in_first = subst (λ k. IsInTri corners (tri_at tris k) p) (sym between.first) first in
      let in_last = subst (λ k. IsInTri corners (tri_at tris k) q) (sym between.last) last in
      let law = sleeve_law corners tris fits sleeve.walk of_mesh.walk p q at_p at_q in_first in_last in (
        λ sees m within. law.0 sees m (diagonal_at sleeve m).left (diagonal_at sleeve m).right (crosses_diagonal m within),
        λ meets. law.1 (meets_sides corners fits p q meets),
      )
