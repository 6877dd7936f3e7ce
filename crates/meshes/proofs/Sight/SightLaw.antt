-- A walk over the triangles of a mesh that crosses a side: before it lies one piece, and after it the other.
-- The sleeve law: a segment that meets each side that a walk crosses is covered by the triangles of the walk.
use Rattle.std.proofs.Common.{◌≡◌, ◌⊎◌, inl, inr, sym, subst, ◌∙◌, List, length, get_or, ℕ, zero, suc, ◌+◌, ◌-◌, ◌<◌, ◌≤◌, arith}
use Rattle.std.specs.List.{range_with_len}
use Rattle.plane.proofs.Segments.{meet_reversed_second, on_reversed, on_first_end, on_last_end, later_between, on_one_side, on_nested}
use Rattle.plane.specs.Prelude.{IsPoint, Meet, On, Point, Triple, whole}
use Rattle.rings.proofs.Vertices.{one_to_one}
use Rattle.rings.specs.Prelude.{IsIn, Sees, vertex}
use Rattle.ring_laws.proofs.Triangles.{between_in_triangle}
use Rattle.meshes.proofs.Joins.{between_back, between_at}
use Rattle.meshes.proofs.Parts.{meets_between, IsShared, shared_of, IsParted, parted, shared_is_this, LiesIn, lies_in_one, paved, side_in}
use Rattle.meshes.proofs.Sides.{edge_or_not, piece_points_all}
use Rattle.meshes.proofs.Walks.{IsPlace}
use Rattle.meshes.specs.Prelude.{FitsPiece, HasSide, HasSideBetween, IsInTri, IsSideOfTwo, IsWalk, piece_points, tri_at}
use Rattle.meshes.specs.declared.tri.Tri.{Tri}
use Rattle.meshes.specs.Laws.{CrossesSide, walk_tri, PieceSleeveLaw, SeparationLaw, SleeveLaw}

module _ (corners : List Point) (piece : List ℕ) (tris : List Tri) (fits : FitsPiece corners piece tris) where
  -- a side of one triangle that is a side of another one in some direction
  pub shared_from : (i j k l : ℕ) → k < length tris → l < length tris → ¬ (k ≡ l) → HasSide (tri_at tris k) i j → HasSideBetween (tri_at tris l) i j
      → IsSideOfTwo tris i j k l
  shared_from i j k l in_k in_l differ has other = elim (edge_or_not piece i j) [
    | inl outer ↦ let (n, one) = fits.edges i j outer in absurd (differ (one.only k in_k (inl has) ∙ sym (one.only l in_l other)))
    | inr inner ↦
        let (n, two) = fits.inner_sides i j k in_k has inner in
        elim (two.only l in_l other) [
          | inl e ↦ absurd (differ (sym e))
          | inr e ↦ subst (IsSideOfTwo tris i j k) (sym e) two
        ]
  ]

  module _ (walk : List ℕ) (w : IsWalk tris walk) where
    -- the triangle at a place of the walk
    abbrev at : ℕ → ℕ
    at r = get_or walk r 0

    -- each is there once
    one_place : (r t : ℕ) → r < length walk → t < length walk → at r ≡ at t → r ≡ t
    one_place = one_to_one at (length walk) w.once

    -- a side that the walk crosses is a side of two triangles
    crossed_of_two : (m i j : ℕ) → CrossesSide tris walk m i j → IsSideOfTwo tris i j (at m) (at (m + 1)) ⊎ IsSideOfTwo tris j i (at m) (at (m + 1))
    crossed_of_two m i j c =
        let in_k = w.in_list m (omega (arith, c.has_next)) in
        let in_l = w.in_list (m + 1) c.has_next in
        let differ = w.once m (m + 1) (omega arith) c.has_next in
        elim c.of_this [
          | inl has ↦ inl (shared_from i j (at m) (at (m + 1)) in_k in_l differ has c.of_next)
          | inr has ↦ inr (shared_from j i (at m) (at (m + 1)) in_k in_l differ has (between_back c.of_next))
        ]

    module _ (m i j : ℕ) (next : m + 1 < length walk) (two : IsSideOfTwo tris i j (at m) (at (m + 1))) where
      -- no other triangle of the walk has the side
      not_again : (r : ℕ) → r < length walk → ¬ (r ≡ m) → ¬ (r ≡ m + 1) → ¬ HasSideBetween (tri_at tris (at r)) i j
      not_again r within n k has = elim (two.only (at r) (w.in_list r within) has) [
        | inl e ↦ n (one_place r m within (omega arith) e)
        | inr e ↦ k (one_place r (m + 1) within next e)
      ]

      -- it parts the mesh
      shared : IsShared corners piece tris (IsPlace tris) i j (at m) (at (m + 1))
      shared = shared_of corners piece tris (paved fits) i j (at m) (at (m + 1)) two two.in_list two.other_in_list

      walk_parted : IsParted corners piece tris i j (at m) (at (m + 1))
      walk_parted = parted corners piece tris (paved fits) i j (at m) (at (m + 1)) shared

      module _ (p : IsParted corners piece tris i j (at m) (at (m + 1))) where
        -- a triangle before one in the first piece is in it,
        step_before : (r : ℕ) → r < m → LiesIn corners tris p.first (at (r + 1)) → LiesIn corners tris p.first (at r)
        step_before r less lies =
            let here = w.in_list r (omega arith) in
            elim (lies_in_one corners piece tris (paved fits) i j (at m) (at (m + 1)) shared p.first p.second p.covered (at r) here) [
              | inl h ↦ h
              | inr h ↦
                  let share = w.sharing r (omega arith) in
                  let ends = shared_is_this corners piece tris (paved fits) i j (at m) (at (m + 1)) shared p.first p.second p.covered
                  (at (r + 1)) (at r) share.i share.j (w.in_list (r + 1) (omega arith)) here share.of_second (inl share.of_first) lies h in
                  absurd (not_again r (omega arith) (λ e. omega arith) (λ e. omega arith)
                  (between_at ends (inl share.of_first)))
            ]

        -- and one after one in the second piece is in that
        step_after : (r : ℕ) → m < r → r + 1 < length walk → LiesIn corners tris p.second (at r) → LiesIn corners tris p.second (at (r + 1))
        step_after r more within lies =
            let there = w.in_list (r + 1) within in
            elim (lies_in_one corners piece tris (paved fits) i j (at m) (at (m + 1)) shared p.first p.second p.covered (at (r + 1)) there) [
              | inr h ↦ h
              | inl h ↦
                  let share = w.sharing r within in
                  let ends = shared_is_this corners piece tris (paved fits) i j (at m) (at (m + 1)) shared p.first p.second p.covered
                  (at (r + 1)) (at r) share.i share.j there (w.in_list r (omega arith)) share.of_second (inl share.of_first) h lies in
                  absurd (not_again (r + 1) within (λ e. omega arith) (λ e. omega arith)
                  (between_at ends share.of_second))
            ]

        -- so all up to the side are in the first piece,
        before : (d r : ℕ) → r + d ≡ m → LiesIn corners tris p.first (at r)
        before zero r e = let same : m ≡ r = omega arith in subst (λ x. LiesIn corners tris p.first (at x)) same p.near_lies
        before (suc d) r e = step_before r (omega arith) (before d (r + 1) (omega arith))

        -- and all after it are in the second
        after : (d : ℕ) → m + 1 + d < length walk → LiesIn corners tris p.second (at (m + 1 + d))
        after zero h = let same : m + 1 ≡ m + 1 + 0 = omega arith in subst (λ x. LiesIn corners tris p.second (at x)) same p.far_lies
        after (suc d) h =
            let same : m + 1 + d + 1 ≡ m + 1 + suc d = omega arith in
            subst (λ x. LiesIn corners tris p.second (at x)) same (step_after (m + 1 + d) (omega arith) (omega arith) (after d (omega arith)))

        lies_before : (r : ℕ) → r ≤ m → LiesIn corners tris p.first (at r)
        lies_before r h = before (m - r) r (omega arith)

        lies_after : (r : ℕ) → m < r → r < length walk → LiesIn corners tris p.second (at r)
        lies_after r h k =
            let same : m + 1 + (r - m - 1) ≡ r = omega arith in
            subst (λ x. LiesIn corners tris p.second (at x)) same (after (r - m - 1) (omega arith))

        -- a point in triangles on both sides is on the side,
        common_by : (k l : ℕ) → k ≤ m → m < l → l < length walk → (x : Triple) → IsPoint x → IsInTri corners (walk_tri tris walk k) x
            → IsInTri corners (walk_tri tris walk l) x → On x (whole (vertex corners i)) (whole (vertex corners j))
        common_by k l h less within x at_x first last =
            p.covered.common x at_x (lies_before k h x at_x first) (lies_after l less within x at_x last)

        -- and a way in the ring from the first triangle to the last meets it
        meet_by : (a b : Triple) → IsPoint a → IsPoint b → IsInTri corners (walk_tri tris walk 0) a
            → IsInTri corners (walk_tri tris walk (length walk - 1)) b → Sees (piece_points corners piece) a b → Meet a b (whole (vertex corners i)) (whole (vertex corners j))
        meet_by a b at_a at_b first last sees =
            meets_between (piece_points corners piece) p.first p.second (whole (vertex corners i)) (whole (vertex corners j)) p.covered a b at_a at_b
            (lies_before 0 (omega arith) a at_a first) (lies_after (length walk - 1) (omega arith) (omega arith) b at_b last) sees

    -- the separation law
    pub separated : (m i j : ℕ) → CrossesSide tris walk m i j → (k l : ℕ) → k ≤ m → m < l → l < length walk
        → (x : Triple) → IsPoint x → IsInTri corners (walk_tri tris walk k) x → IsInTri corners (walk_tri tris walk l) x
        → On x (whole (vertex corners i)) (whole (vertex corners j))
    separated m i j c k l h less within x at_x first last = elim (crossed_of_two m i j c) [
      | inl two ↦ common_by m i j c.has_next two (walk_parted m i j c.has_next two) k l h less within x at_x first last
      | inr two ↦
          on_reversed x (whole (vertex corners j)) (whole (vertex corners i))
          (common_by m j i c.has_next two (walk_parted m j i c.has_next two) k l h less within x at_x first last)
    ]

    -- points that see each other do so over each side that the walk crosses
    pub meets_crossed : (a b : Triple) → IsPoint a → IsPoint b → IsInTri corners (walk_tri tris walk 0) a
        → IsInTri corners (walk_tri tris walk (length walk - 1)) b → Sees (piece_points corners piece) a b
        → (m i j : ℕ) → CrossesSide tris walk m i j → Meet a b (whole (vertex corners i)) (whole (vertex corners j))
    meets_crossed a b at_a at_b first last sees m i j c = elim (crossed_of_two m i j c) [
      | inl two ↦ meet_by m i j c.has_next two (walk_parted m i j c.has_next two) a b at_a at_b first last sees
      | inr two ↦
          meet_reversed_second a b (whole (vertex corners j)) (whole (vertex corners i))
          (meet_by m j i c.has_next two (walk_parted m j i c.has_next two) a b at_a at_b first last sees)
    ]

module _ (corners : List Point) (piece : List ℕ) (tris : List Tri) (fits : FitsPiece corners piece tris) (walk : List ℕ) (w : IsWalk tris walk) where
  -- between two points of a triangle of the walk all points are in the ring
  between_in : (r : ℕ) → r < length walk → (y a b : Triple) → IsPoint y → IsPoint a → IsPoint b → IsInTri corners (walk_tri tris walk r) a
      → IsInTri corners (walk_tri tris walk r) b → On y a b → IsIn (piece_points corners piece) y
  between_in r within y a b at_y at_a at_b in_a in_b on =
      let t = walk_tri tris walk r in
      (fits.covers y at_y).1 (
        get_or walk r 0,
        w.in_list r within,
        between_in_triangle (vertex corners t.a) (vertex corners t.b) (vertex corners t.c) y a b at_y at_a at_b in_a in_b on,
      )

  module _ (p q : Triple) (at_p : IsPoint p) (at_q : IsPoint q) (last : IsInTri corners (walk_tri tris walk (length walk - 1)) q)
      (meets : (m i j : ℕ) → CrossesSide tris walk m i j → Meet p q (whole (vertex corners i)) (whole (vertex corners j))) where
    -- from a point of the segment in a triangle of the walk, d triangles before the last, the rest of it is in the ring
    rest_in : (d r : ℕ) → r + d + 1 ≡ length walk → (x : Triple) → IsPoint x → On x p q → IsInTri corners (walk_tri tris walk r) x
        → (y : Triple) → IsPoint y → On y x q → IsIn (piece_points corners piece) y
    rest_in zero r e x at_x on_x in_x y at_y on_y =
        let same : length walk - 1 ≡ r = omega arith in
        between_in r (omega arith) y x q at_y at_x at_q in_x (subst (λ k. IsInTri corners (walk_tri tris walk k) q) same last) on_y
    rest_in (suc d) r e x at_x on_x in_x y at_y on_y =
        let next : r + 1 < length walk = omega arith in
        let share = w.sharing r next in
        let meet = meets r share.i share.j (record { has_next = next; of_this = inl share.of_first; of_next = share.of_second }) in
        let z = meet.point in
        let at_z = meet.rational in
        let in_this = side_in corners piece tris (paved fits) (get_or walk r 0) share.i share.j (w.in_list r (omega arith))
        (inl share.of_first) z at_z meet.on_second in
        let in_next = side_in corners piece tris (paved fits) (get_or walk (r + 1) 0) share.i share.j (w.in_list (r + 1) next)
        share.of_second z at_z meet.on_second in
        let beyond = rest_in d (r + 1) (omega arith) z at_z meet.on_first in_next y at_y in
        elim (on_one_side z x p q at_z at_x at_p at_q meet.on_first on_x) [
          | inl earlier ↦
              let x_on = later_between z p x q at_z at_p at_x at_q earlier on_x in
              beyond (on_nested y x q z q at_y at_x at_q at_z at_q x_on (on_last_end z q) on_y)
          | inr later ↦ elim (on_one_side y z x q at_y at_z at_x at_q on_y later) [
            | inl near ↦ between_in r (omega arith) y x z at_y at_x at_z in_x in_this near
            | inr far ↦ beyond far
          ]
        ]

    -- so from the first triangle on all of it is
    sees_over : IsInTri corners (walk_tri tris walk 0) p → Sees (piece_points corners piece) p q
    sees_over first y at_y on = rest_in (length walk - 1) 0 (omega (arith, w.some)) p at_p (on_first_end p q) first y at_y on

-- the laws, as they are stated: of pieces,
pub piece_sleeve_law : PieceSleeveLaw
piece_sleeve_law corners piece tris fits walk w p q at_p at_q first last = (
  λ sees. meets_crossed corners piece tris fits walk w p q at_p at_q first last sees,
  λ meets. sees_over corners piece tris fits walk w p q at_p at_q last meets first,
)

pub separation_law : SeparationLaw
separation_law = separated

-- and of whole rings
pub sleeve_law : SleeveLaw
sleeve_law corners tris fits walk w p q at_p at_q first last =
    let all = range_with_len 0 (length corners) in
    let law = piece_sleeve_law corners all tris fits walk w p q at_p at_q first last in (
      λ sees. law.0 (subst (λ ring. Sees ring p q) (sym (piece_points_all corners)) sees),
      λ meets. subst (λ ring. Sees ring p q) (piece_points_all corners) (law.1 meets),
    )
