-- Two rings that share only points of a segment: a way from one to the other, in both together, meets the segment.
-- A ring that is split along a shared side of a mesh: each triangle lies in one piece as a whole.
use Rattle.std.proofs.Common.{◌⊎◌, inl, inr, List, ℕ, ◌+◌, arith, ◌≡◌, sym, ◌∙◌}
use Rattle.std.proofs.lemmas.Bool.{cases_lt, cases_eq}
use Rattle.std.specs.List.{Contains}
use Rattle.plane.proofs.Nearness.{Eventually, toward, toward_differs, toward_is_point, toward_on}
use Rattle.plane.proofs.Points.{same_sym, whole_is_point}
use Rattle.plane.proofs.Segments.{on_first_end, on_reversed, on_nested, stays_left}
use Rattle.plane.specs.Prelude.{IsPoint, IsSame, Meet, On, Point, Triple, whole}
use Rattle.rings.proofs.Crossings.{in_law, misses_swapped}
use Rattle.rings.proofs.Inside.{in_or_not}
use Rattle.rings.proofs.Vertices.{on_some_same, FirstHit, first_hit_or_misses, misses_before, misses_eventually}
use Rattle.rings.specs.Prelude.{edges_of, IsIn, IsOnSome, vertex}
use Rattle.meshes.proofs.Joins.{in_tri}
use Rattle.meshes.proofs.Parts.MeshDiagonals.{IsShared, ring_apart, ring_long, vertex_on_ring}
use Rattle.meshes.proofs.Parts.OpenRegions.{IsLeftOfAll, left_of_all_eventually, region_off_edges}
use Rattle.meshes.proofs.Parts.Opposite.{IsOpposite, mean, mean_inside, mean_is_point, near_side, sides, toward_inside}
use Rattle.meshes.proofs.Parts.Paved.{IsPaved}
use Rattle.meshes.specs.Prelude.{IsInTri, IsStrictlyInTri, piece_points, tri_at}
use Rattle.meshes.specs.declared.tri.Tri.{Tri}

-- a rational point is in a ring where the near points toward another are
pub in_if_near : (ring : List Point) (x c : Triple) → IsPoint x → IsPoint c → Eventually (λ n. IsIn ring (toward x c n)) → IsIn ring x
in_if_near ring x c at_x at_c near = elim (in_or_not ring x at_x) [
  | inl h ↦ h
  | inr not ↦
      let apart = misses_eventually x c at_x at_c (edges_of ring) (λ on. not (inl on)) in
      let n : ℕ = apart.start + near.start in
      let y = toward x c n in
      let back = misses_swapped x y (edges_of ring) (apart.from_start n (omega arith)) in
      absurd (not (in_law ring y x (toward_is_point x c at_x at_c n) at_x back (near.from_start n (omega arith))))
]

-- two rings cover a third one, and share only points of the segment from s to t
pub record IsCovered (ring first second : List Point) (s t : Triple) : Type 0 where
  pub covers : (x : Triple) → IsPoint x → IsIn ring x → IsIn first x ⊎ IsIn second x
  pub common : (x : Triple) → IsPoint x → IsIn first x → IsIn second x → On x s t

-- the two may change places
pub covered_swapped : {ring first second : List Point} {s t : Triple} → IsCovered ring first second s t → IsCovered ring second first s t
covered_swapped c = record {
  covers = λ x at h. elim (c.covers x at h) [ inl k ↦ inr k | inr k ↦ inl k ];
  common = λ x at h k. c.common x at k h;
}

module _ (ring first second : List Point) (s t : Triple) (c : IsCovered ring first second s t) where
  module _ (p q : Triple) (at_p : IsPoint p) (at_q : IsPoint q) (in_p : IsIn first p) (in_q : IsIn second q)
      (way : (x : Triple) → IsPoint x → On x p q → IsIn ring x) where
    -- where p is in the first alone, the way enters the second on the segment
    at_hit : ¬ IsIn second p → FirstHit p q (edges_of second) → Meet p q s t
    at_hit not hit =
        let x = hit.point in
        let at_x = hit.rational in
        let differs : ¬ IsSame p x = λ e. not (inl (on_some_same x p at_x (same_sym e) (edges_of second) hit.on_edge)) in
        let in_first = in_if_near first x p at_x at_p (record {
          start = 0;
          from_start = λ n above.
              let y = toward x p n in
              let at_y = toward_is_point x p at_x at_p n in
              let on_y = on_reversed y x p (toward_on x p at_x at_p n) in
              let on_way = on_nested y p x p q at_y at_p at_x at_p at_q (on_first_end p q) hit.on_way on_y in
              elim (c.covers y at_y (way y at_y on_way)) [
                | inl k ↦ k
                | inr k ↦
                    let before = misses_before p q at_p at_q (edges_of second) hit y at_y on_y (toward_differs x p n differs) in
                    absurd (not (in_law second y p at_y at_p (misses_swapped p y (edges_of second) before) k))
              ];
        }) in
        record { point = x; rational = at_x; on_first = hit.on_way; on_second = c.common x at_x in_first (inl hit.on_edge) }

    -- so a way from one to the other meets the segment
    pub meets_between : Meet p q s t
    meets_between = elim (in_or_not second p at_p) [
      | inl both ↦ record { point = p; rational = at_p; on_first = on_first_end p q; on_second = c.common p at_p in_p both }
      | inr not ↦ elim (first_hit_or_misses p q at_p at_q (edges_of second)) [
        | inl hit ↦ at_hit not hit
        | inr misses ↦ absurd (not (in_law second q p at_q at_p (misses_swapped p q (edges_of second) misses) in_q))
      ]
    ]

-- triangle n lies in a piece as a whole
abbrev pub LiesIn : List Point → List Tri → List Point → ℕ → Type 0
LiesIn corners tris piece n = (x : Triple) → IsPoint x → IsInTri corners (tri_at tris n) x → IsIn piece x

-- ---- strictly inside a triangle

module _ (corners : List Point) (t : Tri) where
  -- a point strictly inside is left of all sides,
  pub left_of_sides : (y : Triple) → IsStrictlyInTri corners t y → IsLeftOfAll (sides corners t) y
  left_of_sides y s = (s.left_of_first, (s.left_of_second, (s.left_of_third, tt)))

  -- and the other way round
  pub inside_sides : (y : Triple) → IsLeftOfAll (sides corners t) y → IsStrictlyInTri corners t y
  inside_sides y (f, (g, (h, _))) = record { left_of_first = f; left_of_second = g; left_of_third = h }

  -- between two such points all are so
  inside_between : (z p q : Triple) → IsPoint z → IsPoint p → IsPoint q → IsStrictlyInTri corners t p → IsStrictlyInTri corners t q → On z p q
      → IsStrictlyInTri corners t z
  inside_between z p q at_z at_p at_q s r on =
      let A = whole (vertex corners t.a) in
      let B = whole (vertex corners t.b) in
      let C = whole (vertex corners t.c) in
      record {
        left_of_first = stays_left z p q at_z at_p at_q on A B s.left_of_first r.left_of_first;
        left_of_second = stays_left z p q at_z at_p at_q on B C s.left_of_second r.left_of_second;
        left_of_third = stays_left z p q at_z at_p at_q on C A s.left_of_third r.left_of_third;
      }

module _ (corners : List Point) (piece : List ℕ) (tris : List Tri) {P : ℕ → Type 0} (fits : IsPaved corners piece tris P) where
  -- a point strictly inside a triangle is on no edge of the ring,
  pub inside_off_edges : (n : ℕ) → P n → (y : Triple) → IsPoint y → IsStrictlyInTri corners (tri_at tris n) y → ¬ IsOnSome (edges_of (piece_points corners piece)) y
  inside_off_edges n within y at_y s =
      let t = tri_at tris n in
      region_off_edges (piece_points corners piece) (ring_apart corners piece tris fits) (ring_long corners piece tris fits) (sides corners t)
      (λ z at_z h. (fits.covers z at_z).1 (n, within, in_tri corners t z (inside_sides corners t z h)))
      y at_y (left_of_sides corners t y s)

  -- so it is no vertex,
  inside_no_vertex : (n : ℕ) → P n → (y : Triple) → IsPoint y → IsStrictlyInTri corners (tri_at tris n) y → (i : ℕ) → Contains piece i
      → ¬ IsSame y (whole (vertex corners i))
  inside_no_vertex n within y at_y s i h same =
      inside_off_edges n within y at_y s
      (on_some_same (whole (vertex corners i)) y (whole_is_point (vertex corners i)) (same_sym same) (edges_of (piece_points corners piece)) (vertex_on_ring corners piece i h))

  -- and not strictly inside another one
  pub inside_one : (m n : ℕ) → P m → P n → ¬ (m ≡ n) → (y : Triple) → IsPoint y
      → IsStrictlyInTri corners (tri_at tris m) y → IsStrictlyInTri corners (tri_at tris n) y → ⊥
  inside_one m n in_m in_n differ y at_y s r = elim (cases_lt m n) [
    | inl less ↦ fits.apart y at_y m n less in_m in_n (s, r)
    | inr more ↦ fits.apart y at_y n m (grind arith) in_n in_m (r, s)
  ]

  -- a point strictly inside a triangle is not strictly inside a side of another one
  not_on_other : (m n : ℕ) → P m → P n → ¬ (m ≡ n) → (a b c : Point) → IsOpposite corners (tri_at tris m) a b c
      → (y : Triple) → IsPoint y → On y (whole a) (whole b) → ¬ IsSame y (whole a) → ¬ IsSame y (whole b) → ¬ IsStrictlyInTri corners (tri_at tris n) y
  not_on_other m n in_m in_n differ a b c o y at_y on not_first not_last s =
      let near = near_side corners (tri_at tris m) a b c o y at_y on not_first not_last in
      let here = left_of_all_eventually y (whole c) (sides corners (tri_at tris n)) (left_of_sides corners (tri_at tris n) y s) in
      let k : ℕ = near.start + here.start in
      inside_one m n in_m in_n differ (toward y (whole c) k) (toward_is_point y (whole c) at_y (whole_is_point c) k)
      (near.from_start k (omega arith)) (inside_sides corners (tri_at tris n) (toward y (whole c) k) (here.from_start k (omega arith)))

  -- ---- a shared side

  module _ (i j k l : ℕ) (s : IsShared corners piece tris P i j k l) where
    -- no point strictly inside a triangle is on it
    inside_off_side : (n : ℕ) → P n → (y : Triple) → IsPoint y → IsStrictlyInTri corners (tri_at tris n) y
        → ¬ On y (whole (vertex corners i)) (whole (vertex corners j))
    inside_off_side n within y at_y r on =
        let not_from = inside_no_vertex n within y at_y r i s.from_within in
        let not_to = inside_no_vertex n within y at_y r j s.to_within in
        elim (cases_eq k n) [
          | inr other ↦
              not_on_other k n s.near_in within other (vertex corners i) (vertex corners j) s.c s.near y at_y on not_from not_to r
          | inl same ↦
              not_on_other l n s.far_in within (λ e. s.two.different (same ∙ sym e)) (vertex corners j) (vertex corners i) s.d s.far y at_y
              (on_reversed y (whole (vertex corners i)) (whole (vertex corners j)) on) not_to not_from r
        ]

    module _ (first second : List Point) (c : IsCovered (piece_points corners piece) first second (whole (vertex corners i)) (whole (vertex corners j))) where
      -- a triangle whose mean is in a piece lies in it
      lies_with_mean : (n : ℕ) → P n → IsIn first (mean corners (tri_at tris n)) → LiesIn corners tris first n
      lies_with_mean n within in_mean x at_x h =
          let t = tri_at tris n in
          let left = (fits.triangles n within).counterclockwise in
          let g = mean corners t in
          let at_g = mean_is_point corners t left in
          let inside_g = mean_inside corners t left in
          in_if_near first x g at_x at_g (record {
            start = 0;
            from_start = λ m above.
                let y = toward x g m in
                let at_y = toward_is_point x g at_x at_g m in
                let inside_y = toward_inside corners t left x g h inside_g m in
                elim (c.covers y at_y ((fits.covers y at_y).1 (n, within, in_tri corners t y inside_y))) [
                  | inl k ↦ k
                  | inr k ↦
                      let meet = meets_between (piece_points corners piece) first second (whole (vertex corners i)) (whole (vertex corners j)) c g y at_g at_y in_mean k
                      (λ z at_z on. (fits.covers z at_z).1
                      (n, within, in_tri corners t z (inside_between corners t z g y at_z at_g at_y inside_g inside_y on))) in
                      absurd (inside_off_side n within meet.point meet.rational
                      (inside_between corners t meet.point g y meet.rational at_g at_y inside_g inside_y meet.on_first) meet.on_second)
                ];
          })

    -- so each triangle lies in one piece or the other
    pub lies_in_one : (first second : List Point) → IsCovered (piece_points corners piece) first second (whole (vertex corners i)) (whole (vertex corners j))
        → (n : ℕ) → P n → LiesIn corners tris first n ⊎ LiesIn corners tris second n
    lies_in_one first second c n within =
        let t = tri_at tris n in
        let left = (fits.triangles n within).counterclockwise in
        let at_g = mean_is_point corners t left in
        elim (c.covers (mean corners t) at_g ((fits.covers (mean corners t) at_g).1
        (n, within, in_tri corners t (mean corners t) (mean_inside corners t left)))) [
          | inl h ↦ inl (lies_with_mean first second c n within h)
          | inr h ↦ inr (lies_with_mean second first (covered_swapped c) n within h)
        ]

    -- and in no more than one
    pub lies_in_both : (first second : List Point)
        → IsCovered (piece_points corners piece) first second (whole (vertex corners i)) (whole (vertex corners j)) → (n : ℕ) → P n → LiesIn corners tris first n → LiesIn corners tris second n → ⊥
    lies_in_both first second c n within in_first in_second =
        let t = tri_at tris n in
        let left = (fits.triangles n within).counterclockwise in
        let g = mean corners t in
        let at_g = mean_is_point corners t left in
        let inside_g = mean_inside corners t left in
        let in_g = in_tri corners t g inside_g in
        inside_off_side n within g at_g inside_g (c.common g at_g (in_first g at_g in_g) (in_second g at_g in_g))
