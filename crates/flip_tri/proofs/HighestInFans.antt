-- The fan at the least vertex of a piece has a side to each vertex in its angle of which none there is farther from the line across it.
use Rattle.std.proofs.Common.{◌≡◌, ◌⊎◌, inl, inr, refl, sym, subst, ℕ, ℤ, pos, ◌<ℤ◌, ◌≤ℤ◌, List}
use Rattle.std.proofs.lemmas.Bool.{cases_eq}
use Rattle.std.specs.List.{Contains}
use Rattle.integer_algebra.proofs.SignSteps.{negative_not_zero, not_below, positive_not_negative, positive_not_zero}
use Rattle.integer_algebra.proofs.SignSteps.{turned_negative, turned_positive, weak, zero_not_negative}
use Rattle.integer_algebra.proofs.Signs.{is_negative, is_positive, is_zero, lt_or_le, sign}
use Rattle.plane.proofs.Order.{before_differs}
use Rattle.plane.proofs.Points.{same_whole, whole_is_point}
use Rattle.plane.proofs.Segments.{ray_on_left}
use Rattle.plane.proofs.Turns.{determinant_same_ends, determinant_same_last, determinant_shift, determinant_swap_first, determinant_swap_last}
use Rattle.plane.specs.Order.{IsBefore}
use Rattle.plane.specs.Point.{IsSame, Point, Triple, whole}
use Rattle.plane.specs.Segment.{On}
use Rattle.plane.specs.Triangle.{IsInTriangle, height_over}
use Rattle.plane.specs.Turn.{IsLeft, IsRight, IsStraight, determinant}
use Rattle.rings.specs.Ring.{vertex}
use Rattle.ring_laws.proofs.Triangles.{between_in_triangle, first_in_triangle, last_in_triangle}
use Rattle.ring_laws.proofs.Triangles.{not_right_between}
use Rattle.meshes.proofs.Boundaries.{IsPartTiling}
use Rattle.meshes.proofs.Joins.{between_ends}
use Rattle.meshes.proofs.Parts.{one_vertex}
use Rattle.meshes.specs.Side.{tri_at}
use Rattle.meshes.specs.declared.tri.Tri.{Tri}
use Rattle.flip_tri.proofs.BeyondSides.{end_is_higher, higher_on_ray, lower_than_first}
use Rattle.flip_tri.proofs.CornersInTiles.{corner_in_tile}
use Rattle.flip_tri.proofs.HalfPlanes.{left_trans}
use Rattle.flip_tri.proofs.Rounds.{IsRoundTile, round_tile}
use Rattle.flip_tri.specs.Fan.{Fan, IsAbout}
use Rattle.flip_tri.specs.Fan.Fan.{last, next}

-- ---- the angle at v between w and u

-- the vertex is of the piece, and not v
pub record IsOther (piece : List ℕ) (v i : ℕ) : Type 0 where
  pub member : Contains piece i
  pub not_first : ¬ (i ≡ v)

-- it is not right of the way from v to w, and not left of the one to u
pub record IsInAngle (corners : List Point) (u v w i : ℕ) : Type 0 where
  pub before_last : pos 0 ≤ℤ determinant (whole (vertex corners u)) (whole (vertex corners v)) (whole (vertex corners i))
  pub after_second : pos 0 ≤ℤ determinant (whole (vertex corners v)) (whole (vertex corners w)) (whole (vertex corners i))

-- it is strictly within the angle, and no other vertex of the piece within the angle is farther from the line through w and u
pub record IsHighest (corners : List Point) (piece : List ℕ) (u v w z : ℕ) : Type 0 where
  pub other : IsOther piece v z
  pub before_last : IsLeft (whole (vertex corners u)) (whole (vertex corners v)) (whole (vertex corners z))
  pub after_second : IsLeft (whole (vertex corners v)) (whole (vertex corners w)) (whole (vertex corners z))
  pub none_higher : (i : ℕ) → IsOther piece v i → IsInAngle corners u v w i
      → ¬ (height_over (vertex corners u) (vertex corners w) (whole (vertex corners z))
      <ℤ height_over (vertex corners u) (vertex corners w) (whole (vertex corners i)))

module _ (corners : List Point) (piece : List ℕ) (tris : List Tri) (P : ℕ → Type 0) (tiling : IsPartTiling corners piece tris P) (u v w : ℕ)
    (least : (i : ℕ) → Contains piece i → ¬ (i ≡ v) → IsBefore (vertex corners v) (vertex corners i)) where
  -- the point of a vertex
  abbrev at : ℕ → Triple
  at i = whole (vertex corners i)

  -- how far a vertex is from the line
  abbrev height : ℕ → ℤ
  height i = height_over (vertex corners u) (vertex corners w) (at i)

  -- ---- triangles of the fan

  module _ (p c : ℕ) (about : IsAbout tris P v p c) where
    -- one of them, by its corners
    tile : IsRoundTile corners (tri_at tris about.tri) v p c
    tile = round_tile corners (tri_at tris about.tri) (tiling.cover.triangles about.tri about.in_part).counterclockwise v p c about.round

    second_other : IsOther piece v p
    second_other =
        let ends = between_ends corners piece (tri_at tris about.tri) (tiling.cover.triangles about.tri about.in_part) v p (inl about.round.first) in
        record { member = ends.1; not_first = λ e. ends.2 (sym e) }

    third_other : IsOther piece v c
    third_other =
        let ends = between_ends corners piece (tri_at tris about.tri) (tiling.cover.triangles about.tri about.in_part) c v (inl about.round.third) in
        record { member = ends.0; not_first = ends.2 }

    -- it has no vertices but its corners
    among : (i : ℕ) → Contains piece i → IsInTriangle (vertex corners v) (vertex corners p) (vertex corners c) (at i) → (i ≡ v) ⊎ (i ≡ p) ⊎ (i ≡ c)
    among i has inside = tile.only i (corner_in_tile corners piece tris P tiling i about.tri has about.in_part (tile.closed (at i) inside))

  -- turns to the left round v add up
  turns_add : (i j k : ℕ) → IsOther piece v i → IsOther piece v j → IsOther piece v k → IsLeft (at v) (at i) (at j) → IsLeft (at v) (at j) (at k)
      → IsLeft (at v) (at i) (at k)
  turns_add i j k a b c =
      left_trans (vertex corners v) (vertex corners i) (vertex corners j) (vertex corners k) (least i a.member a.not_first) (least j b.member b.not_first)
      (least k c.member c.not_first)

  -- the ends of the fan's triangles are before u
  left_to_last : IsOther piece v u → (p : ℕ) → Fan tris P v u p → IsLeft (at v) (at p) (at u)
  left_to_last is q (last p about) = (tile p u about).left
  left_to_last is q (next p c about rest) =
      turns_add p c u (second_other p c about) (third_other p c about) is (tile p c about).left (left_to_last is c rest)

  -- the first of its triangles
  first_about : (p : ℕ) → Fan tris P v u p → (c : ℕ) × IsAbout tris P v p c
  first_about q (last p about) = (u, about)
  first_about q (next p c about rest) = (c, about)

  -- ---- a vertex z within the angle, of which none is farther

  module _ (u_is : IsOther piece v u) (w_is : IsOther piece v w) (z : ℕ) (far : IsHighest corners piece u v w z) where
    -- it is not as far from the line as v
    below : height z <ℤ height v
    below = lower_than_first (vertex corners u) (vertex corners v) (vertex corners w) (vertex corners z) far.before_last far.after_second

    -- it is not at the end of a way from which it is off
    off_end : (p : ℕ) → ¬ (determinant (at v) (at p) (at z) ≡ pos 0) → ¬ (z ≡ p)
    off_end p off e = off (subst (λ n. determinant (at v) (at p) (at n) ≡ pos 0) (sym e) (determinant_same_last (at v) (at p)))

    module _ (p c : ℕ) (about : IsAbout tris P v p c) (beside : IsLeft (at v) (at p) (at z)) where
      -- where it is in a triangle of the fan, but off its first side, it is the third corner
      third_corner : IsInTriangle (vertex corners v) (vertex corners p) (vertex corners c) (at z) → z ≡ c
      third_corner inside = elim (among p c about z far.other.member inside) [
        | inl e ↦ absurd (far.other.not_first e)
        | inr (inl e) ↦ absurd (off_end p (positive_not_zero beside) e)
        | inr (inr e) ↦ e
      ]

      -- it is not beyond the third corner on a ray from v
      not_beyond : IsOther piece v c → On (at c) (at v) (at z) → z ≡ c
      not_beyond is on = elim (cases_eq z c) [
        | inl e ↦ e
        | inr differ ↦ absurd (far.none_higher c is angle
            (higher_on_ray (vertex corners u) (vertex corners v) (vertex corners w) (vertex corners z) (vertex corners c) below on not_first (not_last differ)))
      ]
        where
          not_first : ¬ (IsSame (at c) (at v))
          not_first same =
              before_differs (vertex corners v) (vertex corners c) (least c is.member is.not_first)
              (sym (same_whole (vertex corners c) (vertex corners v) same))

          not_last : ¬ (z ≡ c) → ¬ (IsSame (at c) (at z))
          not_last differ same =
              differ (sym (one_vertex corners piece tris tiling.cover c z is.member far.other.member (same_whole (vertex corners c) (vertex corners z) same)))

          angle : IsInAngle corners u v w c
          angle =
              let points = λ (i : ℕ). whole_is_point (vertex corners i) in
              record {
                before_last = not_right_between (at u) (at v) (at c) (at v) (at z) (points c) (points v) (points z)
                    (zero_not_negative (determinant_same_last (at u) (at v))) (weak far.before_last) on;
                after_second = not_right_between (at v) (at w) (at c) (at v) (at z) (points c) (points v) (points z)
                    (zero_not_negative (determinant_same_ends (at v) (at w))) (weak far.after_second) on;
              }

      -- where it is on the ray of the last side of a triangle, it is the end of that
      on_last_side : IsStraight (at v) (at c) (at z) → z ≡ c
      on_last_side straight =
          let points = λ (i : ℕ). whole_is_point (vertex corners i) in
          let t = tile p c about in
          elim (ray_on_left (at v) (at c) (at z) (points v) (points c) (points z) (at p) straight t.left beside) [
            | inl on ↦ third_corner
                (between_in_triangle (vertex corners v) (vertex corners p) (vertex corners c) (at z) (at v) (at c) (points z) (points v) (points c)
                (first_in_triangle (vertex corners v) (vertex corners p) (vertex corners c) t.left)
                (last_in_triangle (vertex corners v) (vertex corners p) (vertex corners c) t.left) on)
            | inr on ↦ not_beyond (third_other p c about) on
          ]

      -- it is not strictly between the rays of a triangle's sides
      not_between : IsInAngle corners u v w p → IsInAngle corners u v w c → ¬ (IsRight (at v) (at c) (at z))
      not_between p_within c_within right = elim (lt_or_le (determinant (at p) (at c) (at z)) (pos 0)) [
        | inl beyond ↦ elim (end_is_higher (vertex corners u) (vertex corners v) (vertex corners w) (vertex corners p) (vertex corners c) (vertex corners z)
            beside (turned_positive (determinant_swap_last (at v) (at c) (at z)) right) beyond below) [
              | inl high ↦ far.none_higher p (second_other p c about) p_within high
              | inr high ↦ far.none_higher c (third_other p c about) c_within high
            ]
        | inr near ↦
            off_end c (negative_not_zero right)
            (third_corner (record {
              not_right_of_first = positive_not_negative beside;
              not_right_of_second = not_below near;
              not_right_of_third = positive_not_negative (turned_positive (determinant_swap_first (at v) (at c) (at z)) right);
            }))
      ]

    -- ---- along the fan

    -- p is w or left of the way to it
    abbrev FollowsSecond : ℕ → Type 0
    FollowsSecond p = (p ≡ w) ⊎ IsLeft (at v) (at w) (at p)

    -- so is the third corner of a triangle
    follows_on : (p c : ℕ) → IsAbout tris P v p c → FollowsSecond p → IsLeft (at v) (at w) (at c)
    follows_on p c about (inl e) = subst (λ n. IsLeft (at v) (at n) (at c)) e (tile p c about).left
    follows_on p c about (inr h) = turns_add w p c w_is (second_other p c about) (third_other p c about) h (tile p c about).left

    -- and it is within the angle where it is not left of the way to u
    within : (p : ℕ) → FollowsSecond p → pos 0 ≤ℤ determinant (at v) (at p) (at u) → IsInAngle corners u v w p
    within p follows precedes = record {
      before_last = subst (λ n. pos 0 ≤ℤ n) (determinant_shift (at u) (at v) (at p)) precedes;
      after_second = elim follows [
        | inl e ↦ subst (λ n. pos 0 ≤ℤ determinant (at v) (at w) (at n)) (sym e) (zero_not_negative (determinant_same_last (at v) (at w)))
        | inr h ↦ weak h
      ];
    }

    -- from a side right of z on, a triangle has the side to z
    along : (p : ℕ) → Fan tris P v u p → FollowsSecond p → IsLeft (at v) (at p) (at z) → (c : ℕ) × IsAbout tris P v z c
    along q (last p about) follows beside =
        absurd (not_between p u about beside (within p follows (weak (tile p u about).left))
        (within u (inr (follows_on p u about follows)) (zero_not_negative (determinant_same_last (at v) (at u))))
        (turned_negative (determinant_swap_first (at u) (at v) (at z)) far.before_last))
    along q (next p c about rest) follows beside = elim (sign (determinant (at v) (at c) (at z))) [
      | is_positive more ↦ along c rest (inr (follows_on p c about follows)) more
      | is_zero straight ↦ subst (λ n. (d : ℕ) × IsAbout tris P v n d) (sym (on_last_side p c about beside straight)) (first_about c rest)
      | is_negative right ↦
          absurd (not_between p c about beside (within p follows (weak (left_to_last u_is p (next p c about rest))))
          (within c (inr (follows_on p c about follows)) (weak (left_to_last u_is c rest))) right)
    ]

    -- so one of the fan has it
    pub side_of_fan : Fan tris P v u w → (c : ℕ) × IsAbout tris P v z c
    side_of_fan fan = along w fan (inl refl) far.after_second
