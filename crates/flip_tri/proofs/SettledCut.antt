-- Where no diagonal of a mesh is to be flipped, each triangle of the cut is one of the mesh.
use Rattle.std.proofs.Common.{◌≡◌, inl, refl, sym, ap, subst, ◌∙◌, ℕ, ◌+◌, ◌<◌, pos, ◌<ℤ◌, List, [], ◌∷◌, ◌++◌, length, get_or}
use Rattle.std.proofs.Common.{arith, drop, take}
use Rattle.std.proofs.lemmas.List.{length-append, take-append-drop}
use Rattle.std.specs.List.{Contains}
use Rattle.plane.proofs.Order.{after, before, compare_points, equal}
use Rattle.plane.proofs.Turns.{determinant_shift_back}
use Rattle.plane.specs.Order.{IsBefore}
use Rattle.plane.specs.Point.{Point, whole}
use Rattle.plane.specs.Turn.{IsLeft}
use Rattle.rings.specs.Ring.{vertex}
use Rattle.meshes.proofs.Boundaries.{LiesInPart}
use Rattle.meshes.proofs.Joins.{both_parts, contains_first, place_of}
use Rattle.meshes.proofs.Parts.{one_vertex}
use Rattle.meshes.proofs.Sides.{edge_of_step}
use Rattle.meshes.specs.Side.{HasSide, tri_at}
use Rattle.meshes.specs.declared.tri.Tri.{Tri}
use Rattle.cut_tri.proofs.DiagonalCuts.{first_is, others, parts_cut, regrouped, second_is, z_is}
use Rattle.cut_tri.proofs.EarCuts.{ear_cut}
use Rattle.cut_tri.proofs.RotatedCuts.{piece_from}
use Rattle.cut_tri.proofs.Shapes.{by_ends, by_split, ends_length, first_tri_is, middle_is}
use Rattle.cut_tri.proofs.TriangleLists.{round_of_round}
use Rattle.cut_tri.specs.Cut.{IsCutTriangle, IsEmptyCorner, IsFarthest, IsReadFromLeast}
use Rattle.cut_tri.specs.Cut.IsCutTriangle.{first, rest, second, triangle}
use Rattle.cut_tri.specs.Piece.{IsLeastBelow, IsPiece, tri_at_first}
use Rattle.cut_tri.specs.Triangles.{HasTriangle}
use Rattle.flip_tri.proofs.DirectedTilings.{IsDirectedTiling, directed_rotated, first_tiles, not_next, rest_tiles, second_tiles}
use Rattle.flip_tri.proofs.FarthestSides.{farthest_side}
use Rattle.flip_tri.proofs.Fans.{fan_at_first, left_of_fan, round_from_second}
use Rattle.flip_tri.proofs.SettledFans.{triangle_at_first}
use Rattle.flip_tri.specs.Fan.{Fan, IsAbout}
use Rattle.flip_tri.specs.Flip.{HasNoFlips}

-- some triangle of the list has the corners of t round it
abbrev pub HasThis : List Tri → Tri → Type 0
HasThis tris t = HasTriangle tris t.a t.b t.c

module _ (corners : List Point) (tris : List Tri) where
  -- ---- a piece whose first vertex is its least

  module _ (v w : ℕ) (ms : List ℕ) (u : ℕ) (P : ℕ → Type 0) (is : IsDirectedTiling corners (v ∷ w ∷ (ms ++ u ∷ [])) tris P)
      (least : IsLeastBelow corners (v ∷ w ∷ (ms ++ u ∷ [])) (length (v ∷ w ∷ (ms ++ u ∷ []))) 0) where
    -- the other vertices come after the first
    later : (i : ℕ) → Contains (v ∷ w ∷ (ms ++ u ∷ [])) i → ¬ (i ≡ v) → IsBefore (vertex corners v) (vertex corners i)
    later i has differ = elim (compare_points (vertex corners v) (vertex corners i)) [
      | before h ↦ h
      | equal e ↦
          absurd (differ (sym (one_vertex corners (v ∷ w ∷ (ms ++ u ∷ [])) tris is.tiling.cover v i (contains_first v (w ∷ (ms ++ u ∷ []))) has e)))
      | after h ↦
          let (k, within, at) = place_of (v ∷ w ∷ (ms ++ u ∷ [])) i has in
          absurd (least k within (subst (λ (n : ℕ). IsBefore (vertex corners n) (vertex corners v)) (sym at) h))
    ]

    -- the triangles there are a fan
    fan : Fan tris P v u w
    fan =
        let first_edge = edge_of_step v (w ∷ (ms ++ u ∷ [])) v w (inl (refl, refl)) in
        let (k, one) = is.tiling.edges v w first_edge in
        fan_at_first corners tris v w ms u P is.tiling later k one.in_part (is.directed v w k first_edge one.in_part one.has)

    -- the piece turns left there
    first_left : IsLeft (whole (vertex corners u)) (whole (vertex corners v)) (whole (vertex corners w))
    first_left =
        subst (λ d. pos 0 <ℤ d) (sym (determinant_shift_back (whole (vertex corners v)) (whole (vertex corners w)) (whole (vertex corners u))))
        (left_of_fan corners tris v w ms u P is.tiling later w fan (inl refl))

    -- it has a side to the farthest vertex in the corner there
    side_to_farthest : (place : ℕ) → IsFarthest corners (v ∷ w ∷ (ms ++ u ∷ [])) place
        → (c : ℕ) × IsAbout tris P v (get_or (v ∷ w ∷ (ms ++ u ∷ [])) place 0) c
    side_to_farthest = farthest_side corners tris v w ms u P is.tiling later first_left fan

    module _ (settled : HasNoFlips corners tris) (none : IsEmptyCorner corners (v ∷ w ∷ (ms ++ u ∷ []))) where
      -- where the corner is empty, its triangle is one of the fan,
      corner_triangle : IsAbout tris P v w u
      corner_triangle = triangle_at_first corners tris settled v w ms u P is.tiling later none fan

      -- so one of the list,
      has_first : HasThis tris (tri_at_first (v ∷ w ∷ (ms ++ u ∷ [])))
      has_first =
          let t = tri_at tris corner_triangle.tri in
          subst (HasThis tris) (sym (first_tri_is v w ms u)) (
            corner_triangle.tri,
            corner_triangle.in_list,
            round_from_second t w u v (round_from_second t v w u corner_triangle.round),
          )

      -- and the others tile the rest
      rest_is_tiled : 3 < length (v ∷ w ∷ (ms ++ u ∷ [])) → IsDirectedTiling corners (w ∷ (ms ++ u ∷ [])) tris (LiesInPart corners tris P (w ∷ (ms ++ u ∷ [])))
      rest_is_tiled more = rest_tiles corners tris v w ms u P is (omega (arith, more, ends_length v w ms u)) corner_triangle

  -- ---- a piece that is cut from its first vertex

  module _ (P : ℕ → Type 0) where
    -- the triangles that lie in each of its two parts tile the part
    abbrev AreTiled : List ℕ → List ℕ → Type 0
    AreTiled part other =
        IsDirectedTiling corners part tris (LiesInPart corners tris P part) × IsDirectedTiling corners other tris (LiesInPart corners tris P other)

    -- so it is where the second vertex, some others, the farthest one, some others and the last one follow the first,
    parts_tiled_at : (v w : ℕ) (cs : List ℕ) (z : ℕ) (ds : List ℕ) (u : ℕ) → IsDirectedTiling corners (both_parts v (w ∷ cs) z (ds ++ u ∷ [])) tris P
        → IsLeastBelow corners (both_parts v (w ∷ cs) z (ds ++ u ∷ [])) (length (both_parts v (w ∷ cs) z (ds ++ u ∷ []))) 0
        → IsFarthest corners (both_parts v (w ∷ cs) z (ds ++ u ∷ [])) (length cs + 2)
        → AreTiled (take (length cs + 2 + 1) (both_parts v (w ∷ cs) z (ds ++ u ∷ []))) (v ∷ drop (length cs + 2) (both_parts v (w ∷ cs) z (ds ++ u ∷ [])))
    parts_tiled_at v w cs z ds u is least far =
        let xs : List ℕ = both_parts v (w ∷ cs) z (ds ++ u ∷ []) in
        let ms : List ℕ = others corners v w cs z ds u in
        let back = sym (regrouped corners v w cs z ds u) in
        let apart = subst (λ ys. IsDirectedTiling corners ys tris P) back is in
        let least_apart = subst (λ ys. IsLeastBelow corners ys (length ys) 0) back least in
        let within : length cs < length ms = omega (arith, length-append cs (z ∷ ds)) in
        let at_z = middle_is v w ms u (length cs) within ∙ z_is corners v w cs z ds u in
        let (c, about) = side_to_farthest v w ms u P apart least_apart (length cs + 2) (subst (λ ys. IsFarthest corners ys (length cs + 2)) back far) in
        let size : length xs ≡ length cs + length ds + 4 = omega (arith, length-append cs (z ∷ (ds ++ u ∷ [])), length-append ds (u ∷ [])) in
        let inner = not_next corners xs is.tiling.cover.simple 0 (length cs + 2) v z (omega arith) (omega (arith, size)) (λ h. omega (arith, h.1, size)) refl
        (ap (λ ys. get_or ys (length cs + 2) 0) back ∙ at_z) in
        let (l, in_l, two) = is.tiling.inner_sides v z about.tri about.in_part
        (subst (λ (n : ℕ). HasSide (tri_at tris about.tri) v n) at_z about.round.first) inner in
        let after = λ (i : ℕ) (has : Contains xs i). later v w ms u P apart least_apart i (subst (λ ys. Contains ys i) back has) in (
          subst (λ ys. IsDirectedTiling corners ys tris (LiesInPart corners tris P ys)) (sym (first_is corners v w cs z ds u))
              (first_tiles corners tris v w cs z (ds ++ u ∷ []) P is after about.tri l two about.in_part in_l inner),
          subst (λ ys. IsDirectedTiling corners (v ∷ ys) tris (LiesInPart corners tris P (v ∷ ys))) (sym (second_is corners v w cs z ds u))
              (second_tiles corners tris v w cs z (ds ++ u ∷ []) P is after about.tri l two about.in_part in_l inner),
        )

    -- and at any place of a farthest vertex
    parts_tiled : (xs : List ℕ) (place : ℕ) → IsDirectedTiling corners xs tris P → IsLeastBelow corners xs (length xs) 0 → IsFarthest corners xs place
        → AreTiled (take (place + 1) xs) (get_or xs 0 0 ∷ drop place xs)
    parts_tiled xs place is least far =
        by_split (λ xs place. IsDirectedTiling corners xs tris P → IsLeastBelow corners xs (length xs) 0 → IsFarthest corners xs place
        → AreTiled (take (place + 1) xs) (get_or xs 0 0 ∷ drop place xs))
        parts_tiled_at xs place far.in_corner.after_second far.in_corner.before_last is least far

    -- ---- a piece of any form

    -- read from its least vertex on it is tiled too
    tiles_read : (piece read : List ℕ) → IsReadFromLeast corners piece read → IsDirectedTiling corners piece tris P → IsDirectedTiling corners read tris P
    tiles_read piece read reading is =
        subst (λ xs. IsDirectedTiling corners xs tris P) (sym reading.turned)
        (directed_rotated corners (take reading.place piece) (drop reading.place piece) tris P
        (subst (λ xs. IsDirectedTiling corners xs tris P) (sym (take-append-drop reading.place piece)) is))

    module _ (settled : HasNoFlips corners tris) where
      -- where the corner at its first vertex is empty, the triangle there is one of the list,
      has_corner : (xs : List ℕ) → IsDirectedTiling corners xs tris P → IsLeastBelow corners xs (length xs) 0
          → IsEmptyCorner corners xs → HasThis tris (tri_at_first xs)
      has_corner xs is least none =
          by_ends (λ xs. IsDirectedTiling corners xs tris P → IsLeastBelow corners xs (length xs) 0
          → IsEmptyCorner corners xs → HasThis tris (tri_at_first xs))
          (λ v w ms u is least none. has_first v w ms u P is least settled none) xs is.tiling.some is least none

      -- and the rest is tiled
      rest_tiled : (xs : List ℕ) → IsDirectedTiling corners xs tris P → IsLeastBelow corners xs (length xs) 0
          → IsEmptyCorner corners xs → 3 < length xs → IsDirectedTiling corners (drop 1 xs) tris (LiesInPart corners tris P (drop 1 xs))
      rest_tiled xs is least none more =
          by_ends (λ xs. IsDirectedTiling corners xs tris P → IsLeastBelow corners xs (length xs) 0
          → IsEmptyCorner corners xs → 3 < length xs → IsDirectedTiling corners (drop 1 xs) tris (LiesInPart corners tris P (drop 1 xs)))
          (λ v w ms u is least none more. rest_is_tiled v w ms u P is least settled none more) xs is.tiling.some is least none more

  -- ---- all cuts

  -- a piece read from its least vertex on is a piece
  read_is_piece : (piece read : List ℕ) → IsReadFromLeast corners piece read → IsPiece corners piece → IsPiece corners read
  read_is_piece piece read reading is = subst (IsPiece corners) (sym reading.turned) (piece_from corners piece reading.place is)

  module _ (settled : HasNoFlips corners tris) (i j k : ℕ) where
    -- each triangle of the cut of a tiled piece is one of the list, by induction on the cuts
    pub cut_within : (piece : List ℕ) → IsPiece corners piece → (P : ℕ → Type 0) → IsDirectedTiling corners piece tris P
        → IsCutTriangle corners i j k piece → HasTriangle tris i j k
    cut_within piece is P tiles (triangle p read reading some empty round) =
        let (l, less, has) = has_corner P settled read (tiles_read P piece read reading tiles) reading.least empty in
        (l, less, round_of_round (tri_at tris l) (tri_at_first read) has i j k round)
    cut_within piece is P tiles (rest p read reading more empty cut) =
        let here = tiles_read P piece read reading tiles in
        let is_ear = ear_cut corners read (read_is_piece piece read reading is) reading.least (omega (arith, more)) (λ n within. empty n) in
        cut_within (drop 1 read) is_ear.rest_is_piece (LiesInPart corners tris P (drop 1 read)) (rest_tiled P settled read here reading.least empty more) cut
    cut_within piece is P tiles (first p read place reading far cut) =
        let tiled = parts_tiled P read place (tiles_read P piece read reading tiles) reading.least far in
        let are_parts = parts_cut corners read place (read_is_piece piece read reading is) reading.least far in
        cut_within (take (place + 1) read) are_parts.first_is_piece (LiesInPart corners tris P (take (place + 1) read)) tiled.0 cut
    cut_within piece is P tiles (second p read place reading far cut) =
        let tiled = parts_tiled P read place (tiles_read P piece read reading tiles) reading.least far in
        let are_parts = parts_cut corners read place (read_is_piece piece read reading is) reading.least far in
        cut_within (get_or read 0 0 ∷ drop place read) are_parts.second_is_piece (LiesInPart corners tris P (get_or read 0 0 ∷ drop place read)) tiled.1 cut
