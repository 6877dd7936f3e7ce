-- A piece with vertices in the triangle at its first vertex: the diagonal to the farthest of them makes two pieces.
use Rattle.std.proofs.Common.{◌≡◌, inl, refl, sym, ap, subst, ◌∙◌, ℕ, ◌+◌, ◌<◌, ◌≤ℤ◌, List, [], ◌∷◌, ◌++◌, length, get_or, take, drop, arith}
use Rattle.std.proofs.lemmas.List.{append_assoc, drop_at, get_or_at, length-append, map-append, take_at}
use Rattle.plane.specs.Point.{Point}
use Rattle.rings.proofs.Vertices.{HasPoint, Farthest, has_right}
use Rattle.rings.specs.Ring.{vertex}
use Rattle.ring_laws.proofs.Cuts.{IsCounterclockwiseCut}
use Rattle.ring_laws.proofs.Simple.{InTriangle, height}
use Rattle.meshes.proofs.Joins.{both_parts, contains_first_part, contains_second_part, first_part, second_part}
use Rattle.meshes.proofs.Triangulations.{CutsPoints, SplitAt, both_fit, farthest_cut, first_is_piece, second_is_piece}
use Rattle.meshes.specs.Fits.{piece_points}
use Rattle.cut_tri.proofs.CornerPlaces.{height_is, in_corner_from, in_triangle_from, none_before, place_of_point}
use Rattle.cut_tri.proofs.CutSets.{cut_with_parts}
use Rattle.cut_tri.proofs.DistinctCorners.{simple_distinct}
use Rattle.cut_tri.proofs.Members.{members_of_numbers, numbers_of_members}
use Rattle.cut_tri.proofs.Readings.{read_from_first}
use Rattle.cut_tri.proofs.Shapes.{by_split}
use Rattle.cut_tri.specs.Cut.{IsFarthest, height_at}
use Rattle.cut_tri.specs.Cutting.{AreDiagonalPieces, IsCutInto}
use Rattle.cut_tri.specs.Piece.{IsLeastBelow, IsPiece}

-- ---- the farthest vertex, as a point

module _ (corners : List Point) (v w : ℕ) (ms : List ℕ) (u : ℕ) (i : ℕ) (within : i < length ms)
    (far : IsFarthest corners (v ∷ w ∷ (ms ++ u ∷ [])) (i + 2)) where
  -- no vertex in the triangle is higher
  none_higher : (q : Point) → HasPoint (piece_points corners ms) q → InTriangle (vertex corners u) (vertex corners v) (vertex corners w) q
      → height (vertex corners u) (vertex corners w) q ≤ℤ height (vertex corners u) (vertex corners w) (vertex corners (get_or ms i 0))
  none_higher q has inside =
      let (k, below, is) = place_of_point corners ms q has in
      let in_corner = in_corner_from corners v w ms u k below
      (subst (InTriangle (vertex corners u) (vertex corners v) (vertex corners w)) (sym is) inside) in
      subst (λ (p : Point). height (vertex corners u) (vertex corners w) p ≤ℤ height (vertex corners u) (vertex corners w) (vertex corners (get_or ms i 0))) is
      (subst (λ a. a ≤ℤ height (vertex corners u) (vertex corners w) (vertex corners (get_or ms i 0))) (height_is corners v w ms u k below)
      (subst (λ a. height_at corners (v ∷ w ∷ (ms ++ u ∷ [])) (k + 2) ≤ℤ a) (height_is corners v w ms u i within) (far.farthest (k + 2) in_corner)))

-- ---- the diagonal to it

module _ (corners : List Point) (v w : ℕ) (cs : List ℕ) (z : ℕ) (ds : List ℕ) (u : ℕ) where
  -- the vertices after the second but the last
  abbrev pub others : List ℕ
  others = cs ++ z ∷ ds

  -- the piece, regrouped
  pub regrouped : v ∷ w ∷ (others ++ u ∷ []) ≡ both_parts v (w ∷ cs) z (ds ++ u ∷ [])
  regrouped = ap (λ xs. v ∷ w ∷ xs) (append_assoc cs (z ∷ ds) (u ∷ []))

  -- z is one of them
  place_within : length cs < length others
  place_within = omega (arith, length-append cs (z ∷ ds))

  pub z_is : get_or others (length cs) 0 ≡ z
  z_is = get_or_at cs z ds 0 (length cs) refl

  -- the places up to that of z, and those from there on
  pub first_is : take (length cs + 2 + 1) (both_parts v (w ∷ cs) z (ds ++ u ∷ [])) ≡ first_part v (w ∷ cs) z
  first_is =
      ap (λ ys. take (length cs + 2 + 1) (v ∷ w ∷ ys)) (sym (append_assoc cs (z ∷ []) (ds ++ u ∷ [])))
      ∙ take_at (v ∷ w ∷ (cs ++ z ∷ [])) (ds ++ u ∷ []) (length cs + 2 + 1) (omega (arith, length-append cs (z ∷ [])))

  pub second_is : drop (length cs + 2) (both_parts v (w ∷ cs) z (ds ++ u ∷ [])) ≡ z ∷ (ds ++ u ∷ [])
  second_is = drop_at (v ∷ w ∷ cs) (z ∷ (ds ++ u ∷ [])) (length cs + 2) (omega arith)

  -- their points
  others_points : piece_points corners others ≡ piece_points corners cs ++ vertex corners z ∷ piece_points corners ds
  others_points = map-append (λ i. vertex corners i) cs (z ∷ ds)

  module _ (piece : IsPiece corners (v ∷ w ∷ (others ++ u ∷ [])))
      (least : IsLeastBelow corners (v ∷ w ∷ (others ++ u ∷ [])) (length (v ∷ w ∷ (others ++ u ∷ []))) 0)
      (far : IsFarthest corners (v ∷ w ∷ (others ++ u ∷ [])) (length cs + 2)) where
    -- it is the farthest in the triangle
    abbrev farthest_point : Farthest (InTriangle (vertex corners u) (vertex corners v) (vertex corners w)) (height (vertex corners u) (vertex corners w)) (piece_points corners others)
    farthest_point = record {
      point = vertex corners z;
      has_point = subst (λ rs. HasPoint rs (vertex corners z)) (sym others_points) (has_right (vertex corners z) (piece_points corners cs) (vertex corners z ∷ piece_points corners ds) (inl refl));
      chosen = subst (λ k. InTriangle (vertex corners u) (vertex corners v) (vertex corners w) (vertex corners k)) z_is
          (in_triangle_from corners v w others u (length cs) place_within far.in_corner);
      farthest = λ q has inside.
          subst (λ k. height (vertex corners u) (vertex corners w) q ≤ℤ height (vertex corners u) (vertex corners w) (vertex corners k)) z_is
          (none_higher corners v w others u (length cs) place_within far q has inside);
    }

    -- so the diagonal to it cuts the points in two
    points_cut : CutsPoints corners v w cs z ds u (vertex corners z)
    points_cut =
        let at_z : SplitAt corners others (vertex corners z) = record { before = cs; number = z; after = ds; parts = refl; is_point = refl } in
        subst (λ xs. IsCounterclockwiseCut (piece_points corners xs) (vertex corners v ∷ vertex corners w ∷ (piece_points corners cs ++ vertex corners z ∷ []))
        (vertex corners v ∷ vertex corners z ∷ (piece_points corners ds ++ vertex corners u ∷ [])) (vertex corners v) (vertex corners z)) regrouped
        (farthest_cut corners v w others u piece.polygon (none_before corners v w others u least) farthest_point at_z)

    -- and the piece in two pieces
    are_parts : AreDiagonalPieces corners (both_parts v (w ∷ cs) z (ds ++ u ∷ [])) (first_part v (w ∷ cs) z) (second_part v z (ds ++ u ∷ []))
    are_parts =
        let whole_piece = subst (IsPiece corners) regrouped piece in
        let polygon = whole_piece.polygon in
        let numbers = members_of_numbers (length corners) (both_parts v (w ∷ cs) z (ds ++ u ∷ [])) whole_piece.numbers in
        record {
          first_is_piece = record {
            polygon = first_is_piece corners v w cs z ds u polygon points_cut;
            numbers = numbers_of_members (length corners) (first_part v (w ∷ cs) z) (λ i h. numbers i (contains_first_part v (w ∷ cs) z (ds ++ u ∷ []) i h));
          };
          second_is_piece = record {
            polygon = second_is_piece corners v w cs z ds u polygon points_cut;
            numbers = numbers_of_members (length corners) (second_part v z (ds ++ u ∷ [])) (λ i h. numbers i (contains_second_part v (w ∷ cs) z (ds ++ u ∷ []) i h));
          };
          lengths = omega (arith, length-append cs (z ∷ []), length-append cs (z ∷ (ds ++ u ∷ [])));
          fits = both_fit corners v w cs z ds u polygon points_cut;
          cut = λ ts us first_cut second_cut.
              let xs = both_parts v (w ∷ cs) z (ds ++ u ∷ []) in
              cut_with_parts corners xs (simple_distinct corners xs polygon.simple)
              (read_from_first corners xs (omega arith) (subst (λ ys. IsLeastBelow corners ys (length ys) 0) regrouped least)) (length cs + 2)
              (subst (λ ys. IsFarthest corners ys (length cs + 2)) regrouped far) ts us
              (subst (λ ys. IsCutInto corners ys ts) (sym first_is) first_cut)
              (subst (λ ys. IsCutInto corners (v ∷ ys) us) (sym second_is) second_cut);
        }

-- ---- the parts of any piece

module _ (corners : List Point) where
  -- what the code makes of the piece is its parts
  parts_at : (v w : ℕ) (cs : List ℕ) (z : ℕ) (ds : List ℕ) (u : ℕ) → IsPiece corners (v ∷ (w ∷ cs ++ z ∷ (ds ++ u ∷ [])))
      → IsLeastBelow corners (v ∷ (w ∷ cs ++ z ∷ (ds ++ u ∷ []))) (length (v ∷ (w ∷ cs ++ z ∷ (ds ++ u ∷ [])))) 0
      → IsFarthest corners (v ∷ (w ∷ cs ++ z ∷ (ds ++ u ∷ []))) (length cs + 2)
      → AreDiagonalPieces corners (v ∷ (w ∷ cs ++ z ∷ (ds ++ u ∷ []))) (take (length cs + 2 + 1) (v ∷ (w ∷ cs ++ z ∷ (ds ++ u ∷ []))))
      (v ∷ drop (length cs + 2) (v ∷ (w ∷ cs ++ z ∷ (ds ++ u ∷ []))))
  parts_at v w cs z ds u piece least far =
      let xs = both_parts v (w ∷ cs) z (ds ++ u ∷ []) in
      let back = sym (regrouped corners v w cs z ds u) in
      subst (λ ys. AreDiagonalPieces corners xs ys (v ∷ drop (length cs + 2) xs)) (sym (first_is corners v w cs z ds u))
      (subst (λ ys. AreDiagonalPieces corners xs (first_part v (w ∷ cs) z) (v ∷ ys)) (sym (second_is corners v w cs z ds u))
      (are_parts corners v w cs z ds u (subst (IsPiece corners) back piece)
      (subst (λ ys. IsLeastBelow corners ys (length ys) 0) back least)
      (subst (λ ys. IsFarthest corners ys (length cs + 2)) back far)))

  -- so it is at any place of a farthest vertex
  pub parts_cut : (xs : List ℕ) (place : ℕ) → IsPiece corners xs → IsLeastBelow corners xs (length xs) 0 → IsFarthest corners xs place
      → AreDiagonalPieces corners xs (take (place + 1) xs) (get_or xs 0 0 ∷ drop place xs)
  parts_cut xs place piece least far =
      by_split (λ xs place. IsPiece corners xs → IsLeastBelow corners xs (length xs) 0 → IsFarthest corners xs place
      → AreDiagonalPieces corners xs (take (place + 1) xs) (get_or xs 0 0 ∷ drop place xs))
      parts_at xs place far.in_corner.after_second far.in_corner.before_last piece least far
