-- A piece whose first vertex is its least is cut at the farthest vertex in the triangle there.
-- A piece whose first vertex is its least, with no vertex in the triangle there: the triangle is cut off.
use Rattle.std.proofs.Common.{◌≡◌, sym, ap, subst, ◌∙◌, ℕ, ◌<◌, List, [], ◌∷◌, ◌++◌, length, arith, inl, inr}
use Rattle.std.proofs.lemmas.List.{length-append, map-append, length-map}
use Rattle.plane.proofs.Segments.{on_reversed}
use Rattle.plane.specs.Prelude.{IsLeft, Point, whole}
use Rattle.rings.proofs.Inside.{in_rotated}
use Rattle.rings.proofs.Vertices.{Farthest, HasPoint}
use Rattle.rings.specs.Prelude.{IsSimple, vertex}
use Rattle.rings.specs.Winding.{RunsCounterclockwise}
use Rattle.ring_laws.proofs.Cuts.{IsCounterclockwiseCut, farthest_cut_runs, least_turn, ear_cut_runs}
use Rattle.ring_laws.proofs.Ears.{NoneBefore}
use Rattle.ring_laws.proofs.Simple.{InTriangle, height}
use Rattle.meshes.proofs.Joins.{IsCut, both_parts, first_part, second_part, fits_joined, fits_ear, fits_rotated, same_rotated}
use Rattle.meshes.proofs.Sides.{fits_triangle}
use Rattle.meshes.proofs.Triangulations.Pieces.{HasTris, SplitAt}
use Rattle.meshes.specs.Prelude.{FitsPiece, piece_points}
use Rattle.meshes.specs.declared.tri.Tri.{Tri}
use Rattle.meshes.specs.Piece.{IsPolygonPiece}

-- ---- two parts

module _ (corners : List Point) (v w : ℕ) (cs : List ℕ) (z : ℕ) (ds : List ℕ) (u : ℕ) where
  -- the parts of the piece that is cut from v to z, as points
  abbrev pub CutsPoints : Point → Type 0
  CutsPoints p =
      IsCounterclockwiseCut (piece_points corners (both_parts v (w ∷ cs) z (ds ++ u ∷ [])))
      (vertex corners v ∷ vertex corners w ∷ (piece_points corners cs ++ p ∷ [])) (vertex corners v ∷ p ∷ (piece_points corners ds ++ vertex corners u ∷ []))
      (vertex corners v) p

  -- as pieces
  parts_cut : CutsPoints (vertex corners z)
      → IsCounterclockwiseCut (piece_points corners (both_parts v (w ∷ cs) z (ds ++ u ∷ []))) (piece_points corners (first_part v (w ∷ cs) z))
      (piece_points corners (second_part v z (ds ++ u ∷ []))) (vertex corners v) (vertex corners z)
  parts_cut cut =
      let at = λ (i : ℕ). vertex corners i in
      let ring : List Point = piece_points corners (both_parts v (w ∷ cs) z (ds ++ u ∷ [])) in
      subst (λ rs. IsCounterclockwiseCut ring (at v ∷ at w ∷ rs) (piece_points corners (second_part v z (ds ++ u ∷ []))) (at v) (at z)) (sym (map-append at cs (z ∷ [])))
      (subst (λ rs. IsCounterclockwiseCut ring (at v ∷ at w ∷ (piece_points corners cs ++ at z ∷ [])) (at v ∷ at z ∷ rs) (at v) (at z)) (sym (map-append at ds (u ∷ []))) cut)

  module _ (piece : IsPolygonPiece corners (both_parts v (w ∷ cs) z (ds ++ u ∷ []))) (cut : CutsPoints (vertex corners z)) where
    -- each part is a piece
    pub first_is_piece : IsPolygonPiece corners (first_part v (w ∷ cs) z)
    first_is_piece =
        let parts = parts_cut cut in
        record { some = omega (arith, length-append cs (z ∷ [])); simple = parts.in_two.first_simple; counterclockwise = parts.first_runs }

    pub second_is_piece : IsPolygonPiece corners (second_part v z (ds ++ u ∷ []))
    second_is_piece =
        let parts = parts_cut cut in
        record { some = omega (arith, length-append ds (u ∷ [])); simple = parts.in_two.second_simple; counterclockwise = parts.second_runs }

    -- triangles that fit the parts fit the piece,
    pub both_fit : (ts us : List Tri) → FitsPiece corners (first_part v (w ∷ cs) z) ts → FitsPiece corners (second_part v z (ds ++ u ∷ [])) us
        → FitsPiece corners (both_parts v (w ∷ cs) z (ds ++ u ∷ [])) (ts ++ us)
    both_fit ts us =
        let in_two = (parts_cut cut).in_two in
        let is_cut : IsCut corners v (w ∷ cs) z (ds ++ u ∷ []) = record { simple = piece.simple; inside = in_two.covers; common = in_two.common } in
        fits_joined corners v (w ∷ cs) z (ds ++ u ∷ []) ts us is_cut

    -- so it has some where pieces with fewer vertices have
    pub parts_fit : ((xs : List ℕ) → length xs < length (both_parts v (w ∷ cs) z (ds ++ u ∷ [])) → IsPolygonPiece corners xs → HasTris corners xs)
        → HasTris corners (both_parts v (w ∷ cs) z (ds ++ u ∷ []))
    parts_fit fewer =
        let whole_length = length-append cs (z ∷ (ds ++ u ∷ [])) in
        let (ts, fit) = fewer (first_part v (w ∷ cs) z) (omega (arith, whole_length, length-append cs (z ∷ []), length-append ds (u ∷ []))) first_is_piece in
        let (us, fit_too) = fewer (second_part v z (ds ++ u ∷ [])) (omega (arith, whole_length)) second_is_piece in
        (ts ++ us, both_fit ts us fit fit_too)

-- ---- at the first vertex

module _ (corners : List Point) (v w : ℕ) (ms : List ℕ) (u : ℕ) where
  -- the points of the piece
  pub points_are : piece_points corners (v ∷ w ∷ (ms ++ u ∷ [])) ≡ vertex corners v ∷ vertex corners w ∷ (piece_points corners ms ++ vertex corners u ∷ [])
  points_are = ap (λ ps. vertex corners v ∷ vertex corners w ∷ ps) (map-append (λ i. vertex corners i) ms (u ∷ []))

  module _ (piece : IsPolygonPiece corners (v ∷ w ∷ (ms ++ u ∷ [])))
      (least : NoneBefore (vertex corners w ∷ (piece_points corners ms ++ vertex corners u ∷ [])) (vertex corners v)) where
    -- they are simple,
    pub ends_simple : IsSimple (vertex corners v ∷ vertex corners w ∷ (piece_points corners ms ++ vertex corners u ∷ []))
    ends_simple = subst IsSimple points_are piece.simple

    -- run counterclockwise,
    pub ends_run : RunsCounterclockwise (vertex corners v ∷ vertex corners w ∷ (piece_points corners ms ++ vertex corners u ∷ []))
    ends_run = subst RunsCounterclockwise points_are piece.counterclockwise

    -- and turn left at the first
    pub first_left : IsLeft (whole (vertex corners u)) (whole (vertex corners v)) (whole (vertex corners w))
    first_left = least_turn (vertex corners v) (vertex corners w) (piece_points corners ms) (vertex corners u) ends_simple ends_run least

    -- a farthest vertex in the triangle there cuts the piece
    pub farthest_cut : (far : Farthest (InTriangle (vertex corners u) (vertex corners v) (vertex corners w)) (height (vertex corners u) (vertex corners w)) (piece_points corners ms))
        → (s : SplitAt corners ms far.point)
        → IsCounterclockwiseCut (piece_points corners (v ∷ w ∷ (ms ++ u ∷ []))) (vertex corners v ∷ vertex corners w ∷ (piece_points corners s.before ++ vertex corners s.number ∷ []))
        (vertex corners v ∷ vertex corners s.number ∷ (piece_points corners s.after ++ vertex corners u ∷ [])) (vertex corners v) (vertex corners s.number)
    farthest_cut far s =
        let at = λ (i : ℕ). vertex corners i in
        let cs : List Point = piece_points corners s.before in
        let ds : List Point = piece_points corners s.after in
        let parts : piece_points corners ms ≡ cs ++ far.point ∷ ds =
        ap (piece_points corners) s.parts ∙ map-append at s.before (s.number ∷ s.after) ∙ ap (λ p. cs ++ p ∷ ds) s.is_point in
        subst (λ p. IsCounterclockwiseCut (piece_points corners (v ∷ w ∷ (ms ++ u ∷ []))) (at v ∷ at w ∷ (cs ++ p ∷ [])) (at v ∷ p ∷ (ds ++ at u ∷ [])) (at v) p) (sym s.is_point)
        (subst (λ rs. IsCounterclockwiseCut rs (at v ∷ at w ∷ (cs ++ far.point ∷ [])) (at v ∷ far.point ∷ (ds ++ at u ∷ [])) (at v) far.point) (sym points_are)
        (farthest_cut_runs (at v) (at w) (piece_points corners ms) (at u) ends_simple ends_run least far cs ds parts))

-- a triangle fits a piece of three vertices
pub triangle_fits : (corners : List Point) (v w u : ℕ) → IsPolygonPiece corners (v ∷ w ∷ u ∷ []) → NoneBefore (vertex corners w ∷ vertex corners u ∷ []) (vertex corners v)
    → FitsPiece corners (v ∷ w ∷ u ∷ []) (record { a = u; b = v; c = w } ∷ [])
triangle_fits corners v w u piece least =
    fits_rotated corners (u ∷ []) (v ∷ w ∷ []) (record { a = u; b = v; c = w } ∷ []) (fits_triangle corners u v w (first_left corners v w [] u piece least))

module _ (corners : List Point) (v w : ℕ) (ms : List ℕ) (u : ℕ) (piece : IsPolygonPiece corners (v ∷ w ∷ (ms ++ u ∷ [])))
    (least : NoneBefore (vertex corners w ∷ (piece_points corners ms ++ vertex corners u ∷ [])) (vertex corners v)) (some : 0 < length ms)
    (none : (p : Point) → HasPoint (piece_points corners ms) p → ¬ InTriangle (vertex corners u) (vertex corners v) (vertex corners w) p) where
  -- the side across from the first vertex cuts the triangle off
  base_cut : IsCounterclockwiseCut (piece_points corners (v ∷ w ∷ (ms ++ u ∷ []))) (piece_points corners (w ∷ (ms ++ u ∷ [])))
      (piece_points corners (w ∷ u ∷ v ∷ [])) (vertex corners w) (vertex corners u)
  base_cut =
      let ps : List Point = piece_points corners ms in
      subst (λ rs. IsCounterclockwiseCut (vertex corners v ∷ vertex corners w ∷ rs) (vertex corners w ∷ rs) (piece_points corners (w ∷ u ∷ v ∷ [])) (vertex corners w) (vertex corners u))
      (sym (map-append (λ i. vertex corners i) ms (u ∷ [])))
      (ear_cut_runs (vertex corners v) (vertex corners w) ps (vertex corners u) (ends_simple corners v w ms u piece least) (ends_run corners v w ms u piece least)
      least (omega (arith, some, length-map ms (λ i. vertex corners i))) none)

  -- the piece without the first vertex is a piece
  pub rest_is_piece : IsPolygonPiece corners (w ∷ (ms ++ u ∷ []))
  rest_is_piece = record {
    some = omega (arith, some, length-append ms (u ∷ []));
    simple = base_cut.in_two.first_simple;
    counterclockwise = base_cut.first_runs;
  }

  -- the same cut, read from the vertex before the first
  cut_before : IsCut corners u (v ∷ []) w ms
  cut_before =
      let whole_same = same_rotated corners (v ∷ w ∷ ms) (u ∷ []) piece.simple in
      let rest_same = same_rotated corners (w ∷ ms) (u ∷ []) rest_is_piece.simple in
      let there = in_rotated (vertex corners w ∷ []) (vertex corners u ∷ vertex corners v ∷ []) in
      let back = in_rotated (vertex corners u ∷ vertex corners v ∷ []) (vertex corners w ∷ []) in
      record {
        simple = whole_same.simple;
        inside = λ p at. (
          λ h. elim ((base_cut.in_two.covers p at).0 ((whole_same.points p at).1 h)) [
            | inl in_rest ↦ inr ((rest_same.points p at).0 in_rest)
            | inr in_tri ↦ inl (there p in_tri)
          ],
          λ h. (whole_same.points p at).0 ((base_cut.in_two.covers p at).1 (elim h [
            | inl in_tri ↦ inr (back p in_tri)
            | inr in_rest ↦ inl ((rest_same.points p at).1 in_rest)
          ])),
        );
        common = λ p at in_tri in_rest.
            on_reversed p (whole (vertex corners w)) (whole (vertex corners u))
            (base_cut.in_two.common p at ((rest_same.points p at).1 in_rest) (back p in_tri));
      }

  -- so with the triangle what fits the rest fits the piece
  pub ear_fits : (ts : List Tri) → FitsPiece corners (w ∷ (ms ++ u ∷ [])) ts → FitsPiece corners (v ∷ w ∷ (ms ++ u ∷ [])) (record { a = u; b = v; c = w } ∷ ts)
  ear_fits ts = fits_ear corners u v w ms ts (first_left corners v w ms u piece least) cut_before
