-- Each simple ring that runs counterclockwise has triangles that fit it: a piece is cut at its least vertex, and its parts have
-- triangles by induction.
use Rattle.std.proofs.Common.{◌≡◌, inl, inr, sym, ap, subst, ◌∙◌, ℕ, zero, suc, ◌+◌, ◌<◌, ◌≤◌, List, [], ◌∷◌, ◌++◌, length, arith}
use Rattle.std.proofs.lemmas.Int.{ints}
use Rattle.std.proofs.lemmas.List.{append_assoc, length-append, length-map, map-append}
use Rattle.std.proofs.lemmas.List.FromFn.{length-range_with_len}
use Rattle.std.specs.List.{range_with_len}
use Rattle.plane.specs.Point.{Point, whole}
use Rattle.rings.proofs.Simple.{apart_of_simple}
use Rattle.rings.proofs.Vertices.{HasPoint, Farthest, farthest_or_none, has_cases, has_left, has_number, has_right, vertex_in_range}
use Rattle.rings.specs.Prelude.{IsCounterclockwise, IsSimple, origin, vertex}
use Rattle.rings.specs.Winding.{RunsCounterclockwise}
use Rattle.ring_laws.proofs.Cuts.{IsCounterclockwiseCut}
use Rattle.ring_laws.proofs.Ears.{NoneBefore, least_vertex, none_before_least}
use Rattle.ring_laws.proofs.Simple.{InTriangle, height, runs_round}
use Rattle.ring_laws.proofs.Triangles.{in_or_not}
use Rattle.meshes.proofs.Joins.{both_parts}
use Rattle.meshes.proofs.Sides.{piece_points_all}
use Rattle.meshes.proofs.Triangulations.PieceEars.{ear_fits, farthest_cut, parts_fit, points_are, rest_is_piece, triangle_fits}
use Rattle.meshes.proofs.Triangulations.Pieces.{HasTris, SplitAt, by_ends_from, piece_rotated, split_at, tris_rotated}
use Rattle.meshes.specs.Fits.{piece_points}
use Rattle.meshes.specs.Laws.{TriangulationLaw}
use Rattle.meshes.specs.Piece.{IsPolygonPiece}

-- pieces with fewer vertices than n have triangles
abbrev pub FewerFit : List Point → ℕ → Type 0
FewerFit corners n = (xs : List ℕ) → length xs < n → IsPolygonPiece corners xs → HasTris corners xs

-- ---- from the least vertex on

module _ (corners : List Point) (v w : ℕ) where
  -- cut at the farthest vertex in the triangle
  at_farthest : (ms : List ℕ) (u : ℕ) → IsPolygonPiece corners (v ∷ w ∷ (ms ++ u ∷ []))
      → NoneBefore (vertex corners w ∷ (piece_points corners ms ++ vertex corners u ∷ [])) (vertex corners v) → FewerFit corners (length (v ∷ w ∷ (ms ++ u ∷ [])))
      → Farthest (InTriangle (vertex corners u) (vertex corners v) (vertex corners w)) (height (vertex corners u) (vertex corners w)) (piece_points corners ms)
      → HasTris corners (v ∷ w ∷ (ms ++ u ∷ []))
  at_farthest ms u piece least fewer far =
      let at = λ (i : ℕ). vertex corners i in
      let s = split_at corners ms far.point far.has_point in
      let z : ℕ = s.number in
      let regrouped : v ∷ w ∷ (ms ++ u ∷ []) ≡ both_parts v (w ∷ s.before) z (s.after ++ u ∷ []) =
      ap (λ xs. v ∷ w ∷ xs) (ap (λ xs. xs ++ u ∷ []) s.parts ∙ append_assoc s.before (z ∷ s.after) (u ∷ [])) in
      subst (HasTris corners) (sym regrouped)
      (parts_fit corners v w s.before z s.after u (subst (IsPolygonPiece corners) regrouped piece)
      (subst (λ xs. IsCounterclockwiseCut (piece_points corners xs) (at v ∷ at w ∷ (piece_points corners s.before ++ at z ∷ [])) (at v ∷ at z ∷ (piece_points corners s.after ++ at u ∷ [])) (at v) (at z)) regrouped
      (farthest_cut corners v w ms u piece least far s))
      (subst (λ xs. FewerFit corners (length xs)) regrouped fewer))

  -- where no vertex is in it, cut off the triangle
  at_ear : (ms : List ℕ) (u : ℕ) → IsPolygonPiece corners (v ∷ w ∷ (ms ++ u ∷ []))
      → NoneBefore (vertex corners w ∷ (piece_points corners ms ++ vertex corners u ∷ [])) (vertex corners v) → FewerFit corners (length (v ∷ w ∷ (ms ++ u ∷ [])))
      → ((p : Point) → HasPoint (piece_points corners ms) p → ¬ InTriangle (vertex corners u) (vertex corners v) (vertex corners w) p)
      → HasTris corners (v ∷ w ∷ (ms ++ u ∷ []))
  at_ear [] u piece least fewer none = (record { a = u; b = v; c = w } ∷ [], triangle_fits corners v w u piece least)
  at_ear (m ∷ ms) u piece least fewer none =
      let some : 0 < length (m ∷ ms) = omega arith in
      let (ts, fit) = fewer (w ∷ (m ∷ ms ++ u ∷ [])) (omega arith) (rest_is_piece corners v w (m ∷ ms) u piece least some none) in
      (record { a = u; b = v; c = w } ∷ ts, ear_fits corners v w (m ∷ ms) u piece least some none ts fit)

  -- so a piece whose first vertex is its least has triangles
  from_least : (ms : List ℕ) (u : ℕ) → IsPolygonPiece corners (v ∷ w ∷ (ms ++ u ∷ [])) → NoneBefore (piece_points corners (v ∷ w ∷ (ms ++ u ∷ []))) (vertex corners v)
      → FewerFit corners (length (v ∷ w ∷ (ms ++ u ∷ []))) → HasTris corners (v ∷ w ∷ (ms ++ u ∷ []))
  from_least ms u piece least fewer =
      let U = vertex corners u in
      let V = vertex corners v in
      let W = vertex corners w in
      let none_before : NoneBefore (W ∷ (piece_points corners ms ++ U ∷ [])) V =
      λ p has. least p (subst (λ rs. HasPoint rs p) (sym (points_are corners v w ms u)) (inr has)) in
      elim (farthest_or_none (InTriangle U V W) (λ p. in_or_not U V W (whole p)) (height U W) (piece_points corners ms)) [
        | inl none ↦ at_ear ms u piece none_before fewer none
        | inr far ↦ at_farthest ms u piece none_before fewer far
      ]

-- ---- any piece

module _ (corners : List Point) where
  -- split at its least vertex
  split_at_least : (xs : List ℕ) → IsPolygonPiece corners xs → (p : Point) × NoneBefore (piece_points corners xs) p × SplitAt corners xs p
  split_at_least xs piece =
      let ring : List Point = piece_points corners xs in
      let (i, within, least) = least_vertex ring (omega (arith, piece.some, length-map xs (λ k. vertex corners k))) in
      let has = subst (HasPoint ring) (sym (vertex_in_range ring i origin within)) (has_number ring i origin within) in
      (vertex ring i, none_before_least ring i least, split_at corners xs (vertex ring i) has)

  -- a piece in two parts, with its least vertex the first of the second
  rotated : (cs : List ℕ) (v : ℕ) (ds : List ℕ) → IsPolygonPiece corners (cs ++ v ∷ ds) → NoneBefore (piece_points corners (cs ++ v ∷ ds)) (vertex corners v)
      → FewerFit corners (length (cs ++ v ∷ ds)) → HasTris corners (cs ++ v ∷ ds)
  rotated cs v ds piece least fewer =
      let size : length (v ∷ (ds ++ cs)) ≡ length (cs ++ v ∷ ds) = omega (arith, length-append cs (v ∷ ds), length-append ds cs) in
      let at = λ (i : ℕ). vertex corners i in
      tris_rotated corners cs (v ∷ ds)
      (by_ends_from (λ xs. IsPolygonPiece corners xs → NoneBefore (piece_points corners xs) (vertex corners v) → FewerFit corners (length xs) → HasTris corners xs) v
      (λ w ms u. from_least corners v w ms u) (ds ++ cs) (omega (arith, piece.some, size)) (piece_rotated corners cs (v ∷ ds) piece)
      (λ p has. least p (back p has)) (subst (FewerFit corners) (sym size) fewer))
    where
      back : (p : Point) → HasPoint (piece_points corners ((v ∷ ds) ++ cs)) p → HasPoint (piece_points corners (cs ++ v ∷ ds)) p
      back p has =
          let at = λ (i : ℕ). vertex corners i in
          subst (λ rs. HasPoint rs p) (sym (map-append at cs (v ∷ ds)))
          (elim (has_cases p (piece_points corners (v ∷ ds)) (piece_points corners cs) (subst (λ rs. HasPoint rs p) (map-append at (v ∷ ds) cs) has)) [
            | inl k ↦ has_right p (piece_points corners cs) (piece_points corners (v ∷ ds)) k
            | inr k ↦ has_left p (piece_points corners cs) (piece_points corners (v ∷ ds)) k
          ])

  -- a piece has triangles where those with fewer vertices have some
  piece_fits : (xs : List ℕ) → IsPolygonPiece corners xs → FewerFit corners (length xs) → HasTris corners xs
  piece_fits xs piece fewer =
      let (p, least, s) = split_at_least xs piece in
      subst (HasTris corners) (sym s.parts)
      (rotated s.before s.number s.after (subst (IsPolygonPiece corners) s.parts piece)
      (subst (λ ys. NoneBefore (piece_points corners ys) (vertex corners s.number)) s.parts (subst (NoneBefore (piece_points corners xs)) (sym s.is_point) least))
      (subst (λ ys. FewerFit corners (length ys)) s.parts fewer))

  -- so all pieces have some, by induction
  pub all_fit : (n : ℕ) → FewerFit corners n
  all_fit zero xs less piece = absurd (omega (arith, less))
  all_fit (suc n) xs less piece = piece_fits xs piece (λ ys shorter. all_fit n ys (omega arith))

-- ---- the ring

-- a simple ring with a positive area runs counterclockwise
pub runs : (ring : List Point) → 3 ≤ length ring → IsSimple ring → IsCounterclockwise ring → RunsCounterclockwise ring
runs ring some simple way = elim (runs_round ring some (apart_of_simple ring simple)) [
  | inl h ↦ h
  | inr h ↦ absurd (omega (arith, ints, way, h.area))
]

-- all its vertices are a piece
pub ring_is_piece : (ring : List Point) → 3 ≤ length ring → IsSimple ring → IsCounterclockwise ring → IsPolygonPiece ring (range_with_len 0 (length ring))
ring_is_piece ring some simple way = record {
  some = omega (arith, length-range_with_len 0 (length ring));
  simple = subst IsSimple (sym (piece_points_all ring)) simple;
  counterclockwise = subst RunsCounterclockwise (sym (piece_points_all ring)) (runs ring some simple way);
}

-- the law of triangulations
pub triangulation : TriangulationLaw
triangulation ring some simple way =
    let piece = ring_is_piece ring some simple way in
    all_fit ring (length (range_with_len 0 (length ring)) + 1) (range_with_len 0 (length ring)) (omega arith) piece
