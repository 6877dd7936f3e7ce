-- The cut rule at a least vertex: the segment that it chooses is a diagonal of the ring.
-- The cut rule at a least vertex with a right turn, from the ring read the other way round.
use Rattle.std.proofs.Common.{◌≡◌, sym, subst, ap, ◌≤◌, List, [], ◌∷◌, ◌++◌, length, arith, inl, inr, ◌<◌, ℤ, reverse}
use Rattle.std.proofs.lemmas.Int.{ints}
use Rattle.std.proofs.lemmas.List.{append_assoc, length-append, length-reverse}
use Rattle.plane.proofs.Turns.{determinant_shift_back, determinant_swap_ends}
use Rattle.plane.specs.Prelude.{IsInTriangle, IsLeft, IsRight, Point, whole}
use Rattle.rings.proofs.Inside.{apart_rotated, has_edge_rotated, apart_turned, turned_corner}
use Rattle.rings.proofs.Vertices.{meet_reversed, HasPoint, Farthest, has_cases, has_in_order, has_left, has_reversed, has_right}
use Rattle.rings.specs.Apart.{IsApartRing}
use Rattle.rings.specs.Edge.{Edge, edge, edges_of, HasEdge}
use Rattle.rings.specs.Winding.{RunsCounterclockwise}
use Rattle.ring_laws.proofs.Diagonals.Diagonals.{cut_is_diagonal, diagonal_backward, diagonal_rotated, diagonal_turned}
use Rattle.ring_laws.proofs.Ears.{apart_without, meets_base, rest_counterclockwise, NoneBefore}
use Rattle.ring_laws.proofs.Simple.{apart_regrouped, farthest_cut, first_runs, ring_regrouped, second_runs, InTriangle, height}
use Rattle.ring_laws.proofs.Simple.{left_turn_law, runs_round}
use Rattle.ring_laws.proofs.Triangles.{triangle_values}
use Rattle.ring_laws.specs.Diagonal.{IsDiagonal}

-- the segment from v to the farthest vertex in the triangle
pub farthest_diagonal : (v w : Point) (ms : List Point) (u : Point) → IsApartRing (v ∷ w ∷ (ms ++ u ∷ []))
    → NoneBefore (w ∷ (ms ++ u ∷ [])) v → IsLeft (whole u) (whole v) (whole w) → (far : Farthest (InTriangle u v w) (height u w) ms)
    → IsDiagonal (v ∷ w ∷ (ms ++ u ∷ [])) v far.point
farthest_diagonal v w ms u apart least left far =
    let z = far.point in
    let (cs, ds, cut) = farthest_cut v w ms u apart left far in
    subst (λ rs. IsDiagonal rs v z) (sym (ring_regrouped v w ms u z cs ds cut.parts))
    (cut_is_diagonal v (w ∷ cs) z (ds ++ u ∷ []) (apart_regrouped v w ms u z cs ds cut apart) cut.meets
    (first_runs v w ms u z cs ds cut apart least (left_turn_law (length cs))).windings
    (second_runs v w ms u z cs ds cut apart least (left_turn_law (length ds))).windings)

module _ (v w m : Point) (ks : List Point) (u : Point) (apart : IsApartRing (v ∷ w ∷ (m ∷ ks ++ u ∷ [])))
    (left : IsLeft (whole u) (whole v) (whole w)) (none : (p : Point) → HasPoint (m ∷ ks) p → ¬ IsInTriangle u v w (whole p))
    (least : NoneBefore (w ∷ (m ∷ ks ++ u ∷ [])) v) where
  -- the ring without v runs counterclockwise,
  rest_runs : RunsCounterclockwise (w ∷ (m ∷ ks ++ u ∷ []))
  rest_runs =
      let some : 3 ≤ length (w ∷ (m ∷ ks ++ u ∷ [])) = omega (arith, length-append ks (u ∷ [])) in
      rest_counterclockwise v w m ks u apart left none least
      (runs_round (w ∷ (m ∷ ks ++ u ∷ [])) some (apart_without v w m ks u apart left none))

  -- so the base is a diagonal
  pub ear_diagonal : IsDiagonal (v ∷ w ∷ (m ∷ ks ++ u ∷ [])) u w
  ear_diagonal =
      let rest : List Point = w ∷ (m ∷ ks ++ u ∷ []) in
      let turned : rest ++ v ∷ [] ≡ w ∷ (m ∷ ks ++ u ∷ v ∷ []) = ap (λ rs. w ∷ rs) (append_assoc (m ∷ ks) (u ∷ []) (v ∷ [])) in
      let meets = λ (e : Edge) (has : HasEdge (edges_of (w ∷ (m ∷ ks ++ u ∷ v ∷ []))) e).
      meet_reversed e (edge u w) (meets_base v w m ks u apart left none e (has_edge_rotated rest (v ∷ []) e (subst (λ rs. HasEdge (edges_of rs) e) (sym turned) has))) in
      let apart_turned = subst IsApartRing turned (apart_rotated (v ∷ []) rest apart) in
      let cyclic : IsLeft (whole w) (whole u) (whole v) = omega (arith, ints, left, determinant_shift_back (whole u) (whole v) (whole w)) in
      diagonal_backward w u (v ∷ rest)
      (diagonal_rotated w u (v ∷ []) rest (subst (λ rs. IsDiagonal rs w u) (sym turned)
      (cut_is_diagonal w (m ∷ ks) u (v ∷ []) apart_turned meets rest_runs.windings (triangle_values w u v cyclic))))

-- the farthest of some points is that of the same points in the other order,
abbrev farthest_reversed : (P : Point → Type 0) (value : Point → ℤ) (ps : List Point) → Farthest P value ps → Farthest P value (reverse ps)
farthest_reversed P value ps far = record {
  point = far.point;
  has_point = has_reversed far.point ps far.has_point;
  chosen = far.chosen;
  farthest = λ q has. far.farthest q (has_in_order q ps has);
}

-- and no point is before v in the other order
least_reversed : (v w : Point) (ms : List Point) (u : Point) → NoneBefore (w ∷ (ms ++ u ∷ [])) v → NoneBefore (u ∷ (reverse ms ++ w ∷ [])) v
least_reversed v w ms u least p (inl e) = least p (inr (has_right p ms (u ∷ []) (inl e)))
least_reversed v w ms u least p (inr h) = elim (has_cases p (reverse ms) (w ∷ []) h) [
  | inl k ↦ least p (inr (has_left p ms (u ∷ []) (has_in_order p ms k)))
  | inr k ↦ elim k [ inl e ↦ least p (inl e) | inr none ↦ absurd none ]
]

-- the base of a triangle with no vertex in it, where there are other vertices
pub base_diagonal : (v w : Point) (ms : List Point) (u : Point) → 0 < length ms → IsApartRing (v ∷ w ∷ (ms ++ u ∷ []))
    → NoneBefore (w ∷ (ms ++ u ∷ [])) v → IsLeft (whole u) (whole v) (whole w) → ((p : Point) → HasPoint ms p → ¬ InTriangle u v w p)
    → IsDiagonal (v ∷ w ∷ (ms ++ u ∷ [])) u w
base_diagonal v w [] u some apart least left none = absurd (omega arith)
base_diagonal v w (m ∷ ks) u some apart least left none =
    ear_diagonal v w m ks u apart left none least

module _ (v w : Point) (ms : List Point) (u : Point) (apart : IsApartRing (v ∷ w ∷ (ms ++ u ∷ [])))
    (least : NoneBefore (w ∷ (ms ++ u ∷ [])) v) (right : IsRight (whole u) (whole v) (whole w)) where
  -- the ring the other way round is apart
  mirrored_apart : IsApartRing (v ∷ u ∷ (reverse ms ++ w ∷ []))
  mirrored_apart = subst IsApartRing (turned_corner v w ms u) (apart_turned (v ∷ w ∷ (ms ++ u ∷ [])) apart)

  -- and turns left at v
  mirrored_left : IsLeft (whole w) (whole v) (whole u)
  mirrored_left = omega (arith, ints, right, determinant_swap_ends (whole u) (whole v) (whole w))

  -- at a right turn, too, the farthest vertex in the triangle makes a diagonal
  pub farthest_diagonal_right : (far : Farthest (InTriangle w v u) (height w u) ms) → IsDiagonal (v ∷ w ∷ (ms ++ u ∷ [])) v far.point
  farthest_diagonal_right far =
      diagonal_turned v far.point (v ∷ w ∷ (ms ++ u ∷ [])) (subst (λ rs. IsDiagonal rs v far.point) (sym (turned_corner v w ms u))
      (farthest_diagonal v u (reverse ms) w mirrored_apart
      (least_reversed v w ms u least) mirrored_left (farthest_reversed (InTriangle w v u) (height w u) ms far)))

  -- and so does the base, where there is none
  pub base_diagonal_right : 0 < length ms → ((p : Point) → HasPoint ms p → ¬ InTriangle w v u p) → IsDiagonal (v ∷ w ∷ (ms ++ u ∷ [])) u w
  base_diagonal_right some none =
      diagonal_backward w u (v ∷ w ∷ (ms ++ u ∷ []))
      (diagonal_turned w u (v ∷ w ∷ (ms ++ u ∷ [])) (subst (λ rs. IsDiagonal rs w u) (sym (turned_corner v w ms u))
      (base_diagonal v u (reverse ms) w (omega (arith, length-reverse ms)) mirrored_apart (least_reversed v w ms u least) mirrored_left
      (λ p has. none p (has_in_order p ms has)))))
