-- A simple ring that is split in two by a diagonal: the pieces, each with the diagonal as an edge.
use Rattle.std.proofs.Common.{◌+◌, ◌≡◌, inl, inr, refl, sym, subst, ap, ◌∙◌, List, [], ◌∷◌, ◌++◌, length, get_or, ℕ, ◌-◌, ◌<◌, arith}
use Rattle.std.proofs.lemmas.Bool.{cases_lt}
use Rattle.std.proofs.lemmas.List.{append_assoc, get_or_at, length-append}
use Rattle.plane.proofs.Segments.{on_reversed}
use Rattle.plane.specs.Point.{Point, whole}
use Rattle.rings.proofs.Simple.{apart_of_simple}
use Rattle.rings.proofs.Vertices.{has_right, vertex_in_range, parts_at}
use Rattle.rings.specs.Apart.{IsApartRing}
use Rattle.rings.specs.Prelude.{edge, edges_along, edges_of, HasEdge, origin, vertex}
use Rattle.ring_laws.proofs.Cuts.{cut_between}
use Rattle.ring_laws.proofs.Diagonals.{diagonal_backward}
use Rattle.ring_laws.proofs.Pieces.{edges_of_first}
use Rattle.ring_laws.specs.Diagonal.{IsDiagonal}
use Rattle.meshes.proofs.Parts.PieceOfTriangle.{IsCovered, covered_swapped}

-- two pieces cover the ring and share only points of the segment from a to b, which is an edge of each
pub record IsSplit (ring : List Point) (a b : Point) : Type 0 where
  pub first : List Point
  pub second : List Point
  pub first_apart : IsApartRing first
  pub second_apart : IsApartRing second
  pub first_long : 1 < length first
  pub second_long : 1 < length second
  pub covered : IsCovered ring first second (whole a) (whole b)
  pub first_has : HasEdge (edges_of first) (edge b a)
  pub second_has : HasEdge (edges_of second) (edge a b)

-- the pieces may change places
split_back : (ring : List Point) (a b : Point) → IsSplit ring a b → IsSplit ring b a
split_back ring a b s = record {
  first = s.second;
  second = s.first;
  first_apart = s.second_apart;
  second_apart = s.first_apart;
  first_long = s.second_long;
  second_long = s.first_long;
  covered = record {
    covers = (covered_swapped s.covered).covers;
    common = λ x at h k. on_reversed x (whole a) (whole b) (s.covered.common x at k h);
  };
  first_has = s.second_has;
  second_has = s.first_has;
}

-- the last edge of a ring
pub last_edge : (v : Point) (ps : List Point) (z : Point) → HasEdge (edges_of (v ∷ (ps ++ z ∷ []))) (edge z v)
last_edge v ps z =
    subst (λ es. HasEdge es (edge z v)) (sym (edges_of_first v ps z []))
    (has_right (edge z v) (edges_along v ps z) (edge z v ∷ []) (inl refl))

-- a diagonal between two vertices splits the ring,
split_in_parts : (xs : List Point) (v : Point) (ps : List Point) (z : Point) (ys : List Point) → IsApartRing (xs ++ v ∷ (ps ++ z ∷ ys))
    → IsDiagonal (xs ++ v ∷ (ps ++ z ∷ ys)) v z → IsSplit (xs ++ v ∷ (ps ++ z ∷ ys)) v z
split_in_parts xs v ps z ys apart diagonal =
    let cut = cut_between xs v ps z ys apart diagonal in
    let first : List Point = v ∷ (ps ++ z ∷ []) in
    let second : List Point = z ∷ ((ys ++ xs) ++ v ∷ []) in
    record {
      first = first;
      second = second;
      first_apart = apart_of_simple first cut.first_simple;
      second_apart = apart_of_simple second cut.second_simple;
      first_long = omega (arith, length-append ps (z ∷ []));
      second_long = omega (arith, length-append (ys ++ xs) (v ∷ []));
      covered = record { covers = λ x at. (cut.covers x at).0; common = cut.common };
      first_has = last_edge v ps z;
      second_has = last_edge z (ys ++ xs) v;
    }

-- also by other names of the ring and of the vertices,
split_named : (ring xs : List Point) (v : Point) (ps : List Point) (z : Point) (ys : List Point) (a b : Point)
    → ring ≡ xs ++ v ∷ (ps ++ z ∷ ys) → a ≡ v → b ≡ z → IsApartRing ring → IsDiagonal ring a b → IsSplit ring a b
split_named ring xs v ps z ys a b parts at_v at_z apart diagonal =
    let named : IsDiagonal ring v z = subst (λ x. IsDiagonal ring x z) at_v (subst (λ y. IsDiagonal ring a y) at_z diagonal) in
    let split = split_in_parts xs v ps z ys (subst IsApartRing parts apart) (subst (λ rs. IsDiagonal rs v z) parts named) in
    subst (λ x. IsSplit ring x b) (sym at_v) (subst (λ y. IsSplit ring v y) (sym at_z) (subst (λ rs. IsSplit rs v z) (sym parts) split))

-- the vertex between two parts of a ring
vertex_between : (ring xs : List Point) (v : Point) (rest : List Point) (i : ℕ) → ring ≡ xs ++ v ∷ rest → length xs ≡ i → i < length ring → vertex ring i ≡ v
vertex_between ring xs v rest i is count within =
    vertex_in_range ring i origin within ∙ ap (λ rs. get_or rs i origin) is ∙ get_or_at xs v rest origin i count

module _ (ring : List Point) (apart : IsApartRing ring) where
  -- by the parts,
  split_at_parts : (i j : ℕ) (xs : List Point) (v : Point) (rest ps : List Point) (z : Point) (ys : List Point) → ring ≡ xs ++ v ∷ rest → rest ≡ ps ++ z ∷ ys
      → length xs ≡ i → length xs + 1 + length ps ≡ j → i < length ring → j < length ring → IsDiagonal ring (vertex ring i) (vertex ring j)
      → IsSplit ring (vertex ring i) (vertex ring j)
  split_at_parts i j xs v rest ps z ys is rest_is first second in_i in_j =
      let parts : ring ≡ xs ++ v ∷ (ps ++ z ∷ ys) = is ∙ ap (λ rs. xs ++ v ∷ rs) rest_is in
      let regrouped : ring ≡ (xs ++ v ∷ ps) ++ z ∷ ys = parts ∙ sym (append_assoc xs (v ∷ ps) (z ∷ ys)) in
      split_named ring xs v ps z ys (vertex ring i) (vertex ring j) parts (vertex_between ring xs v rest i is first in_i)
      (vertex_between ring (xs ++ v ∷ ps) z ys j regrouped (omega (arith, length-append xs (v ∷ ps))) in_j) apart

  -- by their numbers,
  split_in_order : (i j : ℕ) → i < j → j < length ring → IsDiagonal ring (vertex ring i) (vertex ring j) → IsSplit ring (vertex ring i) (vertex ring j)
  split_in_order i j less within =
      let (xs, v, rest, is, count) = parts_at ring i (omega arith) in
      let (ps, z, ys, rest_is, between) = parts_at rest (j - i - 1) (omega (arith, ap length is, length-append xs (v ∷ rest))) in
      split_at_parts i j xs v rest ps z ys is rest_is count (omega arith) (omega arith) within

  -- in either order
  pub split_by : (i j : ℕ) → i < length ring → j < length ring → ¬ (i ≡ j) → IsDiagonal ring (vertex ring i) (vertex ring j)
      → IsSplit ring (vertex ring i) (vertex ring j)
  split_by i j h k differ diagonal = elim (cases_lt i j) [
    | inl less ↦ split_in_order i j less k diagonal
    | inr more ↦ split_back ring (vertex ring j) (vertex ring i)
        (split_in_order j i (grind arith) h (diagonal_backward (vertex ring i) (vertex ring j) ring diagonal))
  ]
