-- The law of ears, for a piece that is read from any vertex.
use Rattle.std.proofs.Common.{◌≡◌, inl, inr, sym, ap, subst, ◌∙◌, ℕ, suc, ◌+◌, ◌%◌, ◌<◌, ◌≤◌, List, [], ◌∷◌, ◌++◌, length, get_or, arith}
use Rattle.std.proofs.Math.Nat.{mod-eq_of_lt, mod-lt}
use Rattle.std.proofs.lemmas.List.{append_assoc, get_or_at, get_or_default}
use Rattle.std.specs.List.{Contains}
use Rattle.plane.specs.Point.{Point}
use Rattle.rings.specs.Simple.{IsSimple}
use Rattle.rings.proofs.Vertices.{parts_at}
use Rattle.meshes.proofs.Ears.EarOff.{fits_rest}
use Rattle.meshes.proofs.Ears.Without.{is_rest, new_number, old_number}
use Rattle.meshes.proofs.Joins.{contains_cases, edge_rotated, fits_rotated}
use Rattle.meshes.proofs.Sides.{one_number}
use Rattle.meshes.proofs.TreeLeaves.{leaf_is_ear}
use Rattle.meshes.specs.Prelude.{FitsPiece, IsPieceEdge, piece_points}
use Rattle.meshes.specs.declared.tri.Tri.{Tri}
use Rattle.meshes.specs.Laws.{EarLaw, IsEar, IsEarOff, IsLeaf, without}

-- the ends of an edge are numbers of the piece
pub edge_ends : (piece : List ℕ) (i j : ℕ) → IsPieceEdge piece i j → Contains piece i × Contains piece j
edge_ends piece i j e =
    let next : (e.place + 1) % length piece < length piece = mod-lt (e.place + 1) (omega (arith, e.in_piece)) in (
      (e.place, e.in_piece, get_or_default piece e.place i 0 e.in_piece ∙ e.from),
      ((e.place + 1) % length piece, next, get_or_default piece ((e.place + 1) % length piece) j 0 next ∙ e.to),
    )

-- two numbers of a list
two_first : (zs : List ℕ) (v w : ℕ) → 2 ≤ length zs → get_or zs 0 0 ≡ v → get_or zs 1 0 ≡ w → (ms : List ℕ) × (zs ≡ v ∷ w ∷ ms)
two_first [] v w h e f = absurd (omega arith)
two_first (x ∷ []) v w h e f = absurd (omega arith)
two_first (x ∷ y ∷ zs) v w h e f = (zs, λ i. e i ∷ f i ∷ zs)

module _ (corners : List Point) where
  -- the tip is not in the rest
  tip_new : (u v w : ℕ) (ms : List ℕ) → IsSimple (piece_points corners (u ∷ v ∷ w ∷ ms)) → ¬ Contains (u ∷ w ∷ ms) v
  tip_new u v w ms simple h = elim (contains_cases u (w ∷ ms) v h) [
    | inl e ↦ omega (arith, one_number corners (u ∷ v ∷ w ∷ ms) simple 0 1 (omega arith) (omega arith) e)
    | inr m ↦
        let (r, within, is) = m in
        let at : get_or (w ∷ ms) r 0 ≡ v = get_or_default (w ∷ ms) r 0 v within ∙ is in
        omega (arith, one_number corners (u ∷ v ∷ w ∷ ms) simple (suc (suc r)) 1 (omega arith) (omega arith) at)
  ]

  -- an ear with its corners first
  ear_first : (u v w : ℕ) (ms : List ℕ) (tris : List Tri) → FitsPiece corners (u ∷ v ∷ w ∷ ms) tris → (k : ℕ) (leaf : IsLeaf tris k)
      → IsEar (u ∷ v ∷ w ∷ ms) tris k leaf.neighbour u v w → FitsPiece corners (u ∷ w ∷ ms) (without k tris)
  ear_first u v w ms tris fits k leaf ear =
      let new = tip_new u v w ms fits.simple in
      fits_rest corners u v w ms tris fits k leaf.neighbour ear (without k tris) (old_number k) (new_number k) (is_rest k tris leaf.in_list) leaf
      (λ i j e. (
        λ is. new (subst (Contains (u ∷ w ∷ ms)) is (edge_ends (u ∷ w ∷ ms) i j e).0),
        λ is. new (subst (Contains (u ∷ w ∷ ms)) is (edge_ends (u ∷ w ∷ ms) i j e).1),
      ))

  -- in a piece that is read from u on, v and w are next
  corners_next : (u v w : ℕ) (zs : List ℕ) → 3 < length (u ∷ zs) → IsSimple (piece_points corners (u ∷ zs)) → IsPieceEdge (u ∷ zs) u v → IsPieceEdge (u ∷ zs) v w
      → (ms : List ℕ) × (zs ≡ v ∷ w ∷ ms)
  corners_next u v w zs many simple first second =
      let n = length (u ∷ zs) in
      let one = one_number corners (u ∷ zs) simple in
      let at_u : first.place ≡ 0 = one first.place 0 first.in_piece (omega arith) first.from in
      let step : (first.place + 1) % n ≡ 1 = ap (λ p. (p + 1) % n) at_u ∙ mod-eq_of_lt (omega arith) in
      let at_v : get_or (u ∷ zs) 1 0 ≡ v = ap (λ p. get_or (u ∷ zs) p 0) (sym step) ∙ first.to in
      let place : second.place ≡ 1 = one second.place 1 second.in_piece (omega arith) (second.from ∙ sym at_v) in
      let step_on : (second.place + 1) % n ≡ 2 = ap (λ p. (p + 1) % n) place ∙ mod-eq_of_lt (omega arith) in
      let at_w : get_or (u ∷ zs) 2 0 ≡ w = ap (λ p. get_or (u ∷ zs) p 0) (sym step_on) ∙ second.to in
      two_first zs v w (omega arith) at_v at_w

  module _ (tris : List Tri) (k l u v w : ℕ) where
    -- an ear of a piece that is read from another vertex on
    ear_turned : (xs ys : List ℕ) → IsEar (xs ++ ys) tris k l u v w → IsEar (ys ++ xs) tris k l u v w
    ear_turned xs ys ear = record {
      first_side = ear.first_side;
      second_side = ear.second_side;
      first_edge = edge_rotated xs ys u v ear.first_edge;
      second_edge = edge_rotated xs ys v w ear.second_edge;
      base = ear.base;
    }

    -- the piece from before u on, and the piece without v
    ear_back : (xs ys ms : List ℕ) → ys ++ xs ≡ v ∷ w ∷ ms → IsEar (xs ++ u ∷ ys) tris k l u v w → FitsPiece corners (u ∷ w ∷ ms) (without k tris)
        → IsEarOff corners (xs ++ u ∷ ys) tris k l
    ear_back xs [] ms is ear rest = record {
      u = u;
      v = v;
      w = w;
      ear = ear;
      before = [];
      after = (w ∷ ms) ++ u ∷ [];
      tip = ap (λ zs. zs ++ u ∷ []) is;
      rest = fits_rotated corners (u ∷ []) (w ∷ ms) (without k tris) rest;
    }
    ear_back xs (y ∷ ys) ms is ear rest =
        let first : y ≡ v = ap (λ zs. get_or zs 0 0) is in
        let others : ys ++ xs ≡ w ∷ ms = ap rest_of is in
        let turned = fits_rotated corners (u ∷ ys) xs (without k tris) (subst (λ zs. FitsPiece corners (u ∷ zs) (without k tris)) (sym others) rest) in
        record {
          u = u;
          v = v;
          w = w;
          ear = ear;
          before = xs ++ u ∷ [];
          after = ys;
          tip = ap (λ z. xs ++ u ∷ z ∷ ys) first ∙ sym (append_assoc xs (u ∷ []) (v ∷ ys));
          rest = subst (λ zs. FitsPiece corners zs (without k tris)) (sym (append_assoc xs (u ∷ []) ys)) turned;
        }
      where
        rest_of : List ℕ → List ℕ
        rest_of [] = []
        rest_of (z ∷ zs) = zs

  -- in such parts
  ear_in_parts : (xs ys : List ℕ) (u v w : ℕ) (tris : List Tri) → FitsPiece corners (xs ++ u ∷ ys) tris → (k : ℕ) (leaf : IsLeaf tris k)
      → IsEar (xs ++ u ∷ ys) tris k leaf.neighbour u v w → IsEarOff corners (xs ++ u ∷ ys) tris k leaf.neighbour
  ear_in_parts xs ys u v w tris fits k leaf ear =
      let turned = fits_rotated corners xs (u ∷ ys) tris fits in
      let ear_from_u = ear_turned tris k leaf.neighbour u v w xs (u ∷ ys) ear in
      let many : 3 < length (u ∷ (ys ++ xs)) =
      omega (arith, turned.count, leaf.in_list, leaf.neighbour_in_list, leaf.different) in
      let (ms, is) = corners_next u v w (ys ++ xs) many turned.simple ear_from_u.first_edge ear_from_u.second_edge in
      let named = subst (λ zs. FitsPiece corners (u ∷ zs) tris) is turned in
      let ear_named = subst (λ zs. IsEar (u ∷ zs) tris k leaf.neighbour u v w) is ear_from_u in
      ear_back tris k leaf.neighbour u v w xs ys ms is ear (ear_first u v w ms tris named k leaf ear_named)

  -- also by another name of the piece
  ear_named : (piece xs ys : List ℕ) (x u v w : ℕ) → piece ≡ xs ++ x ∷ ys → x ≡ u → (tris : List Tri) → FitsPiece corners piece tris
      → (k : ℕ) (leaf : IsLeaf tris k) → IsEar piece tris k leaf.neighbour u v w → IsEarOff corners piece tris k leaf.neighbour
  ear_named piece xs ys x u v w is at tris fits k leaf ear =
      let parts : piece ≡ xs ++ u ∷ ys = is ∙ ap (λ y. xs ++ y ∷ ys) at in
      subst (λ zs. IsEarOff corners zs tris k leaf.neighbour) (sym parts)
      (ear_in_parts xs ys u v w tris (subst (λ zs. FitsPiece corners zs tris) parts fits) k leaf
      (subst (λ zs. IsEar zs tris k leaf.neighbour u v w) parts ear))

-- the law, as it is stated
pub ear_law : EarLaw
ear_law corners piece tris fits k leaf =
    let (u, v, w, ear) = leaf_is_ear corners piece tris fits k leaf in
    let e = ear.first_edge in
    let (xs, x, ys, is, count) = parts_at piece e.place e.in_piece in
    let at : x ≡ u = sym (ap (λ zs. get_or zs e.place 0) is ∙ get_or_at xs x ys 0 e.place count) ∙ e.from in
    ear_named corners piece xs ys x u v w is at tris fits k leaf ear
