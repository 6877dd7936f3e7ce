-- Triangles whose sides cancel to the boundary of a simple piece do not overlap, and a side in one direction belongs to one of
-- them at most.
use Rattle.std.proofs.Common.{◌≡◌, ◌⊎◌, inl, inr, sym, subst, ◌∙◌, ℕ, zero, suc, ◌+◌, ◌<◌, ℤ, pos, ◌+ℤ◌, ◌≤ℤ◌, List, [], ◌∷◌, ◌++◌, length, arith}
use Rattle.std.proofs.lemmas.Bool.{cases_eq}
use Rattle.std.proofs.lemmas.Int.{ints}
use Rattle.plane.proofs.Nearness.{left_eventually, left_toward, toward, toward_is_point}
use Rattle.plane.proofs.Points.{whole_is_point}
use Rattle.plane.proofs.Segments.{middle, middle_first, middle_is_point, middle_last, middle_on, on_is_straight}
use Rattle.plane.specs.Point.{IsPoint, IsSame, Point, Triple, whole}
use Rattle.rings.proofs.Simple.{apart_of_simple, proper_edges}
use Rattle.rings.proofs.Vertices.{has_cases, on_some_left, on_some_right}
use Rattle.rings.specs.Prelude.{Edge, edges_of, IsOnSome, vertex, winding}
use Rattle.meshes.proofs.Boundaries.OffEdges.{AreProper, both_open, left_open, off_edges}
use Rattle.meshes.proofs.Boundaries.Sums.{AddsAtLeast, sum_with_two}
use Rattle.meshes.proofs.Boundaries.Windings.{AreBounded, crossing_at, sum_inside, sum_off_sides, winding_is_sum}
use Rattle.meshes.proofs.Parts.{IsLeftOfAll, inside_sides, left_of_next, left_of_previous, left_of_sides, near_side, opposite, sides}
use Rattle.meshes.proofs.Sides.{length_points, left_apart, one_direction, corners_differ}
use Rattle.meshes.specs.Prelude.{HasSide, IsCounterclockwiseTri, IsStrictlyInTri, piece_points, tri_at}
use Rattle.meshes.specs.declared.tri.Tri.{Tri}

-- ---- the sides of all triangles

-- one triangle after the other
abbrev pub all_sides : List Point → List Tri → List Edge
all_sides corners [] = []
all_sides corners (t ∷ ts) = sides corners t ++ all_sides corners ts

module _ (corners : List Point) where
  -- what is off all sides is off those of each triangle
  pub off_sides : (tris : List Tri) (k : ℕ) (x : Triple) → k < length tris → ¬ IsOnSome (all_sides corners tris) x
      → ¬ IsOnSome (sides corners (tri_at tris k)) x
  off_sides [] k x below off = absurd (omega (arith, below))
  off_sides (t ∷ ts) zero x below off = λ on. off (on_some_left x (sides corners t) (all_sides corners ts) on)
  off_sides (t ∷ ts) (suc k) x below off =
      off_sides ts k x (omega (arith, below)) (λ on. off (on_some_right x (sides corners t) (all_sides corners ts) on))

  -- the sides of a counterclockwise triangle have different ends,
  proper_sides : (t : Tri) → IsCounterclockwiseTri corners t → AreProper (sides corners t)
  proper_sides t left e has same =
      let apart = left_apart _ _ _ left in
      elim has [
        | inl is ↦ apart.0 (λ i. whole (ends is same i))
        | inr (inl is) ↦ apart.1 (λ i. whole (ends is same i))
        | inr (inr (inl is)) ↦ apart.2 (λ i. whole (ends is same i))
        | inr (inr (inr none)) ↦ none
      ]
    where
      ends : {f : Edge} → f ≡ e → e.from ≡ e.to → f.from ≡ f.to
      ends {f} is same = (λ i. (is i).from) ∙ same ∙ sym (λ i. (is i).to)

  -- and so it is with all of them
  pub all_proper : (tris : List Tri) → ((k : ℕ) → k < length tris → IsCounterclockwiseTri corners (tri_at tris k)) → AreProper (all_sides corners tris)
  all_proper [] left e has = absurd has
  all_proper (t ∷ ts) left e has = elim (has_cases e (sides corners t) (all_sides corners ts) has) [
    | inl here ↦ proper_sides t (left 0 (omega arith)) e here
    | inr there ↦ all_proper ts (λ k below. left (suc k) (omega (arith, below))) e there
  ]

-- ---- no overlap

-- no number that is 0 or 1 is at least 2
not_two : (w : ℤ) → (w ≡ pos 0) ⊎ (w ≡ pos 1) → ¬ ((pos 1 +ℤ pos 1) ≤ℤ w)
not_two w (inl e) h = omega (arith, ints)
not_two w (inr e) h = omega (arith, ints)

module _ (corners : List Point) (piece : List ℕ) (tris : List Tri) (b : AreBounded corners piece tris) where
  -- the triangles turn left,
  pub turns_left_at : (k : ℕ) → k < length tris → IsCounterclockwiseTri corners (tri_at tris k)
  turns_left_at k below = (b.triangles k below).counterclockwise

  -- and no edge of the piece has equal ends
  pub proper_piece : AreProper (edges_of (piece_points corners piece))
  proper_piece =
      proper_edges (piece_points corners piece) (apart_of_simple (piece_points corners piece) b.polygon.simple)
      (omega (arith, b.polygon.some, length_points corners piece))

  -- off the sides and the edges of the piece no point is strictly inside two triangles,
  apart_off : (k l : ℕ) → k < length tris → l < length tris → ¬ (k ≡ l) → (x : Triple) → IsPoint x → ¬ IsOnSome (all_sides corners tris) x
      → ¬ IsOnSome (edges_of (piece_points corners piece)) x → IsStrictlyInTri corners (tri_at tris k) x → ¬ IsStrictlyInTri corners (tri_at tris l) x
  apart_off k l k_below l_below differ x at_x off_all off_ring in_k in_l =
      let φ = crossing_at corners x in
      let one_k = sum_inside corners x at_x (tri_at tris k) (turns_left_at k k_below) in_k in
      let one_l = sum_inside corners x at_x (tri_at tris l) (turns_left_at l l_below) in_l in
      let first : AddsAtLeast φ tris (pos 1) k = omega (arith, ints, one_k) in
      let second : AddsAtLeast φ tris (pos 1) l = omega (arith, ints, one_l) in
      not_two (winding (edges_of (piece_points corners piece)) x) (b.polygon.counterclockwise.windings x at_x off_ring)
      (subst (λ w. (pos 1 +ℤ pos 1) ≤ℤ w) (winding_is_sum corners x piece tris b.bounded)
      (sum_with_two φ tris (pos 1) (pos 1) k l k_below l_below differ first second
      (λ o below not also. sum_off_sides corners x at_x (tri_at tris o) (turns_left_at o below) (off_sides corners tris o x below off_all))))

  -- and so none is
  pub no_overlap : (k l : ℕ) → k < length tris → l < length tris → ¬ (k ≡ l) → (x : Triple) → IsPoint x
      → IsStrictlyInTri corners (tri_at tris k) x → ¬ IsStrictlyInTri corners (tri_at tris l) x
  no_overlap k l k_below l_below differ x at_x in_k in_l =
      let first = sides corners (tri_at tris k) in
      let second = sides corners (tri_at tris l) in
      let all = all_sides corners tris in
      let ring = edges_of (piece_points corners piece) in
      let proper : AreProper (all ++ ring) = λ e has. elim (has_cases e all ring has) [
        | inl h ↦ all_proper corners tris turns_left_at e h
        | inr h ↦ proper_piece e h
      ] in
      let both = both_open (IsLeftOfAll first) (IsLeftOfAll second) (left_open first) (left_open second) in
      let near = off_edges (λ y. IsLeftOfAll first y × IsLeftOfAll second y) both
      (all ++ ring) proper x at_x (left_of_sides corners (tri_at tris k) x in_k, left_of_sides corners (tri_at tris l) x in_l) in
      let y = near.point in
      apart_off k l k_below l_below differ y near.rational (λ on. near.off (on_some_left y all ring on))
      (λ on. near.off (on_some_right y all ring on))
      (inside_sides corners (tri_at tris k) y near.holds.0) (inside_sides corners (tri_at tris l) y near.holds.1)

  -- ---- sides

  -- no triangle has a side in both directions
  pub one_way_at : (i j k : ℕ) → k < length tris → HasSide (tri_at tris k) i j → ¬ HasSide (tri_at tris k) j i
  one_way_at i j k below =
      let t = tri_at tris k in
      let differ = corners_differ corners t (turns_left_at k below) in
      one_direction t.a t.b t.c i j differ.0 differ.1 differ.2

  -- two triangles with one side in one direction are one: near its middle they overlap
  pub once_at : (i j k l : ℕ) → k < length tris → l < length tris → HasSide (tri_at tris k) i j → HasSide (tri_at tris l) i j → k ≡ l
  once_at i j k l k_below l_below k_has l_has = elim (cases_eq k l) [
    | inl same ↦ same
    | inr differ ↦
        let p = vertex corners i in
        let q = vertex corners j in
        let m = middle p q in
        let at_m = middle_is_point p q in
        let on = middle_on p q in
        let (c, o) = opposite corners (tri_at tris k) (turns_left_at k k_below) i j k_has in
        let (d, r) = opposite corners (tri_at tris l) (turns_left_at l l_below) i j l_has in
        let proper = λ (e : p ≡ q). (left_apart (whole p) (whole q) (whole c) o.left).0 (λ n. whole (e n)) in
        let not_first = λ (s : IsSame m (whole p)). proper (middle_first p q s) in
        let not_last = λ (s : IsSame m (whole q)). proper (middle_last p q s) in
        let straight = on_is_straight m (whole p) (whole q) at_m (whole_is_point p) (whole_is_point q) on in
        let near = near_side corners (tri_at tris k) p q c o m at_m on not_first not_last in
        let left_next = left_of_next corners (tri_at tris l) p q d r m at_m on not_first not_last in
        let left_back = left_of_previous corners (tri_at tris l) p q d r m at_m on not_first not_last in
        let next = left_eventually m (whole c) (whole q) (whole d) left_next in
        let back = left_eventually m (whole c) (whole d) (whole p) left_back in
        let n : ℕ = near.start + next.start + back.start in
        let y = toward m (whole c) n in
        let left = left_toward (whole p) (whole q) m (whole c) straight o.left n in
        absurd (no_overlap k l k_below l_below differ y (toward_is_point m (whole c) at_m (whole_is_point c) n)
        (near.from_start n (omega arith)) (r.strictly y left (next.from_start n (omega arith)) (back.from_start n (omega arith))))
  ]
