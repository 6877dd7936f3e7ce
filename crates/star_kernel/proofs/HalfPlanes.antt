-- The square of all points, cut by the lines of the edges, some as they come and the rest in another order: in the end it is the kernel.
use Rattle.std.proofs.Common.{◌≡◌, ◌↔◌, inl, inr, subst, sym, ap, ◌∙◌, ℕ, ◌+◌, ◌-◌, ◌*◌, ◌<◌, ◌≤◌, List, [], ◌∷◌, length, add-mul, arith}
use Rattle.std.proofs.lemmas.Bool.{cases_lt}
use Rattle.std.proofs.lemmas.Nat.{mul-le}
use Rattle.plane.specs.Cut.{IsUncut}
use Rattle.plane.specs.Point.{IsInBounds, IsPoint, Point, Triple}
use Rattle.plane.specs.Region.{IsCornerList}
use Rattle.plane.specs.Square.{IsInSquare}
use Rattle.plane.specs.Turn.{IsRight}
use Rattle.rings.proofs.Simple.{apart_of_simple, proper_edges}
use Rattle.rings.proofs.Vertices.{edge_at, has_edge_at}
use Rattle.rings.specs.Kernel.{IsInKernel, IsKernel}
use Rattle.rings.specs.Orientation.{IsCounterclockwise}
use Rattle.rings.specs.Ring.{vertex}
use Rattle.rings.specs.Simple.{IsSimple}
use Rattle.ring_laws.proofs.Kernels.{kernel_law, right_of_none_in_square}
use Rattle.star_kernel.specs.HalfPlanes.{AreAllEdges, IsLeftOfBelow, IsLeftOfFirst, IsRightOfEdge, edge_number_at}
use Rattle.star_kernel.specs.declared.directions.Edge.{Edge}

-- a corner list of one set is that of another with the same points
corners_with : (set other : Triple → Type 0) → ((p : Triple) → IsPoint p → set p ↔ other p) → (corners : List Triple) → IsCornerList set corners
    → IsCornerList other corners
corners_with set other same corners list = record {
  are_corners = list.are_corners;
  exact = λ p at_p. (
    λ h. (same p at_p).0 ((list.exact p at_p).0 h),
    λ h. (list.exact p at_p).1 ((same p at_p).1 h),
  );
}

-- where nothing is in one set, nothing is in a part of it
nothing_of_nothing : (set part : Triple → Type 0) → ((p : Triple) → IsPoint p → part p → set p) → (corners : List Triple) → length corners ≡ 0
    → IsCornerList set corners → IsCornerList part corners
nothing_of_nothing set part of [] none list =
    corners_with set part
    (λ p at_p. (λ h. absurd ((list.exact p at_p).1 h), λ h. absurd ((list.exact p at_p).1 (of p at_p h)))) [] list
nothing_of_nothing set part of (c ∷ corners) none list = absurd (omega (arith, none))

-- what a line leaves of a region of one set is a region of what it leaves of the set
pub one_cut : (set rest : Triple → Type 0) (a b : Triple) → ((p : Triple) → rest p ↔ (set p × ¬ IsRight a b p)) → (corners new : List Triple)
    → IsCornerList set corners → IsCornerList (IsUncut a b corners) new → IsCornerList rest new
one_cut set rest a b is corners new list cut =
    corners_with (IsUncut a b corners) rest
    (λ p at_p. (
      λ h. (is p).1 ((list.exact p at_p).0 h.0, h.1),
      λ h. let left = (is p).0 h in ((list.exact p at_p).1 left.0, left.1),
    )) new cut

-- of a number below one more it is so below it and at it
at_or_below : (P : ℕ → Type 0) (k : ℕ) → ((i : ℕ) → i < k + 1 → P i) ↔ (((i : ℕ) → i < k → P i) × P k)
at_or_below P k = (
  λ all. (λ i below. all i (omega arith), all k (omega arith)),
  λ h i below. elim (cases_lt i k) [
    | inl less ↦ h.0 i less
    | inr not ↦ let same : k ≡ i = omega arith in subst P same h.1
  ],
)

-- so one edge more cuts what those before it left, by their numbers,
pub below_more : (ring : List Point) (k : ℕ) (p : Triple) → IsLeftOfBelow ring (k + 1) p ↔ (IsLeftOfBelow ring k p × ¬ IsRightOfEdge ring k p)
below_more ring k p =
    let (from, back) = at_or_below (λ i. ¬ IsRightOfEdge ring i p) k in
    (λ h. let left = from h.1 in ((h.0, left.0), left.1), λ h. (h.0.0, back (h.0.1, h.1)))

-- and by their places in a list
pub first_more : (ring : List Point) (first : ℕ) (edges : List Edge) (k : ℕ) (p : Triple) → IsLeftOfFirst ring first edges (k + 1) p
    ↔ (IsLeftOfFirst ring first edges k p × ¬ IsRightOfEdge ring (edge_number_at edges k) p)
first_more ring first edges k p =
    let (from, back) = at_or_below (λ i. ¬ IsRightOfEdge ring (edge_number_at edges i) p) k in
    (λ h. let left = from h.1 in ((h.0, left.0), left.1), λ h. (h.0.0, back (h.0.1, h.1)))

-- at first no edge has cut
pub none_below : (ring : List Point) (corners : List Triple) → IsCornerList IsInSquare corners → IsCornerList (IsLeftOfBelow ring 0) corners
none_below ring = corners_with IsInSquare (IsLeftOfBelow ring 0) (λ p at_p. (λ h. (h, λ k below. absurd (omega arith)), λ h. h.0))

pub none_listed : (ring : List Point) (first : ℕ) (edges : List Edge) (corners : List Triple) → IsCornerList (IsLeftOfBelow ring first) corners
    → IsCornerList (IsLeftOfFirst ring first edges 0) corners
none_listed ring first edges =
    corners_with (IsLeftOfBelow ring first) (IsLeftOfFirst ring first edges 0) (λ p at_p. (λ h. (h, λ i below. absurd (omega arith)), λ h. h.0))

module _ (ring : List Point) (three : 3 ≤ length ring) (simple : IsSimple ring) where
  -- no edge has equal ends
  differ : (k : ℕ) → k < length ring → ¬ (vertex ring k ≡ vertex ring (k + 1))
  differ k below = proper_edges ring (apart_of_simple ring simple) (omega arith) (edge_at ring k) (has_edge_at ring k below)

  -- so the points that are its ends are not equal
  pub ends_differ : (k : ℕ) → k < length ring → (from to : Point) → from ≡ vertex ring k → to ≡ vertex ring (k + 1) → ¬ (from ≡ to)
  ends_differ k below from to is_from is_to same = differ k below (sym is_from ∙ same ∙ is_to)

  module _ (way : IsCounterclockwise ring) (bounds : (k : ℕ) → k < length ring → IsInBounds (vertex ring k)) where
    -- a point of the kernel is in the square, and right of no edge
    in_kernel : (p : Triple) → IsPoint p → IsInKernel ring p → IsLeftOfBelow ring (length ring) p
    in_kernel p at_p h =
        let none = (kernel_law ring three simple way p at_p).0 h in
        (right_of_none_in_square ring three simple way bounds p at_p none, none)

    -- once nothing is left, the kernel is nothing: after some edges as they come,
    pub nothing_left_below : (first : ℕ) → first ≤ length ring → (corners : List Triple) → length corners ≡ 0
        → IsCornerList (IsLeftOfBelow ring first) corners
        → IsKernel ring corners
    nothing_left_below first within =
        nothing_of_nothing (IsLeftOfBelow ring first) (IsInKernel ring)
        (λ p at_p h. let left = in_kernel p at_p h in (left.0, λ k below. left.1 k (omega (arith, below, within))))

    module _ (first : ℕ) (edges : List Edge) (are : AreAllEdges first (length ring) edges) where
      in_list : (i : ℕ) → i ≤ length edges → (p : Triple) → IsPoint p → IsInKernel ring p → IsLeftOfFirst ring first edges i p
      in_list i within p at_p h =
          let left = in_kernel p at_p h in (
            (left.0, λ k below. left.1 k (omega (arith, below, are.as_many))),
            λ j below. left.1 (edge_number_at edges j) (are.within j (omega (arith, below, within))),
          )

      -- and after some of a list
      pub nothing_left_first : (i : ℕ) → i ≤ length edges → (corners : List Triple) → length corners ≡ 0
          → IsCornerList (IsLeftOfFirst ring first edges i) corners
          → IsKernel ring corners
      nothing_left_first i within = nothing_of_nothing (IsLeftOfFirst ring first edges i) (IsInKernel ring) (in_list i within)

      -- what is so of the edges below a number and of those of the list is so of all
      of_all : (P : ℕ → Type 0) → ((k : ℕ) → k < first → P k) → ((i : ℕ) → i < length edges → P (edge_number_at edges i)) → (k : ℕ)
          → k < length ring → P k
      of_all P below listed k less = elim (cases_lt k first) [
        | inl early ↦ below k early
        | inr late ↦ let found = are.all k (omega (arith, late)) less in subst P found.1.1 (listed found.0 found.1.0)
      ]

      -- in the end it is the kernel
      pub all_edges : (corners : List Triple) → IsCornerList (IsLeftOfFirst ring first edges (length edges)) corners → IsKernel ring corners
      all_edges =
          corners_with (IsLeftOfFirst ring first edges (length edges)) (IsInKernel ring)
          (λ p at_p. (
            λ h. (kernel_law ring three simple way p at_p).1 (of_all (λ k. ¬ IsRightOfEdge ring k p) h.0.1 h.1),
            in_list (length edges) (omega arith) p at_p,
          ))

-- ---- steps

-- some times one number, and for the rest a larger one
pub paid_for_all : (first n x y : ℕ) → first ≤ n → x ≤ y → first * x + (n - first) * y ≤ n * y
paid_for_all first n x y within less =
    let whole : n ≡ first + (n - first) = omega (arith, within) in
    let parts : n * y ≡ first * y + (n - first) * y = ap (λ k. k * y) whole ∙ add-mul first (n - first) y in
    omega (arith, parts, mul-le first x first y (omega arith) less)
