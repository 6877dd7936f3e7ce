-- A search by halves for the place of a vertex among the gaps: the places that are left, and its test.
-- What the turn of three corners says of a vertex and an edge.
use Rattle.std.proofs.Common.{◌≡◌, ◌↔◌, sym, ap, subst, ◌∙◌, ℕ, ◌+◌, ◌<◌, ◌≤◌, List, length, inl, inr, arith, refl}
use Rattle.std.proofs.lemmas.Bool.{cases_eq}
use Rattle.std.specs.Prelude.{slice_index_or}
use Rattle.plane.specs.Point.{Point, whole}
use Rattle.plane.specs.Turn.{determinant}
use Rattle.rings.proofs.Vertices.{vertex_in_range}
use Rattle.rings.specs.Ring.{origin, vertex}
use Rattle.exact_plane.proofs.Directions.{left_of_positive, positive_of_left, negative_of_right, right_of_negative}
use Rattle.exact_plane.specs.Direction.{turn_of}
use Rattle.exact_plane.specs.Spot.{point_named}
use Rattle.exact_plane.specs.declared.direction.Direction.{Direction}
use Rattle.exact_plane.specs.declared.direction.Direction.TheVariants.{Left, Right}
use Rattle.exact_plane.specs.declared.turns.Spot.TheVariants.{Corner}
use Rattle.sweep_tri.specs.Forks.{TurnsLeft}
use Rattle.sweep_tri.specs.Frontier.{IsAbove, IsUnder}
use Rattle.sweep_tri.specs.Gaps.{gap_at, low_front, Front}
use Rattle.sweep_tri.specs.Slots.{AreSortedBy, HasLowFront}
use Rattle.sweep_tri.specs.declared.gap.Gap.{Gap}

-- ---- the places

-- the place of vertex v is from low to high
pub record IsBetween (corners : List Point) (gaps : List Gap) (v low high : ℕ) : Type 0 where
  pub ordered : low ≤ high
  pub inside : high ≤ length gaps
  pub above : (j : ℕ) → j < low → IsAbove corners (low_front (gap_at gaps j)) v
  pub not_above : (j : ℕ) → high ≤ j → j < length gaps → ¬ IsAbove corners (low_front (gap_at gaps j)) v

module _ (corners : List Point) (gaps : List Gap) (v : ℕ) (sorted : AreSortedBy corners gaps v) (low high : ℕ)
    (is : IsBetween corners gaps v low high) where
  -- where v is above the lower edge of a gap, its place is after it,
  pub low_moves : (middle : ℕ) → middle < high → IsAbove corners (low_front (gap_at gaps middle)) v
      → IsBetween corners gaps v (middle + 1) high
  low_moves middle less above = record {
    ordered = omega (arith, less);
    inside = is.inside;
    above = λ j fewer. elim (cases_eq j middle) [
      | inl same ↦ subst (λ i. IsAbove corners (low_front (gap_at gaps i)) v) (sym same) above
      | inr other ↦ sorted j middle (omega (arith, fewer, other)) (omega (arith, less, is.inside)) above
    ];
    not_above = is.not_above;
  }

  -- and where it is not, its place is not after it
  pub high_moves : (middle : ℕ) → low ≤ middle → middle < high → ¬ IsAbove corners (low_front (gap_at gaps middle)) v
      → IsBetween corners gaps v low middle
  high_moves middle more less not_above = record {
    ordered = more;
    inside = omega (arith, less, is.inside);
    above = is.above;
    not_above = λ j from within above. elim (cases_eq j middle) [
      | inl same ↦ not_above (subst (λ i. IsAbove corners (low_front (gap_at gaps i)) v) same above)
      | inr other ↦ not_above (sorted middle j (omega (arith, from, other)) within above)
    ];
  }

-- ---- the test

-- the turn over the ends of the lower edge of a gap tells whether vertex v is above it
pub above_by_turn : (corners : List Point) (start end : Point) (g : Gap) (v from to : ℕ) (turn : Direction) → HasLowFront corners g
    → v < length corners → from ≡ (low_front g).from → to ≡ (low_front g).to
    → (let at : ℕ → Point = λ i. point_named corners start end (Corner i) in turn ≡ turn_of (whole (at from)) (whole (at to)) (whole (at v)))
    → (turn ≡ Left) ↔ IsAbove corners (low_front g) v
above_by_turn corners start end g v from to turn has v_within from_is to_is turn_is =
    let from_at : vertex corners (low_front g).from ≡ slice_index_or corners from origin
    = vertex_in_range corners (low_front g).from origin has.from ∙ ap (λ n. slice_index_or corners n origin) (sym from_is) in
    let to_at : vertex corners (low_front g).to ≡ slice_index_or corners to origin
    = vertex_in_range corners (low_front g).to origin has.to ∙ ap (λ n. slice_index_or corners n origin) (sym to_is) in
    rw (turn_is, from_at, to_at, vertex_in_range corners v origin v_within) (positive_of_left _, left_of_positive _)

module _ (corners : List Point) (start goal : Point) where
  abbrev at : ℕ → Point
  at i = point_named corners start goal (Corner i)

  -- the turn at corners by their names
  named_turn : (a b c : ℕ) → a < length corners → b < length corners → c < length corners
      → turn_of (whole (at a)) (whole (at b)) (whole (at c))
      ≡ turn_of (whole (vertex corners a)) (whole (vertex corners b)) (whole (vertex corners c))
  named_turn a b c ha hb hc =
      rw (vertex_in_range corners a origin ha, vertex_in_range corners b origin hb, vertex_in_range corners c origin hc) refl

  -- a turn to the right says that the vertex is under the edge
  pub under_by_turn : (f : Front) (v : ℕ) → f.from < length corners → f.to < length corners → v < length corners → (d : Direction)
      → d ≡ turn_of (whole (at f.from)) (whole (at f.to)) (whole (at v)) → (d ≡ Right) ↔ IsUnder corners f v
  under_by_turn f v hf ht hv d is =
      let named = is ∙ named_turn f.from f.to v hf ht hv in
      let z = determinant (whole (vertex corners f.from)) (whole (vertex corners f.to)) (whole (vertex corners v)) in
      (λ e. negative_of_right z (sym named ∙ e), λ h. named ∙ right_of_negative z h)

  -- and one to the left that the third corner is
  pub left_by_turn : (a b c : ℕ) → a < length corners → b < length corners → c < length corners → (d : Direction)
      → d ≡ turn_of (whole (at a)) (whole (at b)) (whole (at c)) → (d ≡ Left) ↔ TurnsLeft corners a b c
  left_by_turn a b c ha hb hc d is =
      let named = is ∙ named_turn a b c ha hb hc in
      let z = determinant (whole (vertex corners a)) (whole (vertex corners b)) (whole (vertex corners c)) in
      (λ e. positive_of_left z (sym named ∙ e), λ h. named ∙ left_of_positive z h)
