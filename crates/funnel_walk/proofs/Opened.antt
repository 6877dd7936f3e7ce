-- The corners of a diagonal are vertices, so their names stand for points.
-- Two diagonals of a sleeve that follow each other, in the triangle between them; and each diagonal is shared by two triangles.
-- The names of the first funnel: of the start between the ends of the first diagonal, or at one of them.
use Rattle.std.proofs.Common.{ℕ, ◌<◌, List, length, get_or, arith, ◌≡◌, ◌≢◌, ◌⊎◌, sym, ◌∙◌, subst, ◌+◌, ◌-◌, inl, inr, refl, [], ◌∷◌}
use Rattle.std.proofs.lemmas.List.Elements.{All-nil}
use Rattle.plane.specs.Point.{Point, whole}
use Rattle.plane.specs.Turn.{IsLeft}
use Rattle.rings.proofs.Vertices.{vertex_in_range}
use Rattle.rings.specs.Ring.{vertex, origin}
use Rattle.meshes.proofs.Sides.{ends_below, fitting_sides}
use Rattle.meshes.proofs.TreeLeaves.{next_corner, side_is_one}
use Rattle.meshes.specs.Fits.{Fits, IsInTri}
use Rattle.meshes.specs.Side.{HasSidesOnce, HasSide, tri_at}
use Rattle.meshes.specs.Sleeve.{IsOneOf, Sleeve, diagonal_at}
use Rattle.meshes.specs.declared.tri.Tri.{Tri}
use Rattle.funnels.proofs.Chains.{start_at_left, start_at_right, start_between}
use Rattle.funnels.proofs.DeadEnds.{crossed_shared}
use Rattle.funnels.proofs.Vertices.{IsSharedSide}
use Rattle.funnels.specs.OpenFunnel.{IsOpenFunnel}
use Rattle.exact_plane.specs.Names.{AreNamed, name_at, named_points}
use Rattle.exact_plane.specs.Spot.{IsNamed, point_named}
use Rattle.exact_plane.specs.declared.turns.Spot.{Spot}
use Rattle.exact_plane.specs.declared.turns.Spot.TheVariants.{Corner, Goal, Start}
use Rattle.funnel_walk.proofs.Closed.{more_have, one_has}
use Rattle.funnel_walk.proofs.EachGoal.{corner_no_goal, no_goal_alone, no_goal_before, start_no_goal}
use Rattle.funnel_walk.specs.Walked.{HaveNoGoal, IsWalked}

pub diagonal_below : (corners : List Point) (tris : List Tri) → Fits corners tris → (sleeve : Sleeve) → IsOneOf tris sleeve
    → (i : ℕ) → i < length sleeve.diagonals
    → ((diagonal_at sleeve i).left < length corners) × ((diagonal_at sleeve i).right < length corners)
diagonal_below corners tris fits sleeve of_mesh i below =
    let ends = ends_below corners tris fits (get_or sleeve.walk i 0) (diagonal_at sleeve i).right (diagonal_at sleeve i).left
    (of_mesh.walk.in_list i (omega (arith, of_mesh.count))) (of_mesh.diagonals i below).of_first in
    (ends.1, ends.0)

-- a triangle that is entered over the side from l to r is left over the side from p to q: its left end stays or its right end does
abbrev pub IsNextSide : Tri → ℕ → ℕ → ℕ → ℕ → Type 0
IsNextSide t l r q p = ((q ≡ l) × HasSide t r p × HasSide t p l) ⊎ ((q ≢ l) × (p ≡ r) × HasSide t r q × HasSide t q l)

-- another side of a triangle than the one that was entered by is a next one
next_side : (corners : List Point) (t : Tri) → IsLeft (whole (vertex corners t.a)) (whole (vertex corners t.b)) (whole (vertex corners t.c))
    → (l r : ℕ) → ((i j : ℕ) → HasSide t i j → ¬ HasSide t j i) → HasSide t l r → (p q : ℕ) → HasSide t p q → ¬ ((p ≡ l) × (q ≡ r))
    → IsNextSide t l r q p
next_side corners t left l r one_way has p q other not_same =
    let (m, second, third) = next_corner t l r has in
    elim (side_is_one corners t left l r m has second p q other) [
      | inl same ↦ absurd (not_same same)
      | inr (inl on_right) ↦
          let same_q : m ≡ q = sym on_right.1 in
          inr (
            λ q_is_l. one_way l r has (subst (λ n. HasSide t r n) (same_q ∙ q_is_l) second),
            on_right.0,
            subst (λ n. HasSide t r n) same_q second,
            subst (λ n. HasSide t n l) same_q third,
          )
      | inr (inr on_left) ↦
          let same_p : m ≡ p = sym on_left.0 in
          inl (on_left.1, subst (λ n. HasSide t r n) same_p second, subst (λ n. HasSide t n l) same_p third)
    ]

module _ (corners : List Point) (tris : List Tri) (fits : Fits corners tris) (sleeve : Sleeve) (of_mesh : IsOneOf tris sleeve) where
  -- the triangle before diagonal i
  abbrev pub triangle_before : ℕ → Tri
  triangle_before i = tri_at tris (get_or sleeve.walk i 0)

  -- each side belongs to one triangle,
  sides : HasSidesOnce tris
  sides = fitting_sides corners tris fits

  -- the triangles of the walk are in the list,
  in_list : (i : ℕ) → i < length sleeve.diagonals + 1 → get_or sleeve.walk i 0 < length tris
  in_list i below = of_mesh.walk.in_list i (omega (arith, of_mesh.count))

  -- and no two of them are one
  once : (i j : ℕ) → i < j → j < length sleeve.diagonals + 1 → ¬ (get_or sleeve.walk i 0 ≡ get_or sleeve.walk j 0)
  once i j before below = of_mesh.walk.once i j before (omega (arith, of_mesh.count))

  module _ (i : ℕ) (below : i < length sleeve.diagonals) where
    -- the triangle after a diagonal is entered by it,
    pub enters : HasSide (triangle_before (i + 1)) (diagonal_at sleeve i).left (diagonal_at sleeve i).right
    enters = (of_mesh.diagonals i below).of_second

    -- the one before is left by it,
    pub leaves : HasSide (triangle_before i) (diagonal_at sleeve i).right (diagonal_at sleeve i).left
    leaves = (of_mesh.diagonals i below).of_first

    -- and these two triangles share it
    pub shared : IsSharedSide tris (diagonal_at sleeve i).left (diagonal_at sleeve i).right
    shared =
        crossed_shared corners tris fits sleeve.walk of_mesh.walk i (diagonal_at sleeve i).left (diagonal_at sleeve i).right
        (record { has_next = omega (arith, of_mesh.count); of_this = inr leaves; of_next = inl enters })

  -- the triangle between two diagonals keeps the left end or the right one
  pub next_diagonal : (i : ℕ) → 0 < i → i < length sleeve.diagonals
      → HasSide (triangle_before i) (diagonal_at sleeve (i - 1)).left (diagonal_at sleeve (i - 1)).right
      × IsNextSide (triangle_before i) (diagonal_at sleeve (i - 1)).left (diagonal_at sleeve (i - 1)).right
      (diagonal_at sleeve i).left (diagonal_at sleeve i).right
  next_diagonal i inner below =
      let l = (diagonal_at sleeve (i - 1)).left in
      let r = (diagonal_at sleeve (i - 1)).right in
      let p = (diagonal_at sleeve i).right in
      let q = (diagonal_at sleeve i).left in
      let step : i - 1 + 1 ≡ i = omega arith in
      let has : HasSide (triangle_before i) l r = subst (λ n. HasSide (triangle_before n) l r) step (enters (i - 1) (omega arith)) in
      let first : HasSide (triangle_before (i - 1)) r l = leaves (i - 1) (omega arith) in
      let last : HasSide (triangle_before (i + 1)) q p = enters i below in (
        has,
        next_side corners (triangle_before i) (fits.triangles _ (in_list i (omega arith))).counterclockwise l r
            (λ a b. sides.one_way a b _ (in_list i (omega arith))) has p q (leaves i below)
            (λ same. once (i - 1) (i + 1) (omega arith) (omega arith)
            (sides.once r l _ _ (in_list (i - 1) (omega arith)) (in_list (i + 1) (omega arith)) first
            (subst (λ n. HasSide (triangle_before (i + 1)) n l) same.1 (subst (λ n. HasSide (triangle_before (i + 1)) q n) same.0 last)))),
      )

module _ (corners : List Point) (tris : List Tri) (fits : Fits corners tris) (sleeve : Sleeve) (of_mesh : IsOneOf tris sleeve)
    (some : 0 < length sleeve.diagonals) (start goal : Point)
    (in_start : IsInTri corners (tri_at tris (get_or sleeve.walk 0 0)) (whole start)) where
  -- the first triangle, and the ends of the first diagonal,
  abbrev k : ℕ
  k = get_or sleeve.walk 0 0

  abbrev i : ℕ
  i = (diagonal_at sleeve 0).left

  abbrev j : ℕ
  j = (diagonal_at sleeve 0).right

  -- the point that a name stands for, and the names of these ends
  abbrev at : Spot → Point
  at = point_named corners start goal

  abbrev left : Spot
  left = Corner i

  abbrev right : Spot
  right = Corner j

  -- they are vertices,
  left_is : vertex corners i ≡ at left
  left_is = vertex_in_range corners _ origin (diagonal_below corners tris fits sleeve of_mesh 0 some).0

  -- both of them,
  right_is : vertex corners j ≡ at right
  right_is = vertex_in_range corners _ origin (diagonal_below corners tris fits sleeve of_mesh 0 some).1

  -- so their names stand for points,
  left_named : IsNamed corners left
  left_named = (diagonal_below corners tris fits sleeve of_mesh 0 some).0

  -- both of them too,
  right_named : IsNamed corners right
  right_named = (diagonal_below corners tris fits sleeve of_mesh 0 some).1

  -- the first triangle is one of the mesh,
  k_below : k < length tris
  k_below = of_mesh.walk.in_list 0 of_mesh.walk.some

  -- it has the diagonal as a side,
  side : HasSide (tri_at tris k) j i
  side = leaves corners tris fits sleeve of_mesh 0 some

  -- with a third corner,
  third : (m : ℕ) × HasSide (tri_at tris k) i m × HasSide (tri_at tris k) m j
  third = next_corner (tri_at tris k) j i side

  -- and another triangle has it too
  two : IsSharedSide tris i j
  two = shared corners tris fits sleeve of_mesh 0 some

  -- names of an open funnel with the start at the apex are as far as the walk has come
  walked_of : (names : List Spot) (a : ℕ)
      → IsOpenFunnel corners [] (named_points at names) a i j
      → AreNamed corners names → HaveNoGoal names → name_at names a ≡ Start
      → IsWalked corners start goal [] names a i j
  walked_of names a funnel named no_goal starts =
      record {
        funnel = funnel;
        given_named = All-nil (IsNamed corners);
        named = named;
        given_no_goal = All-nil (λ name. name ≢ Goal);
        no_goal = no_goal;
        starts = starts;
      }

  -- a start that is neither end is the apex between them,
  pub opens_between : at Start ≢ at left → at Start ≢ at right
      → IsWalked corners start goal [] (left ∷ Start ∷ right ∷ []) 1 i j
  opens_between not_left not_right =
      let funnel = start_between corners tris fits k i j third.0 k_below side third.1 third.2 two start in_start
      (λ same. not_left (same ∙ left_is)) (λ same. not_right (same ∙ right_is)) in
      walked_of (left ∷ Start ∷ right ∷ []) 1
      (subst (λ l. IsOpenFunnel corners [] (l ∷ start ∷ at right ∷ []) 1 i j) left_is
      (subst (λ r. IsOpenFunnel corners [] (vertex corners i ∷ start ∷ r ∷ []) 1 i j) right_is funnel))
      (more_have (IsNamed corners) left (Start ∷ right ∷ []) left_named
      (more_have (IsNamed corners) Start (right ∷ []) tt (one_has (IsNamed corners) right right_named)))
      (no_goal_before left (Start ∷ right ∷ []) (corner_no_goal i)
      (no_goal_before Start (right ∷ []) start_no_goal (no_goal_alone right (corner_no_goal j)))) refl

  -- one at the left end is there,
  pub opens_at_left : at Start ≡ at left
      → IsWalked corners start goal [] (Start ∷ right ∷ []) 0 i j
  opens_at_left same =
      let funnel = start_at_left corners tris fits k i j third.0 k_below side third.1 third.2 two start in_start (same ∙ sym left_is) in
      walked_of (Start ∷ right ∷ []) 0
      (subst (λ r. IsOpenFunnel corners [] (start ∷ r ∷ []) 0 i j) right_is funnel)
      (more_have (IsNamed corners) Start (right ∷ []) tt (one_has (IsNamed corners) right right_named))
      (no_goal_before Start (right ∷ []) start_no_goal (no_goal_alone right (corner_no_goal j))) refl

  -- and so is one at the right end
  pub opens_at_right : at Start ≡ at right
      → IsWalked corners start goal [] (left ∷ Start ∷ []) 1 i j
  opens_at_right same =
      let funnel = start_at_right corners tris fits k i j third.0 k_below side third.1 third.2 two start in_start (same ∙ sym right_is) in
      walked_of (left ∷ Start ∷ []) 1
      (subst (λ l. IsOpenFunnel corners [] (l ∷ start ∷ []) 1 i j) left_is funnel)
      (more_have (IsNamed corners) left (Start ∷ []) left_named (one_has (IsNamed corners) Start tt))
      (no_goal_before left (Start ∷ []) (corner_no_goal i) (no_goal_alone Start start_no_goal)) refl

  -- no start is at both
  pub not_at_both : at Start ≡ at left → ¬ (at Start ≡ at right)
  not_at_both on_left on_right = (opens_at_left on_left).funnel.funnel.ends_differ (left_is ∙ sym on_left ∙ on_right ∙ sym right_is)
