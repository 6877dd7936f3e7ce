-- The taut chain where the start is the goal, and where both are in one triangle.
-- The names from the start over the points that the way to the goal leaves behind stand for a taut chain.
use Rattle.std.proofs.Common.{◌≡◌, ◌≢◌, refl, ◌∙◌, ℕ, ◌<◌, List, [], ◌∷◌, ◌++◌, length, arith, sym, ap, subst, ◌+◌, get_or}
use Rattle.std.proofs.lemmas.List.{append_assoc, get_or_push, length-append}
use Rattle.plane.proofs.Points.{whole_is_point}
use Rattle.plane.specs.Point.{Point, whole}
use Rattle.rings.specs.Chain.{IsBentChain, IsTaut, point_at}
use Rattle.rings.specs.Ring.{vertex}
use Rattle.rings.specs.Sees.{Sees}
use Rattle.meshes.proofs.Sight.{sees_in_triangle, triangle_in_ring}
use Rattle.meshes.proofs.TreeLeaves.{next_corner}
use Rattle.meshes.specs.Fits.{Fits, IsInTri}
use Rattle.meshes.specs.Side.{tri_at}
use Rattle.meshes.specs.Sleeve.{IsOneOf, Sleeve, diagonal_at}
use Rattle.meshes.specs.declared.tri.Tri.{Tri}
use Rattle.funnels.proofs.Bends.{chain_more}
use Rattle.funnels.proofs.Chains.{bent_from_apex, chain_on, chain_to, reached_bends, sees_reached}
use Rattle.funnels.proofs.Trees.{way_to}
use Rattle.funnels.specs.Funnel.{IsReachedFrom}
use Rattle.exact_plane.specs.Names.{AreNamed, name_at, named_points}
use Rattle.exact_plane.specs.Spot.{IsNamed, point_named}
use Rattle.exact_plane.specs.declared.turns.Spot.{Spot}
use Rattle.exact_plane.specs.declared.turns.Spot.TheVariants.{Goal, Start}
use Rattle.funnel_walk.proofs.Closed.{more_have, one_has, named_at_goal, named_to_goal, names_on_way, starts_at_goal, starts_to_goal}
use Rattle.funnel_walk.proofs.Closed.{taut_at_goal, taut_to_goal}
use Rattle.funnel_walk.proofs.Opened.{enters, shared}
use Rattle.funnel_walk.proofs.PathNames.{length_named, point_of_name}
use Rattle.funnel_walk.specs.Walked.{AppendsTaut, IsWalked}

module _ (corners : List Point) (tris : List Tri) (fits : Fits corners tris) (k : ℕ) (within : k < length tris)
    (start goal : Point) (in_start : IsInTri corners (tri_at tris k) (whole start)) where
  -- a start in a triangle is a chain
  start_alone : IsBentChain corners (start ∷ [])
  start_alone = (bent_from_apex corners (start ∷ []) 0 (omega arith) (omega arith)
      (triangle_in_ring corners tris fits k within (whole start) (whole_is_point start) in_start)).chain

  -- that is taut where it is the goal,
  stays : start ≡ goal → IsTaut corners start goal (start ∷ [])
  stays same = record { bent = start_alone; first = refl; last = same; single = λ _. refl }

  -- and a goal in the same triangle is seen
  goes_straight : start ≢ goal → IsInTri corners (tri_at tris k) (whole goal) → IsTaut corners start goal (start ∷ goal ∷ [])
  goes_straight differ in_goal = record {
    bent = chain_more (start ∷ []) start goal refl corners start_alone
        (sees_in_triangle corners tris fits k within (whole start) (whole goal) (whole_is_point start) (whole_is_point goal)
        in_start in_goal)
        differ (triangle_in_ring corners tris fits k within (whole goal) (whole_is_point goal) in_goal)
        (λ two. absurd (omega (arith, two)));
    first = refl;
    last = refl;
    single = λ same. absurd (differ same);
  }

  -- the start's name alone is appended where it is the goal,
  pub stays_named : start ≡ goal → (out out' : List Spot) → out' ≡ out ++ Start ∷ [] → AppendsTaut corners start goal out out'
  stays_named same out out' appended = record {
    names = record {
      others = [];
      appended = appended;
      alone = λ _. refl;
      named = one_has (IsNamed corners) Start tt;
      points = stays same;
    };
    last = λ differ. absurd (differ same);
  }

  -- and both names else
  pub goes_named : start ≢ goal → IsInTri corners (tri_at tris k) (whole goal) → (out out' : List Spot)
      → out' ≡ (out ++ Start ∷ []) ++ Goal ∷ [] → AppendsTaut corners start goal out out'
  goes_named differ in_goal out out' appended = record {
    names = record {
      others = Goal ∷ [];
      appended = appended ∙ append_assoc out (Start ∷ []) (Goal ∷ []);
      alone = λ same. absurd (differ same);
      named = more_have (IsNamed corners) Start (Goal ∷ []) tt (one_has (IsNamed corners) Goal tt);
      points = goes_straight differ in_goal;
    };
    last = λ _. refl;
  }

module _ (corners : List Point) (tris : List Tri) (fits : Fits corners tris) (sleeve : Sleeve) (of_mesh : IsOneOf tris sleeve)
    (start goal : Point) (differ : start ≢ goal) (i : ℕ) (below : i < length sleeve.diagonals)
    (in_goal : IsInTri corners (tri_at tris (get_or sleeve.walk (i + 1) 0)) (whole goal))
    (given names : List Spot) (a : ℕ)
    (w : IsWalked corners start goal given names a (diagonal_at sleeve i).left (diagonal_at sleeve i).right)
    (h : ℕ) (reached : IsReachedFrom (named_points (point_named corners start goal) names) a h (whole goal)) where
  -- the points of the names
  abbrev at : Spot → Point
  at = point_named corners start goal

  abbrev ns : List Point
  ns = named_points at names

  abbrev before : List Point
  before = named_points at given

  -- the triangle behind the diagonal
  k_below : get_or sleeve.walk (i + 1) 0 < length tris
  k_below = of_mesh.walk.in_list (i + 1) (omega (arith, of_mesh.count))

  -- the place is one of the names,
  within : h < length names
  within = omega (arith, reached.within, length_named at names)

  -- the point that the goal is reached from sees it,
  seen : Sees corners (whole (point_at ns h)) (whole goal)
  seen =
      let k = get_or sleeve.walk (i + 1) 0 in
      let l = (diagonal_at sleeve i).left in
      let r = (diagonal_at sleeve i).right in
      sees_reached corners corners (tri_at tris k) (triangle_in_ring corners tris fits k k_below)
      (fits.triangles k k_below).counterclockwise
      l r (enters corners tris fits sleeve of_mesh i below) (vertex corners l) (vertex corners r) refl refl ns a w.funnel.funnel
      w.funnel.sight h (whole goal) (whole_is_point goal) in_goal reached

  -- and the way there bends
  goes_on : at (name_at names h) ≢ goal → IsBentChain corners (way_to before ns a h ++ point_at ns h ∷ goal ∷ [])
  goes_on other =
      let k = get_or sleeve.walk (i + 1) 0 in
      let l = (diagonal_at sleeve i).left in
      let r = (diagonal_at sleeve i).right in
      let side = enters corners tris fits sleeve of_mesh i below in
      let third = next_corner (tri_at tris k) l r side in
      let differs : ¬ (point_at ns h ≡ goal) = λ same. other (sym (point_of_name at names h within) ∙ same) in
      chain_on corners ns a (vertex corners l) (vertex corners r) w.funnel.funnel w.funnel.sight before w.funnel.bent h reached.within goal
      seen differs
      (reached_bends corners tris fits k l r third.0 k_below side third.1 third.2 (shared corners tris fits sleeve of_mesh i below)
      before ns a w.funnel.funnel w.funnel.bent w.funnel.ends h goal in_goal reached seen differs)

  -- names that begin with the start, end with the goal and are a taut chain,
  appends : (ms others : List Spot) → ms ++ Goal ∷ [] ≡ Start ∷ others → (out out' : List Spot) → out' ≡ out ++ (ms ++ Goal ∷ [])
      → AreNamed corners (ms ++ Goal ∷ []) → IsTaut corners start goal (named_points at (ms ++ Goal ∷ []))
      → AppendsTaut corners start goal out out'
  appends ms others first out out' appended named taut = record {
    names = record {
      others = others;
      appended = appended ∙ ap (λ l. out ++ l) first;
      alone = λ same. absurd (differ same);
      named = subst (AreNamed corners) first named;
      points = subst (λ l. IsTaut corners start goal (named_points at l)) first taut;
    };
    last = λ _.
        let count : length ms ≡ length others = omega (arith, ap length first, length-append ms (Goal ∷ [])) in
        ap (λ l. name_at l (length others)) (sym first) ∙ get_or_push ms Goal Start (length others) count;
  }

  -- where that point is the goal, its name is left out,
  pub taut_there : at (name_at names h) ≡ goal → (out out' : List Spot) → out' ≡ out ++ (names_on_way given names a h ++ Goal ∷ [])
      → AppendsTaut corners start goal out out'
  taut_there at_goal out out' appended =
      let l = (diagonal_at sleeve i).left in
      let r = (diagonal_at sleeve i).right in
      let chain = chain_to corners ns a (vertex corners l) (vertex corners r) w.funnel.funnel w.funnel.sight before w.funnel.bent
      h reached.within in
      let first = starts_at_goal corners start goal given names a l r w differ h within at_goal chain in
      appends (names_on_way given names a h) first.0 first.1 out out' appended
      (named_at_goal corners start goal given names a l r w differ h within at_goal chain)
      (taut_at_goal corners start goal given names a l r w differ h within at_goal chain)

  -- and else the goal comes after it
  pub taut_on : at (name_at names h) ≢ goal → (out out' : List Spot)
      → out' ≡ out ++ (names_on_way given names a h ++ name_at names h ∷ [] ++ Goal ∷ []) → AppendsTaut corners start goal out out'
  taut_on other out out' appended =
      let l = (diagonal_at sleeve i).left in
      let r = (diagonal_at sleeve i).right in
      let chain = goes_on other in
      let first = starts_to_goal corners start goal given names a l r w differ h within chain in
      appends (names_on_way given names a h ++ name_at names h ∷ []) first.0 first.1 out out' appended
      (named_to_goal corners start goal given names a l r w differ h within chain)
      (taut_to_goal corners start goal given names a l r w differ h within chain)
