-- The names of the next funnel, on the right or on the left, where its points are those of the next open funnel.
-- The walk from one diagonal of a sleeve to the next: the names of its funnel.
use Rattle.std.proofs.Common.{◌≡◌, sym, ap, subst, ◌∙◌, ℕ, ◌+◌, ◌-◌, ◌<◌, min, List, [], ◌∷◌, ◌++◌, length, take, drop, add-one, arith, ◌≢◌}
use Rattle.std.proofs.Common.{inl, inr, ◌≤◌, get_or}
use Rattle.std.proofs.lemmas.List.{get_or_append_left, length-take-le, map-append, drop-append-le}
use Rattle.std.proofs.lemmas.List.Elements.{All-append}
use Rattle.plane.specs.Point.{Point, whole}
use Rattle.rings.proofs.Vertices.{vertex_in_range}
use Rattle.rings.specs.Ring.{vertex, origin}
use Rattle.meshes.specs.Fits.{Fits}
use Rattle.meshes.specs.Side.{HasSide, tri_at}
use Rattle.meshes.specs.Sleeve.{IsOneOf, Sleeve, diagonal_at}
use Rattle.meshes.specs.declared.tri.Tri.{Tri}
use Rattle.funnels.proofs.Chains.{step_left, step_right}
use Rattle.funnels.proofs.Trees.{first_left, first_right}
use Rattle.funnels.proofs.Vertices.{IsSharedSide}
use Rattle.funnels.specs.Funnel.{IsReachedFrom}
use Rattle.funnels.specs.OpenFunnel.{IsOpenFunnel, left_behind, right_behind}
use Rattle.exact_plane.specs.Names.{name_at, named_points}
use Rattle.exact_plane.specs.Spot.{IsNamed, point_named}
use Rattle.exact_plane.specs.declared.turns.Spot.{Spot}
use Rattle.exact_plane.specs.declared.turns.Spot.TheVariants.{Corner, Goal, Start}
use Rattle.funnel_walk.proofs.Closed.{left_have, more_have, one_has, right_have}
use Rattle.funnel_walk.proofs.EachGoal.{corner_no_goal, no_goal_alone, no_goal_before}
use Rattle.funnel_walk.proofs.Opened.{next_diagonal, shared, diagonal_below}
use Rattle.funnel_walk.proofs.PathNames.{apex_below, front_have, left_points, name_behind, name_in_front, named_drop, named_push}
use Rattle.funnel_walk.proofs.PathNames.{named_take, rest_have, right_points}
use Rattle.funnel_walk.specs.Names.{left_names, right_names}
use Rattle.funnel_walk.specs.Walked.{IsWalked}

module _ (corners : List Point) (start goal : Point) (given names : List Spot) (a i j : ℕ)
    (w : IsWalked corners start goal given names a i j) (m h : ℕ) (m_below : m < length corners)
    (m_is : vertex corners m ≡ point_named corners start goal (Corner m)) where
  -- the point that a name stands for
  abbrev at : Spot → Point
  at = point_named corners start goal

  module _ (within : h < length names) where
    -- ---- on the right

    -- the points of the names are the front and the corner,
    right_points_are : named_points at (take (h + 1) names ++ Corner m ∷ []) ≡ take (h + 1) (named_points at names) ++ vertex corners m ∷ []
    right_points_are = named_push at (take (h + 1) names) (Corner m)
        ∙ ap (λ ns. ns ++ at (Corner m) ∷ []) (named_take at (h + 1) names)
        ∙ ap (λ v. take (h + 1) (named_points at names) ++ v ∷ []) (sym m_is)

    -- those of the given names have the ones that are left behind more,
    right_given_are : named_points at (given ++ left_names names a (a - h))
        ≡ named_points at given ++ left_behind (named_points at names) a (a - h)
    right_given_are = map-append at given (left_names names a (a - h))
        ∙ ap (λ ns. named_points at given ++ ns) (left_points at names a (a - h) (apex_below w))

    -- the apex has the last name that comes to them,
    right_apex : name_at (take (h + 1) names ++ Corner m ∷ []) (min a h) ≡ name_at names (a - (a - h))
    right_apex =
        let place : min a h ≡ a - (a - h) = omega arith in
        get_or_append_left (take (h + 1) names) (Corner m ∷ []) Start (min a h) (omega (arith, length-take-le (h + 1) names (omega arith)))
        ∙ name_in_front names (h + 1) (min a h) (omega arith) ∙ ap (name_at names) place

    -- so the walk comes to the next diagonal
    pub walked_right : IsOpenFunnel corners (named_points at given ++ left_behind (named_points at names) a (a - h))
        (take (h + 1) (named_points at names) ++ vertex corners m ∷ []) (min a h) i m
        → IsWalked corners start goal (given ++ left_names names a (a - h)) (take (h + 1) names ++ Corner m ∷ []) (min a h) i m
    walked_right next = record {
      funnel = subst (λ ps. IsOpenFunnel corners ps (named_points at (take (h + 1) names ++ Corner m ∷ [])) (min a h) i m)
          (sym right_given_are)
          (subst (λ ps. IsOpenFunnel corners (named_points at given ++ left_behind (named_points at names) a (a - h)) ps (min a h) i m)
          (sym right_points_are) next);
      given_named = All-append (IsNamed corners) given _ w.given_named (left_have (IsNamed corners) names w.named a (a - h) (apex_below w));
      named = All-append (IsNamed corners) (take (h + 1) names) (Corner m ∷ []) (front_have (IsNamed corners) names (h + 1) w.named)
          (one_has (IsNamed corners) (Corner m) m_below);
      given_no_goal = All-append (λ name. name ≢ Goal) given _ w.given_no_goal
          (left_have (λ name. name ≢ Goal) names w.no_goal a (a - h) (apex_below w));
      no_goal = All-append (λ name. name ≢ Goal) (take (h + 1) names) (Corner m ∷ []) (front_have (λ name. name ≢ Goal) names (h + 1) w.no_goal)
          (no_goal_alone (Corner m) (corner_no_goal m));
      starts = first_left Start given (name_at names) a (a - h) _ right_apex ∙ w.starts;
    }

    -- ---- on the left

    -- the points of the names are the corner and the rest,
    left_points_are : named_points at (Corner m ∷ drop h names) ≡ vertex corners m ∷ drop h (named_points at names)
    left_points_are = let rest = named_drop at h names in let first = sym m_is in λ k. first k ∷ rest k

    -- those of the given names have the ones that are left behind more,
    left_given_are : named_points at (given ++ right_names names a (h - a))
        ≡ named_points at given ++ right_behind (named_points at names) a (h - a)
    left_given_are = map-append at given (right_names names a (h - a))
        ∙ ap (λ ns. named_points at given ++ ns) (right_points at names a (h - a) (omega (arith, apex_below w)))

    -- the apex has the last name that comes to them,
    left_apex : name_at (Corner m ∷ drop h names) (a - h + 1) ≡ name_at names (a + (h - a))
    left_apex =
        let place : h + (a - h) ≡ a + (h - a) = omega arith in
        ap (name_at (Corner m ∷ drop h names)) (add-one (a - h)) ∙ name_behind names h (a - h) ∙ ap (name_at names) place

    -- so the walk comes to the next diagonal
    pub walked_left : IsOpenFunnel corners (named_points at given ++ right_behind (named_points at names) a (h - a))
        (vertex corners m ∷ drop h (named_points at names)) (a - h + 1) m j
        → IsWalked corners start goal (given ++ right_names names a (h - a)) (Corner m ∷ drop h names) (a - h + 1) m j
    walked_left next = record {
      funnel = subst (λ ps. IsOpenFunnel corners ps (named_points at (Corner m ∷ drop h names)) (a - h + 1) m j) (sym left_given_are)
          (subst (λ ps. IsOpenFunnel corners (named_points at given ++ right_behind (named_points at names) a (h - a)) ps (a - h + 1) m j)
          (sym left_points_are) next);
      given_named = All-append (IsNamed corners) given _ w.given_named
          (right_have (IsNamed corners) names w.named a (h - a) (omega (arith, apex_below w)));
      named = more_have (IsNamed corners) (Corner m) (drop h names) m_below (rest_have (IsNamed corners) names h w.named);
      given_no_goal = All-append (λ name. name ≢ Goal) given _ w.given_no_goal
          (right_have (λ name. name ≢ Goal) names w.no_goal a (h - a) (omega (arith, apex_below w)));
      no_goal = no_goal_before (Corner m) (drop h names) (corner_no_goal m) (rest_have (λ name. name ≢ Goal) names h w.no_goal);
      starts = first_right Start given (name_at names) a (h - a) _ left_apex ∙ w.starts;
    }

module _ (corners : List Point) (tris : List Tri) (fits : Fits corners tris) (sleeve : Sleeve) (of_mesh : IsOneOf tris sleeve)
    (start goal : Point) (i : ℕ) (inner : 0 < i) (below : i < length sleeve.diagonals) (given : ℕ) (out names : List Spot) (a : ℕ)
    (given_of : given ≤ length out)
    (w : IsWalked corners start goal (drop given out) names a (diagonal_at sleeve (i - 1)).left (diagonal_at sleeve (i - 1)).right) where
  -- the points of the names
  abbrev ns : List Point
  ns = named_points (point_named corners start goal) names

  abbrev before : List Point
  before = named_points (point_named corners start goal) (drop given out)

  -- the triangle between the two diagonals is one of the mesh,
  k_below : get_or sleeve.walk i 0 < length tris
  k_below = of_mesh.walk.in_list i (omega (arith, of_mesh.count))

  -- the diagonal behind is shared,
  behind : IsSharedSide tris (diagonal_at sleeve (i - 1)).left (diagonal_at sleeve (i - 1)).right
  behind = shared corners tris fits sleeve of_mesh (i - 1) (omega arith)

  -- and what is given with more
  more_given : (more : List Spot) → drop given out ++ more ≡ drop given (out ++ more)
  more_given more = sym (drop-append-le given out more given_of)

  -- the left end stays,
  pub goes_right : (diagonal_at sleeve i).left ≡ (diagonal_at sleeve (i - 1)).left → (n : ℕ) → 0 < n → n ≤ length names
      → IsReachedFrom ns a (n - 1) (whole (point_named corners start goal (Corner (diagonal_at sleeve i).right)))
      → IsWalked corners start goal (drop given (out ++ left_names names a (a - (n - 1))))
      (take n names ++ Corner (diagonal_at sleeve i).right ∷ []) (min a (n - 1)) (diagonal_at sleeve i).left (diagonal_at sleeve i).right
  goes_right same n some few reached =
      let l = (diagonal_at sleeve (i - 1)).left in
      let r = (diagonal_at sleeve (i - 1)).right in
      let m = (diagonal_at sleeve i).right in
      let h = n - 1 in
      let next = next_diagonal corners tris fits sleeve of_mesh i inner below in
      let m_below = (diagonal_below corners tris fits sleeve of_mesh i below).1 in
      let m_is = vertex_in_range corners m origin m_below in
      let count : h + 1 ≡ n = omega arith in
      let two = shared corners tris fits sleeve of_mesh i below in
      let sides : HasSide (tri_at tris (get_or sleeve.walk i 0)) r m × HasSide (tri_at tris (get_or sleeve.walk i 0)) m l = elim next.1 [
        | inl left_stays ↦ (left_stays.1, left_stays.2)
        | inr right_stays ↦ absurd (right_stays.0 same)
      ] in
      let funnel = step_right corners tris fits (get_or sleeve.walk i 0) l r m k_below next.0 sides.0 sides.1 behind before ns a w.funnel h
      (subst (λ p. IsReachedFrom ns a h (whole p)) (sym m_is) reached) (subst (λ e. IsSharedSide tris e m) same two) in
      let more = left_names names a (a - h) in
      let walked : IsWalked corners start goal (drop given out ++ more) (take (h + 1) names ++ Corner m ∷ []) (min a h) l m =
      walked_right corners start goal (drop given out) names a l r w m h m_below m_is (omega arith) funnel in
      subst (λ e. IsWalked corners start goal (drop given (out ++ more)) (take n names ++ Corner m ∷ []) (min a h) e m) (sym same)
      (subst (λ c. IsWalked corners start goal (drop given (out ++ more)) (take c names ++ Corner m ∷ []) (min a h) l m) count
      (subst (λ gs. IsWalked corners start goal gs (take (h + 1) names ++ Corner m ∷ []) (min a h) l m) (more_given more) walked))

  -- or the right end does
  pub goes_left : (diagonal_at sleeve i).left ≢ (diagonal_at sleeve (i - 1)).left → (h : ℕ) → h < length names
      → IsReachedFrom ns a h (whole (point_named corners start goal (Corner (diagonal_at sleeve i).left)))
      → IsWalked corners start goal (drop given (out ++ right_names names a (h - a)))
      (Corner (diagonal_at sleeve i).left ∷ drop h names) (a - h + 1) (diagonal_at sleeve i).left (diagonal_at sleeve i).right
  goes_left other h within reached =
      let l = (diagonal_at sleeve (i - 1)).left in
      let r = (diagonal_at sleeve (i - 1)).right in
      let m = (diagonal_at sleeve i).left in
      let next = next_diagonal corners tris fits sleeve of_mesh i inner below in
      let m_below = (diagonal_below corners tris fits sleeve of_mesh i below).0 in
      let m_is = vertex_in_range corners m origin m_below in
      let two = shared corners tris fits sleeve of_mesh i below in
      elim next.1 [
        | inl left_stays ↦ absurd (other left_stays.0)
        | inr right_stays ↦
            let same = right_stays.1 in
            let funnel = step_left corners tris fits (get_or sleeve.walk i 0) l r m k_below next.0 right_stays.2 right_stays.3 behind
            before ns a w.funnel h (subst (λ p. IsReachedFrom ns a h (whole p)) (sym m_is) reached)
            (subst (λ e. IsSharedSide tris m e) same two) in
            let more = right_names names a (h - a) in
            let walked : IsWalked corners start goal (drop given out ++ more) (Corner m ∷ drop h names) (a - h + 1) m r =
            walked_left corners start goal (drop given out) names a l r w m h m_below m_is within funnel in
            subst (λ e. IsWalked corners start goal (drop given (out ++ more)) (Corner m ∷ drop h names) (a - h + 1) m e) (sym same)
            (subst (λ gs. IsWalked corners start goal gs (Corner m ∷ drop h names) (a - h + 1) m r) (more_given more) walked)
      ]
