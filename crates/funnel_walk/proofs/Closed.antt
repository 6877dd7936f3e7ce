-- The names that a way gives: those of the front, and that all of them stand for points.
-- The names from the start over the points that a walk leaves behind to the goal stand for a taut chain.
use Rattle.std.proofs.Common.{◌≡◌, refl, ℕ, zero, suc, ◌+◌, ◌-◌, ◌<◌, ◌≤◌, List, [], ◌∷◌, length, take, arith, ◌≢◌, sym, ap, subst, ◌∙◌}
use Rattle.std.proofs.Common.{min, ◌++◌}
use Rattle.std.proofs.lemmas.List.{append_assoc, get_or_append_left, get_or_push, length-append, map-append}
use Rattle.std.proofs.lemmas.List.Elements.{All-append}
use Rattle.std.specs.List.{All}
use Rattle.plane.specs.Point.{Point}
use Rattle.rings.specs.Chain.{IsBentChain, IsTaut, point_at}
use Rattle.rings.specs.Ring.{origin}
use Rattle.funnels.proofs.Trees.{first_on_way, way_to}
use Rattle.funnels.specs.OpenFunnel.{left_behind}
use Rattle.exact_plane.specs.Names.{AreNamed, name_at, named_points}
use Rattle.exact_plane.specs.Spot.{IsNamed, point_named}
use Rattle.exact_plane.specs.declared.turns.Spot.{Spot}
use Rattle.exact_plane.specs.declared.turns.Spot.TheVariants.{Goal, Start}
use Rattle.funnel_walk.proofs.PathNames.{name_in_front, apex_below, left_points, named_push, point_of_name, right_points}
use Rattle.funnel_walk.specs.Names.{left_names, right_names}
use Rattle.funnel_walk.specs.Walked.{IsWalked}

-- the names to the right are those of the front,
pub right_in_front : (names : List Spot) (n a c : ℕ) → a + c ≤ n → right_names (take n names) a c ≡ right_names names a c
right_in_front names n a zero within = refl
right_in_front names n a (suc c) within =
    let here = name_in_front names n a (omega arith) in
    let rest = right_in_front names n (a + 1) c (omega arith) in
    λ i. here i ∷ rest i

module _ (P : Spot → Type 0) where
  -- what holds of a name holds of all names of a list of it alone,
  pub one_has : (n : Spot) → P n → All P (n ∷ [])
  one_has n has zero d below = has
  one_has n has (suc k) d below = absurd (omega (arith, below))

  -- and of one more before others of which it holds
  pub more_have : (n : Spot) (ns : List Spot) → P n → All P ns → All P (n ∷ ns)
  more_have n ns has others = All-append P (n ∷ []) ns (one_has n has) others

  module _ (names : List Spot) (have : All P names) where
    -- so it holds of the name at a place,
    pub name_has : (i : ℕ) → i < length names → P (name_at names i)
    name_has i below = have i _ below

    -- of those to the left of the apex,
    pub left_have : (a c : ℕ) → a < length names → All P (left_names names a c)
    left_have a zero below = λ k d within. absurd (omega (arith, within))
    left_have a (suc c) below = more_have _ _ (name_has a below) (left_have (a - 1) c (omega arith))

    -- and of those to the right
    pub right_have : (a c : ℕ) → a + c ≤ length names → All P (right_names names a c)
    right_have a zero below = λ k d within. absurd (omega (arith, within))
    right_have a (suc c) below = more_have _ _ (name_has a (omega arith)) (right_have (a + 1) c (omega arith))

-- the names that are given and left behind on the way to place h
abbrev pub names_on_way : List Spot → List Spot → ℕ → ℕ → List Spot
names_on_way given names a h = given ++ left_names names a (a - h) ++ right_names names (min a h) (h - min a h)

-- names that begin with the start,
begin : (ns : List Spot) → 0 < length ns → name_at ns 0 ≡ Start → (others : List Spot) × (ns ≡ Start ∷ others)
begin [] some first = absurd (omega (arith, some))
begin (n ∷ ns) some first = (ns, ap (λ m. m ∷ ns) first)

-- also where the last one is another, unless it is the first
begin_before : (ns rest : List Spot) (n : Spot) → name_at (ns ++ n ∷ []) 0 ≡ Start → ¬ (n ≡ Start) → (others : List Spot) × (ns ++ rest ≡ Start ∷ others)
begin_before [] rest n first other = absurd (other first)
begin_before (m ∷ ns) rest n first other = (ns ++ rest, ap (λ l. l ∷ (ns ++ rest)) first)

module _ (corners : List Point) (start goal : Point) (given names : List Spot) (a i j : ℕ)
    (w : IsWalked corners start goal given names a i j) (differ : start ≢ goal) (h : ℕ) (within : h < length names) where
  -- the point that a name stands for
  abbrev at : Spot → Point
  at = point_named corners start goal

  -- the names on the way, but the last one,
  abbrev way : List Spot
  way = names_on_way given names a h

  -- and their points
  abbrev way_points : List Point
  way_points = way_to (named_points at given) (named_points at names) a h

  -- the names on the way stand for the points on it,
  way_is : named_points at way ≡ way_points
  way_is =
      map-append at (given ++ left_names names a (a - h)) (right_names names (min a h) (h - min a h))
      ∙ ap (λ ps. ps ++ named_points at (right_names names (min a h) (h - min a h))) (map-append at given (left_names names a (a - h)))
      ∙ ap (λ ps. named_points at given ++ ps ++ named_points at (right_names names (min a h) (h - min a h)))
      (left_points at names a (a - h) (apex_below w))
      ∙ ap (λ ps. named_points at given ++ left_behind (named_points at names) a (a - h) ++ ps)
      (right_points at names (min a h) (h - min a h) (omega arith))

  -- and each stands for one
  way_named : AreNamed corners way
  way_named = All-append (IsNamed corners) _ _
      (All-append (IsNamed corners) given _ w.given_named (left_have (IsNamed corners) names w.named a (a - h) (apex_below w)))
      (right_have (IsNamed corners) names w.named (min a h) (h - min a h) (omega arith))

  -- the way begins at the start
  way_starts : name_at (way ++ name_at names h ∷ []) 0 ≡ Start
  way_starts = first_on_way Start given (name_at names) a h ∙ w.starts

  -- points are a taut chain where they bend, begin at the start and end at the goal
  taut_of : (points : List Point) → IsBentChain corners points → point_at points 0 ≡ start → point_at points (length points - 1) ≡ goal
      → IsTaut corners start goal points
  taut_of points bent first last = record { bent = bent; first = first; last = last; single = λ same. absurd (differ same) }

  -- the last of some points
  last_is : (points : List Point) (v : Point) → point_at (points ++ v ∷ []) (length (points ++ v ∷ []) - 1) ≡ v
  last_is points v = get_or_push points v origin _ (omega (arith, length-append points (v ∷ [])))

  -- the first name's point
  first_is : (points : List Point) (names_of : List Spot) → points ≡ named_points at names_of → 0 < length names_of
      → name_at names_of 0 ≡ Start → point_at points 0 ≡ start
  first_is points names_of is some first = ap (λ ps. point_at ps 0) is ∙ point_of_name at names_of 0 some ∙ ap at first

  -- ---- where the last point is the goal, its name is left out

  module _ (at_goal : at (name_at names h) ≡ goal)
      (chain : IsBentChain corners (way_points ++ point_at (named_points at names) h ∷ [])) where
    -- each name stands for a point,
    pub named_at_goal : AreNamed corners (way ++ Goal ∷ [])
    named_at_goal = All-append (IsNamed corners) way (Goal ∷ []) way_named (one_has (IsNamed corners) Goal tt)

    -- the first is the start,
    pub starts_at_goal : (others : List Spot) × (way ++ Goal ∷ [] ≡ Start ∷ others)
    starts_at_goal = begin_before way (Goal ∷ []) (name_at names h) way_starts (λ first. differ (ap at (sym first) ∙ at_goal))

    -- these are the same points,
    same_points : named_points at (way ++ Goal ∷ []) ≡ named_points at (way ++ name_at names h ∷ [])
    same_points = named_push at way Goal ∙ ap (λ v. named_points at way ++ v ∷ []) (sym at_goal) ∙ sym (named_push at way (name_at names h))

    -- the ones on the way and the last one,
    points_are : named_points at (way ++ Goal ∷ []) ≡ way_points ++ point_at (named_points at names) h ∷ []
    points_are = same_points ∙ named_push at way (name_at names h) ∙ ap (λ ps. ps ++ at (name_at names h) ∷ []) way_is
        ∙ ap (λ v. way_points ++ v ∷ []) (sym (point_of_name at names h within))

    -- and a taut chain
    pub taut_at_goal : IsTaut corners start goal (named_points at (way ++ Goal ∷ []))
    taut_at_goal = taut_of (named_points at (way ++ Goal ∷ [])) (subst (IsBentChain corners) (sym points_are) chain)
        (first_is _ (way ++ name_at names h ∷ []) same_points (omega (arith, length-append way (name_at names h ∷ []))) way_starts)
        (ap (λ ps. point_at ps (length ps - 1)) (named_push at way Goal) ∙ last_is (named_points at way) goal)

  -- ---- and else it comes before the goal

  module _ (chain : IsBentChain corners (way_points ++ point_at (named_points at names) h ∷ goal ∷ [])) where
    -- each name stands for a point,
    pub named_to_goal : AreNamed corners (way ++ name_at names h ∷ [] ++ Goal ∷ [])
    named_to_goal = All-append (IsNamed corners) (way ++ name_at names h ∷ []) (Goal ∷ [])
        (All-append (IsNamed corners) way (name_at names h ∷ []) way_named
        (one_has (IsNamed corners) (name_at names h) (name_has (IsNamed corners) names w.named h within)))
        (one_has (IsNamed corners) Goal tt)

    -- the points are those on the way, the last one and the goal,
    all_points_are : named_points at (way ++ name_at names h ∷ [] ++ Goal ∷ [])
        ≡ way_points ++ point_at (named_points at names) h ∷ goal ∷ []
    all_points_are = named_push at (way ++ name_at names h ∷ []) Goal
        ∙ ap (λ ps. ps ++ goal ∷ []) (named_push at way (name_at names h) ∙ ap (λ ps. ps ++ at (name_at names h) ∷ []) way_is
        ∙ ap (λ v. way_points ++ v ∷ []) (sym (point_of_name at names h within)))
        ∙ append_assoc way_points (point_at (named_points at names) h ∷ []) (goal ∷ [])

    -- the first is the start,
    first_of_all : name_at (way ++ name_at names h ∷ [] ++ Goal ∷ []) 0 ≡ Start
    first_of_all = get_or_append_left (way ++ name_at names h ∷ []) (Goal ∷ []) Start 0
        (omega (arith, length-append way (name_at names h ∷ []))) ∙ way_starts

    pub starts_to_goal : (others : List Spot) × (way ++ name_at names h ∷ [] ++ Goal ∷ [] ≡ Start ∷ others)
    starts_to_goal = begin (way ++ name_at names h ∷ [] ++ Goal ∷ [])
        (omega (arith, length-append (way ++ name_at names h ∷ []) (Goal ∷ []))) first_of_all

    -- and they are a taut chain
    pub taut_to_goal : IsTaut corners start goal (named_points at (way ++ name_at names h ∷ [] ++ Goal ∷ []))
    taut_to_goal = taut_of (named_points at (way ++ name_at names h ∷ [] ++ Goal ∷ []))
        (subst (IsBentChain corners) (sym all_points_are) chain)
        (first_is _ (way ++ name_at names h ∷ [] ++ Goal ∷ []) refl
        (omega (arith, length-append (way ++ name_at names h ∷ []) (Goal ∷ []))) first_of_all)
        (ap (λ ps. point_at ps (length ps - 1)) (named_push at (way ++ name_at names h ∷ []) Goal)
        ∙ last_is (named_points at (way ++ name_at names h ∷ [])) goal)
