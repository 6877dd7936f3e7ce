-- Names of which none is the goal's: a walk that has come so far has come so far to each goal.
use Rattle.std.proofs.Common.{◌≡◌, ◌≢◌, refl, subst, ℕ, suc, List, [], ◌∷◌, arith}
use Rattle.plane.specs.Point.{Point}
use Rattle.funnels.specs.OpenFunnel.{IsOpenFunnel}
use Rattle.exact_plane.specs.Names.{named_points}
use Rattle.exact_plane.specs.Spot.{point_named}
use Rattle.exact_plane.specs.declared.turns.Spot.{Spot}
use Rattle.exact_plane.specs.declared.turns.Spot.TheVariants.{Corner, Goal, Start}
use Rattle.funnel_walk.proofs.Closed.{more_have, one_has}
use Rattle.funnel_walk.specs.Walked.{HaveNoGoal, IsWalked}

-- a corner's name is not the goal's,
pub corner_no_goal : (i : ℕ) → Corner i ≢ Goal
corner_no_goal i same = cc

-- nor is the start's
pub start_no_goal : Start ≢ Goal
start_no_goal same = cc

-- one other name,
pub no_goal_alone : (n : Spot) → n ≢ Goal → HaveNoGoal (n ∷ [])
no_goal_alone n other = one_has (λ name. name ≢ Goal) n other

-- and one more before others
pub no_goal_before : (n : Spot) (ns : List Spot) → n ≢ Goal → HaveNoGoal ns → HaveNoGoal (n ∷ ns)
no_goal_before n ns other others = more_have (λ name. name ≢ Goal) n ns other others

module _ (corners : List Point) (start goal other : Point) where
  -- a name that is not the goal's stands for one point whatever the goal is,
  same_point : (n : Spot) → n ≢ Goal → point_named corners start goal n ≡ point_named corners start other n
  same_point (Corner i) no_goal = refl
  same_point Start no_goal = refl
  same_point Goal no_goal = absurd (no_goal refl)

  -- so do such names,
  same_points : (names : List Spot) → HaveNoGoal names
      → named_points (point_named corners start goal) names ≡ named_points (point_named corners start other) names
  same_points [] no_goal = refl
  same_points (n ∷ names) no_goal =
      let here = same_point n (no_goal 0 n (omega arith)) in
      let rest = same_points names (λ k d below. no_goal (suc k) d (omega (arith, below))) in
      λ i. here i ∷ rest i

  -- and the walk has come as far on the way to another goal
  pub each_goal : (given names : List Spot) (a i j : ℕ) → IsWalked corners start goal given names a i j → IsWalked corners start other given names a i j
  each_goal given names a i j w = record {
    funnel = subst (λ ps. IsOpenFunnel corners ps (named_points (point_named corners start other) names) a i j) (same_points given w.given_no_goal)
        (subst (λ ps. IsOpenFunnel corners (named_points (point_named corners start goal) given) ps a i j) (same_points names w.no_goal) w.funnel);
    given_named = w.given_named;
    named = w.named;
    given_no_goal = w.given_no_goal;
    no_goal = w.no_goal;
    starts = w.starts;
  }
