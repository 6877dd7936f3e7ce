-- The points of the names of a path are a path of few points; and where the start is the goal, its name alone is one.
use Rattle.std.proofs.Common.{◌≡◌, refl, sym, subst, ap, ℕ, ◌+◌, ◌≤◌, List, [], ◌∷◌, length, arith}
use Rattle.plane.specs.Point.{Point}
use Rattle.rings.specs.Chain.{IsPath}
use Rattle.exact_plane.specs.Names.{AppendsNames, AreNamed, named_points}
use Rattle.exact_plane.specs.Spot.{point_named}
use Rattle.exact_plane.specs.declared.turns.Spot.{Spot}
use Rattle.exact_plane.specs.declared.turns.Spot.TheVariants.{Start}
use Rattle.funnel_walk.proofs.PathNames.{length_named, path_named}
use Rattle.funnel_walk.proofs.ShortWalks.{stays_named}
use Rattle.shared_walks.specs.Several.{IsPathOfFewPoints}
use Rattle.funnel_walk.specs.Walked.{AppendsTaut, HasArrived}

module _ (corners : List Point) (s t : Point) (names : List Spot) (appends : AppendsNames corners s t (IsPath corners s t) [] names) where
  -- the names stand for points,
  pub all_named : AreNamed corners names
  all_named = subst (AreNamed corners) (sym appends.appended) appends.named

  -- and where they are few these are a short path, in the ring and between the points that the board was made of
  pub short_path : (ring : List Point) (from to : Point) → corners ≡ ring → s ≡ from → t ≡ to → length names ≤ length ring + 1
      → IsPathOfFewPoints ring from to (named_points (point_named corners s t) names)
  short_path ring from to same same_s same_t few =
      let count = length_named (point_named corners s t) names in
      rw (← same, ← same_s, ← same_t)
      (record {
        is_path = subst (λ ns. IsPath corners s t (named_points (point_named corners s t) ns)) (sym appends.appended) appends.points;
        some = omega (arith, count, ap length appends.appended);
        short = omega (arith, count, few, ap length same);
      })

module _ (corners : List Point) (s t : Point) (given names : List Spot) (a : ℕ) (come : HasArrived corners s t given names a) where
  -- the names of a taut chain are those of the path
  pub arrived_path : (out : List Spot) → AppendsTaut corners s t [] out → AppendsNames corners s t (IsPath corners s t) [] out
  arrived_path out = path_named corners come.tris come.fits s t [] out

  -- so is the start's name where it is the goal
  pub arrived_at_once : s ≡ t → AppendsNames corners s t (IsPath corners s t) [] (Start ∷ [])
  arrived_at_once same = arrived_path (Start ∷ [])
      (stays_named corners come.tris come.fits _ (come.of_mesh.walk.in_list (come.i + 1) (omega (arith, come.below, come.of_mesh.count))) s t
      (rw same come.in_goal) same [] (Start ∷ []) refl)
