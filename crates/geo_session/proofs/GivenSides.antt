-- The sides of points in a ring are those in the list that the ring was made of, since the paths are the same.
use Rattle.std.proofs.Common.{ℕ, List}
use Rattle.plane.specs.Point.{Point}
use Rattle.rings.specs.Chain.{IsPath, point_at}
use Rattle.exact_plane.specs.declared.direction.Direction.{Direction}
use Rattle.hulls.specs.Inner.{IsInnerPoint}
use Rattle.hulls.specs.Joined.{IsOnPath}
use Rattle.rel_hull.specs.Hull.{IsSide, IsTurnBetween}
use Rattle.rel_hull.specs.Table.{AreSides}
use Rattle.ring_check.specs.Oriented.{Oriented, given_of}
use Rattle.geo_session.proofs.GivenPath.{path_given, path_held}

-- in the first ring each path of the second is one
abbrev HasPathsOf : List Point → List Point → Type 0
HasPathsOf first second = (s t : Point) (path : List Point) → IsPath second s t path → IsPath first s t path

module _ (ring other : List Point) (has : HasPathsOf other ring) where
  -- so the same points are on paths,
  on_carried : (a b x : Point) → IsOnPath ring a b x → IsOnPath other a b x
  on_carried a b x on = record { path = on.path; is_path = has a b on.path on.is_path; place = on.place; within = on.within; on = on.on }

  inner_carried : (points : List Point) (s : ℕ) → IsInnerPoint ring points s → IsInnerPoint other points s
  inner_carried points s h = record {
    a = h.a;
    b = h.b;
    a_in_list = h.a_in_list;
    b_in_list = h.b_in_list;
    different = h.different;
    not_a = h.not_a;
    not_b = h.not_b;
    passes = on_carried (point_at points h.a) (point_at points h.b) (point_at points s) h.passes;
  }

  -- and the paths turn against each other in the same way
  turn_carried : (a b c : Point) (turn : Direction) → IsTurnBetween ring a b c turn → IsTurnBetween other a b c turn
  turn_carried a b c turn h = record {
    first = h.first;
    second = h.second;
    is_first = has a b h.first h.is_first;
    is_second = has a c h.second h.is_second;
    turns = h.turns;
  }

module _ (ring other : List Point) (there : HasPathsOf other ring) (back : HasPathsOf ring other) where
  side_carried : (points : List Point) (s t : ℕ) → IsSide ring points s t → IsSide other points s t
  side_carried points s t h = record {
    s_in_list = h.s_in_list;
    t_in_list = h.t_in_list;
    different = h.different;
    s_outer = λ inner. h.s_outer (inner_carried other ring back points s inner);
    t_outer = λ inner. h.t_outer (inner_carried other ring back points t inner);
    left = λ u in_list not_s not_t outer. turn_carried ring other there _ _ _ _
        (h.left u in_list not_s not_t (λ inner. outer (inner_carried ring other there points u inner)));
  }

module _ (ring : Oriented) (points : List Point) where
  -- so the sides of the ring are those of the list that it was made of
  pub side_given : (s t : ℕ) → IsSide ring.corners points s t → IsSide (given_of ring) points s t
  side_given = side_carried ring.corners (given_of ring) (path_given ring) (path_held ring) points

  pub side_held : (s t : ℕ) → IsSide (given_of ring) points s t → IsSide ring.corners points s t
  side_held = side_carried (given_of ring) ring.corners (path_held ring) (path_given ring) points

  pub sides_given : (pairs : List (ℕ × ℕ)) → AreSides ring.corners points pairs → AreSides (given_of ring) points pairs
  sides_given pairs are = record {
    sides = λ k below. side_given _ _ (are.sides k below);
    all = λ s t side. are.all s t (side_held s t side);
    sorted = are.sorted;
  }
