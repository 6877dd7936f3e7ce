-- What comes before a vertex in a ring, by the numbers of the list that the ring was made of.
use Rattle.std.proofs.Common.{◌≡◌, ◌∙◌, refl, sym, subst, ℕ, ◌-◌, ◌<◌, ◌%◌, Bool, true, false, if◌then◌else◌, List, length, arith}
use Rattle.std.proofs.Math.Nat.{mod-lt}
use Rattle.std.specs.Prelude.{Option, Some, None}
use Rattle.plane.specs.Point.{Point}
use Rattle.rings.proofs.Turned.{vertex-turned_round}
use Rattle.rings.proofs.Vertices.{vertex_mod}
use Rattle.rings.specs.From.{IsPredecessor}
use Rattle.rings.specs.Orientation.{turned_round}
use Rattle.rings.specs.Ring.{vertex}
use Rattle.exact_plane.specs.declared.turns.Spot.{Spot}
use Rattle.exact_plane.specs.declared.turns.Spot.TheVariants.{Corner, Goal, Start}
use Rattle.ring_check.specs.Oriented.{Oriented, given_index, given_of}
use Rattle.path_tree.specs.Grown.{IsFromNamed}
use Rattle.geo_session.proofs.GivenPath.{path_given}
use Rattle.geo_session.proofs.GivenSize.{length_either}

-- vertex i of the list is the ring's vertex with the number that i has in a list turned round
pub vertex_either : (turned : Bool) (corners : List Point) (i : ℕ) → i < length corners
    → vertex (if turned then turned_round corners else corners) i ≡ vertex corners (if turned then (length corners - i) % length corners else i)
vertex_either false corners i below = refl
vertex_either true corners i below = vertex-turned_round corners i (omega arith) ∙ sym (vertex_mod corners (length corners - i))

-- which is a number of the list
pub number_either : (turned : Bool) (n i : ℕ) → i < n → (if turned then (n - i) % n else i) < n
number_either false n i below = below
number_either true n i below = mod-lt (n - i) (omega arith)

-- a vertex of the list is the ring's vertex with its number
pub vertex_given : (ring : Oriented) (i : ℕ) → i < length ring.corners → vertex (given_of ring) i ≡ vertex ring.corners (given_index ring i)
vertex_given ring i below = vertex_either ring.is_turned ring.corners i below

module _ (ring : Oriented) (s : Point) (i : ℕ) (below : i < length ring.corners) (found : Option Spot)
    (from : IsFromNamed ring.corners s (vertex ring.corners (given_index ring i)) found) where
  -- what comes before a point does so in the list
  before_given : (x : Point) → IsPredecessor ring.corners s (vertex ring.corners (given_index ring i)) x → IsPredecessor (given_of ring) s (vertex (given_of ring) i) x
  before_given x h = subst (λ t. IsPredecessor (given_of ring) s t x) (sym (vertex_given ring i below))
      (record { path = h.path; is_path = path_given ring s _ h.path h.is_path; more = h.more; is = h.is })

  -- nothing,
  pub none_given : found ≡ None → IsFromNamed (given_of ring) s (vertex (given_of ring) i) None
  none_given e = vertex_given ring i below ∙ (rw e at from)

  -- the source,
  pub start_given : found ≡ Some Start → IsFromNamed (given_of ring) s (vertex (given_of ring) i) (Some Start)
  start_given e = let (x, is, before) = rw e at from in (x, is, before_given x before)

  -- not the goal,
  pub goal_not_given : ¬ (found ≡ Some Goal)
  goal_not_given e = let (x, none, before) = rw e at from in none

  module _ (c : ℕ) (is : found ≡ Some (Corner c)) where
    -- or a vertex, by its number in the list
    pub number_below : c < length ring.corners
    number_below = let (x, (within, at, other), before) = rw is at from in within

    pub corner_given : (j : ℕ) → j ≡ given_index ring c → vertex (given_of ring) j ≡ vertex ring.corners c
        → IsFromNamed (given_of ring) s (vertex (given_of ring) i) (Some (Corner j))
    corner_given j number same =
        let (x, (within, at, other), before) = rw is at from in
        let j_within : j < length (given_of ring) =
        rw (number, length_either ring.is_turned ring.corners) (number_either ring.is_turned (length ring.corners) c within) in
        (x, (j_within, same ∙ at, other), before_given x before)
