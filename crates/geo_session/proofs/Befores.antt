-- What comes before the vertices of a simple ring, by their numbers.
use Rattle.std.proofs.Common.{◌≡◌, ◌∙◌, inl, inr, sym, subst, ℕ, ◌<◌, Bool, true, false, if◌then◌else◌, List, length}
use Rattle.std.proofs.lemmas.Bool.{cases_order}
use Rattle.std.specs.Prelude.{Option, Some, None}
use Rattle.plane.specs.Point.{Point}
use Rattle.rings.proofs.Simple.{apart_of_simple}
use Rattle.rings.proofs.Turned.{simple_turned}
use Rattle.rings.specs.From.{IsPredecessor}
use Rattle.rings.specs.Orientation.{turned_round}
use Rattle.rings.specs.Ring.{vertex}
use Rattle.rings.specs.Simple.{IsSimple}
use Rattle.exact_plane.specs.declared.turns.Spot.{Spot}
use Rattle.exact_plane.specs.declared.turns.Spot.TheVariants.{Corner, Goal, Start}
use Rattle.ring_check.specs.Oriented.{Oriented, given_of}
use Rattle.path_tree.specs.Grown.{IsFromNamed}
use Rattle.geo_reply.specs.declared.reply.Before.{Before}
use Rattle.geo_reply.specs.declared.reply.Before.TheVariants as before
use Rattle.geo_session.specs.Tree.{IsFrom, IsNumber}

-- a vertex of a simple ring has one number
number_of : (ring : List Point) → IsSimple ring → (x : Point) (j : ℕ) → j < length ring → vertex ring j ≡ x → IsNumber ring x j
number_of ring simple x j below at = record {
  in_ring = below;
  at = at;
  only = λ k within at_too. elim (cases_order k j) [
    | inl same ↦ same
    | inr (inl less) ↦ absurd ((apart_of_simple ring simple).distinct k j less below (at_too ∙ sym at))
    | inr (inr more) ↦ absurd ((apart_of_simple ring simple).distinct j k more within (at ∙ sym at_too))
  ];
}

simple_either : (turned : Bool) (ring : List Point) → IsSimple ring → IsSimple (if turned then turned_round ring else ring)
simple_either true ring simple = simple_turned ring simple
simple_either false ring simple = simple

-- the list that a simple ring was made of is simple
pub simple_given : (ring : Oriented) → IsSimple ring.corners → IsSimple (given_of ring)
simple_given ring simple = simple_either ring.is_turned ring.corners simple

-- what comes before a vertex, by its name
abbrev pub before_of : Option Spot → Before
before_of None = before.Nothing
before_of (Some Start) = before.Source
before_of (Some (Corner j)) = before.Vertex j
before_of (Some Goal) = before.Nothing

-- is so in a simple ring, where it is by its number
pub from_named : (ring : List Point) (s t : Point) → IsSimple ring → (found : Option Spot) → IsFromNamed ring s t found → IsFrom ring s t (before_of found)
from_named ring s t simple None is = is
from_named ring s t simple (Some Start) (x, is, before) = subst (IsPredecessor ring s t) is before
from_named ring s t simple (Some (Corner j)) (x, (below, at, other), before) = record {
  x = x;
  before = before;
  not_source = other;
  number = number_of ring simple x j below at;
}
from_named ring s t simple (Some Goal) (x, none, before) = absurd none
