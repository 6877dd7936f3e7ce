-- The last point before a goal, by its name.
use Rattle.std.proofs.Common.{◌≡◌, ◌∙◌, sym, subst, List}
use Rattle.std.specs.Prelude.{Some}
use Rattle.plane.specs.Point.{Point}
use Rattle.rings.proofs.Vertices.{vertex_in_range}
use Rattle.rings.specs.From.{IsPredecessor}
use Rattle.exact_plane.specs.declared.turns.Spot.{Spot}
use Rattle.exact_plane.specs.declared.turns.Spot.TheVariants.{Corner, Goal, Start}
use Rattle.path_tree.specs.Grown.{IsFromNamed, Names, kept_point}

-- a name that is kept stands for its point
kept_named : (corners : List Point) (s : Point) (name : Spot) (x : Point) → Names corners s name x → kept_point corners s name ≡ x
kept_named corners s Start x is = sym is
kept_named corners s (Corner i) x (below, at, other) = sym (vertex_in_range corners i _ below) ∙ at
kept_named corners s Goal x none = absurd none

-- so that point comes before the goal, in the ring and between the points that a board was made of
pub is_before : (ring corners : List Point) (s start t goal : Point) (last : Spot) → corners ≡ ring → start ≡ s → goal ≡ t
    → IsFromNamed corners start goal (Some last) → IsPredecessor ring s t (kept_point ring s last)
is_before ring corners s start t goal last same same_s same_t (x, named, before) =
    rw (← same, ← same_s, ← same_t) (subst (IsPredecessor corners start goal) (sym (kept_named corners start last x named)) before)
