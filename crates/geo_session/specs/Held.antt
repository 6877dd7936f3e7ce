-- How a polygon is held with the tree of a source in it. No public clause cites this module.
use Rattle.std.specs.Prelude.{◌≡◌, Bool, true, false, ℕ, List, [], ◌∷◌, Option, None, Some, Result, Ok, Err}
use Rattle.plane.specs.Point.{Point, whole}
use Rattle.rings.specs.Inside.{IsIn}
use Rattle.meshes.specs.Fits.{Fits}
use Rattle.meshes.specs.declared.tri.Tri.{Tri}
use Rattle.geo_text.specs.declared.command.Bad.{Bad}
use Rattle.geo_text.specs.declared.command.Bad.TheVariants as bad
use Rattle.ring_check.specs.Oriented.{Oriented, given_of}
use Rattle.dual_tree.specs.Location.{IsLeastHolding}
use Rattle.pair_cut.specs.Pairs.{IsMadeFor}
use Rattle.path_tree.specs.Grown.{IsGrownFrom}
use Rattle.geo_session.specs.State.{Kept}
use Rattle.geo_session.specs.Told.{RepliesWithin, Tells}
use Rattle.geo_session.specs.View.{IsView}
use Rattle.geo_session.specs.declared.grown.Grown.{Grown}
use Rattle.geo_reply.specs.declared.reply.Reply.{Reply}
use Rattle.geo_reply.specs.declared.reply.Reply.TheVariants as reply

-- a ring that is held, its triangles, the source of the tree in it, if there is one, and whether there is the table of all pairs
pub record HeldRing : Type 0 where
  pub ring : Oriented
  pub tris : List Tri
  pub source : Option Point
  pub prepared : Bool

-- the tree is grown from its source, which is in its triangle, in these corners and triangles
pub record IsTreeOf (corners : List Point) (tris : List Tri) (grown : Grown) : Type 0 where
  pub home : IsLeastHolding corners tris (whole grown.source) grown.home
  pub tree : IsGrownFrom corners grown.source tris grown.tree

-- so it is if there is one
abbrev pub KeepsTree : List Point → List Tri → Option Grown → Type 0
KeepsTree corners tris None = Unit {0}
KeepsTree corners tris (Some grown) = IsTreeOf corners tris grown

abbrev pub source_of : Option Grown → Option Point
source_of None = None
source_of (Some grown) = Some grown.source

-- the table is made for these corners, if there is one
abbrev pub KeepsPairs : List Point → Option (List (List ℕ)) → Type 0
KeepsPairs corners None = Unit {0}
KeepsPairs corners (Some table) = IsMadeFor corners table

abbrev pub is_there : Option (List (List ℕ)) → Bool
is_there None = false
is_there (Some table) = true

-- the triangles fit the ring, the tree is grown in them, and the table is made for it
pub record IsHeld (corners : List Point) (tris : List Tri) (grown : Option Grown) (pairs : Option (List (List ℕ))) : Type 0 where
  pub fits : Fits corners tris
  pub tree : KeepsTree corners tris grown
  pub table : KeepsPairs corners pairs

-- what contracts see of it
abbrev pub kept_in : HeldRing → Kept
kept_in held = record { ring = given_of held.ring; source = held.source }

abbrev pub kept_of : Option HeldRing → Option Kept
kept_of None = None
kept_of (Some held) = Some (kept_in held)

abbrev pub prepared_of : Option HeldRing → Bool
prepared_of None = false
prepared_of (Some held) = held.prepared

-- the triangle of a point, or the refusal where the point is not in the ring, by its number
abbrev pub IsLocated : HeldRing → ℕ → Point → Result ℕ Bad → Type 0
IsLocated held number p (Ok tri) = IsIn (given_of held.ring) (whole p) × IsLeastHolding held.ring.corners held.tris (whole p) tri
IsLocated held number p (Err fault) = (¬ IsIn (given_of held.ring) (whole p)) × (fault ≡ bad.Outside number)

-- what a point sees, where it is in the ring
abbrev pub IsViewReply : List Point → Point → Reply → Type 0
IsViewReply ring q = RepliesWithin ring (q ∷ []) (Tells reply.View (IsView ring (whole q)))
