-- How two ways toward the root of a mesh come nearer to each other. No public clause cites this module. This project's own.
use Rattle.std.specs.Prelude.{◌≡◌, ◌<◌, ◌⊎◌, List, [], ◌∷◌, ◌++◌}
use Rattle.tri_mesh.specs.Outward.{outward_at}
use Rattle.tri_mesh.specs.declared.outward.Outward.{Outward}
use Rattle.dual_tree.specs.declared.walk.Way.{Way}

-- the way has left its triangle for the one from which it is reached
pub record HasGoneOn (order : List Outward) (before after : Way) : Type 0 where
  pub place : after.place ≡ (outward_at order before.place).toward
  pub left : after.left.items ≡ before.left.items ++ (outward_at order before.place).tri ∷ []

-- it is as it was
pub record HasStayed (before after : Way) : Type 0 where
  pub place : after.place ≡ before.place
  pub left : after.left.items ≡ before.left.items

-- the way whose place is greater has gone on, and the other has stayed
abbrev pub IsApproachStep : List Outward → Way → Way → Way → Way → Type 0
IsApproachStep order front back new_front new_back =
    ((back.place < front.place) × HasGoneOn order front new_front × HasStayed back new_back)
    ⊎ ((front.place < back.place) × HasGoneOn order back new_back × HasStayed front new_front)
