-- Nodes of a bounding volume hierarchy, whose boxes are named by vertices. This project's own.
use Rattle.std.specs.List.{All}
use Rattle.std.specs.Prelude.{ℕ, ◌<◌}
use Rattle.triangle_boxes.specs.declared.extremes.Extremes.{Extremes}
use Rattle.triangle_boxes.specs.declared.hierarchy.Hierarchy.{Hierarchy}
use Rattle.triangle_boxes.specs.declared.hierarchy.Node.{Node}

-- the extremes are among the first n vertices
pub record AreExtremesBelow (n : ℕ) (extremes : Extremes) : Type 0 where
  pub west : extremes.west < n
  pub east : extremes.east < n
  pub south : extremes.south < n
  pub north : extremes.north < n

-- the box of a node is named by some of the first n vertices
abbrev pub IsNamedBelow : ℕ → Node → Type 0
IsNamedBelow n node = AreExtremesBelow n node.around

-- so are those of all nodes
abbrev pub AreNamedBelow : ℕ → Hierarchy → Type 0
AreNamedBelow n hierarchy = All (IsNamedBelow n) hierarchy.nodes.items
