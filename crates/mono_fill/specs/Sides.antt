-- The two chains of a monotone piece, and triangles along one of them. This project's own.
use Rattle.std.specs.Prelude.{ℕ, List, [], ◌∷◌}
use Rattle.meshes.specs.declared.tri.Tri.{Tri}
use Rattle.mono_fill.specs.declared.side.Side.{Side}
use Rattle.mono_fill.specs.declared.side.Side.TheVariants.{Lower, Upper}

abbrev pub other_chain_side : Side → Side
other_chain_side Lower = Upper
other_chain_side Upper = Lower

-- the triangle of vertices p and q of a chain, p before q, and a later vertex x
abbrev pub triangle : Side → ℕ → ℕ → ℕ → Tri
triangle Lower p q x = record { a = p; b = q; c = x }
triangle Upper p q x = record { a = q; b = p; c = x }

-- the triangles of x and each two neighbours of a list, p and the items behind it
abbrev pub fan_from : Side → ℕ → ℕ → List ℕ → List Tri
fan_from side x p [] = []
fan_from side x p (q ∷ qs) = triangle side p q x ∷ fan_from side x q qs

-- of a list
abbrev pub fan : Side → ℕ → List ℕ → List Tri
fan side x [] = []
fan side x (p ∷ ps) = fan_from side x p ps
