-- How far the triangles of a list are from the least vertex of a ring, which grows with each flip. No public clause cites this module.
use Rattle.std.specs.Int.Signed.{le_z, lt_z}
use Rattle.std.specs.Prelude.{ℕ, ◌+◌, ◌&&◌, ◌||◌, Bool, if◌then◌else◌, List, [], ◌∷◌, min}
use Rattle.plane.specs.Point.{Point}
use Rattle.rings.specs.Ring.{vertex}
use Rattle.meshes.specs.declared.tri.Tri.{Tri}

-- p comes before q, by x first and then by y
abbrev pub comes_before : Point → Point → Bool
comes_before p q = lt_z p.x q.x || (le_z p.x q.x && lt_z p.y q.y)

-- how many points of the list come before p
abbrev pub rank : List Point → Point → ℕ
rank [] p = 0
rank (q ∷ qs) p = (if comes_before q p then 1 else 0) + rank qs p

-- the rank of the least corner of a triangle
abbrev pub least_rank : List Point → Tri → ℕ
least_rank corners t = min (rank corners (vertex corners t.a)) (min (rank corners (vertex corners t.b)) (rank corners (vertex corners t.c)))

-- those of all triangles together
abbrev pub rank_sum : List Point → List Tri → ℕ
rank_sum corners [] = 0
rank_sum corners (t ∷ ts) = least_rank corners t + rank_sum corners ts
