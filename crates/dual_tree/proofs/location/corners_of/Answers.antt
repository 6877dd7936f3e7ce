use Rattle.std.proofs.Common.{◌≡◌, ℕ, ◌<◌, List, length, sym, ap, ◌∙◌}
use Rattle.std.specs.Prelude.{slice_index_or}
use Rattle.plane.specs.Point.{Point}
use Rattle.rings.proofs.Vertices.{vertex_in_range}
use Rattle.rings.specs.Ring.{vertex}
use Rattle.dual_tree.proofs.location.corners_of.Goals as goal

-- what is read at the number of a vertex is the vertex
read : (corners ring : List Point) (i : ℕ) (p : Point) → corners ≡ ring → i < length ring → p ≡ slice_index_or corners i p → p ≡ vertex ring i
read corners ring i p same below is = is ∙ ap (λ xs. slice_index_or xs i p) same ∙ sym (vertex_in_range ring i p below)

pub returns-clause-a : goal.returns-clause-a
returns-clause-a c = read _ _ _ _ c.corners-corners.ensures c.requires.a c.index-corners-tri.is

pub returns-clause-b : goal.returns-clause-b
returns-clause-b c = read _ _ _ _ c.corners-corners.ensures c.requires.b c.index-corners-tri-2.is

pub returns-clause-c : goal.returns-clause-c
returns-clause-c c = read _ _ _ _ c.corners-corners.ensures c.requires.c c.index-corners-tri-3.is

pub returns-clause-counterclockwise : goal.returns-clause-counterclockwise
returns-clause-counterclockwise c =
    let a = read _ _ _ _ c.corners-corners.ensures c.requires.a c.index-corners-tri.is in
    let b = read _ _ _ _ c.corners-corners.ensures c.requires.b c.index-corners-tri-2.is in
    let last = read _ _ _ _ c.corners-corners.ensures c.requires.c c.index-corners-tri-3.is in
    rw (a, b, last) c.requires.counterclockwise
