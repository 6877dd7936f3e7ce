use Rattle.std.proofs.Common.{◌≡◌, sym, refl, ◌∙◌, ℕ, ◌+◌, ◌<◌, length, arith}
use Rattle.std.proofs.lemmas.List.FromFn.{get_or-range_with_len, length-range_with_len}
use Rattle.std.specs.List.{Contains, range_with_len}
use Rattle.std.specs.Prelude.{◌%◌, slice_index_or}
use Rattle.meshes.proofs.Sides.{fitting_sides}
use Rattle.meshes.specs.Fits.{IsPieceEdge}
use Rattle.tri_mesh.proofs.mesh.Mesh.with_hierarchy.Goals as goal

pub of_tree-requires-clause-some : goal.of_tree-requires-clause-some
of_tree-requires-clause-some c =
    let fits = c.requires.fits.1 in
    let piece = range_with_len 0 (length c.requires.fits.0) in
    let edge : IsPieceEdge piece (slice_index_or piece 0 0) (slice_index_or piece (1 % length piece) 0) =
    record { place = 0; in_piece = omega (arith, fits.count); from = refl; to = refl } in
    omega (arith, (fits.edges (slice_index_or piece 0 0) (slice_index_or piece (1 % length piece) 0) edge).1.in_list)

pub of_tree-requires-clause-sides : goal.of_tree-requires-clause-sides
of_tree-requires-clause-sides c = fitting_sides c.requires.fits.0 c.args.tris.items c.requires.fits.1

pub of_tree-requires-clause-tree : goal.of_tree-requires-clause-tree
of_tree-requires-clause-tree c = c.requires.fits.1.tree

-- the numbers of a ring's vertices are below their number
in_range : (n x : ℕ) → Contains (range_with_len 0 n) x → x < n
in_range n x (k, within, is) =
    let below : k < n = omega (arith, length-range_with_len 0 n, within) in
    let read : 0 + k ≡ x = sym (get_or-range_with_len 0 n k x below) ∙ is in
    omega (arith, read, below)

pub of_tree-requires-clause-corners : goal.of_tree-requires-clause-corners
of_tree-requires-clause-corners c = λ k below.
    let fits = c.requires.fits.1 in
    let n = length c.requires.fits.0 in
    let tri = fits.triangles k (omega (arith, below)) in
    let count : c.args.tris.len + 2 ≡ n = omega (arith, fits.count, length-range_with_len 0 n) in
    rw count (record { a = in_range n _ tri.has_a; b = in_range n _ tri.has_b; c = in_range n _ tri.has_c })
