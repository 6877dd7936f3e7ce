use Rattle.std.proofs.Common.{◌≡◌, sym, subst, ◌∙◌, ◌<◌, IfSome, Some, [], length, get_or, arith}
use Rattle.std.proofs.lemmas.List.{get_or_read}
use Rattle.meshes.specs.Side.{tri_at}
use Rattle.flip_tri.proofs.HandedOver.{known_at, known_kept}
use Rattle.tri_mesh.specs.Triangle.{IsSideNumber}
use Rattle.flip_tri.proofs.flips.Flips.hand_over.Goals as goal
use Rattle.flip_tri.proofs.flips.Flips.hand_over.Goals.{After-index_mut}

-- the triangle beside, its row, and the number of its side have been read
module _ (c : After-index_mut) where
  within : c.in-Some.tri < length c.args.self.now.tris.items
  within = subst (λ o. IfSome o (λ k. k < length c.args.self.now.tris.items)) c.in-Some.is c.requires.beside

  row : c.index_mut.result.now ≡ get_or c.args.self.now.neighbours.items c.in-Some.tri []
  row =
      let count = c.requires.rows.count in
      get_or_read c.args.self.now.neighbours.items c.in-Some.tri c.index_mut.result.now (omega (arith, within, count)) c.index_mut.ensures.value []

  side : IsSideNumber (tri_at c.args.self.now.tris.items c.in-Some.tri) c.args.from c.args.to c.in-Some-side_number.side
  side =
      let tri = get_or_read c.args.self.now.tris.items c.in-Some.tri c.index.result.now within c.index.ensures (record { a = 0; b = 0; c = 0 }) in
      subst (λ u. IsSideNumber u c.args.from c.args.to c.in-Some-side_number.side) tri c.in-Some-side_number.ensures.some

pub returns-in-Some-side_number-clause-kept : goal.returns-in-Some-side_number-clause-kept
returns-in-Some-side_number-clause-kept c =
    let read = (goal.at.returns-in-Some-side_number-clause-kept c).After-index_mut in
    known_kept _ c.requires.once _ c.requires.rows _ _ _ _ (within read) (side read) _ c.requires.other c.requires.has _ (row read)

pub returns-in-Some-side_number-clause-known : goal.returns-in-Some-side_number-clause-known
returns-in-Some-side_number-clause-known c =
    let read = (goal.at.returns-in-Some-side_number-clause-known c).After-index_mut in
    λ k n at. known_at _ c.requires.once _ c.requires.rows _ _ _ _ (within read) (side read) _ c.requires.other c.requires.has _ (row read) k n
    (let e : Some k ≡ Some c.in-Some.tri = sym at ∙ c.in-Some.is in cc)
