use Rattle.std.proofs.Common.{◌≡◌, sym, ap, subst, ◌∙◌, ◌<◌, IfSome, Option, List, ℕ, length}
use Rattle.std.specs.Prelude.{slice_set}
use Rattle.meshes.specs.Side.{tri_at}
use Rattle.meshes.specs.declared.tri.Tri.{Tri}
use Rattle.flip_tri.proofs.FlippedNeighbours.{HasBeside, IsFlip, count_after}
use Rattle.flip_tri.proofs.FlippedRows.{knows_after, two_set, two_set_rows}
use Rattle.flip_tri.proofs.SharedQuads.{has_beside, is_flip, is_flipped}
use Rattle.flip_tri.specs.Flips.{KnowsNeighbours}
use Rattle.flip_tri.specs.Shared.{AreTriangleRows, IsKnown, flipped}
use Rattle.tri_mesh.specs.Triangle.{IsSideNumber}
use Rattle.flip_tri.proofs.flips.Flips.flip.Goals as goal
use Rattle.flip_tri.proofs.flips.Flips.flip.Goals.{After-flipped}

-- what is beside the quadrilateral has been read, and its new triangles are made
module _ (c : After-flipped) where
  abbrev tris : List Tri
  tris = c.args.self.now.tris.items

  abbrev after : List Tri
  after = flipped tris c.args.shared.now.near c.args.shared.now.far c.args.quad.now

  flip : IsFlip tris c.args.shared.now.near c.args.shared.now.far c.args.quad.now
  flip = is_flip _ _ c.requires.shared c.requires.before _ c.requires.quad c.requires.once

  beside : HasBeside tris c.args.quad.now c.turned-to_left.result.1 c.turned-to_left.result.2 c.turned-from_right.result.1 c.turned-from_right.result.2
  beside = has_beside _ _ c.requires.knows _ c.requires.shared _ c.requires.quad _ _ c.index.ensures c.index-2.ensures _ _ _ _
      c.turned-to_left.ensures.second c.turned-to_left.ensures.third c.turned-from_right.ensures.second c.turned-from_right.ensures.third

  now : slice_set (slice_set tris c.args.shared.now.near c.flipped.result.0) c.args.shared.now.far c.flipped.result.1 ≡ after
  now = is_flipped _ _ _ _ _ _ c.flipped.ensures.first c.flipped.ensures.second

  count : length after ≡ length tris
  count = count_after _ _ _ _ flip

  abbrev rows_set : List (List (Option ℕ))
  rows_set = two_set _ _ _ _ flip _ _ _ _ beside _ c.requires.knows

pub hand_over-requires-clause-rows : goal.hand_over-requires-clause-rows
hand_over-requires-clause-rows c =
    let read = (goal.at.hand_over-requires-clause-rows c).After-flipped in
    subst (λ ts. AreTriangleRows ts (rows_set read)) (sym (now read))
    (two_set_rows _ _ _ _ (flip read) _ _ _ _ (beside read) _ c.requires.knows)

pub hand_over-requires-clause-beside : goal.hand_over-requires-clause-beside
hand_over-requires-clause-beside c =
    let read = (goal.at.hand_over-requires-clause-beside c).After-flipped in
    let same = ap length (now read) ∙ count read in
    subst (λ n. IfSome c.turned-from_right.result.1 (λ m. m < n)) (sym same) (beside read).from_right_in_list

pub hand_over-requires-2-clause-beside : goal.hand_over-requires-2-clause-beside
hand_over-requires-2-clause-beside c =
    let read = (goal.at.hand_over-requires-2-clause-beside c).After-flipped in
    let same = ap length (c.hand_over.ensures.tris ∙ now read) ∙ count read in
    subst (λ n. IfSome c.turned-to_left.result.1 (λ m. m < n)) (sym same) (beside read).to_left_in_list

pub returns-clause-knows : goal.returns-clause-knows
returns-clause-knows c =
    let read = (goal.at.returns-clause-knows c).After-flipped in
    let quad = c.args.quad.now in
    let once_set = c.hand_over.new.self.neighbours.items in
    let twice_set = c.hand_over-2.new.self.neighbours.items in
    let one = c.hand_over.ensures.tris ∙ now read in
    let two = c.hand_over-2.ensures.tris ∙ one in
    subst (λ ts. KnowsNeighbours ts twice_set) (sym two)
    (knows_after _ _ _ _ (flip read) _ _ _ _ (beside read) _ c.requires.knows once_set twice_set
    (λ m side h. subst (λ ts. IsKnown ts once_set m side) one (c.hand_over.ensures.kept m side (subst (λ ts. IsKnown ts (rows_set read) m side) (sym (now read)) h)))
    (λ m side at h. subst (λ ts. IsKnown ts once_set m side) one
    (c.hand_over.ensures.known m side at (subst (λ ts. IsSideNumber (tri_at ts m) quad.right quad.from side) (sym (now read)) h)))
    (λ m side h. subst (λ ts. IsKnown ts twice_set m side) two (c.hand_over-2.ensures.kept m side (subst (λ ts. IsKnown ts once_set m side) (sym one) h)))
    (λ m side at h. subst (λ ts. IsKnown ts twice_set m side) two
    (c.hand_over-2.ensures.known m side at (subst (λ ts. IsSideNumber (tri_at ts m) quad.left quad.to side) (sym one) h)))
    (subst (λ ts. AreTriangleRows ts twice_set) two c.hand_over-2.ensures.rows))
