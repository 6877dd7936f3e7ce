use Rattle.std.proofs.Common.{◌≡◌, ◌∙◌, sym, ap, subst, List, ℕ, ◌++◌, length, take, arith}
use Rattle.std.proofs.Math.Seq.{take-append_seam}
use Rattle.std.proofs.lemmas.List.{with_items_is}
use Rattle.meshes.proofs.Sides.{two_fewer}
use Rattle.guards3.proofs.GivenClasses.{corners_below, given_parting}
use Rattle.guards3.proofs.OneParting.{some_triangle}
use Rattle.guards3.proofs.parting.classes_of.Goals as goal
use Rattle.guards3.specs.Guards.{IsParting}
use Rattle.guards3.specs.Parting.{AreGivenBy}

pub mark_corners-requires-clause-corners : goal.mark_corners-requires-clause-corners
mark_corners-requires-clause-corners c =
    let corners = c.args.ring.now.corners in
    corners_below corners c.args.tris.now c.requires _ (omega (arith, c.deref_mut.ensures.len, c.in_ok-classes.ensures.len, c.len.ensures.number))

pub give_classes-requires : goal.give_classes-requires
give_classes-requires c =
    let corners = c.args.ring.now.corners in
    omega (
      arith,
      c.deref_mut-2.ensures.len,
      c.deref_mut.ensures.len,
      c.mark_corners.ensures.count,
      c.in_ok-classes.ensures.len,
      c.len.ensures.number,
      two_fewer corners c.args.tris.now c.requires,
      some_triangle corners c.args.tris.now c.requires,
    )

pub returns : goal.returns
returns c =
    let corners = c.args.ring.now.corners in
    let tris = c.args.tris.now in
    let marks = c.mark_corners.new.marks in
    let classes = c.give_classes.new.classes in
    let len = c.in_ok-classes.classes.len in
    let marked : length marks ≡ len = omega (arith, c.mark_corners.ensures.count, c.deref_mut.ensures.len) in
    let same : c.deref_mut-2.result.now ≡ marks = c.deref_mut-2.ensures.value ∙ with_items_is c.in_ok-classes.classes marks marked in
    let given : AreGivenBy marks classes = subst (λ ms. AreGivenBy ms classes) same c.give_classes.ensures.given in
    let long : length classes ≡ len = c.give_classes.ensures.count ∙ ap length same ∙ marked in
    let all : len ≡ length corners = omega (arith, c.in_ok-classes.ensures.len, c.len.ensures.number) in
    let kept : (rest : List ℕ) → take len (classes ++ rest) ≡ classes =
    λ rest. ap (λ m. take m (classes ++ rest)) (sym long) ∙ take-append_seam classes rest in
    let parting = given_parting corners tris c.requires marks (marked ∙ all) c.mark_corners.ensures.marks classes (long ∙ all) given in
    subst (IsParting (length corners) tris) (sym (kept _)) parting
