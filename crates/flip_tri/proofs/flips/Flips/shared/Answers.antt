use Rattle.std.proofs.Common.{◌≡◌, sym, ap, subst, ◌∙◌, ℕ, ◌<◌, IfNone, Some, None, length, arith}
use Rattle.std.proofs.lemmas.List.{get_or_read}
use Rattle.meshes.specs.Mesh.{side_begin, side_end}
use Rattle.meshes.specs.Side.{HasSide, tri_at}
use Rattle.meshes.specs.declared.tri.Tri.{Tri}
use Rattle.tri_mesh.proofs.Neighbours.{has_side_numbered}
use Rattle.flip_tri.proofs.HandedOver.{has_side_moved, side_numbered}
use Rattle.flip_tri.proofs.SharedQuads.{entry_read}
use Rattle.flip_tri.specs.Shared.{entry}
use Rattle.tri_mesh.specs.Triangle.{IsSideNumber}
use Rattle.flip_tri.proofs.flips.Flips.shared.Goals as goal
use Rattle.flip_tri.proofs.flips.Flips.shared.Goals.{After-side_number}

pub returns-in_err-far-clause-none : goal.returns-in_err-far-clause-none
returns-in_err-far-clause-none c =
    let a = c.args in
    let rows = a.self.now.neighbours.items in
    let tris = a.self.now.tris.items in
    let t = tri_at tris a.near in
    let near = c.requires.near in
    let none = entry_read tris rows c.requires.knows a.near a.near_side c.index.result.now None near c.index.ensures (sym c.in_err-far.was) in
    subst (λ o. IfNone o ((l : ℕ) → l < length tris → ¬ HasSide (tri_at tris l) (side_end t a.near_side) (side_begin t a.near_side)))
    (sym c.from_residual.ensures)
    (λ l below has. let some = c.requires.knows.all a.near a.near_side l near c.requires.side below has in
    let e : None ≡ Some l = none ∙ some in absurd (cc))

pub index-requires-3 : goal.index-requires-3
index-requires-3 c =
    let a = c.args in
    let far = c.in_ok-far.far in
    let near = c.requires.near in
    let some = entry_read _ _ c.requires.knows a.near a.near_side c.index.result.now (Some far) near c.index.ensures (sym c.in_ok-far.was) in
    let within = c.requires.knows.within a.near a.near_side far near c.requires.side (sym some) in
    let size = a.self.now.tris.ok.0 in
    omega (arith, within, size)

-- the triangles on both sides have been read, and where the side begins and ends
module _ (c : After-side_number) where
  abbrev near_tri : Tri
  near_tri = tri_at c.args.self.now.tris.items c.args.near

  some : Some c.in_ok-far.far ≡ entry c.args.self.now.neighbours.items c.args.near c.args.near_side
  some = entry_read _ _ c.requires.knows _ _ c.index.result.now (Some c.in_ok-far.far) c.requires.near c.index.ensures (sym c.in_ok-far.was)

  within : c.in_ok-far.far < length c.args.self.now.tris.items
  within = c.requires.knows.within _ _ _ c.requires.near c.requires.side (sym some)

  is_near : c.index-2.result.now ≡ near_tri
  is_near = get_or_read _ _ _ c.requires.near c.index-2.ensures (record { a = 0; b = 0; c = 0 })

  is_far : c.index-3.result.now ≡ tri_at c.args.self.now.tris.items c.in_ok-far.far
  is_far = get_or_read _ _ _ within c.index-3.ensures (record { a = 0; b = 0; c = 0 })

  begins : c.side_ends-from.result.0 ≡ side_begin near_tri c.args.near_side
  begins = ap (λ p. p.0) c.side_ends-from.ensures ∙ ap (λ u. side_begin u c.args.near_side) is_near

  ends : c.side_ends-from.result.1 ≡ side_end near_tri c.args.near_side
  ends = ap (λ p. p.1) c.side_ends-from.ensures ∙ ap (λ u. side_end u c.args.near_side) is_near

pub returns-in_err-far_side-clause-none : goal.returns-in_err-far_side-clause-none
returns-in_err-far_side-clause-none c =
    let at = (goal.at.returns-in_err-far_side-clause-none c).After-side_number in
    let a = c.args in
    let tris = a.self.now.tris.items in
    let t = tri_at tris a.near in
    let far = c.in_ok-far.far in
    subst (λ o. IfNone o ((l : ℕ) → l < length tris → ¬ HasSide (tri_at tris l) (side_end t a.near_side) (side_begin t a.near_side)))
    (sym c.from_residual-in_err-far_side.ensures)
    (λ l below has. let found = c.requires.knows.all a.near a.near_side l c.requires.near c.requires.side below has in
    let same : l ≡ far = (let e : Some l ≡ Some far = sym found ∙ sym (some at) in cc) in
    let has_far : HasSide (tri_at tris far) (side_end t a.near_side) (side_begin t a.near_side) =
    subst (λ m. HasSide (tri_at tris m) (side_end t a.near_side) (side_begin t a.near_side)) same has in
    c.in_err-far_side.ensures.none (has_side_moved (sym (is_far at)) (sym (ends at)) (sym (begins at)) has_far))

pub returns-clause-some : goal.returns-clause-some
returns-clause-some c =
    let at = (goal.at.returns-clause-some c).After-side_number in
    let a = c.args in
    let tris = a.self.now.tris.items in
    let t = tri_at tris a.near in
    let far = c.in_ok-far.far in
    let number : IsSideNumber (tri_at tris far) (side_end t a.near_side) (side_begin t a.near_side) c.in_ok-far_side.far_side =
    subst (λ i. IsSideNumber (tri_at tris far) i (side_begin t a.near_side) c.in_ok-far_side.far_side) (ends at)
    (subst (λ j. IsSideNumber (tri_at tris far) c.side_ends-from.result.1 j c.in_ok-far_side.far_side) (begins at)
    (subst (λ u. IsSideNumber u c.side_ends-from.result.1 c.side_ends-from.result.0 c.in_ok-far_side.far_side) (is_far at) c.in_ok-far_side.ensures.some)) in
    record {
      near = c.requires.near;
      far = within at;
      different = λ same. c.requires.once.one_way _ _ a.near c.requires.near (has_side_numbered t a.near_side c.requires.side)
          (subst (λ m. HasSide (tri_at tris m) (side_end t a.near_side) (side_begin t a.near_side)) (sym same) (side_numbered _ _ _ _ number));
      near_side = c.requires.side;
      far_side = number;
    }
