use Rattle.std.proofs.Common.{◌≡◌, ap, ◌∙◌, sym, ◌+◌, ◌%◌, ◌<◌, arith, length}
use Rattle.std.proofs.Math.Nat.{mod-lt}
use Rattle.std.proofs.lemmas.List.{get_or_read}
use Rattle.plane.specs.Convex.{corner}
use Rattle.half_cut.proofs.Links.{length_rotated}
use Rattle.half_cut.proofs.TurnedBlocks.{read_from}
use Rattle.half_cut.proofs.region.Region.corner.Goals as goal
use Rattle.half_cut.specs.Outline.{Outline, from_place}

pub returns : goal.returns
returns c =
    let cs = c.self.inside.corners.items in
    let least = c.self.inside.least in
    let is : from_place least cs ≡ c.args.self.now.corners = ap (λ (r : Outline). r.corners) c.self.view_is in
    let less : c.args.i < length cs = omega (arith, c.requires, ap (λ (r : Outline). length r.corners) c.self.view_is, length_rotated cs least c.self.invariant.within) in
    let place : (least + c.args.i) % c.len.result ≡ (least + c.args.i) % length cs =
    ap (λ n. (least + c.args.i) % n) (omega (arith, c.len.ensures, c.self.inside.corners.ok.0)) in
    let here : c.index.result.now ≡ corner cs ((least + c.args.i) % length cs) =
    get_or_read cs ((least + c.args.i) % length cs) c.index.result.now (mod-lt (least + c.args.i) (omega (arith, less)))
    (rw place at c.index.ensures) _ in
    here ∙ sym (read_from cs least c.args.i c.self.invariant.within less) ∙ ap (λ xs. corner xs c.args.i) is
