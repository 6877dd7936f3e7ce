use Rattle.std.proofs.Common.{◌≡◌, ℕ, ◌≤◌, ◌+◌, ◌-◌, ◌*◌, sym, ◌∙◌, List, [], ◌∷◌, ◌++◌, length, Vec, Global, arith}
use Rattle.plane.specs.Point.{Point}
use Rattle.meshes.specs.declared.tri.Tri.{Tri}
use Rattle.cut_tri.proofs.AllowedSteps.{allowed, allowed_for, allowed_in_all}
use Rattle.cut_tri.proofs.Completion.{ArePieces, Completes}
use Rattle.cut_tri.proofs.WholePiece.{all_is_piece}
use Rattle.cut_tri.proofs.WorkList.{allowed_at_start, allowed_before, allowed_once, at_end, at_start, one_step}
use Rattle.cut_tri.specs.WorkList.{last_first}
use Rattle.cut_tri.proofs.triangulation.triangulate.Goals as goal

pub loop-piece-init : goal.loop-piece-init
loop-piece-init g c =
    let corners = c.args.ring.now.corners in
    record {
      pieces = at_start corners c.new-work.result.items c.push.new.self.items c.in_ok-whole_piece.field-0 c.in_ok-tris.tris.items
          c.new-work.ensures.items c.in_ok-push.ensures.items c.in_ok-whole_piece.ensures c.in_ok-tris.ensures.items
          (all_is_piece corners c.len.ensures.size.0 c.len.ensures.simple c.len.ensures.counterclockwise);
      steps = omega (
        arith,
        allowed_at_start corners c.new-work.result.items c.push.new.self.items c.in_ok-whole_piece.field-0 c.new-work.ensures.items
            c.in_ok-push.ensures.items c.in_ok-whole_piece.ensures,
      );
    }

pub loop-piece-preserved : goal.loop-piece-preserved
loop-piece-preserved g c =
    let corners = c.args.ring.now.corners in
    let work = c.loop-piece.work.items in
    let rest = c.pop.new.self.items in
    let near = one_step corners work rest c.in-Some.piece c.loop-piece.tris.items
    c.in-Some.ensures.items c.loop-piece.invariant.pieces c.in_ok-left.left _ _ c.in_ok-left.ensures.cut c.in_ok-take_over.ensures in
    record {
      pieces = (near.are_pieces, near.completes);
      steps = omega (
        arith,
        c.loop-piece.invariant.steps,
        allowed_before corners work rest c.in-Some.piece c.loop-piece.tris.items c.in-Some.ensures.items c.loop-piece.invariant.pieces
            c.loop-piece.steps c.cut.new.steps c.cut.ensures.steps c.in_ok-left.left _ _ c.in_ok-left.ensures.cut c.in_ok-take_over.ensures,
      );
    }

pub build-requires-clause-few : goal.build-requires-clause-few
build-requires-clause-few g c =
    let none : length c.loop-piece.work.items ≡ 0 = sym c.loop-piece.work.ok.0 ∙ c.in_default.ensures.cases.0 in
    let fits = at_end c.args.ring.now.corners c.loop-piece.work.items c.loop-piece.tris.items none c.loop-piece.invariant.pieces.1 in
    let size = c.loop-piece.tris.ok.0 in
    omega (arith, fits.1, c.len.ensures.size)

pub returns-clause-cut : goal.returns-clause-cut
returns-clause-cut g c =
    let none : length c.loop-piece.work.items ≡ 0 = sym c.loop-piece.work.ok.0 ∙ c.in_default.ensures.cases.0 in
    let is_cut = (at_end c.args.ring.now.corners c.loop-piece.work.items c.loop-piece.tris.items none c.loop-piece.invariant.pieces.1).2 in
    grind (arith, is_cut, c.build.ensures)

-- a cut keeps within the bound, also where memory is wanting
within_bound : (corners : List Point) (work rest : List (Vec ℕ Global)) (piece : Vec ℕ Global) (done : List Tri) → work ≡ rest ++ piece ∷ []
    → ArePieces corners (last_first work) × Completes corners done (last_first work) → 3 ≤ length corners → (start before after : ℕ)
    → before + allowed (last_first work) ≤ start + allowed_for (length corners - 3) → after + 777 ≤ before + 260 * length piece.items
    → after ≤ start + 130 * (length corners * length corners)
within_bound corners work rest piece done is pieces some start before after so_far most =
    omega (arith, allowed_in_all (length corners) some, so_far, allowed_once corners work rest piece done is pieces before after most)

pub returns-in_err-left-clause-steps : goal.returns-in_err-left-clause-steps
returns-in_err-left-clause-steps g c =
    within_bound c.args.ring.now.corners c.loop-piece.work.items c.pop.new.self.items c.in-Some.piece c.loop-piece.tris.items c.in-Some.ensures.items
    c.loop-piece.invariant.pieces (omega (arith, c.len.ensures.size)) c.args.steps.now c.loop-piece.steps c.cut.new.steps c.loop-piece.invariant.steps
    c.cut.ensures.steps

pub returns-in_err-take_over-clause-steps : goal.returns-in_err-take_over-clause-steps
returns-in_err-take_over-clause-steps g c =
    within_bound c.args.ring.now.corners c.loop-piece.work.items c.pop.new.self.items c.in-Some.piece c.loop-piece.tris.items c.in-Some.ensures.items
    c.loop-piece.invariant.pieces (omega (arith, c.len.ensures.size)) c.args.steps.now c.loop-piece.steps c.cut.new.steps c.loop-piece.invariant.steps
    c.cut.ensures.steps

pub returns-clause-steps : goal.returns-clause-steps
returns-clause-steps g c =
    let some : 3 ≤ length c.args.ring.now.corners = omega (arith, c.len.ensures.size) in
    omega (arith, allowed_in_all (length c.args.ring.now.corners) some, c.loop-piece.invariant.steps)
