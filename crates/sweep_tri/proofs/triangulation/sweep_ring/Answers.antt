use Rattle.std.proofs.Common.{sym, subst, List, arith}
use Rattle.std.proofs.lemmas.Result.{IfOk-weaker}
use Rattle.meshes.specs.Fits.{Fits}
use Rattle.plane.specs.Point.{Point}
use Rattle.rings.specs.Orientation.{IsCounterclockwise}
use Rattle.rings.specs.Simple.{IsSimple}
use Rattle.sweep_tri.proofs.HalfTurns.{counterclockwise_half_turned, fits_before, in_order_half_turned, simple_half_turned}
use Rattle.sweep_tri.proofs.triangulation.sweep_ring.Goals as goal
use Rattle.sweep_tri.specs.HalfTurn.{all_half_turned}

pub sweep-requires-clause-simple : goal.sweep-requires-clause-simple
sweep-requires-clause-simple g c =
    subst (λ (corners : List Point). IsSimple (all_half_turned corners)) (sym c.requires.board) (simple_half_turned c.args.ring.now.corners c.len-is_simple.ensures.simple)

pub sweep-requires-clause-counterclockwise : goal.sweep-requires-clause-counterclockwise
sweep-requires-clause-counterclockwise g c =
    subst (λ (corners : List Point). IsCounterclockwise (all_half_turned corners)) (sym c.requires.board)
    (counterclockwise_half_turned c.args.ring.now.corners c.len-is_simple.ensures.counterclockwise)

pub sweep-requires-clause-order : goal.sweep-requires-clause-order
sweep-requires-clause-order g c =
    let are = in_order_half_turned c.args.ring.now.corners c.in_ok-order.order.items (c.in_ok-order.ensures.order) in
    rw (c.requires.board, c.deref.ensures.value, c.reverse.ensures.items) are

pub returns-clause-fits : goal.returns-clause-fits
returns-clause-fits g c =
    IfOk-weaker c.sweep.result (λ tris. Fits (all_half_turned (g.T.Turns.corners c.args.board.now)) tris.items) (λ tris. Fits c.args.ring.now.corners tris.items)
    (λ tris fits. fits_before c.args.ring.now.corners tris.items (omega (arith, c.len-is_simple.ensures.size)) c.len-is_simple.ensures.simple c.len-is_simple.ensures.counterclockwise
    (rw c.requires.board at fits)) c.sweep.ensures.fits
