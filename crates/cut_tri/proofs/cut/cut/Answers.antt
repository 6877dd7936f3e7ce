use Rattle.std.proofs.Common.{ℕ, List, subst, sym, length}
use Rattle.std.specs.Prelude.{IfOk}
use Rattle.cut_tri.proofs.RotatedCuts.{least_from, piece_from, result_from}
use Rattle.cut_tri.proofs.cut.cut.Goals as goal
use Rattle.cut_tri.specs.Cutting.{IsCutOf}
use Rattle.cut_tri.specs.Piece.{IsLeastBelow}

pub cut_at_first-requires-clause-piece : goal.cut_at_first-requires-clause-piece
cut_at_first-requires-clause-piece g c =
    rw c.rotate_left.ensures.items (piece_from c.args.ring.now.corners c.args.piece.items c.least_place-least.result c.requires)

pub cut_at_first-requires-clause-least : goal.cut_at_first-requires-clause-least
cut_at_first-requires-clause-least g c =
    let corners = c.args.ring.now.corners in
    let found = rw c.deref.ensures.value at c.least_place-least.ensures.least in
    let within = rw c.deref.ensures.value at c.least_place-least.ensures.place in
    subst (λ xs. IsLeastBelow corners xs (length xs) 0) (sym {A = List ℕ} c.rotate_left.ensures.items)
    (least_from corners c.args.piece.items c.least_place-least.result c.requires within found)

pub returns-clause-cut : goal.returns-clause-cut
returns-clause-cut g c =
    let corners = c.args.ring.now.corners in
    result_from corners c.args.piece.items c.least_place-least.result c.requires c.cut_at_first.result
    (subst (λ xs. IfOk c.cut_at_first.result (IsCutOf corners xs)) c.rotate_left.ensures.items c.cut_at_first.ensures.cut)
