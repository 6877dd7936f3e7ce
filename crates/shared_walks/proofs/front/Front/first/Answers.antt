use Rattle.std.proofs.Common.{◌∙◌, ap, length, arith}
use Rattle.dual_tree.proofs.SleeveRoom.{sleeve_few}
use Rattle.shared_walks.proofs.front.Front.first.Goals as goal

pub returns-clause-front : goal.returns-clause-front
returns-clause-front g c =
    let few = sleeve_few _ _ _ c.requires.fits c.requires.of_mesh in
    let come = c.open.ensures.walked in
    record {
      walked = rw (c.in_ok-behind.ensures.items, c.left.ensures, c.right.ensures)
          (rw (c.new-board.ensures.corners, c.new-board.ensures.start, c.new-board.ensures.goal) at come);
      given = c.open.ensures.given;
      few = omega (arith, c.open.ensures.few, ap length c.in_ok-behind.ensures.items);
      near = omega (arith, few, c.requires.some);
      room = c.open.ensures.same_room ∙ rw c.in_ok-funnel.ensures c.len-n.ensures.number;
      behind_room = omega (arith, c.in_ok-behind.ensures.capacity, c.len-n.ensures.number);
    }
