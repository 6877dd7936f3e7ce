use Rattle.std.proofs.Common.{◌∙◌, arith}
use Rattle.dual_tree.proofs.SleeveRoom.{sleeve_few}
use Rattle.shared_walks.proofs.front.Front.advance.Goals as goal

pub go_on-requires-clause-room : goal.go_on-requires-clause-room
go_on-requires-clause-room g c =
    let few = sleeve_few _ _ _ c.requires.fits c.requires.of_mesh in
    omega (arith, few, c.requires.front.few, c.requires.front.room, c.requires.within)

pub go_on-requires-clause-out_room : goal.go_on-requires-clause-out_room
go_on-requires-clause-out_room g c =
    let few = sleeve_few _ _ _ c.requires.fits c.requires.of_mesh in
    omega (arith, few, c.requires.front.few, c.requires.front.behind_room, c.requires.within)

pub returns-clause-front : goal.returns-clause-front
returns-clause-front g c =
    let few = sleeve_few _ _ _ c.requires.fits c.requires.of_mesh in
    let come = c.go_on.ensures.walked in
    let old = c.requires.front in
    let given = c.go_on.ensures.same_given ∙ old.given in
    record {
      walked = rw (c.left-self.ensures, c.right-self.ensures)
          (rw (c.new-board.ensures.corners, c.new-board.ensures.start, c.new-board.ensures.goal, given, c.go_on.ensures.at) at come);
      given = given;
      few = omega (arith, c.go_on.ensures.few, old.few);
      near = omega (arith, few, c.requires.within);
      room = c.go_on.ensures.same_room ∙ old.room;
      behind_room = omega (arith, c.go_on.ensures.same_out, old.behind_room);
    }
