use Rattle.std.proofs.Common.{◌≡◌, inl, inr, refl, rules}
use Rattle.exact_plane.specs.declared.direction.Direction.TheVariants.{Left}
use Rattle.sweep_tri.proofs.Search.{left_by_turn}
use Rattle.sweep_tri.proofs.event.fork_of.Goals as goal

pub returns-then-eq-clause-fork : goal.returns-then-eq-clause-fork
returns-then-eq-clause-fork g c =
    let board = c.args.board.now in
    let left : c.turn-turn.result ≡ Left = search rules in (
      refl,
      inl (
        refl,
        refl,
        (left_by_turn (g.T.Turns.corners board) (g.T.Turns.start board) (g.T.Turns.goal board) c.args.v c.args.a c.args.b
            c.requires.v c.requires.a c.requires.b c.turn-turn.result c.turn-turn.ensures.turn).0 left,
      ),
    )

pub returns-else-eq-clause-fork : goal.returns-else-eq-clause-fork
returns-else-eq-clause-fork g c =
    let board = c.args.board.now in
    let not : ¬ (c.turn-turn.result ≡ Left) = search rules in (
      refl,
      inr (
        refl,
        refl,
        λ h. not
            ((left_by_turn (g.T.Turns.corners board) (g.T.Turns.start board) (g.T.Turns.goal board) c.args.v c.args.a c.args.b
            c.requires.v c.requires.a c.requires.b c.turn-turn.result c.turn-turn.ensures.turn).1 h),
      ),
    )
