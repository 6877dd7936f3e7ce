use Rattle.std.proofs.Common.{refl, sym, ap, subst, ◌∙◌, [], ◌∷◌, length, arith}
use Rattle.std.proofs.lemmas.List.{length-append}
use Rattle.exact_plane.specs.declared.turns.Spot.TheVariants.{Start}
use Rattle.path_tree.proofs.GrownPaths.{IsGoneBack, back_begins, back_ends, back_goes_on, back_longer, back_no_goal, back_on, back_room}
use Rattle.path_tree.specs.Grown.{IsGrownTree}
use Rattle.path_tree.proofs.tree.PathTree.chain_into.Goals as goal

pub loop-before-init : goal.loop-before-init
loop-before-init c = (back_begins c.args.self.now c.args.last c.args.out.now.items c.requires.kept, omega arith, refl)

pub push_reserved-requires : goal.push_reserved-requires
push_reserved-requires c =
    let g = subst IsGrownTree c.self.view_is c.self.invariant in
    omega (arith, c.requires.room, back_room _ _ _ _ _ c.loop-before.invariant.0 g)

pub loop-before-smaller : goal.loop-before-smaller
loop-before-smaller c =
    let g = subst IsGrownTree c.self.view_is c.self.invariant in
    let next = back_on _ g _ _ _ _ _ c.loop-before.invariant.0 c.in-Some.ensures.before in
    omega (arith, ap length c.push_reserved.ensures.items, back_room _ _ _ _ _ next g)

pub loop-before-preserved : goal.loop-before-preserved
loop-before-preserved c =
    let g = subst IsGrownTree c.self.view_is c.self.invariant in
    let next = back_on _ g _ _ _ _ _ c.loop-before.invariant.0 c.in-Some.ensures.before in (
      subst (IsGoneBack c.args.self.now c.args.last c.in-Some.before c.args.out.now.items) (sym c.push_reserved.ensures.items) next,
      c.loop-before.invariant.1,
      c.push_reserved.ensures.capacity ∙ c.loop-before.invariant.2,
    )

pub push_reserved-requires-2 : goal.push_reserved-requires-2
push_reserved-requires-2 c =
    let g = subst IsGrownTree c.self.view_is c.self.invariant in
    omega (arith, c.requires.room, back_room _ _ _ _ _ c.loop-before.invariant.0 g)

pub turn_round-requires : goal.turn_round-requires
turn_round-requires c =
    omega (
      arith,
      ap length c.push_reserved-2.ensures.items,
      length-append c.loop-before.out.items (Start ∷ []),
      back_longer _ _ _ _ _ c.loop-before.invariant.0,
      c.loop-before.invariant.1,
    )

pub returns-clause-path : goal.returns-clause-path
returns-clause-path c =
    back_ends _ _ _ _ _ c.loop-before.invariant.0 _ c.loop-before.invariant.1 _ _ c.push_reserved-2.ensures.items c.turn_round.ensures.turned
    c.in_default.ensures.before

pub returns-clause-on : goal.returns-clause-on
returns-clause-on c =
    back_goes_on _ _ _ _ _ c.loop-before.invariant.0 _ c.loop-before.invariant.1 _ _ c.push_reserved-2.ensures.items c.turn_round.ensures.turned
    c.in_default.ensures.before

pub returns-clause-no_goal : goal.returns-clause-no_goal
returns-clause-no_goal c =
    back_no_goal _ _ _ _ _ c.loop-before.invariant.0 _ c.loop-before.invariant.1 _ _ c.push_reserved-2.ensures.items c.turn_round.ensures.turned
