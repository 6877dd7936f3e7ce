use Rattle.std.proofs.Common.{◌≡◌, ◌∙◌, ap, suc, ◌+◌, arith}
use Rattle.guards3.proofs.GivenClasses.{mark_below, with_corner}
use Rattle.guards3.proofs.parting.mark_corners.Goals as goal
use Rattle.guards3.specs.Parting.{corner_count, parity}

pub change-requires-clause-mark : goal.change-requires-clause-mark
change-requires-clause-mark c =
    let has = c.requires.corners c.loop-tri.tri-index (omega (arith, c.loop-tri-test.true)) in
    mark_below _ _ _ (record { long = c.loop-tri.invariant.count; are = c.loop-tri.invariant.marks }) _ has.a

pub change-requires-in-loop-tri-clause-mark : goal.change-requires-in-loop-tri-clause-mark
change-requires-in-loop-tri-clause-mark c =
    let has = c.requires.corners c.loop-tri.tri-index (omega (arith, c.loop-tri-test.true)) in
    let first = with_corner _ _ _ (record { long = c.loop-tri.invariant.count; are = c.loop-tri.invariant.marks }) _ has.a _ c.change.ensures in
    mark_below _ _ _ first _ has.b

pub change-requires-in-loop-tri-2-clause-mark : goal.change-requires-in-loop-tri-2-clause-mark
change-requires-in-loop-tri-2-clause-mark c =
    let has = c.requires.corners c.loop-tri.tri-index (omega (arith, c.loop-tri-test.true)) in
    let first = with_corner _ _ _ (record { long = c.loop-tri.invariant.count; are = c.loop-tri.invariant.marks }) _ has.a _ c.change.ensures in
    let second = with_corner _ _ _ first _ has.b _ c.change-in-loop-tri.ensures in
    mark_below _ _ _ second _ has.c

pub loop-tri-preserved : goal.loop-tri-preserved
loop-tri-preserved c =
    let k = c.loop-tri.tri-index in
    let has = c.requires.corners k (omega (arith, c.loop-tri-test.true)) in
    let first = with_corner _ _ _ (record { long = c.loop-tri.invariant.count; are = c.loop-tri.invariant.marks }) _ has.a _ c.change.ensures in
    let second = with_corner _ _ _ first _ has.b _ c.change-in-loop-tri.ensures in
    let third = with_corner _ _ _ second _ has.c _ c.change-in-loop-tri-2.ensures in
    let next : suc k ≡ k + 1 = omega arith in
    record { count = third.long; marks = λ j below. third.are j below ∙ ap (λ n. parity (corner_count c.args.tris.now n j)) next }
