use Rattle.std.proofs.Common.{◌≡◌, ◌↔◌, ◌<◌, refl, ℕ, List, length, Bool, false, IsTrue, rules}
use Rattle.plane.specs.Point.{Point}
use Rattle.rings.specs.Chain.{point_at}
use Rattle.rings.specs.Orientation.{IsReflex}
use Rattle.rings.specs.Ring.{vertex}
use Rattle.taut_check.proofs.Bends.{bend_of_kept}
use Rattle.taut_check.proofs.Leaving.{sound_of_kept}
use Rattle.taut_check.proofs.verdict.verdict_at.Goals as goal
use Rattle.taut_check.specs.Verdict.{IsNotReflex}

-- a rule that is not found broken is kept
kept : {P : Type 0} (found : Bool) → IsTrue found ↔ P → found ≡ false → ¬ P
kept found tells not h = absurd (cc (tells.1 h, not))

-- a point that is a reflex vertex breaks no rule for that
is_reflex : (ring points : List Point) (k i : ℕ) → i < length ring → vertex ring i ≡ point_at points k → IsReflex ring i → ¬ IsNotReflex ring points k
is_reflex ring points k i below is_vertex reflex other =
    other.not_reflex (record { i = i; in_ring = below; is_vertex = is_vertex; reflex = reflex })

pub returns-then-branch-clause-found : goal.returns-then-branch-clause-found
returns-then-branch-clause-found g c =
    let leaves = c.in_ok-is_leaving.ensures.leaving c.args.ring.now.corners c.requires.of c.requires.seen in
    (refl, (kept _ c.is_repeat.ensures.repeat c.if-is_repeat.false, leaves.0 c.if-branch.true))

pub returns-then-not-is_inner-clause-found : goal.returns-then-not-is_inner-clause-found
returns-then-not-is_inner-clause-found g c =
    let leaves = c.in_ok-is_leaving.ensures.leaving c.args.ring.now.corners c.requires.of c.requires.seen in
    sound_of_kept c.args.ring.now.corners c.args.chain.now c.args.k
    (kept _ c.is_repeat.ensures.repeat c.if-is_repeat.false)
    (kept _ leaves c.if-branch.false)
    (λ inner. absurd (cc (c.is_inner.ensures.1 inner, c.if-not-is_inner.true)))

pub returns-in_default-clause-found : goal.returns-in_default-clause-found
returns-in_default-clause-found g c =
    let leaves = c.in_ok-is_leaving.ensures.leaving c.args.ring.now.corners c.requires.of c.requires.seen in
    let inner = c.is_inner.ensures.0 (grind rules) in
    let not_reflex = rw (c.in_default.is, c.point.ensures) at c.reflex_vertex.ensures.none in
    (refl, (kept _ c.is_repeat.ensures.repeat c.if-is_repeat.false, kept _ leaves c.if-branch.false, record { inner = inner; not_reflex = not_reflex }))

pub returns-then-has_no_turn-clause-found : goal.returns-then-has_no_turn-clause-found
returns-then-has_no_turn-clause-found g c =
    let leaves = c.in_ok-is_leaving.ensures.leaving c.args.ring.now.corners c.requires.of c.requires.seen in
    let found = c.in-Some.ensures in (
      refl,
      (
        kept _ c.is_repeat.ensures.repeat c.if-is_repeat.false,
        kept _ leaves c.if-branch.false,
        is_reflex _ _ _ _ found.range (rw c.point.ensures at found.vertex) found.reflex,
        c.has_no_turn.ensures.straight.0 c.if-has_no_turn.true,
      ),
    )

pub returns-then-is_on_wrong_side-clause-found : goal.returns-then-is_on_wrong_side-clause-found
returns-then-is_on_wrong_side-clause-found g c =
    let stays = kept _ (c.in_ok-is_leaving.ensures.leaving c.args.ring.now.corners c.requires.of c.requires.seen) c.if-branch.false in
    let reflex = is_reflex _ _ _ _ c.in-Some.ensures.range (rw c.point.ensures at c.in-Some.ensures.vertex) c.in-Some.ensures.reflex in
    let turns = kept _ c.has_no_turn.ensures.straight c.if-has_no_turn.false in
    (refl, (kept _ c.is_repeat.ensures.repeat c.if-is_repeat.false, stays, reflex, turns, c.is_on_wrong_side.ensures.wrong.0 c.if-is_on_wrong_side.true))

pub returns-clause-found : goal.returns-clause-found
returns-clause-found g c =
    let ring = c.args.ring.now.corners in
    let points = c.args.chain.now in
    let k = c.args.k in
    let leaves = c.in_ok-is_leaving.ensures.leaving ring c.requires.of c.requires.seen in
    sound_of_kept ring points k
    (kept _ c.is_repeat.ensures.repeat c.if-is_repeat.false)
    (kept _ leaves c.if-branch.false)
    (bend_of_kept ring points k c.in-Some.i c.in-Some.ensures.range (rw c.point.ensures at c.in-Some.ensures.vertex) c.in-Some.ensures.reflex
    (kept _ c.has_no_turn.ensures.straight c.if-has_no_turn.false)
    (kept _ c.is_on_wrong_side.ensures.wrong c.if-is_on_wrong_side.false))
