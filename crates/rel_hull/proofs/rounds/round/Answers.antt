use Rattle.std.proofs.Common.{◌≡◌, refl, ℕ, ◌+◌, ◌-◌, ◌<◌, List, [], ◌∷◌, ◌++◌, length, arith}
use Rattle.std.proofs.lemmas.List.{length_push}
use Rattle.rel_hull.proofs.Closing.{front_fits, front_of_next, front_of_start, next_in_list, round_of_front, round_of_none}
use Rattle.rel_hull.proofs.Costs.{end_paid, round_paid, sides_paid}
use Rattle.rel_hull.proofs.Paths.{length-points_of}
use Rattle.rel_hull.proofs.rounds.round.Goals as goal

pub returns-in_default-clause-round : goal.returns-in_default-clause-round
returns-in_default-clause-round g c =
    let are = rw (← c.deref.ensures.value) at c.in_ok-outer.ensures.outer in
    rw c.new-round.ensures.items
    (round_of_none c.args.ring.now.corners c.args.chains.now c.requires c.deref.result.now are c.len-ring_is_simple.ensures.size.0 c.len-ring_is_simple.ensures.simple
    c.in_default.ensures.start)

pub side_end-next-requires-clause-start : goal.side_end-next-requires-clause-start
side_end-next-requires-clause-start g c =
    let are = rw (← c.deref.ensures.value) at c.in_ok-outer.ensures.outer in
    are.below c.in-Some.first c.in-Some.ensures.start.starts.1.first

pub loop-next-init : goal.loop-next-init
loop-next-init g c =
    let kept = c.in_ok-outer.ensures in
    let is_first = rw c.deref.ensures.value at c.in-Some.ensures.start in
    let ends = rw c.deref-2.ensures.value at c.side_end-next.ensures.end in
    let few = rw (← c.deref.ensures.value) at kept.few in
    let same_few = rw (← c.deref-2.ensures.value) at kept.few in
    let m = c.args.chains.now.count in
    rw (c.in_ok-push.ensures.items, c.new-round.ensures.items)
    (record {
      front = front_of_start c.args.ring.now.corners c.args.chains.now c.requires c.in_ok-outer.outer.items kept.outer c.len-ring_is_simple.ensures.size.0
          c.len-ring_is_simple.ensures.simple c.in-Some.first c.side_end-next.result is_first ends;
      few = c.requires.some;
      steps = λ d short.
          let found = sides_paid _ _ _ m (length c.deref.result.now) (d + 8) c.outer_points.ensures.steps (c.first_start.ensures.steps d short) few in
          end_paid _ c.first_start.new.steps _ 0 1 m (length c.deref-2.result.now) (d + 8) (omega (arith, found)) (c.side_end-next.ensures.steps d short) same_few refl;
    })

pub side_end-next-requires-in-loop-next-clause-start : goal.side_end-next-requires-in-loop-next-clause-start
side_end-next-requires-in-loop-next-clause-start g c = rw length-points_of at (next_in_list _ _ _ _ _ c.loop-next.invariant.front)

-- a list with one more is nearer to a bound
nearer : (n : ℕ) (list more : List ℕ) (x : ℕ) → more ≡ list ++ x ∷ [] → length list < n → n - length more < n - length list
nearer n list more x is fits = rw is (omega (arith, length_push list x, fits))

pub loop-next-smaller : goal.loop-next-smaller
loop-next-smaller g c = nearer _ _ _ _ c.in_ok-push-2.ensures.items (front_fits _ _ _ _ _ c.loop-next.invariant.front c.loop-next-test.true)

pub loop-next-preserved : goal.loop-next-preserved
loop-next-preserved g c =
    let before = c.loop-next.invariant in
    let ends = rw c.deref-in-loop-next.ensures.value at c.side_end-next-in-loop-next.ensures.end in
    let few = rw (← c.deref-in-loop-next.ensures.value) at c.in_ok-outer.ensures.few in
    let fits = rw length-points_of at (front_fits _ _ _ _ _ before.front c.loop-next-test.true) in
    let longer = length_push c.loop-next.round.items c.loop-next.next in
    rw c.in_ok-push-2.ensures.items
    (record {
      front = front_of_next c.args.ring.now.corners c.args.chains.now c.requires c.in_ok-outer.outer.items c.in_ok-outer.ensures.outer c.in-Some.first
          c.loop-next.round.items c.loop-next.next c.side_end-next-in-loop-next.result before.front c.loop-next-test.true ends;
      few = omega (arith, longer, fits);
      steps = λ d short.
          end_paid _ c.loop-next.steps _ _ _ c.args.chains.now.count (length c.deref-in-loop-next.result.now) (d + 8) (before.steps d short)
          (c.side_end-next-in-loop-next.ensures.steps d short) few longer;
    })

pub returns-clause-round : goal.returns-clause-round
returns-clause-round g c =
    round_of_front c.args.ring.now.corners c.args.chains.now c.requires c.in-Some.first c.loop-next.round.items c.loop-next.next c.loop-next.invariant.front
    c.loop-next-test.false

pub returns-in_default-clause-steps : goal.returns-in_default-clause-steps
returns-in_default-clause-steps g c d short =
    let few = rw (← c.deref.ensures.value) at c.in_ok-outer.ensures.few in
    omega (arith, sides_paid _ _ _ _ (length c.deref.result.now) (d + 8) c.outer_points.ensures.steps (c.first_start.ensures.steps d short) few)

pub returns-in_err-push-clause-steps : goal.returns-in_err-push-clause-steps
returns-in_err-push-clause-steps g c d short =
    let few = rw (← c.deref.ensures.value) at c.in_ok-outer.ensures.few in
    omega (arith, sides_paid _ _ _ _ (length c.deref.result.now) (d + 8) c.outer_points.ensures.steps (c.first_start.ensures.steps d short) few)

pub returns-in_err-push-2-clause-steps : goal.returns-in_err-push-2-clause-steps
returns-in_err-push-2-clause-steps g c d short =
    round_paid _ _ (length c.loop-next.round.items) _ d (c.loop-next.invariant.steps d short) c.loop-next.invariant.few

pub returns-clause-steps : goal.returns-clause-steps
returns-clause-steps g c d short =
    round_paid _ _ (length c.loop-next.round.items) _ d (c.loop-next.invariant.steps d short) c.loop-next.invariant.few
