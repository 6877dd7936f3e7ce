use Rattle.std.proofs.Common.{◌≡◌, inl, inr, sym, ap, subst, ◌∙◌, ◌+◌, ◌-◌, ◌*◌, ◌<◌, ◌≤◌, length, arith}
use Rattle.std.proofs.lemmas.Bool.{cases_lt, false≢true}
use Rattle.std.proofs.lemmas.List.{length-map}
use Rattle.std.proofs.lemmas.Nat.{mul-le}
use Rattle.plane.specs.Point.{whole}
use Rattle.exact_plane.specs.Spot.{point_named}
use Rattle.shared_seq.proofs.Searches.{after_is_part, before_is_part, whole_is_part}
use Rattle.shared_seq.specs.Digits.{binary_digits}
use Rattle.path_tree.proofs.Halving.{IsHalved, halving_starts, is_in_after, is_in_before, left_is, next_is, round_paid}
use Rattle.path_tree.proofs.funnel.Funnel.place.Goals as goal
use Rattle.path_tree.specs.Listed.{point_of, listed_points}
use Rattle.path_tree.specs.Preceding.{IsPrecededBy}

pub loop-halves-init : goal.loop-halves-init
loop-halves-init g c =
    let corners = g.T.Turns.corners c.args.board.now in
    let start = g.T.Turns.start c.args.board.now in
    let list = c.args.self.now.list in
    let y = whole (point_named corners start (g.T.Turns.goal c.args.board.now) c.args.y) in
    let b = binary_digits (length list) in
    let all = c.search-search.ensures.items ∙ ap (λ l. l.list) c.self.view_is in
    let size : length (listed_points corners start list) ≡ c.search-search.result.low + length c.search-search.result.items =
    length-map list (point_of corners start) ∙ omega (arith, ap length all, c.search-search.ensures.low) in
    let few : c.search-search.result.levels ≤ 2 * b = omega (
      arith,
      c.search-search.ensures.levels,
      ap (λ l. binary_digits (length l.list)) c.self.view_is,
    ) in
    let first : 0 ≡ c.search-search.result.low - 1 = omega (arith, c.search-search.ensures.low) in
    record {
      halved = subst (λ low. IsHalved (listed_points corners start list) c.args.self.now.apex y low
          (c.search-search.result.low + length c.search-search.result.items)) first
          (subst (IsHalved (listed_points corners start list) c.args.self.now.apex y 0) size
          (halving_starts (listed_points corners start list) c.args.self.now.apex y (omega (arith, length-map list (point_of corners start), c.requires.some))));
      part = whole_is_part list c.search-search.result c.search-search.ensures.low all;
      passed = c.search-search.ensures.low;
      steps = omega (
        arith,
        mul-le c.search-search.result.levels (c.search-search.result.levels + 1) (2 * b) (2 * b + 1) few (omega (arith, few)),
      );
    }

pub is_passed-requires-clause-left : goal.is_passed-requires-clause-left
is_passed-requires-clause-left g c =
    let halves = c.in-Some.ensures.halves in
    let loop = c.loop-halves.invariant in
    let place : c.low-place.result - 1 ≡ c.in-Some.halves.after.low - 1 = omega (arith, c.low-place.ensures) in
    subst (IsPrecededBy c.args.self.now.list (c.low-place.result - 1)) (sym c.or-left.ensures)
    (left_is _ _ _ _ _ _ halves loop.part place _ _ c.last.ensures.last c.last.ensures.none loop.passed)

pub loop-halves-preserved-then-is_passed : goal.loop-halves-preserved-then-is_passed
loop-halves-preserved-then-is_passed g c =
    let halves = c.in-Some.ensures.halves in
    let loop = c.loop-halves.invariant in
    let place : c.low-place.result - 1 ≡ c.in-Some.halves.after.low - 1 = omega (arith, c.low-place.ensures) in
    record {
      halved = is_in_after _ _ _ _ _ _ halves loop.part place _ _ _ loop.halved (λ some. (c.is_passed.ensures.passed some).0 c.if-is_passed.true);
      part = after_is_part _ _ _ _ halves _ loop.part;
      passed = next_is _ _ _ _ _ _ halves loop.part place;
      steps = omega (arith, halves.before_levels, round_paid c.loop-halves.search.levels c.in-Some.halves.after.levels halves.after_levels);
    }

pub loop-halves-preserved : goal.loop-halves-preserved
loop-halves-preserved g c =
    let halves = c.in-Some.ensures.halves in
    let loop = c.loop-halves.invariant in
    let place : c.low-place.result - 1 ≡ c.in-Some.halves.after.low - 1 = omega (arith, c.low-place.ensures) in
    let some : 0 < c.low-place.result - 1 = elim (cases_lt 0 (c.low-place.result - 1)) [
      | inl more ↦ more
      | inr fewer ↦ absurd (false≢true (sym c.if-is_passed.false ∙ c.is_passed.ensures.first (omega (arith, fewer))))
    ] in
    record {
      halved = is_in_before _ _ _ _ _ _ halves loop.part place _ _ _ loop.halved some
          (λ passed. false≢true (sym c.if-is_passed.false ∙ (c.is_passed.ensures.passed some).1 passed));
      part = before_is_part _ _ _ _ halves _ loop.part;
      passed = subst (λ low. IsPrecededBy c.args.self.now.list low c.loop-halves.passed) (sym halves.low) loop.passed;
      steps = omega (arith, halves.before_levels, round_paid c.loop-halves.search.levels c.in-Some.halves.before.levels halves.before_levels);
    }
