use Rattle.std.proofs.Common.{◌≡◌, ◌+◌, ◌≤◌, length, arith}
use Rattle.std.proofs.lemmas.List.{length-map, length_push}
use Rattle.meshes.proofs.Sides.{two_fewer}
use Rattle.shared_seq.specs.Digits.{binary_digits}
use Rattle.pair_cut.proofs.TableRows.{rows_more, rows_paid, table_of_rows}
use Rattle.pair_cut.proofs.table.PairTable.build.Goals as goal

pub row_from-requires-clause-vertex : goal.row_from-requires-clause-vertex
row_from-requires-clause-vertex g c =
    omega (arith, two_fewer _ _ c.requires.fits, c.count-i-end.ensures.number, c.loop-i-test.true)

pub returns-in_err-row_from-clause-steps : goal.returns-in_err-row_from-clause-steps
returns-in_err-row_from-clause-steps g c =
    let n = length (g.T.Turns.corners c.args.board.now) in
    let count = two_fewer _ _ c.requires.fits in
    let within : c.loop-i.i + 1 ≤ n = omega (arith, count, c.count-i-end.ensures.number, c.loop-i-test.true) in
    omega (arith, c.loop-i.invariant.steps, c.row_from.ensures.steps, rows_paid (c.loop-i.i + 1) n (binary_digits n) within)

pub returns-in_err-push-clause-steps : goal.returns-in_err-push-clause-steps
returns-in_err-push-clause-steps g c =
    let n = length (g.T.Turns.corners c.args.board.now) in
    let count = two_fewer _ _ c.requires.fits in
    let within : c.loop-i.i + 1 ≤ n = omega (arith, count, c.count-i-end.ensures.number, c.loop-i-test.true) in
    omega (arith, c.loop-i.invariant.steps, c.row_from.ensures.steps, rows_paid (c.loop-i.i + 1) n (binary_digits n) within)

pub loop-i-preserved : goal.loop-i-preserved
loop-i-preserved g c =
    let corners = g.T.Turns.corners c.args.board.now in
    let row = c.in_ok-row_from.field-0 in
    record {
      count = rw c.in_ok-push.ensures.items (omega (arith, length_push c.loop-i.before.items row, c.loop-i.invariant.count));
      rows = rw c.in_ok-push.ensures.items
          (rows_more _ corners c.loop-i.before.items c.loop-i.invariant.rows row c.loop-i.i c.loop-i.invariant.count c.in_ok-row_from.ensures.row);
      steps = omega (arith, c.loop-i.invariant.steps, c.row_from.ensures.steps);
    }

pub invariant_of-result : goal.invariant_of-result
invariant_of-result g c =
    let corners = g.T.Turns.corners c.args.board.now in
    let count = two_fewer corners c.args.mesh.now c.requires.fits in
    let all : length c.loop-i.before.items ≡ length corners =
    omega (arith, c.loop-i.invariant.count, count, c.count-i-end.ensures.number, c.loop-i-test.false, c.loop-i.auto.i-end) in
    record {
      ring = corners;
      made = table_of_rows _ corners c.loop-i.before.items c.loop-i.invariant.rows c.args.mesh.now c.requires.fits all;
      few = omega (arith, length-map c.loop-i.before.items (λ row. row.items), all, c.requires.few);
    }

pub returns-clause-made : goal.returns-clause-made
unfolding invariant_of-result
returns-clause-made g c = (invariant_of-result g c).made

pub returns-clause-steps : goal.returns-clause-steps
returns-clause-steps g c =
    let n = length (g.T.Turns.corners c.args.board.now) in
    let count = two_fewer _ _ c.requires.fits in
    let within : c.loop-i.i ≤ n = omega (arith, count, c.count-i-end.ensures.number, c.loop-i.auto.i-end) in
    omega (arith, c.loop-i.invariant.steps, rows_paid c.loop-i.i n (binary_digits n) within)
