use Rattle.std.proofs.Common.{sym, ap, subst, ◌∙◌, ◌<◌, ◌∷◌, [], length, get_or, arith}
use Rattle.std.proofs.lemmas.List.{length-append}
use Rattle.flip_tri.proofs.MeshRows.{all_rows, one_more_row, one_more_taken}
use Rattle.flip_tri.specs.Shared.{IsRowOf}
use Rattle.flip_tri.proofs.flips.Flips.of.Goals as goal

pub loop-k-preserved : goal.loop-k-preserved
loop-k-preserved c =
    let mesh = c.args.mesh.now in
    let k = c.loop-k.k in
    let is = c.loop-k.invariant in
    let less = c.loop-k-test.true in
    let number = c.count-count.ensures.number in
    let below : k < length mesh = omega (arith, less, number) in
    let pushed = c.push_reserved-in-loop-k.ensures.items in
    let two = length-append c.loop-k.neighbours.items (c.row_of.result ∷ []) in
    let tris = c.push_reserved.ensures.capacity in
    let rows = c.push_reserved-in-loop-k.ensures.capacity in
    let tris_room = is.tris_room in
    let rows_room = is.rows_room in
    let count = is.count in
    let longer = ap length pushed in
    record {
      tris = c.push_reserved.ensures.items ∙ one_more_taken mesh c.loop-k.tris.items c.tri.result k below is.tris c.tri.ensures;
      count = omega (arith, longer, two, count);
      rows = λ i within. subst (λ xs. IsRowOf mesh i (get_or xs i [])) (sym pushed)
          (one_more_row mesh k c.loop-k.neighbours.items is.count is.rows c.row_of.result c.row_of.ensures i within);
      tris_room = omega (arith, tris, tris_room);
      rows_room = omega (arith, rows, rows_room);
    }

pub returns-clause-knows : goal.returns-clause-knows
returns-clause-knows c =
    let mesh = c.args.mesh.now in
    let is = c.loop-k.invariant in
    let number = c.count-count.ensures.number in
    let most = c.loop-k.auto.k-end in
    let done = c.loop-k-test.false in
    all_rows mesh c.loop-k.k c.loop-k.neighbours.items is.count is.rows (omega (arith, number, most, done))
