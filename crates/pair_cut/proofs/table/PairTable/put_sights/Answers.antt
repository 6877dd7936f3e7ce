use Rattle.std.proofs.Common.{ap, sym, ◌∙◌, length, ◌<◌, arith}
use Rattle.std.proofs.lemmas.List.{length_push}
use Rattle.pair_cut.proofs.SightLists.{row_begins, row_ends, told_push, told_skip}
use Rattle.pair_cut.proofs.TableRows.{number_is, row_long, rows_of}
use Rattle.pair_cut.proofs.table.PairTable.put_sights.Goals as goal
use Rattle.pair_cut.proofs.table.PairTable.put_sights.Goals.{else-index-i, then-index-i+in_ok-push}

pub loop-j-init : goal.loop-j-init
loop-j-init c = record {
  told = row_begins c.args.self.now c.args.i c.args.pairs.now.items c.requires.before;
  few = omega arith;
}

pub index-requires : goal.index-requires
index-requires c =
    omega (
      arith,
      row_long _ _ c.args.self.now c.self.view_is c.self.invariant c.args.i c.requires.vertex c.index-row.result.now c.index-row.ensures,
      rows_of _ _ c.args.self.now c.self.view_is c.self.invariant,
      c.len-j-end.ensures,
      c.loop-j-test.true,
    )

pub loop-j-preserved : goal.loop-j-preserved
loop-j-preserved c =
    let before = c.args.self.now in
    let j = c.loop-j.j in
    let all = rows_of _ _ before c.self.view_is c.self.invariant in
    let within : j < length before = omega (arith, all, c.len-j-end.ensures, c.loop-j-test.true) in
    let is = number_is _ _ before c.self.view_is c.self.invariant c.args.i c.requires.vertex c.index-row.result.now c.index-row.ensures
    j c.index.result.now within c.index.ensures in
    elim c.if-index-i.branch [
      | then-index-i+in_ok-push w ↦ record {
        told = rw (w.pairs-is, w.in_ok-push.ensures.items)
            (told_push before c.args.i j c.loop-j.pairs.items c.loop-j.invariant.told
            (record { order = omega arith; in_table = within; first = sym is ∙ w.if-index-i.true }));
        few = omega (
          arith,
          c.loop-j.invariant.few,
          ap (λ v. length v.items) w.pairs-is,
          ap length w.in_ok-push.ensures.items,
          length_push c.loop-j.pairs.items (c.args.i, j),
        );
      }
      | else-index-i w ↦ record {
        told = rw w.pairs-is
            (told_skip before c.args.i j c.loop-j.pairs.items c.loop-j.invariant.told
            (λ told. w.if-index-i.false (is ∙ told.first)));
        few = omega (arith, c.loop-j.invariant.few, ap (λ v. length v.items) w.pairs-is);
      }
    ]

pub returns-clause-told : goal.returns-clause-told
returns-clause-told c =
    let all = rows_of _ _ c.args.self.now c.self.view_is c.self.invariant in
    row_ends c.args.self.now c.args.i c.loop-j.j c.loop-j.pairs.items (omega (arith, all, c.len-j-end.ensures, c.loop-j-test.false))
    c.loop-j.invariant.told
