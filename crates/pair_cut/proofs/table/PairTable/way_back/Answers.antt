use Rattle.std.proofs.Common.{ap, sym, [], ◌∷◌, ◌++◌, length, arith}
use Rattle.std.proofs.lemmas.List.{length_push}
use Rattle.pair_cut.proofs.TableRows.{number_is, row_long, table_of}
use Rattle.pair_cut.proofs.WayBack.{back_begins, back_ends, back_few, back_on}
use Rattle.pair_cut.proofs.table.PairTable.way_back.Goals as goal
use Rattle.pair_cut.specs.Pairs.{pair_before}

pub loop-at-init : goal.loop-at-init
loop-at-init c =
    rw c.new-names.ensures.items
    (back_begins c.args.self.now (table_of _ _ c.args.self.now c.self.view_is c.self.invariant) c.args.i c.requires.first c.args.j
    c.requires.second)

pub index-at-requires : goal.index-at-requires
index-at-requires c =
    let here = c.loop-at.invariant.below 0 0 (omega arith) in
    omega (
      arith,
      here,
      row_long _ _ c.args.self.now c.self.view_is c.self.invariant c.args.i c.requires.first c.index-row.result.now
          c.index-row.ensures,
    )

pub loop-at-preserved : goal.loop-at-preserved
loop-at-preserved c =
    let before = c.args.self.now in
    let at = c.loop-at.at in
    let is = number_is _ _ before c.self.view_is c.self.invariant c.args.i c.requires.first c.index-row.result.now c.index-row.ensures at
    c.index-at.result.now (c.loop-at.invariant.below 0 0 (omega arith)) c.index-at.ensures in
    rw (is, c.in_ok-push.ensures.items)
    (back_on before (table_of _ _ before c.self.view_is c.self.invariant) c.args.i c.requires.first c.args.j at c.loop-at.names.items
    c.loop-at.invariant (λ e. c.loop-at-test.true (sym e)))

pub loop-at-smaller : goal.loop-at-smaller
loop-at-smaller c =
    let before = c.args.self.now in
    let at = c.loop-at.at in
    let names = c.loop-at.names.items in
    let table = table_of _ _ before c.self.view_is c.self.invariant in
    let next = back_on before table c.args.i c.requires.first c.args.j at names c.loop-at.invariant (λ e. c.loop-at-test.true (sym e)) in
    let few = back_few before table c.args.i c.requires.first c.args.j (pair_before before c.args.i at) (names ++ at ∷ []) next in
    omega (arith, few, length_push names at, ap length c.in_ok-push.ensures.items)

pub returns-clause-path : goal.returns-clause-path
returns-clause-path c = λ ring made.
    rw c.in_ok-push-2.ensures.items
    (back_ends c.args.self.now (table_of _ _ c.args.self.now c.self.view_is c.self.invariant) c.args.i c.requires.first c.args.j c.loop-at.at
    c.loop-at.names.items c.loop-at.invariant (sym c.loop-at-test.false) ring made)

pub returns-clause-few : goal.returns-clause-few
returns-clause-few c =
    let few = back_few c.args.self.now (table_of _ _ c.args.self.now c.self.view_is c.self.invariant) c.args.i c.requires.first c.args.j
    c.loop-at.at c.loop-at.names.items c.loop-at.invariant in
    omega (arith, few, ap length c.in_ok-push-2.ensures.items, length_push c.loop-at.names.items c.args.i)
