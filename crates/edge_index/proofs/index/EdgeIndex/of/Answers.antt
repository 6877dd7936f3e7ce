use Rattle.std.proofs.Common.{arith}
use Rattle.edge_index.proofs.EdgeRuns.{edges_by_kinds}
use Rattle.edge_index.proofs.index.EdgeIndex.of.Goals as goal

pub fill-requires-clause-edges : goal.fill-requires-clause-edges
fill-requires-clause-edges g c =
    rw c.deref-3.ensures.value (edges_by_kinds c.args.points.now c.in_ok-kinds.kinds.items c.in_ok-edges.edges.items c.in_ok-kinds.ensures.all
    (rw c.deref.ensures.value at c.in_ok-edges.ensures.each) (rw c.deref.ensures.value at c.in_ok-edges.ensures.range)
    (omega (arith, c.if-points-len.false, c.len.ensures, c.in_ok-edges.edges.ok.0)))

pub refill-requires-clause-edges : goal.refill-requires-clause-edges
refill-requires-clause-edges g c =
    rw c.deref-6.ensures.value (edges_by_kinds c.args.points.now c.in_ok-kinds.kinds.items c.in_ok-edges.edges.items c.in_ok-kinds.ensures.all
    (rw c.deref.ensures.value at c.in_ok-edges.ensures.each) (rw c.deref.ensures.value at c.in_ok-edges.ensures.range)
    (omega (arith, c.if-points-len.false, c.len.ensures, c.in_ok-edges.edges.ok.0)))

pub refill-requires-clause-runs : goal.refill-requires-clause-runs
refill-requires-clause-runs g c =
    rw c.deref-6.ensures.value (c.join.ensures c.args.points.now c.in_ok-edges.edges.items (rw c.deref-3.ensures.value at c.fill.ensures.runs))

pub returns-clause-index : goal.returns-clause-index
returns-clause-index g c = record {
  edges = edges_by_kinds c.args.points.now c.in_ok-kinds.kinds.items c.in_ok-edges.edges.items c.in_ok-kinds.ensures.all
      (rw c.deref.ensures.value at c.in_ok-edges.ensures.each) (rw c.deref.ensures.value at c.in_ok-edges.ensures.range)
      (omega (arith, c.if-points-len.false, c.len.ensures, c.in_ok-edges.edges.ok.0));
  runs = rw c.deref-6.ensures.value at c.refill.ensures.runs;
}
