use Rattle.std.proofs.Common.{inl, inr, arith}
use Rattle.std.proofs.lemmas.Bool.{cases_lt}
use Rattle.edge_index.specs.Candidates.{edges_of}
use Rattle.edge_index.proofs.index.EdgeIndex.next.Goals as goal

pub loop-k-preserved : goal.loop-k-preserved
loop-k-preserved c =
    let had = c.loop-k.invariant in record {
      from = omega (arith, had.from, c.if-end-k.false);
      passed = λ ring is probe m from below. elim (cases_lt m c.loop-k.k) [
        | inl less ↦ had.passed ring is probe m from less
        | inr not ↦ c.apart_to-end.ensures ring (edges_of c.args.self.now) (rw c.deref.ensures.value is.runs) probe m not below
      ];
    }
