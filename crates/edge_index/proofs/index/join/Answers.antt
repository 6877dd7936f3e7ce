use Rattle.std.proofs.Common.{ℕ, ◌+◌, ◌-◌, ◌*◌, ◌∙◌, sym, subst, arith}
use Rattle.std.proofs.lemmas.List.{length-set}
use Rattle.std.proofs.lemmas.List.Elements.{All-set}
use Rattle.edge_index.proofs.index.join.Goals as goal
use Rattle.edge_index.specs.Runs.{IsRun}

pub loop-k-preserved : goal.loop-k-preserved
loop-k-preserved c =
    let had = c.loop-k.invariant in
    let runs = c.loop-k.runs.items in
    let k : ℕ = c.loop-k.k - 1 in
    record {
      runs = λ ring edges was.
          let are = had.runs ring edges was in
          let first = subst (IsRun ring edges) (sym c.index.ensures) (are (2 * k) c.index.result.now (omega (arith, had.within, c.loop-k-test.true))) in
          let second = subst (IsRun ring edges) (sym c.index-in-loop-k.ensures)
          (are (2 * k + 1) c.index-in-loop-k.result.now (omega (arith, had.within, c.loop-k-test.true))) in
          All-set (IsRun ring edges) runs k _ (c.joined.ensures ring edges first second) are;
      count = length-set runs k _ ∙ had.count;
      within = omega (arith, length-set runs k c.joined.result, had.within);
    }
