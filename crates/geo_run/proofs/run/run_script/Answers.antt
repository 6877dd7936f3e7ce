use Rattle.std.proofs.Common.{rules}
use Rattle.geo_run.proofs.NextRecord.{all_written, nothing_read, written_front, written_whole}
use Rattle.geo_run.proofs.run.run_script.Goals as goal

pub returns-in_err-write_all-clause-write_fault : goal.returns-in_err-write_all-clause-write_fault
returns-in_err-write_all-clause-write_fault g c =
    let one = c.in_ok-answer_next.ensures.answered cc in
    let rose = rw c.records.invariant.no_fault at c.in_err-write_all.ensures.failed in
    let front = rw c.deref.ensures.value at c.in_err-write_all.ensures.front in
    λ _. (rose, written_front _ _ _ _ _ _ _ _ _ _ _ _ c.records.invariant one front)

pub records-preserved : goal.records-preserved
records-preserved g c =
    let one = c.in_ok-answer_next.ensures.answered cc in
    let written = rw c.deref.ensures.value at c.in_ok-write_all.ensures.all in
    rw c.clear.ensures.items
    (written_whole _ _ _ _ _ _ _ _ _ _ _ _ c.records.invariant one _ written c.in_ok-write_all.ensures.counts)

pub records-init : goal.records-init
records-init g c =
    rw (c.open-script.ensures, c.new-session.ensures, c.new-out.ensures.items) (nothing_read c.args.bytes.now _ _)

pub returns-clause-ok : goal.returns-clause-ok
returns-clause-ok g c = all_written _ _ _ _ _ _ _ _ c.records.invariant (search rules)
