use Rattle.std.proofs.Common.{◌≤◌, ◌+◌, ◌*◌, arith, length}
use Rattle.geo_reply.proofs.Fronts.{err_since}
use Rattle.geo_reply.proofs.MapFront.{same_for_each}
use Rattle.geo_reply.proofs.lines.put_lines.Goals as goal

pub returns-in-View-clause-steps : goal.returns-in-View-clause-steps
returns-in-View-clause-steps g c =
    let all = same_for_each 128 c.in-View.parts in
    rw c.in-View.is (omega (arith, rw c.as_slice-in-View.ensures.items at c.put_items.ensures.steps, all))

pub returns-in-View-clause-memory : goal.returns-in-View-clause-memory
returns-in-View-clause-memory g c =
    let all = same_for_each 128 c.in-View.parts in
    let few : c.put_items.new.steps ≤ c.args.steps.now + 128 * length c.in-View.parts =
    omega (arith, rw c.as_slice-in-View.ensures.items at c.put_items.ensures.steps, all) in
    rw c.in-View.is (err_since c.put_items.result few)

pub returns-in-Kernel-clause-steps : goal.returns-in-Kernel-clause-steps
returns-in-Kernel-clause-steps g c =
    let all = same_for_each 64 c.in-Kernel.corners in
    rw c.in-Kernel.is (omega (arith, rw c.as_slice-in-Kernel.ensures.items at c.put_items-in-Kernel.ensures.steps, all))

pub returns-in-Kernel-clause-memory : goal.returns-in-Kernel-clause-memory
returns-in-Kernel-clause-memory g c =
    let all = same_for_each 64 c.in-Kernel.corners in
    let few : c.put_items-in-Kernel.new.steps ≤ c.args.steps.now + 64 * length c.in-Kernel.corners =
    omega (arith, rw c.as_slice-in-Kernel.ensures.items at c.put_items-in-Kernel.ensures.steps, all) in
    rw c.in-Kernel.is (err_since c.put_items-in-Kernel.result few)
