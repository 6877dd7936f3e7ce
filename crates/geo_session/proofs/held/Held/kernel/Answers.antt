use Rattle.std.proofs.Common.{refl}
use Rattle.geo_session.proofs.GivenKernel.{kernel_given}
use Rattle.geo_session.proofs.Paces.{kernel_found}
use Rattle.geo_session.proofs.held.Held.kernel.Goals as goal

pub returns-clause-kernel : goal.returns-clause-kernel
returns-clause-kernel g c =
    rw (← c.self.view_is)
    (record { value = c.of.result; holds = rw c.of.ensures (kernel_given c.self.inside.ring c.in_ok-corners.corners.items c.in_ok-corners.ensures.kernel); told = refl })

pub returns-in_err-corners-clause-steps : goal.returns-in_err-corners-clause-steps
returns-in_err-corners-clause-steps g c =
    rw (← c.self.view_is) (kernel_found _ c.args.steps.now c.kernel.new.steps c.len-few_vertices.ensures.size.0 c.kernel.ensures.steps)

pub returns-clause-steps : goal.returns-clause-steps
returns-clause-steps g c =
    rw (← c.self.view_is) (kernel_found _ c.args.steps.now c.kernel.new.steps c.len-few_vertices.ensures.size.0 c.kernel.ensures.steps)
