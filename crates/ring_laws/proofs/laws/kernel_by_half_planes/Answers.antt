use Rattle.ring_laws.proofs.Kernels.{kernel_law}
use Rattle.ring_laws.proofs.laws.kernel_by_half_planes.Goals as goal

pub returns : goal.returns
returns c = kernel_law
