-- The kernel of a ring is that of the list that the ring was made of.
use Rattle.std.proofs.Common.{◌↔◌, Bool, true, false, if◌then◌else◌, List}
use Rattle.plane.specs.Point.{Point, Triple}
use Rattle.rings.proofs.Inside.{in_turned_iff, sees_turned_iff}
use Rattle.rings.specs.Kernel.{IsInKernel, IsKernel}
use Rattle.rings.specs.Orientation.{turned_round}
use Rattle.ring_check.specs.Oriented.{Oriented, given_of}

-- a point of the kernel is in that of the ring read backward,
kernel_turned : (ring : List Point) (p : Triple) → IsInKernel ring p ↔ IsInKernel (turned_round ring) p
kernel_turned ring p = (
  λ h. record {
    inside = (in_turned_iff p ring).1 h.inside;
    sees_all = λ x at_x inside. (sees_turned_iff ring p x).1 (h.sees_all x at_x ((in_turned_iff x ring).0 inside));
  },
  λ h. record {
    inside = (in_turned_iff p ring).0 h.inside;
    sees_all = λ x at_x inside. (sees_turned_iff ring p x).0 (h.sees_all x at_x ((in_turned_iff x ring).1 inside));
  },
)

-- so the corners are the same
kernel_either : (turned : Bool) (ring : List Point) (corners : List Triple) → IsKernel ring corners
    → IsKernel (if turned then turned_round ring else ring) corners
kernel_either false ring corners list = list
kernel_either true ring corners list = record {
  are_corners = list.are_corners;
  exact = λ p at_p. (
    λ h. (kernel_turned ring p).0 ((list.exact p at_p).0 h),
    λ h. (list.exact p at_p).1 ((kernel_turned ring p).1 h),
  );
}

pub kernel_given : (ring : Oriented) (corners : List Triple) → IsKernel ring.corners corners → IsKernel (given_of ring) corners
kernel_given ring corners h = kernel_either ring.is_turned ring.corners corners h
