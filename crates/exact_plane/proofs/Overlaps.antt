-- Boxes of segments that share a point.
use Rattle.std.proofs.Common.{arith}
use Rattle.std.proofs.lemmas.Int.{clamps, ints}
use Rattle.plane.proofs.Meetings.{segments_apart}
use Rattle.plane.specs.Point.{Point, whole}
use Rattle.plane.specs.Segment.{Meet}
use Rattle.exact_plane.specs.Boxes.{Encloses, Overlap}
use Rattle.exact_plane.specs.declared.bounding_box.BoundingBox.{BoundingBox}

-- they overlap
pub overlap_of_meeting : (b c : BoundingBox) (p q r s : Point) → Encloses b p → Encloses b q → Encloses c r → Encloses c s
    → Meet (whole p) (whole q) (whole r) (whole s) → Overlap b c
overlap_of_meeting b c p q r s hp hq hr hs meet =
    let h = (segments_apart p q r s meet).0 in
    record {
      in_x = record {
        first_reaches = omega (arith, ints, clamps, h.in_x.first_reaches, hp.west, hq.west, hr.east, hs.east);
        second_reaches = omega (arith, ints, clamps, h.in_x.second_reaches, hp.east, hq.east, hr.west, hs.west);
      };
      in_y = record {
        first_reaches = omega (arith, ints, clamps, h.in_y.first_reaches, hp.south, hq.south, hr.north, hs.north);
        second_reaches = omega (arith, ints, clamps, h.in_y.second_reaches, hp.north, hq.north, hr.south, hs.south);
      };
    }
