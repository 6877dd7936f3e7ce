-- Where a point is. This project's own.
use Rattle.std.specs.Prelude.{List}
use Rattle.plane.specs.Point.{Point, whole}
use Rattle.rings.specs.Edge.{IsOnSome, edges_of}
use Rattle.rings.specs.Inside.{IsIn}
use Rattle.inside_test.specs.declared.position.Position.{Position}
use Rattle.inside_test.specs.declared.position.Position.TheVariants as position

-- where a point is in a polygon
abbrev pub IsPlace : List Point → Point → Position → Type 0
IsPlace ring p position.Inside = IsIn ring (whole p) × ¬ (IsOnSome (edges_of ring) (whole p))
IsPlace ring p position.Edge = IsOnSome (edges_of ring) (whole p)
IsPlace ring p position.Outside = ¬ (IsIn ring (whole p))
