-- Steps of a path past no vertex, as they are seen from a point by its paths to both ends. This project's own.
use Rattle.std.specs.Prelude.{◌≢◌, List}
use Rattle.plane.specs.Prelude.{IsLeft, IsRight, On, Point, whole}
use Rattle.rings.specs.From.{IsPredecessor}
use Rattle.rings.specs.Full.{IsVertexBetween}
use Rattle.rings.specs.Prelude.{IsIn, Sees}
use Rattle.hulls.specs.Joined.{IsOnPath}

-- two points that see each other, with no vertex strictly between them
pub record IsOpenStep (ring : List Point) (x y : Point) : Type 0 where
  pub x_in : IsIn ring (whole x)
  pub y_in : IsIn ring (whole y)
  pub differ : x ≢ y
  pub sees : Sees ring (whole x) (whole y)
  pub clear : (v : Point) → ¬ IsVertexBetween ring x y v

-- seen from b the step goes away, or towards b, or the paths from b come to both ends from one side of it
pub data IsSeenFrom (ring : List Point) (b x y : Point) : Type 0 where
  away : IsOnPath ring b y x → IsSeenFrom ring b x y
  towards : IsOnPath ring b x y → IsSeenFrom ring b x y
  from_left : (p q : Point) → IsPredecessor ring b x p → IsPredecessor ring b y q → IsLeft (whole x) (whole y) (whole p) → IsLeft (whole x) (whole y) (whole q)
      → IsSeenFrom ring b x y
  from_right : (p q : Point) → IsPredecessor ring b x p → IsPredecessor ring b y q → IsRight (whole x) (whole y) (whole p) → IsRight (whole x) (whole y) (whole q)
      → IsSeenFrom ring b x y

-- each step past no vertex that b is not on is seen from b in one of these ways
abbrev pub SeesSteps : List Point → Point → Type 0
SeesSteps ring b = (x y : Point) → IsOpenStep ring x y → ¬ On (whole b) (whole x) (whole y) → IsSeenFrom ring b x y
