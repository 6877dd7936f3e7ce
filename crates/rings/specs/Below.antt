-- One edge below another, as a sweep in lexicographic order compares them. This project's own, after Shamos and Hoey 1976.
use Rattle.std.specs.Prelude.{◌≡◌, ◌⊎◌}
use Rattle.plane.specs.Prelude.{IsLeft, IsRight, Point, whole}
use Rattle.rings.specs.Edge.{Edge}

-- of the point p of edge e and the point q of edge f, one shows that e is strictly below f
abbrev pub IsBelowAt : (e f : Edge) (p q : Point) → Type 0
IsBelowAt e f p q = IsLeft (whole e.from) (whole e.to) (whole q) ⊎ IsRight (whole f.from) (whole f.to) (whole p)

-- their first ends show it
abbrev pub StartsBelow : Edge → Edge → Type 0
StartsBelow e f = IsBelowAt e f e.from f.from

-- their last ends do
abbrev pub EndsBelow : Edge → Edge → Type 0
EndsBelow e f = IsBelowAt e f e.to f.to

-- edge e is below edge f: both pairs of ends show it, or one does and the other is a common end
pub record IsBelow (e f : Edge) : Type 0 where
  pub start : StartsBelow e f ⊎ (e.from ≡ f.from)
  pub finish : EndsBelow e f ⊎ (e.to ≡ f.to)
  pub differ : e.from ≡ f.from → e.to ≡ f.to → ⊥
