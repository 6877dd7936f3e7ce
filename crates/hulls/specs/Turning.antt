-- How paths from one point turn against each other, by the sides of points alone. This project's own, after Toussaint 1986.
use Rattle.std.specs.Prelude.{◌≡◌, ◌≢◌, ◌⊎◌, List, ◌∷◌, ◌++◌}
use Rattle.plane.specs.Prelude.{IsLeft, IsRight, IsStraight, On, Point, Triple, whole}
use Rattle.rings.specs.Chain.{IsPath}
use Rattle.hulls.specs.Joined.{IsFirstStep, IsOnPath}

-- of two ways on from v the second, over q, is on a side of the first, over p; on one ray that of the two tells whose next point is nearer
pub data TurnsTo (Side Other : Triple → Triple → Triple → Type 0) (v p : Point) (first : List Point) (q : Point) (second : List Point) : Type 0 where
  apart : Side (whole v) (whole p) (whole q) → TurnsTo Side Other v p first q second
  first_nearer : (r : Point) (rest : List Point) → On (whole p) (whole v) (whole q) → first ≡ r ∷ rest → Other (whole v) (whole p) (whole r)
      → TurnsTo Side Other v p first q second
  second_nearer : (r : Point) (rest : List Point) → On (whole q) (whole v) (whole p) → second ≡ r ∷ rest → Side (whole v) (whole q) (whole r)
      → TurnsTo Side Other v p first q second

-- the paths from a to b and from a to c part at v, where the one goes on over p and the other over q, to a side
pub record IsTo (Side Other : Triple → Triple → Triple → Type 0) (ring : List Point) (a b c : Point) : Type 0 where
  pub front : List Point
  pub v : Point
  pub p : Point
  pub q : Point
  pub first : List Point
  pub second : List Point
  pub is_first : IsPath ring a b (front ++ v ∷ p ∷ first)
  pub is_second : IsPath ring a c (front ++ v ∷ q ∷ second)
  pub differ : p ≢ q
  pub turns : TurnsTo Side Other v p first q second

-- seen from a, c is to the left of b, or to the right
abbrev pub IsToLeft : List Point → Point → Point → Point → Type 0
IsToLeft ring a b c = IsTo IsLeft IsRight ring a b c

abbrev pub IsToRight : List Point → Point → Point → Point → Type 0
IsToRight ring a b c = IsTo IsRight IsLeft ring a b c

-- of three different points none is on the path between the two others
pub record AreFree (ring : List Point) (a b c : Point) : Type 0 where
  pub a_b : a ≢ b
  pub b_c : b ≢ c
  pub a_c : a ≢ c
  pub not_a : ¬ IsOnPath ring b c a
  pub not_b : ¬ IsOnPath ring a c b
  pub not_c : ¬ IsOnPath ring a b c

-- the path from t to u goes first along the ray from t through e, or to the right of it
pub record StartsRight (ring : List Point) (t e u : Point) : Type 0 where
  pub p : Point
  pub step : IsFirstStep ring t u p
  pub side : IsRight (whole t) (whole e) (whole p) ⊎ (IsStraight (whole t) (whole e) (whole p) × ¬ On (whole t) (whole e) (whole p))
