-- Points in order with one more, and a chain with what it touches that goes on by one point.
use Rattle.std.proofs.Common.{inl, inr, refl, ap, ◌∙◌, List, [], ◌∷◌, ◌++◌}
use Rattle.std.proofs.lemmas.List.{append_assoc}
use Rattle.plane.specs.Point.{Point}
use Rattle.rings.specs.Edge.{Has}
use Rattle.rings.specs.Full.{AreFarther, AreInOrder, AreTouched, IsFull, IsNearer}

-- a point that is farther than p comes after those that are
farther_more : (a p v : Point) (qs : List Point) → AreFarther a p qs → IsNearer a p v → AreFarther a p (qs ++ v ∷ [])
farther_more a p v [] all near = (near, tt)
farther_more a p v (q ∷ qs) all near = (all.0, farther_more a p v qs all.1 near)

-- one that is farther than all comes last
pub in_order_more : (a v : Point) (ps : List Point) → AreInOrder a ps → ((u : Point) → Has ps u → IsNearer a u v) → AreInOrder a (ps ++ v ∷ [])
in_order_more a v [] in_order near = (tt, tt)
in_order_more a v (p ∷ ps) in_order near =
    (farther_more a p v ps in_order.0 (near p (inl refl)), in_order_more a v ps in_order.1 (λ u has. near u (inr has)))

-- a chain goes on to a point, with what the way there touches
pub full_more : (ring xs : List Point) (a b : Point) (full between : List Point) → IsFull ring (xs ++ a ∷ []) full → AreTouched ring a b between
    → IsFull ring (xs ++ a ∷ b ∷ []) (full ++ (between ++ b ∷ []))
full_more ring [] a b full between is touched =
    (between, b ∷ [], ap (λ ps. ps ++ (between ++ b ∷ [])) is, touched, refl)
full_more ring (x ∷ []) a b full between (inner, after, parts, first, onward) touched = (
  inner,
  after ++ (between ++ b ∷ []),
  ap (λ ps. ps ++ (between ++ b ∷ [])) parts ∙ ap (λ ps. x ∷ ps) (append_assoc inner after (between ++ b ∷ [])),
  first,
  full_more ring [] a b after between onward touched,
)
full_more ring (x ∷ y ∷ xs) a b full between (inner, after, parts, first, onward) touched = (
  inner,
  after ++ (between ++ b ∷ []),
  ap (λ ps. ps ++ (between ++ b ∷ [])) parts ∙ ap (λ ps. x ∷ ps) (append_assoc inner after (between ++ b ∷ [])),
  first,
  full_more ring (y ∷ xs) a b after between onward touched,
)
