-- A ring read the other way round from its first vertex: apart as before, with the opposite winding numbers.
use Rattle.std.proofs.Common.{◌≡◌, refl, ap, ◌∙◌, neg_ℤ, List, [], ◌∷◌, ◌++◌, reverse, arith}
use Rattle.std.proofs.lemmas.Int.{ints}
use Rattle.std.proofs.lemmas.List.{reverse-append}
use Rattle.plane.specs.Point.{Point, Triple}
use Rattle.rings.proofs.Crossings.{winding-append, winding-backward}
use Rattle.rings.proofs.Simple.{apart_of_simple, simple_of_apart}
use Rattle.rings.proofs.Turned.{edges_of-turned_round, simple_turned}
use Rattle.rings.proofs.Vertices.{backward, reverse-cons}
use Rattle.rings.specs.Apart.{IsApartRing}
use Rattle.rings.specs.Prelude.{Edge, edges_of, turned_round, winding}

-- a ring is apart also the other way round
pub apart_turned : (ring : List Point) → IsApartRing ring → IsApartRing (turned_round ring)
apart_turned ring apart = apart_of_simple (turned_round ring) (simple_turned ring (simple_of_apart ring apart))

module _ (x : Triple) where
  -- winding numbers do not depend on the order of the edges
  winding-reverse : (es : List Edge) → winding (reverse es) x ≡ winding es x
  winding-reverse [] = refl
  winding-reverse (e ∷ es) =
      ap (λ fs. winding fs x) (reverse-cons e es) ∙ omega (arith, ints, winding-append x (reverse es) (e ∷ []), winding-reverse es)

  -- so a ring has the opposite winding numbers the other way round
  pub winding_turned : (ring : List Point) → winding (edges_of (turned_round ring)) x ≡ neg_ℤ (winding (edges_of ring) x)
  winding_turned ring =
      ap (λ es. winding es x) (edges_of-turned_round ring)
      ∙ winding-reverse (backward (edges_of ring))
      ∙ winding-backward x (edges_of ring)

-- the vertices beside the first one change places
pub turned_corner : (v w : Point) (ms : List Point) (u : Point) → turned_round (v ∷ w ∷ (ms ++ u ∷ [])) ≡ v ∷ u ∷ (reverse ms ++ w ∷ [])
turned_corner v w ms u =
    ap (λ ps. v ∷ ps) (reverse-cons w (ms ++ u ∷ []) ∙ ap (λ ps. ps ++ w ∷ []) (reverse-append ms (u ∷ [])))
