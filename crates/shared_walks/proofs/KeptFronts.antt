-- Fronts that are kept: one more, and one less.
use Rattle.std.proofs.Common.{◌≡◌, Some, List, [], ◌∷◌, ◌++◌, subst, sym}
use Rattle.std.proofs.lemmas.List.Elements.{All-pop, All-push}
use Rattle.std.specs.List.{All}
use Rattle.plane.specs.Point.{Point}
use Rattle.shared_walks.specs.Fronts.{IsFront}
use Rattle.shared_walks.specs.declared.front.Front.{Front}

module _ (corners : List Point) (start : Point) (fronts others : List Front) (front : Front) where
  -- without the last they are fronts, and it is one
  pub fronts_popped : fronts ≡ others ++ front ∷ [] → All (IsFront corners start) fronts
      → All (IsFront corners start) others × IsFront corners start front
  fronts_popped is all = All-pop (IsFront corners start) fronts others (Some front) is all

  -- with one more they are
  pub fronts_pushed : others ≡ fronts ++ front ∷ [] → All (IsFront corners start) fronts → IsFront corners start front
      → All (IsFront corners start) others
  fronts_pushed is all one = subst (All (IsFront corners start)) (sym is) (All-push (IsFront corners start) fronts front all one)
