-- What a path touches in a ring is what it touches in the list that the ring was made of.
use Rattle.std.proofs.Common.{◌↔◌, Bool, true, false, if◌then◌else◌, sym, subst, List, [], ◌∷◌}
use Rattle.plane.specs.Point.{Point}
use Rattle.rings.proofs.Turned.{between_turned, turned_round-turned_round}
use Rattle.rings.specs.Full.{AreTouched, IsFull, IsVertexBetween}
use Rattle.rings.specs.Orientation.{turned_round}
use Rattle.geo_text.specs.declared.version.Version.{Version}
use Rattle.geo_text.specs.declared.version.Version.TheVariants as version
use Rattle.ring_check.specs.Oriented.{Oriented, given_of}
use Rattle.geo_session.proofs.GivenPath.{path_either}
use Rattle.geo_session.specs.Shown.{IsShown, IsShownPath}

-- ---- a ring read the other way round

-- and the other way,
between_turned_iff : (ring : List Point) (a b v : Point) → IsVertexBetween (turned_round ring) a b v ↔ IsVertexBetween ring a b v
between_turned_iff ring a b v = (
  between_turned ring a b v,
  λ between. between_turned (turned_round ring) a b v
      (subst (λ (vs : List Point). IsVertexBetween vs a b v) (sym (turned_round-turned_round ring)) between),
)

-- so a chain touches the same in both
full_turned : (ring chain full : List Point) → IsFull ring chain full → IsFull (turned_round ring) chain full
full_turned ring [] full is = is
full_turned ring (a ∷ []) full is = is
full_turned ring (a ∷ b ∷ rest) full is =
    let (between, after, parts, touched, more) = is in
    let turned : AreTouched (turned_round ring) a b between = record {
      vertices = λ v. let same = between_turned_iff ring a b v in
          ((λ has. same.1 ((touched.vertices v).0 has)), (λ is. (touched.vertices v).1 (same.0 is)));
      ordered = touched.ordered;
    } in
    (between, after, parts, turned, full_turned ring (b ∷ rest) after more)

-- ---- the given list

-- the same points are the chain with all vertices that it touches,
full_either : (turned : Bool) (ring chain full : List Point) → IsFull ring chain full
    → IsFull (if turned then turned_round ring else ring) chain full
full_either true ring chain full is = full_turned ring chain full is
full_either false ring chain full is = is

-- and are told of a path, in each version
told_either : (version : Version) (turned : Bool) (ring chain shown : List Point) → IsShown version ring chain shown
    → IsShown version (if turned then turned_round ring else ring) chain shown
told_either version.Two turned ring chain shown is = full_either turned ring chain shown is
told_either version.One turned ring chain shown is = is

shown_either : (version : Version) (turned : Bool) (ring : List Point) (s t : Point) (shown : List Point) → IsShownPath version ring s t shown
    → IsShownPath version (if turned then turned_round ring else ring) s t shown
shown_either version turned ring s t shown is = record {
  chain = is.chain;
  is_path = path_either turned ring s t is.chain is.is_path;
  is_shown = told_either version turned ring is.chain shown is.is_shown;
}

pub shown_given : (ring : Oriented) (version : Version) (s t : Point) (shown : List Point) → IsShownPath version ring.corners s t shown
    → IsShownPath version (given_of ring) s t shown
shown_given ring version s t shown is = shown_either version ring.is_turned ring.corners s t shown is
