-- What is told of a path is one list.
use Rattle.std.proofs.Common.{◌≡◌, List, refl, sym, subst, ◌∙◌}
use Rattle.plane.specs.Point.{Point}
use Rattle.geo_text.specs.declared.version.Version.{Version}
use Rattle.geo_text.specs.declared.version.Version.TheVariants as version
use Rattle.rings.proofs.Full.{one_full}
use Rattle.geo_session.specs.Shown.{IsShown, IsShownPath}

-- of one chain
one_shown_of : (version : Version) (ring chain shown other : List Point) → IsShown version ring chain shown → IsShown version ring chain other → shown ≡ other
one_shown_of version.One ring chain shown other h g = h ∙ sym g
one_shown_of version.Two ring chain shown other h g = one_full ring chain shown other h g

-- and the path is one chain, since it is the one that is taut
pub one_shown : (version : Version) (ring : List Point) (s t : Point) (shown other : List Point) → IsShownPath version ring s t shown → IsShownPath version ring s t other
    → shown ≡ other
one_shown version ring s t shown other h g =
    let same : h.chain ≡ g.chain = (g.is_path h.chain).0 ((h.is_path h.chain).1 refl) in
    one_shown_of version ring g.chain shown other (subst (λ chain. IsShown version ring chain shown) same h.is_shown) g.is_shown
