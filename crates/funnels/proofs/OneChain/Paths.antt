-- In a simple ring a taut chain is the path between its ends, and a chain with bends is taut.
use Rattle.std.proofs.Common.{◌≡◌, ◌↔◌, refl, subst, sym, ◌∙◌, ◌-◌, ◌≤◌, List, length, ap}
use Rattle.plane.specs.Point.{Point}
use Rattle.rings.specs.Prelude.{IsBentChain, IsPath, IsSimple, IsTaut, point_at}
use Rattle.rings.specs.From.{IsPredecessor}
use Rattle.ring_laws.proofs.Simple.{bent_kept, kept_ring}
use Rattle.meshes.proofs.Triangulations.{triangulation}
use Rattle.meshes.specs.Prelude.{Fits}
use Rattle.meshes.specs.declared.tri.Tri.{Tri}
use Rattle.funnels.proofs.DeadEnds.{closed_chain}
use Rattle.funnels.proofs.OneChain.ComeTogether.{come_on_one_ray}
use Rattle.funnels.proofs.OneChain.SameChains.{AreNotClosed, same_chains}
use Rattle.funnels.specs.OneChain.{OneTautChainLaw, NoClosedChainLaw, OneBentChainLaw}

-- ---- in a simple ring there is one chain with bends between two points, and none that ends where it begins

-- ---- rings that triangles fit

module _ (corners : List Point) (tris : List Tri) (fits : Fits corners tris) where
  -- no chain ends where it begins
  pub fitted_not_closed : AreNotClosed corners
  fitted_not_closed chain bent closed = closed_chain corners tris fits chain bent closed

  -- and chains between the same points are equal
  pub fitted_one_chain : (one other : List Point) → IsBentChain corners one → IsBentChain corners other → point_at one 0 ≡ point_at other 0
      → point_at one (length one - 1) ≡ point_at other (length other - 1) → one ≡ other
  fitted_one_chain = same_chains corners (come_on_one_ray corners tris fits) fitted_not_closed

-- ---- simple rings

pub one_bent_chain : OneBentChainLaw
one_bent_chain ring some simple one other bent bent_too firsts lasts =
    let (kept, is) = kept_ring ring some simple in
    let (tris, fits) = triangulation kept is.some is.simple is.counterclockwise in
    fitted_one_chain kept tris fits one other (bent_kept ring kept is one bent) (bent_kept ring kept is other bent_too) firsts lasts

pub no_closed_chain : NoClosedChainLaw
no_closed_chain ring some simple chain bent closed =
    let (kept, is) = kept_ring ring some simple in
    let (tris, fits) = triangulation kept is.some is.simple is.counterclockwise in
    fitted_not_closed kept tris fits chain (bent_kept ring kept is chain bent) closed

-- ---- in a simple ring a taut chain is the path between its ends, and a chain with bends is taut

-- a taut chain is the path,
pub one_taut_chain : OneTautChainLaw
one_taut_chain ring some simple s t chain taut other = (
  λ h. one_bent_chain ring some simple other chain h.bent taut.bent (h.first ∙ sym taut.first) (h.last ∙ sym taut.last),
  λ e. subst (IsTaut ring s t) (sym e) taut,
)

-- and a chain with bends is taut between its ends, and nothing else is
pub taut_iff_bent : (ring : List Point) → 3 ≤ length ring → IsSimple ring → (chain : List Point)
    → IsTaut ring (point_at chain 0) (point_at chain (length chain - 1)) chain ↔ IsBentChain ring chain
taut_iff_bent ring some simple chain = (
  λ h. h.bent,
  λ bent. record { bent = bent; first = refl; last = refl; single = no_closed_chain ring some simple chain bent },
)

-- so it is the path between them
pub bent_is_path : (ring : List Point) → 3 ≤ length ring → IsSimple ring → (chain : List Point) → IsBentChain ring chain → (s t : Point)
    → point_at chain 0 ≡ s → point_at chain (length chain - 1) ≡ t → IsPath ring s t chain
bent_is_path ring some simple chain bent s t first last =
    one_taut_chain ring some simple s t chain (record {
      bent = bent;
      first = first;
      last = last;
      single = λ same. no_closed_chain ring some simple chain bent (first ∙ same ∙ sym last);
    })

-- only one point comes before another
pub one_before : (ring : List Point) (s t x y : Point) → IsPredecessor ring s t x → IsPredecessor ring s t y → x ≡ y
one_before ring s t x y one other =
    let same : one.path ≡ other.path = sym ((one.is_path other.path).0 ((other.is_path other.path).1 refl)) in
    sym one.is ∙ ap (λ ps. point_at ps (length ps - 2)) same ∙ other.is
