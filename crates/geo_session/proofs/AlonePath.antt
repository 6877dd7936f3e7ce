-- The path from a point to itself is that point alone.
use Rattle.std.proofs.Common.{◌≡◌, refl, sym, List, [], ◌∷◌, arith}
use Rattle.std.proofs.lemmas.List.{ext_get_or}
use Rattle.plane.specs.Point.{Point, whole}
use Rattle.rings.specs.Chain.{IsPath, IsTaut}
use Rattle.rings.specs.Inside.{IsIn}
use Rattle.rings.specs.Ring.{origin}

module _ (ring : List Point) (s t : Point) (same : t ≡ s) (in_ring : IsIn ring (whole t)) where
  within : IsIn ring (whole s)
  within = rw same at in_ring

  stays : IsTaut ring s s (s ∷ [])
  stays = record {
    bent = record {
      chain = record {
        some = omega arith;
        inside = λ k below. let first : k ≡ 0 = omega (arith, below) in rw first within;
        distinct = λ k below. absurd (omega (arith, below));
        sees = λ k below. absurd (omega (arith, below));
      };
      bends = λ k inner. absurd (omega (arith, inner.not_first, inner.not_last));
    };
    first = refl;
    last = refl;
    single = λ _. refl;
  }

  pub alone_path : IsPath ring s t (s ∷ [])
  alone_path chain = (
    λ h. ext_get_or origin chain (s ∷ []) (h.single (sym same))
        (λ k below. let first : k ≡ 0 = omega (arith, below, h.single (sym same)) in rw first h.first),
    λ e. rw (e, same) stays,
  )
