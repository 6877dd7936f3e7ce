-- A list that is sorted by comparing points does not fall.
use Rattle.std.proofs.Common.{◌≡◌, ◌↔◌, ℕ, ◌+◌, ◌<◌, List, Bool, true, false, length, get_or, refl, ap, sym, Bor, Less, Equal, Greater, arith}
use denote.Param.Members.{Mut}
use Rattle.std.proofs.lemmas.Fn.{always_returns_same}
use Rattle.std.specs.Cmp.{IsStrictWeakOrder}
use Rattle.std.specs.Fn.{Called, ComparesAs}
use Rattle.std.specs.List.Sorted.{IsSortedBy}
use Rattle.std.specs.Ordering.{is_lt}
use Rattle.std.specs.declared.cmp.Ordering.{Ordering}
use Rattle.plane.proofs.Order.{NotAfter, not_after_facts, not_after_from, not_after_trans, precedes_asym}
use Rattle.plane.specs.Order.{Precedes}
use Rattle.plane.specs.Point.{Triple}
use Rattle.exact_plane.proofs.Comparing.{compared, compared_tells}
use Rattle.inside_test.specs.declared.breakpoint.Breakpoint.{Breakpoint}

-- ---- tests

-- a comparison that does not say less
not_lt : (r : Ordering) → ¬ (r ≡ Less) → is_lt r ≡ false
not_lt Less h = absurd (h refl)
not_lt Equal h = refl
not_lt Greater h = refl

-- one that does
lt_is : (r : Ordering) → is_lt r ≡ true → r ≡ Less
lt_is Less h = refl
lt_is Equal h = cc
lt_is Greater h = cc

-- two that say less of the same
same_test : (r s : Ordering) (P : Type 0) → (r ≡ Less) ↔ P → (s ≡ Less) ↔ P → is_lt r ≡ is_lt s
same_test Less s P h k = ap is_lt (sym (k.1 (h.0 refl)))
same_test Equal s P h k = sym (not_lt s (λ e. cc (h.1 (k.0 e))))
same_test Greater s P h k = sym (not_lt s (λ e. cc (h.1 (k.0 e))))

-- ---- the order of the sort

-- whether a point comes before another
abbrev is_before : Breakpoint → Breakpoint → Bool
is_before p q = is_lt (compared p.point q.point)

-- it is where the test passes,
before_from : (p q : Triple) → is_lt (compared p q) ≡ true → Precedes p q
before_from p q h = (compared_tells p q).less.0 (lt_is _ h)

-- and not where it does not
not_before : (p q : Triple) → is_lt (compared p q) ≡ false → NotAfter q p
not_before p q h = not_after_from q p (λ k. let e = (compared_tells p q).less.1 k in cc (ap is_lt e))

-- and back
not_before_from : (p q : Triple) → ¬ (Precedes p q) → is_lt (compared p q) ≡ false
not_before_from p q n = not_lt _ (λ e. n ((compared_tells p q).less.0 e))

-- it is an order, with ties
is_before_order : IsStrictWeakOrder is_before
is_before_order = record {
  one_way = λ x y h. not_before_from y.point x.point (precedes_asym x.point y.point (before_from x.point y.point h));
  chain = λ x y z h k.
      let back =
      not_after_trans z.point y.point x.point z.sized.rational y.sized.rational x.sized.rational (not_before y.point z.point k)
      (not_before x.point y.point h) in
      not_before_from x.point z.point (not_after_facts z.point x.point back);
}

-- a list that is sorted by a closure that says less of what comes before does not fall
pub sorted_points : {F : Type 0} {g : Mut F (Bor Breakpoint × (Bor Breakpoint × Unit {0})) Ordering} {f : F} (xs : List Breakpoint)
    → ((lt : Breakpoint → Breakpoint → Bool) → IsStrictWeakOrder lt → ComparesAs g lt f → IsSortedBy lt xs)
    → ((a : Bor Breakpoint × (Bor Breakpoint × Unit {0})) (r : Ordering) (f' : F) → Called g f a r f'
    → ((r ≡ Less) ↔ Precedes a.0.now.point a.1.0.now.point) × (f' ≡ f))
    → (k : ℕ) (d : Breakpoint) → k + 1 < length xs → NotAfter (get_or xs k d).point (get_or xs (k + 1) d).point
sorted_points {g = g} {f = f} xs up h k d below =
    let compares : ComparesAs g is_before f =
    always_returns_same g (λ a r. is_lt r ≡ is_before a.0.now a.1.0.now) f (λ a r f' call.
    let tells = h a r f' call in
    (same_test r _ _ tells.0 (compared_tells a.0.now.point a.1.0.now.point).less, tells.1)) in
    not_before (get_or xs (k + 1) d).point (get_or xs k d).point (up is_before is_before_order compares k d (omega arith) below)
