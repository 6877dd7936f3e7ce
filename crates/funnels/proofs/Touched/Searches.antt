-- A search for the vertices that a chain along a walk touches: how it begins, how it goes on over a side, and what it has found at the end.
use Rattle.std.proofs.Common.{◌≡◌, inl, inr, refl, sym, subst, ap, ◌∙◌, ℕ, ◌+◌, ◌-◌, ◌<◌, ◌≤◌, List, [], ◌∷◌, ◌++◌, length, take, arith}
use Rattle.std.proofs.Math.Seq.{take-length}
use Rattle.std.proofs.lemmas.Bool.{cases_lt}
use Rattle.std.proofs.lemmas.List.{append-nil, append_assoc, take_more}
use Rattle.plane.proofs.Segments.{on_first_end, on_last_end}
use Rattle.plane.specs.Point.{Point, whole}
use Rattle.rings.proofs.Full.{full_more}
use Rattle.rings.specs.Prelude.{Has, IsBentChain, origin, point_at, vertex}
use Rattle.rings.specs.Full.{AreTouched, IsFull}
use Rattle.meshes.specs.Prelude.{Fits, HasSide, IsInTri, IsWalk}
use Rattle.meshes.specs.declared.tri.Tri.{Tri}
use Rattle.meshes.specs.Laws.{CrossesSide, walk_tri}
use Rattle.funnels.proofs.Touched.FoundOnce.{only_point}
use Rattle.funnels.proofs.Touched.Entered.{number_below}
use Rattle.funnels.proofs.Touched.LookedAt.{IsEntered, looked_at, none_between}
use Rattle.funnels.specs.Touched.{HasCome, IsAhead, IsLookedAt, IsVertexAhead}

-- ---- the beginning

module _ (corners : List Point) (from to start : ℕ → ℕ) (chain : List Point) (bent : IsBentChain corners chain) (first : start 0 ≡ 0) where
  -- the first point is found
  pub search_begins : HasCome corners from to start chain 0 0 0 (point_at chain 0) (point_at chain 0 ∷ [])
  search_begins = record {
    within = bent.chain.some;
    before = point_at chain 0 ∷ [];
    since = [];
    full = subst (λ ps. IsFull corners ps (point_at chain 0 ∷ [])) (sym (take_more chain 0 origin bent.chain.some)) refl;
    parts = refl;
    ordered = tt;
    passed = λ u. ((λ has. absurd has), (λ p. absurd (p.between.not_first (only_point (point_at chain 0) u p.on))));
    goes_on = λ more. record {
      on = on_first_end _ _;
      not_next = bent.chain.distinct 0 more;
      soon = omega (arith, first);
      none = λ m x h less. absurd (omega arith);
    };
    at_end = λ late. refl;
  }

module _ (corners : List Point) (tris : List Tri) (fits : Fits corners tris) (walk : List ℕ) (w : IsWalk tris walk) (from to start : ℕ → ℕ)
    (crosses : (m : ℕ) → m + 1 < length walk → CrossesSide tris walk m (from m) (to m))
    (sides : (m : ℕ) → m + 1 < length walk → HasSide (walk_tri tris walk m) (from m) (to m)) (chain : List Point) (bent : IsBentChain corners chain)
    (entered : IsEntered corners tris walk from to start chain) where
  -- ---- over a side

  module _ (i k : ℕ) (last : Point) (found : List Point) (next : i + 1 < length walk)
      (now : HasCome corners from to start chain i i k last found) (k' : ℕ) (last' : Point) (found' : List Point)
      (second : IsLookedAt chain (vertex corners (to i)) k last found k' last' found') (k'' : ℕ) (last'' : Point) (found'' : List Point)
      (first : IsLookedAt chain (vertex corners (from i)) k' last' found' k'' last'' found'') where
    -- a look at both ends of it, and the search has come to the next side
    pub search_goes_on : HasCome corners from to start chain (i + 1) (i + 1) k'' last'' found''
    search_goes_on =
        let c = crosses i next in
        let here : i < length walk = omega arith in
        let one = looked_at corners tris fits walk w from to start crosses chain bent entered i i (to i) next (omega arith)
        (number_below corners tris fits walk w from to crosses sides i (to i) (from i) here (inr (sides i next))) (inr refl) k last found now k' last' found' second in
        let two = looked_at corners tris fits walk w from to start crosses chain bent entered i (i + 1) (from i) next (omega arith)
        (number_below corners tris fits walk w from to crosses sides i (from i) (to i) here (inl (sides i next))) (inl refl) k' last' found' one.come
        k'' last'' found'' first in
        let come = two.come in
        record {
          within = come.within;
          before = come.before;
          since = come.since;
          full = come.full;
          parts = come.parts;
          ordered = come.ordered;
          passed = come.passed;
          goes_on = λ more. let opened = come.goes_on more in record {
            on = opened.on;
            not_next = opened.not_next;
            soon = opened.soon;
            none = λ m x h less end up. elim (cases_lt m i) [
              | inl before ↦ opened.none m x h before end up
              | inr late ↦
                  let here : m ≡ i = omega arith in
                  let soon : start k'' ≤ i = omega (arith, h, here) in
                  elim end [
                    | inl e ↦ two.clear more soon (subst (λ n. IsAhead chain k'' last'' (vertex corners n)) (e ∙ ap from here) up)
                    | inr e ↦ two.keeps (to i) one.clear more soon (subst (λ n. IsAhead chain k'' last'' (vertex corners n)) (e ∙ ap to here) up)
                  ]
            ];
          };
          at_end = come.at_end;
        }

  -- ---- the end

  module _ (i k : ℕ) (last : Point) (found : List Point) (final : i + 1 ≡ length walk)
      (in_last : IsInTri corners (walk_tri tris walk i) (whole (point_at chain (length chain - 1))))
      (now : HasCome corners from to start chain i i k last found) where
    abbrev goal : Point
    goal = point_at chain (length chain - 1)

    -- beyond the last side the search has come to the last step of the chain, or to its end
    late_enough : length chain ≤ k + 1 + 1
    late_enough = elim (cases_lt (k + 1 + 1) (length chain)) [
      | inr late ↦ late
      | inl soon ↦
          let n = entered.next k soon in
          let opened = now.goes_on (omega (arith, soon)) in
          absurd (opened.none n.place n.x n.after (omega (arith, n.within, final)) n.end (record {
            more = omega (arith, soon);
            on = rw n.at (on_last_end _ _);
            differ = λ e. opened.not_next (sym e ∙ n.at);
          }))
    ]

    -- at the end nothing more is passed
    nothing_passed : length chain ≤ k + 1 → (us : List Point) → ((u : Point) → Has us u → IsVertexAhead corners chain k last u) → us ≡ []
    nothing_passed late [] all = refl
    nothing_passed late (u ∷ us) all = absurd (omega (arith, late, (all u (inl refl)).more))

    -- where it is at the end, all is found
    pub found_all : last ≡ goal → IsFull corners chain found
    found_all e = elim (cases_lt (k + 1) (length chain)) [
      | inl more ↦ absurd ((now.goes_on more).not_next (e ∙ ap (point_at chain) (omega (arith, late_enough, more))))
      | inr late ↦
          let same : k + 1 ≡ length chain = omega (arith, late, now.within) in
          let all : take (k + 1) chain ≡ chain = ap (λ n. take n chain) same ∙ take-length chain in
          let none : now.since ≡ [] = nothing_passed late now.since (λ u has. (now.passed u).0 has) in
          subst (λ ps. IsFull corners ps found) all
          (subst (IsFull corners (take (k + 1) chain)) (sym (append-nil now.before) ∙ ap (λ ps. now.before ++ ps) (sym none) ∙ sym now.parts) now.full)
    ]

    -- and else all but the end is
    pub found_rest : ¬ (last ≡ goal) → IsFull corners chain (found ++ goal ∷ [])
    found_rest differ = elim (cases_lt (k + 1) (length chain)) [
      | inr late ↦ absurd (differ (now.at_end late ∙ ap (point_at chain) (omega (arith, late, now.within))))
      | inl more ↦
          let opened = now.goes_on more in
          let a = point_at chain k in
          let b = point_at chain (k + 1) in
          let goal_is : goal ≡ b = ap (point_at chain) (omega (arith, late_enough, more)) in
          let there = subst (λ q. IsInTri corners (walk_tri tris walk i) (whole q)) goal_is in_last in
          let touched : AreTouched corners a b now.since = record {
            vertices = λ u. (
              (λ has. ((now.passed u).0 has).between),
              (λ between. (now.passed u).1 (record {
                more = more;
                between = between;
                on = none_between corners tris fits walk w from to start crosses chain bent entered k more last b i opened.soon (omega (arith, final)) opened.none
                    there opened.on (on_last_end (whole a) (whole b)) u between between.on between.not_last;
              })),
            );
            ordered = now.ordered;
          } in
          let here : take (k + 1) chain ≡ take k chain ++ a ∷ [] = take_more chain k origin now.within in
          let then : take (k + 1 + 1) chain ≡ take k chain ++ a ∷ b ∷ [] =
          take_more chain (k + 1) origin more ∙ ap (λ ps. ps ++ b ∷ []) here ∙ append_assoc (take k chain) (a ∷ []) (b ∷ []) in
          let same : k + 1 + 1 ≡ length chain = omega (arith, late_enough, more) in
          let all : take k chain ++ a ∷ b ∷ [] ≡ chain = sym then ∙ ap (λ n. take n chain) same ∙ take-length chain in
          let longer = full_more corners (take k chain) a b now.before now.since (subst (λ ps. IsFull corners ps now.before) here now.full) touched in
          let parts : now.before ++ (now.since ++ b ∷ []) ≡ found ++ goal ∷ [] =
          sym (append_assoc now.before now.since (b ∷ [])) ∙ ap (λ ps. ps ++ b ∷ []) (sym now.parts) ∙ ap (λ q. found ++ q ∷ []) (sym goal_is) in
          subst (λ ps. IsFull corners ps (found ++ goal ∷ [])) all (subst (IsFull corners (take k chain ++ a ∷ b ∷ [])) parts longer)
    ]
