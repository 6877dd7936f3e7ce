-- Paths from one point that are joined over it are a path together; and where the path from a point on a chain goes first.
-- A point is on the path from a to b exactly if the paths from it to a and to b are joined over it.
-- A path read backward is the path back; and a point on a path is on one step of it, that with the number of the last step of the path to
-- the point.
use Rattle.std.proofs.Common.{◌≡◌, ◌≢◌, inl, inr, refl, sym, subst, ap, ◌∙◌, ℕ, ◌+◌, ◌-◌, ◌<◌, ◌≤◌, List, [], ◌∷◌, length, drop, arith, ◌↔◌}
use Rattle.std.proofs.Common.{reverse}
use Rattle.std.proofs.lemmas.Bool.{cases_lt}
use Rattle.std.proofs.lemmas.List.{length-drop, length-reverse}
use Rattle.plane.proofs.Order.{point_or_other}
use Rattle.plane.proofs.Points.{whole_is_point}
use Rattle.plane.proofs.Segments.{on_first_end, on_reversed, on_last_end}
use Rattle.plane.specs.Prelude.{On, Point, whole}
use Rattle.rings.specs.Prelude.{IsBend, IsBentChain, IsPath, IsSimple, IsTaut, point_at}
use Rattle.funnels.proofs.Chains.{one_bent}
use Rattle.funnels.proofs.OneChain.{bend_back, last_of, one_bent_chain}
use Rattle.hulls.proofs.Joined.ChainsOver.{GoesOnTo, back_at, back_bent, goes_on_beyond, goes_on_step, on_path_over, over_bent, over_ends}
use Rattle.hulls.proofs.Joined.ChainsOver.{rest_at, rest_bent, sees_back}
use Rattle.hulls.specs.Joined.{AreJoined, IsFirstStep, IsOnPath}

-- ---- paths

-- a path is taut
pub path_is_taut : (ring : List Point) (s t : Point) (path : List Point) → IsPath ring s t path → IsTaut ring s t path
path_is_taut ring s t path is = (is path).1 refl

-- the path from v goes first to another point only where it leads to another point
step_differs : (ring : List Point) (v a p : Point) → IsFirstStep ring v a p → v ≢ a
step_differs ring v a p step same = omega (arith, step.more, (path_is_taut ring v a step.path step.is_path).single same)

module _ (ring one other : List Point) (some : 3 ≤ length ring) (simple : IsSimple ring) (bent : IsBentChain ring one)
    (bent_too : IsBentChain ring other) (long : 1 < length one) (long_too : 1 < length other) (begins : point_at other 0 ≡ point_at one 0) where
  abbrev v : Point
  v = point_at one 0

  abbrev p : Point
  p = point_at one 1

  abbrev q : Point
  q = point_at other 1

  -- ---- chains from one point that are joined over it

  -- what is left of a chain without its first point begins with the second,
  rest_first : (chain : List Point) → point_at (drop 1 chain) 0 ≡ point_at chain 1
  rest_first chain = rest_at chain 1 0 1 (omega arith)

  -- and ends where the chain does
  rest_ends : (chain : List Point) → 1 < length chain → last_of (drop 1 chain) ≡ last_of chain
  rest_ends chain h =
      let count = length-drop 1 chain in
      rest_at chain 1 (length (drop 1 chain) - 1) (length chain - 1) (omega arith)

  -- its first point goes on to that
  goes_on : (chain : List Point) → IsBentChain ring chain → 1 < length chain → GoesOnTo ring (point_at chain 0) (drop 1 chain)
  goes_on chain b h =
      goes_on_step ring chain b (point_at chain 0) 0 h (on_first_end (whole (point_at chain 0)) (whole (point_at chain 1))) (b.chain.distinct 0 h)

  -- so that of both does
  on_other : GoesOnTo ring v (drop 1 other)
  on_other = subst (λ x. GoesOnTo ring x (drop 1 other)) begins (goes_on other bent_too long_too)

  module _ (a b : Point) (end : last_of one ≡ a) (end_too : last_of other ≡ b) where
    -- with a bend at the point it is a point of the path,
    on_with_bend : IsBend ring p v q → IsOnPath ring a b v
    on_with_bend bend =
        let first = rest_first other in
        on_path_over ring one (drop 1 other) bent (rest_bent ring other bent_too 1 long_too) on_other
        (record {
          differ = λ e. on_other.differ (sym e);
          sees = sees_back ring v (point_at (drop 1 other) 0) on_other.sees;
          bend = λ more. rw first (bend_back ring p v q bend);
        })
        some simple a b v end (rest_ends other long_too ∙ end_too) (on_first_end (whole v) (whole (point_at (drop 1 other) 0)))

    -- and between the next points it is on a step
    on_between : On (whole v) (whole p) (whole q) → IsOnPath ring a b v
    on_between on =
        let first = rest_first one in
        let first_too = rest_first other in
        let to_one = goes_on one bent long in
        let on_rests : On (whole v) (whole (point_at (drop 1 one) 0)) (whole (point_at (drop 1 other) 0)) = rw (first, first_too) on in
        on_path_over ring (drop 1 one) (drop 1 other) (rest_bent ring one bent 1 long) (rest_bent ring other bent_too 1 long_too)
        (goes_on_beyond ring (drop 1 other) v (point_at (drop 1 one) 0) on_other on_rests (sees_back ring v (point_at (drop 1 one) 0) to_one.sees))
        (goes_on_beyond ring (drop 1 one) v (point_at (drop 1 other) 0) to_one
        (on_reversed (whole v) (whole (point_at (drop 1 one) 0)) (whole (point_at (drop 1 other) 0)) on_rests)
        (sees_back ring v (point_at (drop 1 other) 0) on_other.sees))
        some simple a b v (rest_ends one long ∙ end) (rest_ends other long_too ∙ end_too) on_rests

    -- so it is on the path between their ends
    on_path_of_bent : AreJoined ring v p q → IsOnPath ring a b v
    on_path_of_bent joined = elim joined [ inl between ↦ on_between between.2 | inr bend ↦ on_with_bend bend ]

-- ---- paths from one point

module _ (ring : List Point) (some : 3 ≤ length ring) (simple : IsSimple ring) where
  -- where the paths from v to a and to b are joined over v, it is on the path from a to b
  pub on_path_of_joined : (v a b p q : Point) → IsFirstStep ring v a p → IsFirstStep ring v b q → AreJoined ring v p q → IsOnPath ring a b v
  on_path_of_joined v a b p q step step_too joined =
      let one = step.path in
      let other = step_too.path in
      let taut = path_is_taut ring v a one step.is_path in
      let taut_too = path_is_taut ring v b other step_too.is_path in
      let x = point_at one 0 in
      let moved = subst (λ y. AreJoined ring x (point_at one 1) y) (sym step_too.is_next)
      (subst (λ y. AreJoined ring x y q) (sym step.is_next) (subst (λ y. AreJoined ring y p q) (sym taut.first) joined)) in
      subst (IsOnPath ring a b) taut.first
      (on_path_of_bent ring one other some simple taut.bent taut_too.bent step.more step_too.more (taut_too.first ∙ sym taut.first) a b
      taut.last taut_too.last moved)

  -- from a point on a step of a chain, which is not its end, a chain with bends goes on as that does, to the same end
  pub rest_from : (chain : List Point) → IsBentChain ring chain → (v : Point) (k : ℕ) → k + 1 < length chain
      → On (whole v) (whole (point_at chain k)) (whole (point_at chain (k + 1))) → ¬ (v ≡ point_at chain (k + 1))
      → (let rest = v ∷ drop (k + 1) chain in IsBentChain ring rest × (last_of rest ≡ last_of chain))
  rest_from chain bent v k h on differ =
      let rest = drop (k + 1) chain in
      let from_v = v ∷ [] in
      let count = length-drop (k + 1) chain in
      let alone = one_bent ring v (bent.chain.sees k h (whole v) (whole_is_point v) on) in
      let there = rest_bent ring chain bent (k + 1) h in
      let on_to = goes_on_step ring chain bent v k h on differ in
      let back : GoesOnTo ring (point_at rest 0) from_v = record {
        differ = λ e. on_to.differ (sym e);
        sees = sees_back ring v (point_at rest 0) on_to.sees;
        bend = λ more. absurd (omega arith);
      } in (
        over_bent ring from_v rest alone there on_to back,
        over_ends ring from_v rest alone there on_to back ∙ rest_at chain (k + 1) (length rest - 1) (length chain - 1) (omega arith),
      )

  module _ (v b q : Point) (step : IsFirstStep ring v b q) where
    -- so from such a point the path to the end goes first to where the step ends
    step_along : (chain : List Point) → IsBentChain ring chain → last_of chain ≡ b → (k : ℕ) → k + 1 < length chain
        → On (whole v) (whole (point_at chain k)) (whole (point_at chain (k + 1))) → ¬ (v ≡ point_at chain (k + 1)) → point_at chain (k + 1) ≡ q
    step_along chain bent ends k h on differ =
        let taut = path_is_taut ring v b step.path step.is_path in
        let (bent_rest, rest_ends) = rest_from chain bent v k h on differ in
        let same = one_bent_chain ring some simple (v ∷ drop (k + 1) chain) step.path bent_rest taut.bent (sym taut.first)
        (rest_ends ∙ ends ∙ sym taut.last) in
        sym (rest_at chain (k + 1) 0 (k + 1) (omega arith)) ∙ ap (λ ps. point_at ps 1) same ∙ step.is_next

module _ (ring : List Point) (some : 3 ≤ length ring) (simple : IsSimple ring) (v a b p q : Point) (step : IsFirstStep ring v a p)
    (step_too : IsFirstStep ring v b q) where
  module _ (path : List Point) (bent : IsBentChain ring path) (begins : point_at path 0 ≡ a) (ends : last_of path ≡ b) where
    -- from a point on a step of the chain the path to its begin goes first to where that step begins
    step_back : (k : ℕ) → k + 1 < length path → On (whole v) (whole (point_at path k)) (whole (point_at path (k + 1)))
        → ¬ (v ≡ point_at path k) → point_at path k ≡ p
    step_back k h on differ =
        let n = length-reverse path in
        let l = length path - 2 - k in
        let here = back_at path l (k + 1) (omega arith) in
        let next = back_at path (l + 1) k (omega arith) in
        let end = back_at path (length (reverse path) - 1) 0 (omega arith) ∙ begins in
        sym next
        ∙ step_along ring some simple v a p step (reverse path) (back_bent ring path bent) end l (omega arith)
        (rw (here, next) (on_reversed (whole v) (whole (point_at path k)) (whole (point_at path (k + 1))) on)) (rw next differ)

    -- at an inner point of the chain there is a bend between the first steps,
    bend_at : (m : ℕ) → 0 < m → m + 1 < length path → point_at path m ≡ v → AreJoined ring v p q
    bend_at m h more is =
        let u = point_at path (m - 1) in
        let w = point_at path (m + 1) in
        let here : m - 1 + 1 ≡ m = omega arith in
        let at = ap (point_at path) here ∙ is in
        let back = step_back (m - 1) (omega arith) (rw at (on_last_end (whole u) (whole v)))
        (λ e. bent.chain.distinct (m - 1) (omega arith) (sym e ∙ sym at)) in
        let ahead = step_along ring some simple v b q step_too path bent ends m more (rw is (on_first_end (whole v) (whole w)))
        (λ e. bent.chain.distinct m more (is ∙ e)) in
        inr (subst (λ x. IsBend ring x v q) back (subst (λ x. IsBend ring u v x) ahead (subst (λ x. IsBend ring u x w) is
        (bent.bends m (record { not_first = h; not_last = more })))))

    -- and within a step they are its ends
    joined_on : (k : ℕ) → k + 1 < length path → On (whole v) (whole (point_at path k)) (whole (point_at path (k + 1))) → AreJoined ring v p q
    joined_on k h on = elim (point_or_other v (point_at path k)) [
      | inl first ↦
          bend_at k (elim (cases_lt 0 k) [
            | inl less ↦ less
            | inr none ↦
                let start : k ≡ 0 = omega arith in
                absurd (step_differs ring v a p step (first ∙ ap (point_at path) start ∙ begins))
          ]) h (sym first)
      | inr differ ↦ elim (point_or_other v (point_at path (k + 1))) [
        | inl last ↦
            bend_at (k + 1) (omega arith) (elim (cases_lt (k + 1 + 1) (length path)) [
              | inl less ↦ less
              | inr none ↦
                  let end : k + 1 ≡ length path - 1 = omega arith in
                  absurd (step_differs ring v b q step_too (last ∙ ap (point_at path) end ∙ ends))
            ]) (sym last)
        | inr differ_too ↦
            let back = step_back k h on differ in
            let ahead = step_along ring some simple v b q step_too path bent ends k h on differ_too in
            inl (
              (λ e. differ (e ∙ sym back)),
              (λ e. differ_too (e ∙ sym ahead)),
              subst (λ x. On (whole v) (whole p) (whole x)) ahead (subst (λ x. On (whole v) (whole x) (whole (point_at path (k + 1)))) back on),
            )
      ]
    ]

  -- so where v is on the path from a to b, the paths from it to a and to b are joined over it,
  pub joined_of_on_path : IsOnPath ring a b v → AreJoined ring v p q
  joined_of_on_path on =
      let taut = path_is_taut ring a b on.path on.is_path in
      joined_on on.path taut.bent taut.first taut.last on.place on.within on.on

  -- and nowhere else
  pub on_path_iff_joined : AreJoined ring v p q ↔ IsOnPath ring a b v
  on_path_iff_joined = (on_path_of_joined ring some simple v a b p q step step_too, joined_of_on_path)

module _ (ring : List Point) (some : 3 ≤ length ring) (simple : IsSimple ring) where
  -- ---- the step of a point on a path

  module _ (chain : List Point) (bent : IsBentChain ring chain) (v : Point) (way : List Point) (bent_way : IsBentChain ring way)
      (begins : point_at way 0 ≡ v) (ends : last_of way ≡ last_of chain) (k : ℕ) (h : k + 1 < length chain) where
    -- from a point on a step of a chain, which is not its end, the path to the end of the chain goes as the chain does,
    rest_within : On (whole v) (whole (point_at chain k)) (whole (point_at chain (k + 1))) → ¬ (v ≡ point_at chain (k + 1))
        → length way + k ≡ length chain
    rest_within on differ =
        let (bent_rest, rest_ends) = rest_from ring some simple chain bent v k h on differ in
        let long = ap length (one_bent_chain ring some simple way (v ∷ drop (k + 1) chain) bent_way bent_rest begins (ends ∙ sym rest_ends)) in
        omega (arith, length-drop (k + 1) chain, long, h)

    -- and so it does from the end of the step
    rest_after : v ≡ point_at chain (k + 1) → length way + (k + 1) ≡ length chain
    rest_after at =
        let rest = drop (k + 1) chain in
        let count = length-drop (k + 1) chain in
        let end = rest_at chain (k + 1) (length rest - 1) (length chain - 1) (omega arith) in
        let same = one_bent_chain ring some simple way rest bent_way (rest_bent ring chain bent (k + 1) h)
        (begins ∙ at ∙ sym (rest_at chain (k + 1) 0 (k + 1) (omega arith))) (ends ∙ sym end) in
        let long = ap length same in
        omega (arith, count, long, h)

  module _ (a b x : Point) (path way : List Point) (is : IsPath ring a b path) (is_way : IsPath ring a x way) (differ : a ≢ x) where
    -- the path to another point has two points or more
    pub path_steps : 2 ≤ length way
    path_steps = elim (cases_lt 1 (length way)) [
      | inl more ↦ omega arith
      | inr not ↦
          let taut = path_is_taut ring a x way is_way in
          let alone : 0 ≡ length way - 1 = omega arith in
          absurd (differ (sym taut.first ∙ ap (point_at way) alone ∙ taut.last))
    ]

    -- where the other point is on a step of a path, it is on the one with the number of the last step to it
    pub on_step_to : (k : ℕ) → k + 1 < length path → On (whole x) (whole (point_at path k)) (whole (point_at path (k + 1)))
        → (length way ≤ length path) × On (whole x) (whole (point_at path (length way - 2))) (whole (point_at path (length way - 1)))
    on_step_to k h on =
        let taut = path_is_taut ring a b path is in
        let taut_way = path_is_taut ring a x way is_way in
        let n = length-reverse path in
        let m = length-reverse way in
        let one = taut_way.bent.chain.some in
        let back = reverse path in
        let l = length path - 2 - k in
        let here = back_at path l (k + 1) (omega arith) in
        let next = back_at path (l + 1) k (omega arith) in
        let begins = back_at way 0 (length way - 1) (omega arith) ∙ taut_way.last in
        let ends = back_at way (length (reverse way) - 1) 0 (omega arith) ∙ taut_way.first
        ∙ sym (back_at path (length back - 1) 0 (omega arith) ∙ taut.first) in
        let bent = back_bent ring path taut.bent in
        let bent_way = back_bent ring way taut_way.bent in
        elim (point_or_other x (point_at path k)) [
          | inr within ↦
              let count = rest_within back bent x (reverse way) bent_way begins ends l (omega arith)
              (rw (here, next) (on_reversed (whole x) (whole (point_at path k)) (whole (point_at path (k + 1))) on)) (rw next within) in
              let first : k ≡ length way - 2 = omega arith in
              let last : k + 1 ≡ length way - 1 = omega arith in
              (omega arith, rw (← first, ← last) on)
          | inl at ↦
              let count = rest_after back bent x (reverse way) bent_way begins ends l (omega arith) (at ∙ sym next) in
              let steps = path_steps in
              let last : k ≡ length way - 1 = omega arith in
              (omega arith, rw (← last, ← at) (on_last_end (whole (point_at path (length way - 2))) (whole x)))
        ]
