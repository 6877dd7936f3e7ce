use Rattle.std.proofs.Common.{◌≡◌, ◌<◌, ◌+◌, ℕ, [], ◌∷◌, ◌++◌, ◌⊎◌, inl, inr, subst, sym, arith, length, slice_index}
use Rattle.std.proofs.lemmas.List.Elements.{All-push, Contains-append_left, Contains-push}
use Rattle.std.specs.List.{Contains}
use Rattle.edge_index.proofs.kinds.push_kind.Goals as goal
use Rattle.edge_index.proofs.kinds.push_kind.Goals.{then-kinds-e+in_ok-push, else-kinds-e}

-- a number up to another is below it or the same
below_or_same : (e k : ℕ) → e < k + 1 → (e < k) ⊎ (e ≡ k)
below_or_same e k h = grind arith

pub loop-e-preserved : goal.loop-e-preserved
loop-e-preserved c = elim c.if-kinds-e.branch [
  | then-kinds-e+in_ok-push w ↦
      let before = c.loop-e.edges.items in
      let now = c.loop-e.e in
      let had = c.loop-e.invariant in
      rw (w.edges-is, w.in_ok-push.ensures.items) (record {
        range = All-push (λ e. e < length c.args.kinds.now) before now had.range c.loop-e-test.true;
        old = λ e is. Contains-append_left before (now ∷ []) e (had.old e is);
        each = λ e below is. elim (below_or_same e now below) [
          | inl h ↦ Contains-append_left before (now ∷ []) e (had.each e h is)
          | inr same ↦ subst (Contains (before ++ now ∷ [])) (sym same) (Contains-push before now)
        ];
      })
  | else-kinds-e w ↦
      let now = c.loop-e.e in
      let had = c.loop-e.invariant in
      rw w.edges-is (record {
        range = had.range;
        old = had.old;
        each = λ e below is. elim (below_or_same e now below) [
          | inl h ↦ had.each e h is
          | inr same ↦ absurd (w.if-kinds-e.false (subst (λ k. slice_index c.args.kinds.now k ≡ c.args.kind) same is))
        ];
      })
]
