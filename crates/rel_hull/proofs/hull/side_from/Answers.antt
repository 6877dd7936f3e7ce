use Rattle.std.proofs.Common.{◌∙◌, arith, sym}
use Rattle.rel_hull.proofs.hull.side_from.Goals as goal
use Rattle.rel_hull.proofs.hull.side_from.Goals.{else-t-s-via-else-t-s, else-t-s-via-then-t-s+else-is_side}

pub side_end-t-requires-clause-start : goal.side_end-t-requires-clause-start
side_end-t-requires-clause-start g c = c.requires.outer.below _ c.requires.start

pub is_side-requires-clause-first : goal.is_side-requires-clause-first
is_side-requires-clause-first g c = c.requires.outer.below _ c.requires.start

pub is_side-requires-clause-second : goal.is_side-requires-clause-second
is_side-requires-clause-second g c = c.requires.outer.below _ (c.side_end-t.ensures.other c.if-t-s.true)

pub returns-else-t-s-clause-end : goal.returns-else-t-s-clause-end
returns-else-t-s-clause-end g c = λ starts.
    let end = c.side_end-t.ensures.end starts.0 starts.1 in
    elim c.else-t-s.branch [
      | else-t-s-via-then-t-s+else-is_side w ↦ absurd (cc (w.is_side.ensures.side.1 (rw end starts.1.left), w.if-is_side.false))
      | else-t-s-via-else-t-s w ↦ starts.1.different (sym w.if-t-s.false ∙ end)
    ]

pub returns-then-is_side-clause-steps : goal.returns-then-is_side-clause-steps
returns-then-is_side-clause-steps g c d short = omega (arith, c.side_end-t.ensures.steps d short, c.is_side.ensures.steps d short)

pub returns-else-t-s-clause-steps : goal.returns-else-t-s-clause-steps
returns-else-t-s-clause-steps g c d short = elim c.else-t-s.branch [
  | else-t-s-via-then-t-s+else-is_side w ↦ rw w.steps-is (omega (arith, c.side_end-t.ensures.steps d short, w.is_side.ensures.steps d short))
  | else-t-s-via-else-t-s w ↦ rw w.steps-is (omega (arith, c.side_end-t.ensures.steps d short))
]
