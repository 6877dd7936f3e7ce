use Rattle.std.proofs.Common.{◌≡◌, ◌∙◌, ◌-◌, sym, ap, arith, length, refl}
use Rattle.std.proofs.lemmas.Bool.{false≢true}
use Rattle.rings.specs.Status.{times}
use Rattle.ring_check.proofs.StatusEdits.{edges_as}
use Rattle.ring_check.proofs.TwoEdits.{size_left, times_two_removed}
use Rattle.ring_check.proofs.status.remove_both.Goals as goal
use Rattle.ring_check.proofs.status.remove_both.Goals.{then-place-gt0, else-place-gt0}

pub place_of-place-requires-clause-edges : goal.place_of-place-requires-clause-edges
place_of-place-requires-clause-edges g c = edges_as c.args.events.now.are.all_ranks c.args.status.now c.requires.stacked.edges

pub returns-then-are_at-clause-times : goal.returns-then-are_at-clause-times
returns-then-are_at-clause-times g c = λ _ x.
    let found = c.if-are_at.ensures in
    let seen = times_two_removed c.args.status.now c.place_of-place.result c.args.u c.args.v x
    (found.inside refl) (found.first refl) (found.second refl) in
    omega (arith, seen, ap (times x) c.remove_two.ensures.items)

pub returns-then-are_at-2-clause-times : goal.returns-then-are_at-2-clause-times
returns-then-are_at-2-clause-times g c = λ _ x. elim c.if-place-gt0.branch [
  | then-place-gt0 w ↦
      let found = sym w.value-is ∙ c.if-are_at-2.true in
      let seen = times_two_removed c.args.status.now (c.place_of-place.result - 1) c.args.v c.args.u x
      (w.are_at-then-place-gt0.ensures.inside found) (w.are_at-then-place-gt0.ensures.first found)
      (w.are_at-then-place-gt0.ensures.second found) in
      omega (arith, seen, ap (times x) c.remove_two-then-are_at-2.ensures.items)
  | else-place-gt0 w ↦
      let none : c.place_of-place.result ≡ 0 = omega (arith, w.if-place-gt0.false) in
      absurd (false≢true (rw none at (sym w.value-is ∙ c.if-are_at-2.true)))
]

pub returns-then-are_at-clause-length : goal.returns-then-are_at-clause-length
returns-then-are_at-clause-length g c = λ _.
    let e = c.args.events.now in
    let less = size_left e.points.now e.ranks.now c.args.status.now c.place_of-place.result c.requires.stacked (c.if-are_at.ensures.inside refl) in
    omega (arith, less, ap length c.remove_two.ensures.items)

pub returns-then-are_at-2-clause-length : goal.returns-then-are_at-2-clause-length
returns-then-are_at-2-clause-length g c = λ _. elim c.if-place-gt0.branch [
  | then-place-gt0 w ↦
      let e = c.args.events.now in
      let within = w.are_at-then-place-gt0.ensures.inside (sym w.value-is ∙ c.if-are_at-2.true) in
      let less = size_left e.points.now e.ranks.now c.args.status.now (c.place_of-place.result - 1) c.requires.stacked within in
      omega (arith, less, ap length c.remove_two-then-are_at-2.ensures.items)
  | else-place-gt0 w ↦
      let none : c.place_of-place.result ≡ 0 = omega (arith, w.if-place-gt0.false) in
      absurd (false≢true (rw none at (sym w.value-is ∙ c.if-are_at-2.true)))
]
