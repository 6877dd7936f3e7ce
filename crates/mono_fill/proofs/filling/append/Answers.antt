use Rattle.std.proofs.Common.{◌≡◌, ◌<◌, ◌+◌, ◌-◌, ◌∙◌, Vec, Global, ap, sym, [], ◌++◌, ◌∷◌, length, append-nil, arith}
use Rattle.std.proofs.lemmas.List.{length_push}
use Rattle.std.proofs.lemmas.Result.{on_ok_weaker}
use Rattle.std.proofs.lemmas.List.Elements.{All-cons, All-nil, All-same, All-get_or}
use Rattle.mono_fill.proofs.Fillings.{begun, crossed, extends_on, filling_ends, gone_on, kept_all, length_read, one_more_ranks, one_more_ring, one_more_taken, told_other, told_same}
use Rattle.mono_fill.proofs.Outlines.{fillable_polygon}
use Rattle.meshes.specs.declared.tri.Tri.{Tri}
use Rattle.mono_fill.specs.Cursors.{Cursors}
use Rattle.mono_fill.specs.Sides.{fan}
use Rattle.mono_fill.specs.Stacks.{last_of}
use Rattle.mono_fill.specs.declared.stack.Stack.{Stack}
use Rattle.mono_fill.proofs.filling.append.Goals.{else-eq+in_ok-cross, then-eq+in_ok-go_on}
use Rattle.mono_fill.proofs.filling.append.Goals as goal

pub loop-init : goal.loop-init
loop-init g c =
    let n = c.new-chains.ensures in
    let corners = g.T.Turns.corners c.args.board.now in
    let is_stack = c.in_ok-stack.ensures.vertices in
    let small : c.first.result < length corners = omega (arith, c.first.ensures.ranked, c.requires.ranks, ap (λ (k : Cursors). length k.ranks) n.2) in
    let sum = ap (λ (k : Cursors). k.lower + k.upper) n.2 in
    let one = ap length is_stack in
    record {
      ranks = ap (λ (k : Cursors). k.ranks) n.2;
      size = ap (λ (k : Cursors). length k.ring) n.2 ∙ length_read n.0 c.args.piece.now n.1;
      taken = omega arith;
      some = omega arith;
      numbers = All-same (λ i. i < length corners) _ _ is_stack
          (All-cons (λ i. i < length corners) c.first.result [] small (All-nil (λ i. i < length corners)));
      extended = ([], sym (append-nil _));
      steps = omega arith;
      filling = λ f. begun corners c.args.rank.now c.args.piece.now c.args.out.now.items f c.new-chains.result _ c.first.result _ n.0 n.1 n.2 n.3
          c.in_ok-stack.ensures.side c.first.ensures.vertex is_stack;
    }

pub loop-preserved : goal.loop-preserved
loop-preserved g c =
    let corners = g.T.Turns.corners c.args.board.now in
    let t = c.take-side.ensures in
    let at = c.take-side.result.0 in
    let x = c.take-side.result.1 in
    let before = c.loop.chains in
    let after = c.take-side.new.self in
    let stack = c.loop.stack.vertices.items in
    let more : before.lower + before.upper + 2 < length before.ring = omega arith in
    let one = one_more_taken at before after t.cursors in
    let ranks = one_more_ranks at before after t.cursors ∙ c.loop.invariant.ranks in
    let size = one_more_ring at before after t.cursors ∙ c.loop.invariant.size in
    let taken : after.lower + after.upper + 2 ≡ c.loop.counter + 1 = omega arith in
    let small : x < length corners = omega (arith, t.ranked, c.requires.ranks, ap length c.loop.invariant.ranks) in
    elim c.if-eq.branch [
      | then-eq+in_ok-go_on w ↦
          let r = w.in_ok-go_on.ensures in
          let side = ap (λ (s : Stack). s.side) w.stack-is ∙ r.side in
          let items = ap (λ (s : Stack). s.vertices.items) w.stack-is ∙ r.gone_on.1 in
          let out = ap (λ (o : Vec Tri Global). o.items) w.out-is in
          let are = r.gone_on.3.2 in
          record {
            ranks = ranks;
            size = size;
            taken = taken;
            some = omega (arith, ap length items, length_push r.gone_on.0 x);
            numbers = kept_all
                (λ i. i < length corners) corners c.loop.stack.side x stack r.gone_on.0 _ r.gone_on.3.0 are items c.loop.invariant.numbers small;
            extended = extends_on _ _ _ c.loop.invariant.extended (r.extended.0, out ∙ r.extended.1);
            steps = omega (arith, w.steps-is, r.steps, ap length (ap (λ (s : Stack). s.vertices.items) w.stack-is), one, c.loop.invariant.steps);
            filling =
                λ f. gone_on corners c.args.rank.now c.args.piece.now c.args.out.now.items before after c.loop.stack.side at _ x stack _ c.loop.out.items _
                (c.loop.invariant.filling f) more c.loop.invariant.ranks t.vertex t.cursors t.next
                (told_same at c.loop.stack.side c.eq.result c.eq.ensures w.if-eq.true) side r.gone_on.0 r.gone_on.3.0 items r.gone_on.2
                (out ∙ r.gone_on.3.1) are;
          }
      | else-eq+in_ok-cross w ↦
          let r = w.in_ok-cross.ensures in
          let side = ap (λ (s : Stack). s.side) w.stack-is ∙ r.side in
          let items = ap (λ (s : Stack). s.vertices.items) w.stack-is ∙ r.vertices in
          let out = ap (λ (o : Vec Tri Global). o.items) w.out-is in
          let top : last_of stack < length corners = All-get_or (λ i. i < length corners) stack (length stack - 1) 0
          (omega (arith, c.loop.invariant.some)) c.loop.invariant.numbers in
          record {
            ranks = ranks;
            size = size;
            taken = taken;
            some = omega (arith, ap length items);
            numbers = All-same (λ i. i < length corners) _ _ items (All-cons (λ i. i < length corners) (last_of stack) (x ∷ []) top
                (All-cons (λ i. i < length corners) x [] small (All-nil (λ i. i < length corners))));
            extended = extends_on _ _ _ c.loop.invariant.extended (r.extended.0, out ∙ r.extended.1);
            steps = omega (arith, w.steps-is, ap length items, one, c.loop.invariant.steps, c.loop.invariant.some);
            filling =
                λ f. crossed corners c.args.rank.now c.args.piece.now c.args.out.now.items before after c.loop.stack.side at _ x stack _ c.loop.out.items _
                (c.loop.invariant.filling f) more c.loop.invariant.ranks t.vertex t.cursors t.next
                (told_other at c.loop.stack.side c.eq.result c.eq.ensures w.if-eq.false) side items (out ∙ r.fan);
          }
    ]

pub returns-clause-fits : goal.returns-clause-fits
returns-clause-fits g c f =
    on_ok_weaker c.fan.result (λ e.
    filling_ends
    (g.T.Turns.corners c.args.board.now) c.args.rank.now c.args.piece.now c.args.out.now.items c.loop.out.items _ c.loop.chains c.loop.stack.side
    c.loop.stack.vertices.items (fillable_polygon (g.T.Turns.corners c.args.board.now) c.args.rank.now c.args.piece.now f)
    (c.loop.invariant.filling f)
    (omega (arith, c.requires.some)) (e ∙ ap (λ x. c.loop.out.items ++ fan c.loop.stack.side x c.loop.stack.vertices.items) c.ahead.ensures.vertex))
    c.fan.ensures.fan
