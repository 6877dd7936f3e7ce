use Rattle.std.proofs.Common.{◌≡◌, ◌<◌, refl, arith, [], ◌++◌, ◌∷◌, ◌-◌, length, take, sym, append-nil, append_assoc, ◌∙◌, ap}
use Rattle.mono_fill.proofs.Fans.{none_popped, one_popped, top_triangle}
use Rattle.mono_fill.proofs.stack.Stack.pop_to.Goals as goal

pub loop-self-init : goal.loop-self-init
loop-self-init g c = record { side = refl; steps = omega arith; popped = ([], sym (append-nil _), none_popped _ _ _ _ c.requires.some) }

pub loop-self-preserved : goal.loop-self-preserved
loop-self-preserved g c =
    let known = c.loop-self.invariant.popped in
    let now = c.loop-self.self.vertices.items in
    let t = c.triangle-tri.result in
    let l : c.len-top.result ≡ length now = omega arith in
    let some : 1 < c.len-top.result = omega arith in
    let e = top_triangle c.args.self.now.side _ now c.len-top.result _ _ c.args.x t c.triangle-tri.ensures c.loop-self.invariant.side l some
    c.index.ensures c.index-in-loop-self.ensures in
    record {
      side = c.loop-self.invariant.side;
      steps = omega arith;
      popped = (
        known.0 ++ t ∷ [],
        c.in_ok-push.ensures.items ∙ ap (λ ts. ts ++ t ∷ []) known.1 ∙ append_assoc _ known.0 (t ∷ []),
        one_popped _ _ _ _ now _ known.0 t (omega arith) (c.truncate.ensures.items ∙ ap (λ n. take (n - 1) now) l) e
            (c.if-not-is_counterclockwise.ensures.turn.0 refl) known.2,
      );
    }
