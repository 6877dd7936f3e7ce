-- The reply to a command is one, or at least its text: rational points may be given by other triples.
use Rattle.std.proofs.Common.{◌≡◌, ◌∙◌, inl, refl, sym, ap, subst, ℕ, ℤ, pos, ◌+◌, List, [], ◌∷◌, arith}
use Rattle.std.proofs.lemmas.Int.{ints}
use Rattle.std.proofs.lemmas.List.{ext_get_or}
use Rattle.std.specs.Prelude.{Option, Some, None}
use Rattle.plane.specs.Point.{Point, whole}
use Rattle.rings.proofs.Simple.{least_clash_is_one, no_least_clash}
use Rattle.rings.specs.From.{IsPredecessor}
use Rattle.rings.specs.Kernel.{IsInKernel}
use Rattle.rings.specs.Ring.{vertex}
use Rattle.funnels.proofs.OneChain.{one_before}
use Rattle.geo_text.specs.declared.command.Bad.{Bad}
use Rattle.geo_text.specs.declared.command.Bad.TheVariants as bad
use Rattle.geo_text.specs.declared.command.Command.{Command}
use Rattle.geo_text.specs.declared.command.Command.TheVariants as command
use Rattle.geo_text.specs.declared.version.Version.{Version}
use Rattle.inside_test.specs.declared.position.Position.{Position}
use Rattle.inside_test.specs.declared.position.Position.TheVariants as position
use Rattle.guards3.specs.Guards.{OneGuardsLaw}
use Rattle.pair_cut.specs.Pairs.{OneSightsLaw}
use Rattle.geo_reply.specs.ReplyText.{reply_text}
use Rattle.geo_reply.specs.Written.{written_steps}
use Rattle.geo_reply.specs.declared.reply.Before.{Before}
use Rattle.geo_reply.specs.declared.reply.Before.TheVariants as before
use Rattle.geo_reply.specs.declared.reply.Reply.{Reply}
use Rattle.geo_reply.specs.declared.reply.Reply.TheVariants as reply
use Rattle.geo_session.proofs.OneHull.{one_hull, one_outside}
use Rattle.geo_session.proofs.OneNumbers.{one_guarding, one_numbers}
use Rattle.geo_session.proofs.OneShown.{one_shown}
use Rattle.geo_session.proofs.OneVerdict.{one_verdict}
use Rattle.geo_session.proofs.OneView.{one_kernel_steps, one_kernel_text, one_see_steps, one_see_text}
use Rattle.geo_session.specs.Laws.{OneReplyLaw}
use Rattle.geo_session.specs.Pairs.{AreSightsReply, IsPairReply, IsVertexNumber, first_off, joined, second_off, sighted, too_large, too_many}
use Rattle.geo_session.specs.Path.{IsPathReply, IsReachReply, TellsPath}
use Rattle.geo_session.specs.Place.{IsPlace}
use Rattle.geo_session.specs.Polygon.{IsPolygonReply, accepted, clashing}
use Rattle.geo_session.specs.Reply.{IsReply, IsReplyIn, IsReplyOf, state_after}
use Rattle.geo_session.specs.State.{Kept, State}
use Rattle.geo_session.specs.Told.{NamesOutside, RepliesWithin, Tells, outside, within}
use Rattle.geo_session.specs.Tree.{AreFrom, IsFrom}

-- ---- the two forms

-- a value of which there is one is told by one reply
one_told : {V : Type 0} (kind : V → Reply) (Holds : V → Type 0) → ((v w : V) → Holds v → Holds w → v ≡ w) → (one other : Reply) → Tells kind Holds one
    → Tells kind Holds other → one ≡ other
one_told kind Holds single one other h g = h.told ∙ ap kind (single h.value g.value h.holds g.holds) ∙ sym g.told

-- the first point that is outside is named by one refusal,
one_name : (ring points : List Point) (fault other : Bad) → NamesOutside ring points fault → NamesOutside ring points other → fault ≡ other
one_name ring points fault other h g = h.named ∙ ap (λ (k : ℕ). bad.Outside (k + 1)) (one_outside ring points h.k g.k h.first g.first) ∙ sym g.named

-- so where what holds of replies holds of like ones, they are like
module _ (Like : Reply → Reply → Type 0) (like : (one other : Reply) → one ≡ other → Like one other) where
  one_within : (ring points : List Point) (Holds : Reply → Type 0) → ((one other : Reply) → Holds one → Holds other → Like one other)
      → (one other : Reply) → RepliesWithin ring points Holds one → RepliesWithin ring points Holds other → Like one other
  one_within ring points Holds single one other (outside fault h e) (outside name g f) =
      like one other (e ∙ ap reply.Refused (one_name ring points fault name h g) ∙ sym f)
  one_within ring points Holds single one other (outside fault h e) (within all g) = absurd (h.first.outside (all h.k h.first.in_list))
  one_within ring points Holds single one other (within all h) (outside fault g f) = absurd (g.first.outside (all g.k g.first.in_list))
  one_within ring points Holds single one other (within all h) (within all_too g) = single one other h g

  -- and so are those to a command
  one_of : (version : Version) (kept : Option Kept) (asked : Command) (one other : Reply)
      → ((k : Kept) → IsReplyIn version k asked one → IsReplyIn version k asked other → Like one other) → IsReplyOf version kept asked one
      → IsReplyOf version kept asked other → Like one other
  one_of version None asked one other each h g = like one other (h ∙ sym g)
  one_of version (Some kept) asked one other each h g = each kept h g

-- replies may be the same,
abbrev Same : Reply → Reply → Type 0
Same one other = one ≡ other

same : (one other : Reply) → one ≡ other → Same one other
same one other e = e

-- or have one text, for which as many steps are enough
abbrev SameLines : Reply → Reply → Type 0
SameLines one other = (reply_text one ≡ reply_text other) × (written_steps one ≡ written_steps other)

same_lines : (one other : Reply) → one ≡ other → SameLines one other
same_lines one other e = (ap reply_text e, ap written_steps e)

-- ---- a polygon, and a point

one_polygon : (ring : List Point) (one other : Reply) → IsPolygonReply ring one → IsPolygonReply ring other → one ≡ other
one_polygon ring one other (accepted _ e) (accepted _ f) = e ∙ sym f
one_polygon ring one other (accepted simple e) (clashing i j least f) = absurd (no_least_clash ring i j simple least)
one_polygon ring one other (clashing i j least e) (accepted simple f) = absurd (no_least_clash ring i j simple least)
one_polygon ring one other (clashing i j least e) (clashing k l least_too f) =
    let (first, second) = least_clash_is_one ring i j k l least least_too in
    e ∙ ap (λ (n : ℕ). reply.Refused (bad.Clash n j)) first ∙ ap (λ (n : ℕ). reply.Refused (bad.Clash k n)) second ∙ sym f

one_place : (ring : List Point) (p : Point) (place other : Position) → IsPlace ring p place → IsPlace ring p other → place ≡ other
one_place ring p position.Edge position.Edge on on_too = refl
one_place ring p position.Edge position.Inside on h = absurd (h.1 on)
one_place ring p position.Edge position.Outside on out = absurd (out (inl on))
one_place ring p position.Inside position.Edge h on = absurd (h.1 on)
one_place ring p position.Inside position.Inside h g = refl
one_place ring p position.Inside position.Outside h out = absurd (out h.0)
one_place ring p position.Outside position.Edge out on = absurd (out (inl on))
one_place ring p position.Outside position.Inside out h = absurd (out h.0)
one_place ring p position.Outside position.Outside out out_too = refl

-- ---- paths

one_path : (version : Version) (ring : List Point) (s t : Point) (one other : Reply) → TellsPath version ring s t one → TellsPath version ring s t other → one ≡ other
one_path version ring s t = one_told reply.Path _ (one_shown version ring s t)

one_path_reply : (version : Version) (ring : List Point) (s t : Point) (one other : Reply) → IsPathReply version ring s t one → IsPathReply version ring s t other
    → one ≡ other
one_path_reply version ring s t = one_within Same same ring (s ∷ t ∷ []) _ (one_path version ring s t)

one_reach_reply : (version : Version) (ring : List Point) (source : Option Point) (t : Point) (one other : Reply) → IsReachReply version ring source t one
    → IsReachReply version ring source t other → one ≡ other
one_reach_reply version ring None t one other h g = h ∙ sym g
one_reach_reply version ring (Some s) t one other h g = one_within Same same ring (t ∷ []) _ (one_path version ring s t) one other h g

-- a number is of one vertex
one_vertex : (ring : List Point) (z : ℤ) (k l : ℕ) → IsVertexNumber ring z k → IsVertexNumber ring z l → k ≡ l
one_vertex ring z k l h g = let same : pos k ≡ pos l = sym h.is ∙ g.is in omega (arith, ints, same)

module _ (version : Version) (ring : List Point) (i j : ℤ) (one other : Reply) where
  one_joined : (k l m n : ℕ) → IsVertexNumber ring i k → IsVertexNumber ring j l → IsVertexNumber ring i m → IsVertexNumber ring j n
      → TellsPath version ring (vertex ring k) (vertex ring l) one → TellsPath version ring (vertex ring m) (vertex ring n) other → one ≡ other
  one_joined k l m n at_i at_j at_i_too at_j_too h g =
      let start : k ≡ m = one_vertex ring i k m at_i at_i_too in
      let end : l ≡ n = one_vertex ring j l n at_j at_j_too in
      one_path version ring (vertex ring m) (vertex ring n) one other
      (subst (λ (v : ℕ). TellsPath version ring (vertex ring m) (vertex ring v) one) end
      (subst (λ (v : ℕ). TellsPath version ring (vertex ring v) (vertex ring l) one) start h)) g

  one_pair_reply : IsPairReply version ring i j one → IsPairReply version ring i j other → one ≡ other
  one_pair_reply (too_many _ e) (too_many _ f) = e ∙ sym f
  one_pair_reply (too_many large e) (first_off small _ f) = absurd (large small)
  one_pair_reply (too_many large e) (second_off small _ _ f) = absurd (large small)
  one_pair_reply (too_many large e) (joined small _ _ _ _ f) = absurd (large small)
  one_pair_reply (first_off small _ e) (too_many large f) = absurd (large small)
  one_pair_reply (first_off _ _ e) (first_off _ _ f) = e ∙ sym f
  one_pair_reply (first_off _ off e) (second_off _ on _ f) = absurd (off on)
  one_pair_reply (first_off _ off e) (joined _ k l at_i at_j f) = absurd (off (k, at_i))
  one_pair_reply (second_off small _ _ e) (too_many large f) = absurd (large small)
  one_pair_reply (second_off _ on _ e) (first_off _ off f) = absurd (off on)
  one_pair_reply (second_off _ _ _ e) (second_off _ _ _ f) = e ∙ sym f
  one_pair_reply (second_off _ _ off e) (joined _ k l at_i at_j f) = absurd (off (l, at_j))
  one_pair_reply (joined small _ _ _ _ e) (too_many large f) = absurd (large small)
  one_pair_reply (joined _ k l at_i at_j e) (first_off _ off f) = absurd (off (k, at_i))
  one_pair_reply (joined _ k l at_i at_j e) (second_off _ _ off f) = absurd (off (l, at_j))
  one_pair_reply (joined _ k l at_i at_j e) (joined _ m n at_i_too at_j_too f) = one_joined k l m n at_i at_j at_i_too at_j_too e f

-- so in a state
pub one_path_of : (before : State) (s t : Point) (one other : Reply) → IsReply before (command.Path s t) one → IsReply before (command.Path s t) other
    → one ≡ other
one_path_of before s t one other h g =
    one_of Same same before.version before.kept (command.Path s t) one other (λ k. one_path_reply before.version k.ring s t one other) h g

pub one_reach_of : (before : State) (t : Point) (one other : Reply) → IsReply before (command.Reach t) one → IsReply before (command.Reach t) other
    → one ≡ other
one_reach_of before t one other h g =
    one_of Same same before.version before.kept (command.Reach t) one other (λ k. one_reach_reply before.version k.ring k.source t one other) h g

pub one_pair_of : (before : State) (i j : ℤ) (one other : Reply) → IsReply before (command.Pair i j) one → IsReply before (command.Pair i j) other
    → one ≡ other
one_pair_of before i j one other h g =
    one_of Same same before.version before.kept (command.Pair i j) one other (λ k. one_pair_reply before.version k.ring i j one other) h g

-- ---- a view, and a kernel

pub one_view_of : (before : State) (q : Point) (one other : Reply) → IsReply before (command.See q) one → IsReply before (command.See q) other
    → SameLines one other
one_view_of before q one other h g =
    one_of SameLines same_lines before.version before.kept (command.See q) one other
    (λ k. one_within SameLines same_lines k.ring (q ∷ []) _
    (λ a b is is_too. (
      ap reply_text is.told
          ∙ one_see_text k.ring (whole q) is.value is_too.value is.holds.seen is_too.holds.seen
          ∙ sym (ap reply_text is_too.told),
      ap written_steps is.told
          ∙ one_see_steps k.ring (whole q) is.value is_too.value is.holds.seen is_too.holds.seen
          ∙ sym (ap written_steps is_too.told),
    )) one other) h g

pub one_kernel_of : (before : State) (one other : Reply) → IsReply before command.Kernel one → IsReply before command.Kernel other → SameLines one other
one_kernel_of before one other h g =
    one_of SameLines same_lines before.version before.kept command.Kernel one other
    (λ k is is_too. (
      ap reply_text is.told ∙ one_kernel_text (IsInKernel k.ring) is.value is_too.value is.holds is_too.holds ∙ sym (ap reply_text is_too.told),
      ap written_steps is.told ∙ one_kernel_steps (IsInKernel k.ring) is.value is_too.value is.holds is_too.holds ∙ sym (ap written_steps is_too.told),
    )) h g

-- ---- a tree

module _ (ring : List Point) (s t : Point) where
  -- and none where the path begins there
  none_before : t ≡ s → (x : Point) → ¬ IsPredecessor ring s t x
  none_before same x h =
      let taut = (h.is_path h.path).1 refl in
      omega (arith, taut.single (sym same), h.more)

  one_from : (one other : Before) → IsFrom ring s t one → IsFrom ring s t other → one ≡ other
  one_from before.Nothing before.Nothing h g = refl
  one_from before.Nothing before.Source at h = absurd (none_before at s h)
  one_from before.Nothing (before.Vertex j) at h = absurd (none_before at h.x h.before)
  one_from before.Source before.Nothing h at = absurd (none_before at s h)
  one_from before.Source before.Source h g = refl
  one_from before.Source (before.Vertex j) h g = absurd (g.not_source (one_before ring s t g.x s g.before h))
  one_from (before.Vertex j) before.Nothing h at = absurd (none_before at h.x h.before)
  one_from (before.Vertex j) before.Source h g = absurd (h.not_source (one_before ring s t h.x s h.before g))
  one_from (before.Vertex j) (before.Vertex k) h g =
      ap before.Vertex (g.number.only j h.number.in_ring (h.number.at ∙ one_before ring s t h.x g.x h.before g.before))

-- so what comes before each vertex is one list
one_befores : (ring : List Point) (s : Point) (befores others : List Before) → AreFrom ring s befores → AreFrom ring s others → befores ≡ others
one_befores ring s befores others h g =
    ext_get_or before.Nothing befores others (h.one_each ∙ sym g.one_each)
    (λ i below. one_from ring s (vertex ring i) _ _ (h.each i (omega (arith, h.one_each, below))) (g.each i (omega (arith, h.one_each, below))))

-- ---- the visibility graph

module _ (one_sights : OneSightsLaw) where
  one_sights_reply : (ring : List Point) (one other : Reply) → AreSightsReply ring one → AreSightsReply ring other → one ≡ other
  one_sights_reply ring one other (too_large _ e) (too_large _ f) = e ∙ sym f
  one_sights_reply ring one other (too_large large e) (sighted small f) = absurd (large small)
  one_sights_reply ring one other (sighted small e) (too_large large f) = absurd (large small)
  one_sights_reply ring one other (sighted _ h) (sighted _ g) = one_told reply.Sights _ (one_sights ring) one other h g

-- ---- a command

one_inside_of : (before : State) (p : Point) (one other : Reply) → IsReply before (command.Inside p) one → IsReply before (command.Inside p) other → one ≡ other
one_inside_of before p one other =
    one_of Same same before.version before.kept (command.Inside p) one other (λ k. one_told reply.Place _ (one_place k.ring p) one other)

one_check_of : (before : State) (points : List Point) (one other : Reply) → IsReply before (command.Check points) one
    → IsReply before (command.Check points) other → one ≡ other
one_check_of before points one other =
    one_of Same same before.version before.kept (command.Check points) one other (λ k. one_told reply.Verdict _ (one_verdict k.ring points) one other)

one_tree_of : (before : State) (s : Point) (one other : Reply) → IsReply before (command.Tree s) one → IsReply before (command.Tree s) other → one ≡ other
one_tree_of before s one other =
    one_of Same same before.version before.kept (command.Tree s) one other
    (λ k. one_within Same same k.ring (s ∷ []) _ (one_told reply.Tree _ (one_befores k.ring s)) one other)

one_hull_of : (before : State) (points : List Point) (one other : Reply) → IsReply before (command.Hull points) one
    → IsReply before (command.Hull points) other → one ≡ other
one_hull_of before points one other =
    one_of Same same before.version before.kept (command.Hull points) one other
    (λ k. one_within Same same k.ring points _ (one_told reply.Hull _ (one_hull before.version k.ring points)) one other)

one_round_of : (before : State) (points : List Point) (one other : Reply) → IsReply before (command.Round points) one
    → IsReply before (command.Round points) other → one ≡ other
one_round_of before points one other =
    one_of Same same before.version before.kept (command.Round points) one other
    (λ k. one_within Same same k.ring points _ (one_told reply.Round _ (one_numbers k.ring points)) one other)

-- the lines of a tree, of guards and of sights take no steps, whatever they are,
pub quiet_tree : (version : Version) (kept : Option Kept) (s : Point) (answered : Reply) → IsReplyOf version kept (command.Tree s) answered
    → written_steps answered ≡ 0
quiet_tree version None s answered e = ap written_steps e
quiet_tree version (Some kept) s answered (outside fault h e) = ap written_steps e
quiet_tree version (Some kept) s answered (within all h) = ap written_steps h.told

quiet_guards : (version : Version) (kept : Option Kept) (answered : Reply) → IsReplyOf version kept command.Guards answered → written_steps answered ≡ 0
quiet_guards version None answered e = ap written_steps e
quiet_guards version (Some kept) answered h = ap written_steps h.told

pub quiet_sights : (version : Version) (kept : Option Kept) (answered : Reply) → IsReplyOf version kept command.Sights answered → written_steps answered ≡ 0
quiet_sights version None answered e = ap written_steps e
quiet_sights version (Some kept) answered (too_large _ e) = ap written_steps e
quiet_sights version (Some kept) answered (sighted _ h) = ap written_steps h.told

-- and those of two replies to one command as many
pub same_written : (before : State) (asked : Command) (one other : Reply) → IsReply before asked one → IsReply before asked other
    → written_steps one ≡ written_steps other
same_written before command.Two one other h g = ap written_steps (h ∙ sym g)
same_written before (command.Polygon ring) one other h g = ap written_steps (one_polygon ring one other h g)
same_written before (command.Inside p) one other h g = ap written_steps (one_inside_of before p one other h g)
same_written before (command.Check points) one other h g = ap written_steps (one_check_of before points one other h g)
same_written before (command.Path s t) one other h g = ap written_steps (one_path_of before s t one other h g)
same_written before (command.Tree s) one other h g = ap written_steps (one_tree_of before s one other h g)
same_written before (command.Reach t) one other h g = ap written_steps (one_reach_of before t one other h g)
same_written before (command.See q) one other h g = (one_view_of before q one other h g).1
same_written before command.Kernel one other h g = (one_kernel_of before one other h g).1
same_written before (command.Hull points) one other h g = ap written_steps (one_hull_of before points one other h g)
same_written before (command.Round points) one other h g = ap written_steps (one_round_of before points one other h g)
same_written before command.Guards one other h g =
    quiet_guards before.version before.kept one h ∙ sym (quiet_guards before.version before.kept other g)
same_written before (command.Pair i j) one other h g = ap written_steps (one_pair_of before i j one other h g)
same_written before command.Sights one other h g =
    quiet_sights before.version before.kept one h ∙ sym (quiet_sights before.version before.kept other g)

-- the same reply has one text and leaves one state
alike : (before : State) (asked : Command) (one other : Reply) → one ≡ other
    → (reply_text one ≡ reply_text other) × (state_after before asked one ≡ state_after before asked other)
alike before asked one other e = (ap reply_text e, ap (state_after before asked) e)

module _ (one_guards : OneGuardsLaw) (one_sights : OneSightsLaw) where
  pub one_reply : OneReplyLaw
  one_reply before command.Two one other h g = alike before command.Two one other (h ∙ sym g)
  one_reply before (command.Polygon ring) one other h g = alike before (command.Polygon ring) one other (one_polygon ring one other h g)
  one_reply before (command.Inside p) one other h g = alike before (command.Inside p) one other (one_inside_of before p one other h g)
  one_reply before (command.Check points) one other h g = alike before (command.Check points) one other (one_check_of before points one other h g)
  one_reply before (command.Path s t) one other h g = alike before (command.Path s t) one other (one_path_of before s t one other h g)
  one_reply before (command.Tree s) one other h g = alike before (command.Tree s) one other (one_tree_of before s one other h g)
  one_reply before (command.Reach t) one other h g = alike before (command.Reach t) one other (one_reach_of before t one other h g)
  one_reply before (command.See q) one other h g = ((one_view_of before q one other h g).0, refl)
  one_reply before command.Kernel one other h g = ((one_kernel_of before one other h g).0, refl)
  one_reply before (command.Hull points) one other h g = alike before (command.Hull points) one other (one_hull_of before points one other h g)
  one_reply before (command.Round points) one other h g = alike before (command.Round points) one other (one_round_of before points one other h g)
  one_reply before command.Guards one other h g =
      alike before command.Guards one other
      (one_of Same same before.version before.kept command.Guards one other (λ k. one_told reply.Guards _ (one_guarding one_guards k.ring) one other) h g)
  one_reply before (command.Pair i j) one other h g =
      alike before (command.Pair i j) one other (one_pair_of before i j one other h g)
  one_reply before command.Sights one other h g =
      alike before command.Sights one other
      (one_of Same same before.version before.kept command.Sights one other (λ k. one_sights_reply one_sights k.ring one other) h g)
