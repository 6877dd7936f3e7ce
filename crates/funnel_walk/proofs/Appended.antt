-- What comes to the given names at the end of a walk.
use Rattle.std.proofs.Common.{◌≡◌, sym, ap, ◌∙◌, ℕ, ◌-◌, min, List, [], ◌∷◌, ◌++◌, take, drop}
use Rattle.std.proofs.lemmas.List.{append_assoc, take-append-drop}
use Rattle.exact_plane.specs.declared.turns.Spot.{Spot}
use Rattle.funnel_walk.proofs.Closed.{names_on_way}
use Rattle.funnel_walk.specs.Names.{left_names, right_names}

-- the names on the way after those of the first list,
pub way_appended : (first out out' names : List Spot) (given a h apex : ℕ) → out' ≡ out ++ left_names names a (a - h) → take given out ≡ first
    → apex ≡ min a h → out' ++ right_names names apex (h - apex) ≡ first ++ names_on_way (drop given out) names a h
way_appended first out out' names given a h apex behind before apex_is =
    let rest = drop given out in
    let more = left_names names a (a - h) in
    let right = right_names names (min a h) (h - min a h) in
    ap (λ k. out' ++ right_names names k (h - k)) apex_is
    ∙ ap (λ ns. ns ++ right) behind
    ∙ ap (λ ns. (ns ++ more) ++ right) (sym (take-append-drop given out) ∙ ap (λ ns. ns ++ rest) before)
    ∙ ap (λ ns. ns ++ right) (append_assoc first rest more)
    ∙ append_assoc first (rest ++ more) right

-- and two names more
pub two_appended : (out first way : List Spot) (n last : Spot) → out ≡ first ++ way
    → (out ++ n ∷ []) ++ last ∷ [] ≡ first ++ ((way ++ n ∷ []) ++ last ∷ [])
two_appended out first way n last is =
    ap (λ ns. (ns ++ n ∷ []) ++ last ∷ []) is
    ∙ ap (λ ns. ns ++ last ∷ []) (append_assoc first way (n ∷ []))
    ∙ append_assoc first (way ++ n ∷ []) (last ∷ [])
