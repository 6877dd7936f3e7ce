-- Pairs of points that have their paths in the buffers of a call.
use Rattle.std.proofs.Common.{◌≡◌, refl, sym, ap, subst, ◌∙◌, ℕ, zero, suc, ◌+◌, ◌-◌, List, [], ◌∷◌, ◌++◌, length, ◌<◌, ◌≤◌, slice_set, slice_index_or, Some, None, inl, inr, add-one, append-nil, arith}
use Rattle.std.proofs.lemmas.List.{length-append, length-drop, take-append-drop, take_all}
use Rattle.std.proofs.lemmas.List.Concat.{flat_map-append}
use Rattle.std.proofs.Math.ListN.{drop_of_length-le}
use Rattle.std.proofs.Math.Seq.{drop-cons}
use borrow.Rule.Slice.PartMut.{put_mid}
use Rattle.std.specs.List.{flat_map}
use Rattle.std.specs.Prelude.{Result, Vec, take, drop}
use Rattle.std.specs.declared.alloc.Global.{Global}
use Rattle.plane.specs.Point.{Point}
use Rattle.geo_text.specs.declared.command.Bad.{Bad}
use Rattle.geo_script.specs.Dialog.{Talk}
use Rattle.geo_c.specs.Filled.{filled_by}
use Rattle.geo_c.specs.Many.{ArePathsTold, Buffers, IsPathFound, path_length, path_points, path_status}
use Rattle.geo_c.specs.Room.{IsPathPut}
use Rattle.geo_c.specs.Told.{TellsResult}
use Rattle.geo_c.specs.declared.status.TheConstants.{MEMORY, OK}
use Rattle.geo_c.proofs.Behind.{all_zip_more, length_filled, none_filled, one_mapped, some_behind}

-- the rest of the points, from a place on
abbrev pub rest_of : ℕ → List Point → List Point
rest_of used points = take (length points - used) (drop used points)

-- the points with another rest
abbrev pub with_rest : ℕ → List Point → List Point → List Point
with_rest used points rest = put_mid used (length points - used) points rest

rest_is : (used : ℕ) (points : List Point) → rest_of used points ≡ drop used points
rest_is used points = take_all (length points - used) (drop used points) (omega (arith, length-drop used points))

with_rest_is : (used : ℕ) (points rest : List Point) → with_rest used points rest ≡ take used points ++ rest
with_rest_is used points rest =
    let after : drop (length points - used) (drop used points) ≡ [] = drop_of_length-le (drop used points) (omega (arith, length-drop used points)) in
    ap (λ (ps : List Point). take used points ++ (rest ++ ps)) after ∙ ap (λ (ps : List Point). take used points ++ ps) (append-nil rest)

-- the first pairs have their paths, which use up this many points
pub record AreToldSoFar (talk : Talk) (pairs : List (Point × Point)) (done used : ℕ) (before after : Buffers) : Type 0 where
  pub told : ArePathsTold talk pairs MEMORY done before after
  pub used_up : used ≡ length (flat_map path_points told.founds)

not_ok : MEMORY ≡ OK → ⊥
not_ok same = omega (arith, same)

-- none has one yet
pub no_paths : (talk : Talk) (pairs : List (Point × Point)) (before : Buffers) → AreToldSoFar talk pairs 0 0 before before
no_paths talk pairs before = record {
  told = record {
    founds = [];
    many = refl;
    hold = tt;
    fit = omega arith;
    points_told = none_filled before.points;
    statuses_told = none_filled before.statuses;
    lengths_told = none_filled before.lengths;
    ended = λ same. absurd (not_ok same);
  };
  used_up = refl;
}

no_points : (founds : List (Result (Vec Point Global) Bad)) → length founds ≡ 0 → length (flat_map path_points founds) ≡ 0
no_points [] none = refl
no_points (found ∷ founds) none = absurd (omega (arith, none))

-- then no point is used up
pub none_used : (talk : Talk) (pairs : List (Point × Point)) (used : ℕ) (before now : Buffers) → AreToldSoFar talk pairs 0 used before now → used ≡ 0
none_used talk pairs used before now so_far = so_far.used_up ∙ no_points so_far.told.founds so_far.told.many

-- the room that is left
room_left : (talk : Talk) (pairs : List (Point × Point)) (k used : ℕ) (before now : Buffers) (rest : List Point) → AreToldSoFar talk pairs k used before now
    → rest ≡ drop used now.points → length rest ≡ length before.points - used
room_left talk pairs k used before now rest so_far is =
    ap length is ∙ length-drop used now.points ∙ ap (λ (n : ℕ). n - used) (ap length so_far.told.points_told ∙ length_filled (flat_map path_points so_far.told.founds) before.points)

-- one more has its path
one_path_at : (talk talk' : Talk) (pairs : List (Point × Point)) (before now : Buffers) (k used : ℕ) (ends : Point × Point) (told : ℕ × ℕ) (rest rest' : List Point)
    → k < length before.statuses → k < length before.lengths → k < length pairs → ends ≡ slice_index_or pairs k ends → talk' ≡ talk
    → AreToldSoFar talk pairs k used before now → rest ≡ drop used now.points → TellsResult (IsPathFound talk' ends) (IsPathPut (Some told) rest rest')
    → AreToldSoFar talk pairs (k + 1) (used + told.1) before
    (record { points = take used now.points ++ rest'; statuses = slice_set now.statuses k told.0; lengths = slice_set now.lengths k told.1 })
one_path_at talk talk' pairs before now k used ends told rest rest' fits fits' few is same so_far is_rest one =
    let all = so_far.told in
    let founds = all.founds ++ one.found ∷ [] in
    let first = flat_map path_points all.founds in
    let items = path_points one.found in
    let holds : IsPathFound talk ends one.found = subst (λ t. IsPathFound t ends one.found) same one.holds in
    let put = one.given in
    let room = room_left talk pairs k used before now rest so_far is_rest in
    let joined : flat_map path_points founds ≡ first ++ items = flat_map-append path_points all.founds (one.found ∷ []) ∙ ap (λ (ps : List Point). first ++ ps) (append-nil items) in
    let long : length (flat_map path_points founds) ≡ used + told.1 = ap length joined ∙ length-append first items ∙ omega (arith, so_far.used_up, put.1) in
    let put_behind = some_behind first items before.points all.fit in
    let is_points : now.points ≡ filled_by first before.points = all.points_told in
    let is_put : rest' ≡ filled_by items rest = put.3 in
    let is_used = so_far.used_up in
    let parts : take used now.points ++ rest' ≡ take (length first) (filled_by first before.points) ++ filled_by items (drop (length first) (filled_by first before.points)) = cc in
    record {
      told = record {
        founds = founds;
        many = length-append all.founds (one.found ∷ []) ∙ ap (λ (n : ℕ). n + 1) all.many;
        hold = all_zip_more (IsPathFound talk) pairs all.founds k ends one.found few is all.hold holds;
        fit = omega (arith, long, room, put.1, put.2, so_far.used_up, all.fit);
        points_told = parts ∙ put_behind ∙ ap (λ (ps : List Point). filled_by ps before.points) (sym joined);
        statuses_told = one_mapped path_status all.founds one.found before.statuses now.statuses k told.0 all.many fits put.0 all.statuses_told;
        lengths_told = one_mapped path_length all.founds one.found before.lengths now.lengths k told.1 all.many fits' put.1 all.lengths_told;
        ended = λ ok. absurd (not_ok ok);
      };
      used_up = sym long;
    }

-- a part that stays leaves the whole
stays : (used : ℕ) (points rest rest' : List Point) → rest ≡ drop used points → rest' ≡ rest → take used points ++ rest' ≡ points
stays used points rest rest' is same = ap (λ (ps : List Point). take used points ++ ps) (same ∙ is) ∙ take-append-drop used points

-- where memory is wanted, they stay
still_told_at : (talk : Talk) (pairs : List (Point × Point)) (before now : Buffers) (k used : ℕ) (rest rest' : List Point) → AreToldSoFar talk pairs k used before now
    → rest ≡ drop used now.points → rest' ≡ rest
    → ArePathsTold talk pairs MEMORY k before (record { points = take used now.points ++ rest'; statuses = now.statuses; lengths = now.lengths })
still_told_at talk pairs before now k used rest rest' so_far is same =
    let all = so_far.told in record {
      founds = all.founds;
      many = all.many;
      hold = all.hold;
      fit = all.fit;
      points_told = stays used now.points rest rest' is same ∙ all.points_told;
      statuses_told = all.statuses_told;
      lengths_told = all.lengths_told;
      ended = λ ok. absurd (not_ok ok);
    }

-- the next one has no room
no_room_at : (talk talk' : Talk) (pairs : List (Point × Point)) (before now : Buffers) (k used : ℕ) (ends : Point × Point) (rest rest' : List Point)
    → k < length pairs → ends ≡ slice_index_or pairs k ends → talk' ≡ talk → AreToldSoFar talk pairs k used before now → rest ≡ drop used now.points
    → TellsResult (IsPathFound talk' ends) (IsPathPut None rest rest')
    → ArePathsTold talk pairs OK k before (record { points = take used now.points ++ rest'; statuses = now.statuses; lengths = now.lengths })
no_room_at talk talk' pairs before now k used ends rest rest' few is same so_far is_rest one =
    let all = so_far.told in
    let put = one.given in
    let room = room_left talk pairs k used before now rest so_far is_rest in
    let next : drop k pairs ≡ ends ∷ drop (k + 1) pairs = rw add-one (drop-cons pairs k ends few ∙ ap (λ (p : Point × Point). p ∷ drop (suc k) pairs) (sym is)) in
    record {
      founds = all.founds;
      many = all.many;
      hold = all.hold;
      fit = all.fit;
      points_told = stays used now.points rest rest' is_rest put.1 ∙ all.points_told;
      statuses_told = all.statuses_told;
      lengths_told = all.lengths_told;
      ended = λ _. inr (record {
        next = ends;
        later = drop (k + 1) pairs;
        comes = next;
        found = one.found;
        holds = subst (λ t. IsPathFound t ends one.found) same one.holds;
        too_long = omega (arith, room, put.0, so_far.used_up);
      });
    }

-- all have their paths
pub all_paths : (talk : Talk) (pairs : List (Point × Point)) (before now : Buffers) (k used : ℕ) → k ≡ length pairs → AreToldSoFar talk pairs k used before now
    → ArePathsTold talk pairs OK k before now
all_paths talk pairs before now k used ended so_far =
    let all = so_far.told in record {
      founds = all.founds;
      many = all.many;
      hold = all.hold;
      fit = all.fit;
      points_told = all.points_told;
      statuses_told = all.statuses_told;
      lengths_told = all.lengths_told;
      ended = λ _. inl ended;
    }

-- the same three in the words of the code
pub one_path : (talk talk' : Talk) (pairs : List (Point × Point)) (before now : Buffers) (k used : ℕ) (ends : Point × Point) (told : ℕ × ℕ) (rest' : List Point)
    → k < length before.statuses → k < length before.lengths → k < length pairs → ends ≡ slice_index_or pairs k ends → talk' ≡ talk
    → AreToldSoFar talk pairs k used before now → TellsResult (IsPathFound talk' ends) (IsPathPut (Some told) (rest_of used now.points) rest')
    → AreToldSoFar talk pairs (k + 1) (used + told.1) before
    (record { points = with_rest used now.points rest'; statuses = slice_set now.statuses k told.0; lengths = slice_set now.lengths k told.1 })
one_path talk talk' pairs before now k used ends told rest' fits fits' few is same so_far one =
    subst (λ (ps : List Point). AreToldSoFar talk pairs (k + 1) (used + told.1) before (record { points = ps; statuses = slice_set now.statuses k told.0; lengths = slice_set now.lengths k told.1 }))
    (sym (with_rest_is used now.points rest'))
    (one_path_at talk talk' pairs before now k used ends told (rest_of used now.points) rest' fits fits' few is same so_far (rest_is used now.points) one)

pub still_told : (talk : Talk) (pairs : List (Point × Point)) (before now : Buffers) (k used : ℕ) (rest' : List Point) → AreToldSoFar talk pairs k used before now
    → rest' ≡ rest_of used now.points
    → ArePathsTold talk pairs MEMORY k before (record { points = with_rest used now.points rest'; statuses = now.statuses; lengths = now.lengths })
still_told talk pairs before now k used rest' so_far same =
    subst (λ (ps : List Point). ArePathsTold talk pairs MEMORY k before (record { points = ps; statuses = now.statuses; lengths = now.lengths }))
    (sym (with_rest_is used now.points rest')) (still_told_at talk pairs before now k used (rest_of used now.points) rest' so_far (rest_is used now.points) same)

pub no_room : (talk talk' : Talk) (pairs : List (Point × Point)) (before now : Buffers) (k used : ℕ) (ends : Point × Point) (rest' : List Point)
    → k < length pairs → ends ≡ slice_index_or pairs k ends → talk' ≡ talk → AreToldSoFar talk pairs k used before now
    → TellsResult (IsPathFound talk' ends) (IsPathPut None (rest_of used now.points) rest')
    → ArePathsTold talk pairs OK k before (record { points = with_rest used now.points rest'; statuses = now.statuses; lengths = now.lengths })
no_room talk talk' pairs before now k used ends rest' few is same so_far one =
    subst (λ (ps : List Point). ArePathsTold talk pairs OK k before (record { points = ps; statuses = now.statuses; lengths = now.lengths }))
    (sym (with_rest_is used now.points rest')) (no_room_at talk talk' pairs before now k used ends (rest_of used now.points) rest' few is same so_far (rest_is used now.points) one)

-- where the rest is too short for a path that the whole has room for, one is told already
pub some_told : (talk : Talk) (pairs : List (Point × Point)) (before now : Buffers) (k used most : ℕ) → AreToldSoFar talk pairs k used before now
    → length (rest_of used now.points) < most → most ≤ length before.points → 0 < k
some_told talk pairs before now zero used most so_far short room =
    let none = none_used talk pairs used before now so_far in
    let left = room_left talk pairs zero used before now (rest_of used now.points) so_far (rest_is used now.points) in
    absurd (omega (arith, none, left, short, room))
some_told talk pairs before now (suc k) used most so_far short room = omega arith
