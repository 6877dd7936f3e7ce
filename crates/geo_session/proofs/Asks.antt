-- What commands are answered, with what changes.
use Rattle.std.proofs.Common.{◌≡◌, Box, Global, inl, inr, refl, ap, ap₂, true, false, ℕ, ℤ, List, length, Ok, Err}
use Rattle.std.specs.Prelude.{Option, Some, None}
use Rattle.plane.specs.Point.{Point, whole}
use Rattle.rings.proofs.Simple.{no_least_clash}
use Rattle.rings.specs.Inside.{IsIn}
use Rattle.rings.specs.Ring.{vertex}
use Rattle.rings.specs.Simple.{IsLeastClash, IsSimple}
use Rattle.ring_check.specs.Oriented.{given_of}
use Rattle.geo_text.specs.declared.command.Bad.{Bad}
use Rattle.geo_text.specs.declared.command.Bad.TheVariants as bad
use Rattle.geo_text.specs.declared.command.Command.{Command}
use Rattle.geo_text.specs.declared.command.Command.TheVariants as command
use Rattle.geo_text.specs.declared.version.Version.{Version}
use Rattle.geo_text.specs.declared.word.Word.TheVariants as word
use Rattle.pair_cut.specs.Pairs.{IsMadeFor}
use Rattle.geo_reply.specs.declared.reply.Before.{Before}
use Rattle.geo_reply.specs.declared.reply.Reply.{Reply}
use Rattle.geo_reply.specs.declared.reply.Reply.TheVariants as reply
use Rattle.geo_session.proofs.Within.{one_in, one_out}
use Rattle.geo_session.specs.Asking.{AreAsked, IsAskedOf, IsPlain}
use Rattle.geo_session.specs.Held.{HeldRing, IsTreeOf, kept_in}
use Rattle.geo_session.specs.Pairs.{IsPairReply, IsSmall, first_off, joined, second_off, too_large, too_many}
use Rattle.geo_session.specs.Path.{TellsPath}
use Rattle.geo_session.specs.Polygon.{accepted, clashing}
use Rattle.geo_session.specs.Reply.{IsReplyIn}
use Rattle.geo_session.specs.Prepared.{TellsPair}
use Rattle.geo_session.specs.Tree.{AreFrom}
use Rattle.geo_session.specs.declared.ask.Asked.{Asked}
use Rattle.geo_session.specs.declared.ask.Change.TheVariants as change
use Rattle.geo_session.specs.declared.grown.Grown.{Grown}
use Rattle.geo_session.specs.declared.held.Held.{Held}

-- a reply that changes nothing
abbrev pub still : Reply → Asked
still answered = record { reply = answered; change = change.Nothing }

-- version 2 is begun
pub begun : (version : Version) (held : Option HeldRing) → IsAskedOf version held command.Two (record { reply = reply.Number word.Two 2; change = change.Two })
begun version held = record { is_reply = refl; suits = tt; state = refl; prepared = refl }

-- what changes nothing is answered so
pub plain : (version : Version) (held : HeldRing) (asked : Command) (answered : Reply) → IsPlain asked → IsReplyIn version (kept_in held) asked answered
    → IsAskedOf version (Some held) asked (still answered)
plain version held command.Two answered not h = absurd not
plain version held (command.Polygon ring) answered not h = absurd not
plain version held (command.Tree s) answered not h = absurd not
plain version held (command.Pair i j) answered not h = absurd not
plain version held command.Sights answered not h = absurd not
plain version held _ answered is h = record { is_reply = h; suits = tt; state = refl; prepared = refl }

-- ---- a polygon

module _ (version : Version) (held : Option HeldRing) (ring : List Point) where
  -- it is taken, with no tree and no table,
  pub taken : (new : Box Held Global) (count : ℕ) → IsSimple ring → count ≡ length ring → given_of new.value.ring ≡ ring → new.value.source ≡ None
      → new.value.prepared ≡ false → IsAskedOf version held (command.Polygon ring) (record { reply = reply.Number word.Polygon count; change = change.Polygon new })
  taken new count simple counted same none not = record {
    is_reply = accepted simple (ap (reply.Number word.Polygon) counted);
    suits = tt;
    state = ap₂ (λ (points : List Point) (source : Option Point).
        record { version = version; kept = Some (record { ring = points; source = source }) }) same none;
    prepared = record { accepted = λ _. not; refused = λ wrong. absurd (wrong simple) };
  }

  -- or refused
  pub clash : (i j : ℕ) → IsLeastClash ring i j → IsAskedOf version held (command.Polygon ring) (still (reply.Refused (bad.Clash i j)))
  clash i j least = record {
    is_reply = clashing i j least refl;
    suits = tt;
    state = refl;
    prepared = record { accepted = λ simple. absurd (no_least_clash ring i j simple least); refused = λ _. refl };
  }

-- ---- a tree

module _ (version : Version) (held : HeldRing) (s : Point) where
  -- is refused where its source is not in the polygon,
  pub tree_refused : (fault : Bad) → ¬ IsIn (given_of held.ring) (whole s) → fault ≡ bad.Outside 1
      → IsAskedOf version (Some held) (command.Tree s) (still (reply.Refused fault))
  tree_refused fault out is = record {
    is_reply = one_out (given_of held.ring) _ s fault out is;
    suits = tt;
    state = refl;
    prepared = refl;
  }

  -- or kept
  pub tree_kept : (grown : Grown) (befores : List Before) → IsIn (given_of held.ring) (whole s) → grown.source ≡ s
      → IsTreeOf held.ring.corners held.tris grown → AreFrom (given_of held.ring) s befores
      → IsAskedOf version (Some held) (command.Tree s) (record { reply = reply.Tree befores; change = change.Tree grown })
  tree_kept grown befores inside same tree from = record {
    is_reply = one_in (given_of held.ring) _ s (reply.Tree befores) inside (record { value = befores; holds = from; told = refl });
    suits = tree;
    state = ap (λ (p : Point). record { version = version; kept = Some (record { ring = given_of held.ring; source = Some p }) }) same;
    prepared = refl;
  }

-- ---- pairs of vertices

module _ (version : Version) (held : HeldRing) (i j : ℤ) where
  pub pair_refused : (fault : Bad) → AreAsked (given_of held.ring) i j (Err fault)
      → IsAskedOf version (Some held) (command.Pair i j) (still (reply.Refused fault))
  pair_refused fault is = record {
    is_reply = why fault is;
    suits = tt;
    state = refl;
    prepared = record { told = λ told. absurd (not_told fault is told); refused = λ _. refl };
  }
    where
      why : (fault : Bad) → AreAsked (given_of held.ring) i j (Err fault) → IsPairReply version (given_of held.ring) i j (reply.Refused fault)
      why fault (inl h) = too_many h.0 (ap reply.Refused h.1)
      why fault (inr (inl h)) = first_off h.0 h.1 (ap reply.Refused h.2)
      why fault (inr (inr h)) = second_off h.0 h.1 h.2 (ap reply.Refused h.3)

      not_told : (fault : Bad) → AreAsked (given_of held.ring) i j (Err fault) → ¬ TellsPair (Some (kept_in held)) i j
      not_told fault (inl h) told = h.0 told.0
      not_told fault (inr (inl h)) told = h.1 told.1
      not_told fault (inr (inr h)) told = h.2 told.2

  module _ (pair : ℕ × ℕ) (answered : Reply) (is : AreAsked (given_of held.ring) i j (Ok pair))
      (told : TellsPath version (given_of held.ring) (vertex (given_of held.ring) pair.0) (vertex (given_of held.ring) pair.1) answered) where
    joins : IsPairReply version (given_of held.ring) i j answered
    joins = joined is.0 pair.0 pair.1 is.1 is.2 told

    -- with the table that is there,
    pub pair_told : held.prepared ≡ true → IsAskedOf version (Some held) (command.Pair i j) (still answered)
    pair_told there = record {
      is_reply = joins;
      suits = tt;
      state = refl;
      prepared = record { told = λ _. there; refused = λ wrong. absurd (wrong (is.0, (pair.0, is.1), (pair.1, is.2))) };
    }

    -- or a new one
    pub pair_made : (table : List (List ℕ)) → IsMadeFor held.ring.corners table
        → IsAskedOf version (Some held) (command.Pair i j) (record { reply = answered; change = change.Table table })
    pair_made table made = record {
      is_reply = joins;
      suits = made;
      state = refl;
      prepared = record { told = λ _. refl; refused = λ wrong. absurd (wrong (is.0, (pair.0, is.1), (pair.1, is.2))) };
    }

module _ (version : Version) (held : HeldRing) where
  pub sights_refused : ¬ IsSmall (given_of held.ring) → IsAskedOf version (Some held) command.Sights (still (reply.Refused bad.Large))
  sights_refused large = record {
    is_reply = too_large large refl;
    suits = tt;
    state = refl;
    prepared = record { told = λ small. absurd (large small); refused = λ _. refl };
  }
