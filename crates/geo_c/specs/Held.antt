-- What a handle owns, and the talk and the reply that it stands for. This project's own.
use Rattle.std.specs.Prelude.{Option, None, Some}
use base.Fml.{Fml, ftrue, ffalse}
use denote.RawPtr.{Ptr, block_ptr, null_ptr}
use Rattle.std.specs.declared.alloc.Global.{Global}
use Rattle.std.specs.contracts.impls.GlobalAllocator.TheImpl.{ghosts}
use Rattle.std_alloc.specs.Box.Ownership.{box_owns}
use Rattle.geo_text.specs.declared.command.Bad.TheVariants as bad
use Rattle.geo_reply.specs.declared.reply.Reply.{Reply}
use Rattle.geo_reply.specs.declared.reply.Reply.TheVariants as reply
use Rattle.geo_script.specs.Dialog.{Talk, first_talk}
use Rattle.geo_c.specs.declared.desk.Desk.{Desk}
use Rattle.geo_c.specs.contracts.desk.Desk.{the_row}

-- nothing at null, and else the box of a desk
abbrev pub held_at : Global → Ptr → Option Desk → Fml
held_at alloc null_ptr None = ftrue
held_at alloc null_ptr (Some desk) = ffalse
held_at alloc (block_ptr b o) None = ffalse
held_at alloc (block_ptr b o) (Some desk) = box_owns (ghosts.dealloc_token alloc) the_row (block_ptr b o) desk

-- nothing stands for a talk of which nothing was said yet
abbrev pub talk_of : Option Desk → Talk
talk_of None = first_talk
talk_of (Some desk) = desk.dialog

-- the reply to the last record that was asked in numbers; before the first one it is that there is no polygon
abbrev pub last_reply : Option Desk → Reply
last_reply None = reply.Refused bad.NoPolygon
last_reply (Some desk) = desk.reply
