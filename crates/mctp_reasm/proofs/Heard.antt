-- The packets that an inbox receives, by their encoded form.
use Rattle.std.proofs.Common.{◌≡◌, ◌∙◌, ◌<◌, ◌≤◌, ℕ, Bool, true, false, length, Some, None, refl, ap}
use Rattle.mctp_wire.specs.declared.layout.Packet.{Packet}
use Rattle.mctp_wire.specs.declared.unit.Unit.{«Unit»}
use Rattle.mctp_wire.specs.Packet.{IsRead, spelling}
use Rattle.mctp_wire.specs.Units.{bytes_of}
use Rattle.mctp_wire.proofs.Spelled.{spelling_fits, spelling_long}
use Rattle.mctp_reasm.specs.Inboxes.{for_end, is_for, packet_for}
use Rattle.mctp_reasm.specs.Pieces.{packet_of}

pub heard_long : (u : «Unit») (own peer : ℕ) (to : Bool) (p : Packet) → IsRead p → bytes_of u < length p.body.now → packet_for u own peer to (spelling p) ≡ None
heard_long u own peer to p r long = ap (for_end own peer to) (spelling_long u p r long)

pub heard_mine : (u : «Unit») (own peer : ℕ) (to : Bool) (p : Packet) → IsRead p → length p.body.now ≤ bytes_of u → is_for own peer to p.head ≡ true
    → packet_for u own peer to (spelling p) ≡ Some (packet_of p.head p.body.now)
heard_mine u own peer to p r fits mine = ap (for_end own peer to) (spelling_fits u p r fits) ∙ rw mine refl

pub heard_other : (u : «Unit») (own peer : ℕ) (to : Bool) (p : Packet) → IsRead p → length p.body.now ≤ bytes_of u → is_for own peer to p.head ≡ false
    → packet_for u own peer to (spelling p) ≡ None
heard_other u own peer to p r fits other = ap (for_end own peer to) (spelling_fits u p r fits) ∙ rw other refl

pub ruleset heard = (heard_long, heard_mine, heard_other)
