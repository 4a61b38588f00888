-- An address goes to another thread where its session may.
use mathlib.Core.List.{List, [], ◌∷◌}
use mir.Raw.{raw}
use base.Shift.{Keyless}
use denote.Memory.{lone}
use denote.RawPtr.{Ptr}
use denote.Struct.Struct.{exits_of}
use denote.Struct.Owning.{shape, fields, to}
use denote.Param.Send.{IsSend, AllSend, owning_send, struct_send, sendable}
use Rattle.std.specs.Global.{Global}
use Rattle.std.proofs.Crossing as heap
use Rattle.std_alloc.proofs.SendSync.{quiet, lies}
use Rattle.std_heap.proofs.Global.TheSendSync as handle
use Rattle.rht_session.specs.contracts.session.Session as Session
use Rattle.rht_session.specs.Held.{address_owns}
use Rattle.rht_session.proofs.session.Session.TheSendSync.{the_send as session}
use Rattle.rht_session.specs.contracts.address.Address.{the_row, the_type}

-- what it owns beside its fields
crosses : (alloc : Global) (at : Ptr) (sessions : List (Session.the_row).Denot) → Keyless (address_owns alloc at sessions)
crosses alloc at [] = tt
crosses alloc at (one ∷ others) = (lies Session.the_row session at one, heap.frees.frees alloc (raw (lone (Session.the_row).mir)) at)

pub send : IsSend the_row
send =
    let all : AllSend (fields the_type) = (search sendable, (handle.the_field_send, tt)) in
    owning_send the_type all (λ d. crosses d.alloc d.at d.sessions)
    (λ k. quiet (to the_type) (exits_of k (fields the_type)) ((struct_send (shape the_type) all).leaving k))
