-- What an address owns: nothing, or what a box with its session does.
use base.Fml.{Fml, ftrue}
use Rattle.std.specs.Coded.{Coded, coded_list}
use denote.RawPtr.{Ptr}
use Rattle.std.specs.Prelude.{ℕ, Bool, true, false, List, [], ◌∷◌}
use Rattle.std.specs.Box.Ownership.{box_owns}
use Rattle.std.specs.Global.{Global}
use Rattle.std_heap.specs.contracts.GlobalAllocator.TheImpl.{ghosts}
use Rattle.rht_session.specs.contracts.session.Session.{the_row}

abbrev pub sessions_coded : Coded (List the_row.Denot)
sessions_coded = coded_list the_row.coded

-- with one session it owns that one
abbrev pub address_owns : Global → Ptr → List the_row.Denot → Fml
address_owns alloc at [] = ftrue
address_owns alloc at (session ∷ others) = box_owns (ghosts.dealloc_token alloc) the_row at session

-- one where this is so, and otherwise none
abbrev pub one_if : Bool → ℕ
one_if true = 1
one_if false = 0

-- whether there is a session
abbrev pub is_some : {A : Type 0} → List A → Bool
is_some [] = false
is_some (item ∷ others) = true
