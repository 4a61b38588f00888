-- What the closing of several handles together leaves, and when it is refused.
use Rattle.std.specs.Prelude.{◌≡◌, ℕ, ◌<◌, ◌≤◌, ◌⊎◌, true, false, Option, IfSome, List, [], ◌∷◌, length, map, vec_capacity}
use Rattle.std.specs.List.{AllByRecursion, list_all}
use Rattle.rht_policy.specs.declared.mix.Lookup3.{Lookup3}
use Rattle.rht_policy.specs.declared.mix.Low.{Low}
use Rattle.rht_policy.specs.Mix.{final_mix, low_mix}
use Rattle.rht_model.specs.declared.bindings.Closed.{Closed}
use Rattle.rht_run.specs.declared.table.Table.{Table}
use Rattle.rht_run.specs.Passes.{IsClosedWith}
use Rattle.rht_run.specs.ClosingSpaces.{IsSpaceFor}
use Rattle.rht_session.specs.declared.shared.Shared.{Shared}
use Rattle.rht_session.specs.declared.session.Session.{Session}
use Rattle.rht_session.specs.declared.session.Session.TheVariants as sessions
use Rattle.rht_session.specs.declared.handle.Handle.{Handle}
use Rattle.rht_session.specs.declared.closing.NotClosed.{NotClosed}
use Rattle.rht_session.specs.declared.closing.NotClosed.TheVariants as reasons
use Rattle.rht_session.specs.declared.closing.Rooms.{Rooms}
use Rattle.rht_session.specs.declared.closing.Rooms.TheVariants as rooms
use Rattle.rht_session.specs.Sessions.{table_of, is_free}
use Rattle.rht_session.specs.Handles.{sessions_of}

-- these handles have these sessions, each its own, and none is blank
abbrev pub HaveAll : List Handle → List Session → Type 0
HaveAll handles all = map sessions_of handles ≡ map (λ session. session ∷ []) all

-- two sessions share a table
abbrev pub ShareATable : Session → Session → Type 0
ShareATable (sessions.Mix one) (sessions.Mix other) = table_of one ≡ table_of other
ShareATable (sessions.Low one) (sessions.Low other) = table_of one ≡ table_of other
ShareATable (sessions.Mix one) (sessions.Low other) = ⊥
ShareATable (sessions.Low one) (sessions.Mix other) = ⊥

-- the first of these shares its table with each
abbrev pub ShareOneTable : List Session → Type 0
ShareOneTable [] = Unit {0}
ShareOneTable (first ∷ others) = AllByRecursion (ShareATable first) others

-- the sessions of these handles share one table, where none is blank
abbrev pub AreOfOneTable : List Handle → Type 0
AreOfOneTable handles = (all : List Session) → HaveAll handles all → ShareOneTable all

-- The table that these share is closed. What is listed is what its words say at the end of one run, in which the number of each of them
-- has what its pass has.
pub record IsClosedOver {M : Type 0} (mix : ℕ → ℕ → ℕ → ℕ) (kind : Shared M → Session) (all : List Session) (closed : Closed) : Type 0 where
  pub table : Table M
  pub shared : List (Shared M)
  pub all_are : all ≡ map kind shared
  pub one : AllByRecursion (λ s. table_of s ≡ table) shared
  pub with : IsClosedWith mix table.env (map (λ s. s.pass) shared) closed

-- the table of these sessions is closed, by the hash that it has
abbrev pub AreClosedWith : List Session → Closed → Type 0
AreClosedWith all closed = IsClosedOver final_mix sessions.Mix all closed ⊎ IsClosedOver low_mix sessions.Low all closed

-- these handles, one at least, had sessions in no call; and where a table was closed with that, it is theirs
abbrev pub HaveClosed : List Handle → Option Closed → Type 0
HaveClosed handles closed =
    (all : List Session) × (0 < length all) × HaveAll handles all × (list_all is_free all ≡ true) × IfSome closed (AreClosedWith all)

-- Why nothing was closed. Where there is no handle, or one of them is blank, that is the reason. Several tables are found only among
-- several handles. Memory may be refused before it is looked whether one of them is in a call.
abbrev pub IsWhyNotClosed : List Handle → NotClosed → Type 0
IsWhyNotClosed handles reasons.NotOpen = (all : List Session) → HaveAll handles all → 0 < length all → ⊥
IsWhyNotClosed handles reasons.TwoTables = (all : List Session) × (1 < length all) × HaveAll handles all
IsWhyNotClosed handles reasons.InCall =
    (all : List Session) × (0 < length all) × HaveAll handles all × (list_all is_free all ≡ false)
IsWhyNotClosed handles reasons.Memory = (all : List Session) × (0 < length all) × HaveAll handles all

-- why sessions were kept
abbrev pub IsWhyKept : List Session → NotClosed → Type 0
IsWhyKept all reasons.NotOpen = ⊥
IsWhyKept all reasons.TwoTables = 1 < length all
IsWhyKept all reasons.InCall = list_all is_free all ≡ false
IsWhyKept all reasons.Memory = Unit {0}

-- there is a place for the pass of each of these sessions, and space for the closing of the first one's table
abbrev pub AreRoomsFor : List Session → Rooms → Type 0
AreRoomsFor all (rooms.Mix passes space) =
    (passes.items ≡ []) × (length all ≤ vec_capacity passes)
    × (first : Shared Lookup3) × (others : List Session) × (all ≡ sessions.Mix first ∷ others)
    × IsSpaceFor (table_of first).env.geometry space
AreRoomsFor all (rooms.Low passes space) =
    (passes.items ≡ []) × (length all ≤ vec_capacity passes)
    × (first : Shared Low) × (others : List Session) × (all ≡ sessions.Low first ∷ others)
    × IsSpaceFor (table_of first).env.geometry space
