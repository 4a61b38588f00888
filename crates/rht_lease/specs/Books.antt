-- The book of leases that a worker keeps: what it is after each command, whichever reply that has; which leases a sweep ends; and which
-- calls of the table a command stands for. No call of the table is spoken of but by its name, and no reply but `Bound`.
use Rattle.std.specs.Prelude.{◌≡◌, ℕ, ◌&&◌, ◌==◌, nat_lt, not, if◌then◌else◌, Bool, false, List, [], ◌∷◌, ◌++◌, length, map, filter}
use Rattle.std.specs.List.{list_any}
use Rattle.rht_model.specs.declared.history.Call.{Call}
use Rattle.rht_model.specs.declared.history.Call.TheVariants.{Bind, Release}
use Rattle.rht_model.specs.declared.history.Reply.{Reply}
use Rattle.rht_model.specs.declared.history.Reply.TheVariants.{Bound, Exists, Found, Missing, Listed, Released, Absent, Rebound, TooBig, Again, Busy, NoTable, NoNode, Pending, Elsewhere, Walked, Moved, Idle, Clear, Counted}
use Rattle.rht_model.specs.Multimap.{Port}
use Rattle.rht_lease.specs.declared.lease.Lease.{Lease}
use Rattle.rht_lease.specs.declared.lease.LeaseCall.{LeaseCall}
use Rattle.rht_lease.specs.declared.lease.LeaseCall.TheVariants as asks
use Rattle.rht_lease.specs.declared.lease.LeaseReply.{LeaseReply}
use Rattle.rht_lease.specs.declared.lease.LeaseReply.TheVariants as answers

-- a book's leases, in their order, and how many it may have
pub record LeaseBook : Type 0 where
  pub leases : List Lease
  pub capacity : ℕ

-- a book of so many leases at most, which has none
abbrev pub empty_book : ℕ → LeaseBook
empty_book capacity = record { leases = []; capacity = capacity }

-- the same book with these leases
abbrev pub with_leases : LeaseBook → List Lease → LeaseBook
with_leases book leases = record { leases = leases; capacity = book.capacity }

-- the book has as many leases as it may have
abbrev pub IsFull : LeaseBook → Type 0
IsFull book = length book.leases ≡ book.capacity

-- ---- leases

-- the lease of a port to an owner with this last tick
abbrev pub lease_of : Port → ℕ → ℕ → Lease
lease_of port owner last = record { port = port; owner = owner; last = last }

-- it is one of this port and this owner
abbrev pub is_lease_of : Port → ℕ → Lease → Bool
is_lease_of port owner lease = lease.port == port && lease.owner == owner

-- there is one among these
abbrev pub has_lease : Port → ℕ → List Lease → Bool
has_lease port owner leases = list_any (is_lease_of port owner) leases

-- the lease has ended at this moment: that is later than its last tick
abbrev pub is_ended : ℕ → Lease → Bool
is_ended now lease = nat_lt lease.last now

-- ---- what the book is after a command

-- the first lease of the port and the owner has this last tick
abbrev pub renewed : Port → ℕ → ℕ → List Lease → List Lease
renewed port owner last [] = []
renewed port owner last (lease ∷ leases) =
    if is_lease_of port owner lease then lease_of port owner last ∷ leases else lease ∷ renewed port owner last leases

-- the first lease of the port and the owner was taken out
abbrev pub cancelled : Port → ℕ → List Lease → List Lease
cancelled port owner [] = []
cancelled port owner (lease ∷ leases) =
    if is_lease_of port owner lease then leases else lease ∷ cancelled port owner leases

-- the leases that haven't ended at this moment, in their order
abbrev pub lasting : ℕ → List Lease → List Lease
lasting now leases = filter (λ lease. not (is_ended now lease)) leases

-- the bind of a lease was answered so: it is kept, as the last one, where the port is bound now, and not where the bind was refused or the
-- port was bound before
abbrev pub leased : List Lease → Lease → Reply → List Lease
leased leases lease (Bound kick) = leases ++ lease ∷ []
leased leases lease (Exists owner) = leases
leased leases lease (Found owner) = leases
leased leases lease Missing = leases
leased leases lease (Listed len) = leases
leased leases lease (Released kick) = leases
leased leases lease Absent = leases
leased leases lease Rebound = leases
leased leases lease (TooBig count) = leases
leased leases lease (Again table) = leases
leased leases lease (Busy root last) = leases
leased leases lease (NoTable size) = leases
leased leases lease NoNode = leases
leased leases lease (Pending caller section) = leases
leased leases lease Elsewhere = leases
leased leases lease (Walked len next) = leases
leased leases lease (Moved again) = leases
leased leases lease Idle = leases
leased leases lease (Clear returned) = leases
leased leases lease (Counted count) = leases

-- the same by what the command is answered
abbrev pub leased_by : List Lease → Lease → LeaseReply → List Lease
leased_by leases lease (answers.Plain reply) = leased leases lease reply
leased_by leases lease answers.Renewed = leases
leased_by leases lease answers.NoLease = leases
leased_by leases lease (answers.Swept swept) = leases

-- what the book is after a command that is answered so
abbrev pub book_after : List Lease → LeaseCall → LeaseReply → List Lease
book_after leases (asks.Plain call) answer = leases
book_after leases (asks.Lease lease) answer = leased_by leases lease answer
book_after leases (asks.Renew lease) answer = renewed lease.port lease.owner lease.last leases
book_after leases (asks.Cancel port owner) answer = cancelled port owner leases
book_after leases (asks.Sweep now) answer = lasting now leases

-- ---- the calls that a command stands for

-- the release of a lease's port by its owner
abbrev pub release_of : Lease → Call
release_of lease = Release lease.port lease.owner

-- the releases of a sweep: one for each lease that has ended, in the order of the book
abbrev pub sweep_calls : ℕ → List Lease → List Call
sweep_calls now leases = map release_of (filter (is_ended now) leases)

-- the release of a cancel, where the book has its lease
abbrev pub cancel_calls : Port → ℕ → List Lease → List Call
cancel_calls port owner leases = if has_lease port owner leases then Release port owner ∷ [] else []

-- the calls that a command stands for where this is the book
abbrev pub calls_for : List Lease → LeaseCall → List Call
calls_for leases (asks.Plain call) = call ∷ []
calls_for leases (asks.Lease lease) = Bind lease.port lease.owner false ∷ []
calls_for leases (asks.Renew lease) = []
calls_for leases (asks.Cancel port owner) = cancel_calls port owner leases
calls_for leases (asks.Sweep now) = sweep_calls now leases
