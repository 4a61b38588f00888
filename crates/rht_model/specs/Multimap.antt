-- What ports are bound to. It knows no bucket, no table and no word.
use Rattle.std.specs.Prelude.{◌≡◌, ℕ, ◌==◌, ◌<◌, ◌≤◌, nat_lt, if◌then◌else◌, Bool, List, [], length}

-- a port, which is a net and a number: its key word
abbrev pub Port : Type 0
Port = ℕ

-- the two are one port
abbrev pub same_port : Port → Port → Bool
same_port port other = port == other

-- ports are listed in this order: the first comes before the other
abbrev pub is_before : Port → Port → Bool
is_before port other = nat_lt port other

abbrev pub IsBefore : Port → Port → Type 0
IsBefore port other = port < other

-- the owners of each port, the first owner first; a port without owners isn't bound
abbrev pub Multimap : Type 0
Multimap = Port → List ℕ

-- nothing is bound
abbrev pub unbound : Multimap
unbound port = []

-- the same bindings: the same owners of each port
abbrev pub Agree : Multimap → Multimap → Type 0
Agree first second = (port : Port) → first port ≡ second port

-- these owners of one port, and of every other port the owners that it had
abbrev pub with_owners : Multimap → Port → List ℕ → Multimap
with_owners map port owners = λ other. if same_port other port then owners else map other

-- whether the port has an owner
abbrev pub is_bound : Multimap → Port → Bool
is_bound bindings port = nat_lt 0 (length (bindings port))

-- each port has at most one owner
abbrev pub IsSingle : Multimap → Type 0
IsSingle bindings = (port : Port) → length (bindings port) ≤ 1
