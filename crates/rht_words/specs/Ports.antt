-- A port is a net from 0 to 65,535 and a number from 0 to 4,294,967,295. Contracts see it as its key word, the word that stands for it in
-- a node. That has both in it, and keeps the order of ports, which is by net and then by number.
use Rattle.std.specs.Prelude.{ℕ, ◌+◌, ◌*◌, ◌/◌, ◌%◌, ◌^◌, ◌<◌}

-- the port with this net and this number
abbrev pub port_at : ℕ → ℕ → ℕ
port_at net number = net * 2 ^ 32 + number

-- the net of a port, and its number
abbrev pub net_of : ℕ → ℕ
net_of port = port / 2 ^ 32

abbrev pub number_of : ℕ → ℕ
number_of port = port % 2 ^ 32

-- there is such a port: its net has 16 bits
abbrev pub IsPort : ℕ → Type 0
IsPort port = port < 2 ^ 48

-- the key word of a port
abbrev pub word_of : ℕ → ℕ
word_of port = port

-- the port of which this is the key word; some port where it is none's
abbrev pub port_of : ℕ → ℕ
port_of word = word % 2 ^ 48

-- the owner that an owner word says; some owner where it is past 32 bits
abbrev pub owner_of : ℕ → ℕ
owner_of word = word % 2 ^ 32
