-- How a port is spelled. In form 1 its word is its number, and its net is 0. In form 2 it is that too, or its net and its number
-- with a dot between them. In either form a port of net 0 is printed as its number.
use Rattle.std.specs.Prelude.{◌≡◌, ℕ, ◌+◌, ◌^◌, ◌≤◌, ◌⊎◌, Bool, ◌&&◌, ◌||◌, ◌==◌, nat_lt, if◌then◌else◌, Option, None, Some, Result, Ok, List, ◌++◌, take, drop, position, codes, decimal}
use Rattle.rht_words.specs.declared.limits.Limits.{Limits}
use Rattle.rht_words.specs.Ports.{port_at, net_of, number_of as number_in, IsPort}
use Rattle.rht_script.specs.declared.cause.Cause.{Cause}
use Rattle.rht_script.specs.Spelling.{◌>>=◌, number_of}

-- ---- forms

-- how ports are written in a script: 1, as one number; 2, as one number or with a net too
abbrev pub one_number : ℕ
one_number = 1

abbrev pub net_and_number : ℕ
net_and_number = 2

-- the forms
abbrev pub form_limits : Limits
form_limits = record { least = one_number; greatest = net_and_number }

-- the form is one of them
abbrev pub IsForm : ℕ → Type 0
IsForm form = (one_number ≤ form) × (form ≤ net_and_number)

-- there is such a port, and scripts of this form can name it: in form 1 its net is 0
abbrev pub IsPortIn : ℕ → ℕ → Type 0
IsPortIn form port = IsPort port × ((form ≡ net_and_number) ⊎ (net_of port ≡ 0))

-- the test of that
abbrev pub is_port_in : ℕ → ℕ → Bool
is_port_in form port = nat_lt port (2 ^ 48) && (form == net_and_number || net_of port == 0)

-- ---- reading

-- a net has 16 bits, and a number in it 32
abbrev pub net_limits : Limits
net_limits = record { least = 0; greatest = 65535 }

abbrev pub port_number_limits : Limits
port_number_limits = record { least = 0; greatest = 4294967295 }

-- the place at which a word is cut: in form 2 its first dot
abbrev pub cut_of : ℕ → List ℕ → Option ℕ
cut_of form word = if form == net_and_number then position (λ byte. byte == 46) word else None

-- the port of this net of which the word is the number
abbrev pub port_in : ℕ → List ℕ → Result ℕ Cause
port_in net word = do
  number ← number_of port_number_limits word
  Ok (port_at net number)

-- the port of a word that is cut here: its net stands before the dot, and its number behind it; a word that isn't cut is a
-- number in net 0
abbrev pub port_of_parts : Option ℕ → List ℕ → Result ℕ Cause
port_of_parts None word = port_in 0 word
port_of_parts (Some dot) word = do
  net ← number_of net_limits (take dot word)
  port_in net (drop (dot + 1) word)

-- the port that the word stands for in a script of this form
unfoldable pub port_of_word : ℕ → List ℕ → Result ℕ Cause
port_of_word form word = port_of_parts (cut_of form word) word

-- ---- printing

-- the text of a port
unfoldable pub port_text : ℕ → List ℕ
port_text port =
    if net_of port == 0 then decimal (number_in port)
    else decimal (net_of port) ++ codes "." ++ decimal (number_in port)
