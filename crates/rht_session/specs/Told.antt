-- How C is told of answers: by a code, and by the numbers that come with a reply.
use Rattle.std.specs.Prelude.{◌≡◌, ℕ, false, Option, Some, None, Result, Ok, Err, List, map}
use Rattle.rht_model.specs.declared.bindings.Closed.{Closed}
use Rattle.rht_model.specs.declared.history.Reply.{Reply}
use Rattle.rht_model.specs.declared.history.Reply.TheVariants.{Bound, Exists, Found, Missing, Listed, Released, Absent, Rebound, TooBig, Again, Busy, NoTable, NoNode, Pending, Elsewhere, Walked, Moved, Idle, Clear, Counted}
use Rattle.rht_session.specs.declared.refused.Refused.{Refused}
use Rattle.rht_session.specs.declared.refused.Refused.TheVariants.{NotOpen, InCall, NoCall, NoSteps, Waiting}
use Rattle.rht_session.specs.declared.refused.NotOpened.{NotOpened}
use Rattle.rht_session.specs.declared.refused.NotOpened.TheVariants as reasons
use Rattle.rht_session.specs.declared.closing.NotClosed.{NotClosed}
use Rattle.rht_session.specs.declared.closing.NotClosed.TheVariants as not_closed
use Rattle.rht_session.specs.declared.plain.CPair.{CPair}
use Rattle.rht_session.specs.declared.plain.CClosed.{CClosed}
use Rattle.rht_session.specs.declared.plain.CReply.{CReply}
use Rattle.rht_session.specs.Plain.{c_pair, c_cursor, no_spare}
use Rattle.rht_session.specs.Lists.{all_owned, IsWritten}

-- ---- codes

abbrev pub code_of : Reply → ℕ
code_of (Bound kick) = 1
code_of (Exists owner) = 2
code_of (Found owner) = 3
code_of Missing = 4
code_of (Listed len) = 5
code_of (Released kick) = 6
code_of Absent = 7
code_of Rebound = 8
code_of (TooBig count) = 9
code_of (Again table) = 10
code_of (Busy root last) = 11
code_of (NoTable size) = 12
code_of NoNode = 13
code_of (Pending caller section) = 14
code_of Elsewhere = 15
code_of (Walked len next) = 16
code_of (Moved again) = 17
code_of Idle = 18
code_of (Clear returned) = 19
code_of (Counted count) = 20

abbrev pub refusal_code : Refused → ℕ
refusal_code NotOpen = 64
refusal_code InCall = 65
refusal_code NoCall = 66
refusal_code NoSteps = 67
refusal_code Waiting = 71

abbrev pub opening_code : Result (Unit {0}) NotOpened → ℕ
opening_code (Ok done) = 32
opening_code (Err reasons.Config) = 80
opening_code (Err reasons.Count) = 81
opening_code (Err reasons.Open) = 82
opening_code (Err reasons.Memory) = 83

abbrev pub closing_code : Result (Unit {0}) Refused → ℕ
closing_code (Ok done) = 33
closing_code (Err refused) = refusal_code refused

-- ---- the numbers that come with a reply

abbrev pub no_numbers : CReply
no_numbers = record {
  count = 0;
  section = 0;
  next = c_cursor None;
  owner = 0;
  len = 0;
  table = 0;
  last = 0;
  size = 0;
  returned = 0;
  caller = 0;
  kick = false;
  again = false;
  spare = no_spare;
}

abbrev pub fields_of : Reply → CReply
fields_of (Bound kick) = record no_numbers { kick = kick }
fields_of (Exists owner) = record no_numbers { owner = owner }
fields_of (Found owner) = record no_numbers { owner = owner }
fields_of Missing = no_numbers
fields_of (Listed len) = record no_numbers { len = len }
fields_of (Released kick) = record no_numbers { kick = kick }
fields_of Absent = no_numbers
fields_of Rebound = no_numbers
fields_of (TooBig count) = record no_numbers { count = count }
fields_of (Again table) = record no_numbers { table = table }
fields_of (Busy root last) = record no_numbers { table = root; last = last }
fields_of (NoTable size) = record no_numbers { size = size }
fields_of NoNode = no_numbers
fields_of (Pending caller section) = record no_numbers { caller = caller; section = section }
fields_of Elsewhere = no_numbers
fields_of (Walked len next) = record no_numbers { len = len; next = c_cursor next }
fields_of (Moved again) = record no_numbers { again = again }
fields_of Idle = no_numbers
fields_of (Clear returned) = record no_numbers { returned = returned }
fields_of (Counted count) = record no_numbers { count = count }

-- ---- what is told; where there is no reply, its struct stays as it is

-- of a call that may be in progress still
abbrev pub IsTold : Result (Option Reply) Refused → ℕ → CReply → CReply → Type 0
IsTold (Ok (Some reply)) code before after = (code ≡ code_of reply) × (after ≡ fields_of reply)
IsTold (Ok None) code before after = (code ≡ 0) × (after ≡ before)
IsTold (Err refused) code before after = (code ≡ refusal_code refused) × (after ≡ before)

-- of a whole call
abbrev pub IsToldWhole : Result Reply Refused → ℕ → CReply → CReply → Type 0
IsToldWhole (Ok reply) code before after = (code ≡ code_of reply) × (after ≡ fields_of reply)
IsToldWhole (Err refused) code before after = (code ≡ refusal_code refused) × (after ≡ before)

-- the owner that is told with a look-up's reply, where it has one
abbrev pub owner_told : Reply → ℕ → ℕ
owner_told (Found owner) before = owner
owner_told _ before = before

-- of a look-up
abbrev pub IsToldFound : Result Reply Refused → ℕ → ℕ → ℕ → Type 0
IsToldFound (Ok reply) code before after = (code ≡ code_of reply) × (after ≡ owner_told reply before)
IsToldFound (Err refused) code before after = (code ≡ refusal_code refused) × (after ≡ before)

-- of a closing that gives nodes up: how many
abbrev pub IsToldClosedNow : Result ℕ Refused → ℕ → ℕ → ℕ → Type 0
IsToldClosedNow (Ok given_up) code before after = (code ≡ 33) × (after ≡ given_up)
IsToldClosedNow (Err refused) code before after = (code ≡ refusal_code refused) × (after ≡ before)

-- of the closing of several handles: where a table was closed its bindings are written, as far as there is room for them, with how many
-- were written, how many ports are bound, and the size of its current table
abbrev pub IsToldClosed : Result (Option Closed) NotClosed → ℕ → List CPair → List CPair → CClosed → CClosed → Type 0
IsToldClosed (Ok (Some closed)) code before after told_before told_after =
    (code ≡ 34) × IsWritten before (map c_pair (all_owned closed.bindings.pairs)) told_after.len after
    × (told_after.keys ≡ closed.keys) × (told_after.size ≡ closed.size) × (told_after.spare ≡ no_spare)
IsToldClosed (Ok None) code before after told_before told_after = (code ≡ 33) × (after ≡ before) × (told_after ≡ told_before)
IsToldClosed (Err not_closed.NotOpen) code before after told_before told_after = (code ≡ 64) × (after ≡ before) × (told_after ≡ told_before)
IsToldClosed (Err not_closed.TwoTables) code before after told_before told_after = (code ≡ 84) × (after ≡ before) × (told_after ≡ told_before)
IsToldClosed (Err not_closed.InCall) code before after told_before told_after = (code ≡ 65) × (after ≡ before) × (told_after ≡ told_before)
IsToldClosed (Err not_closed.Memory) code before after told_before told_after = (code ≡ 83) × (after ≡ before) × (told_after ≡ told_before)

-- ---- what tells answers apart

-- two answers that C is told by one code and by the same numbers are the same
abbrev pub TellsApart : Type 0
TellsApart = (one other : Result (Option Reply) Refused) (code : ℕ) (before after : CReply)
    → IsTold one code before after → IsTold other code before after → one ≡ other

abbrev pub TellsWholeApart : Type 0
TellsWholeApart = (one other : Result Reply Refused) (code : ℕ) (before after : CReply)
    → IsToldWhole one code before after → IsToldWhole other code before after → one ≡ other
