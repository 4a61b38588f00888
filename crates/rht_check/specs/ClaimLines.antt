-- What the words of a line stand for: of a line that asks, and of a line that claims. Words are read from left to right.
use Rattle.std.specs.Prelude.{ℕ, ◌-◌, ◌==◌, ◌&&◌, nat_lt, Bool, false, is_some, if◌then◌else◌, Result, Ok, Err, List, [], ◌∷◌, length, take, slice_index, codes}
use Rattle.rht_model.specs.declared.history.Call.{Call}
use Rattle.rht_model.specs.declared.history.Reply.{Reply}
use Rattle.rht_model.specs.declared.history.Reply.TheVariants.{Bound, Exists, Found, Missing, Listed, Released, Absent, Rebound, TooBig, Busy, NoTable, NoNode}
use Rattle.rht_model.specs.Answers.{port_of}
use Rattle.rht_words.specs.declared.limits.Limits.{Limits}
use Rattle.rht_script.specs.declared.script.TableLine.{TableLine}
use Rattle.rht_script.specs.declared.cause.Cause.{Cause}
use Rattle.rht_script.specs.declared.cause.Cause.TheVariants.{UnknownWord}
use Rattle.rht_script.specs.Spelling.{◌>>=◌, between, is_word, number_of}
use Rattle.rht_script.specs.CommandLines.{owner_limits, worker_limits, number_first, end_of, command_of}
use Rattle.rht_check.specs.declared.reader.AskedLine.{AskedLine}
use Rattle.rht_check.specs.declared.reader.AskedLine.TheVariants.{Command, History}
use Rattle.rht_check.specs.Claims.{Told}

-- ---- lines that ask, and the line that ends them

-- the command, where its call is about bindings
abbrev pub about_bindings : ℕ × Call → Result AskedLine Cause
about_bindings command = if is_some (port_of command.1) then Ok (Command command) else Err UnknownWord

-- the line that ends them, behind whose word no other stands
abbrev pub history_of : List (List ℕ) → Result AskedLine Cause
history_of words = do
  end ← end_of words
  Ok History

-- what a line of these words says below this table line and above the claims
unfoldable pub asked_of : TableLine → List (List ℕ) → Result AskedLine Cause
asked_of table [] = Err UnknownWord
asked_of table (word ∷ words) =
    if is_word word (codes "history") then history_of words
    else (command_of table (word ∷ words) >>= about_bindings)

-- ---- replies

-- a reply that its name says alone: no word stands behind it
abbrev pub bare_reply : Reply → List (List ℕ) → Result Reply Cause
bare_reply reply words = do
  end ← end_of words
  Ok reply

-- the number within these limits that is the only word
abbrev pub last_number : Limits → List (List ℕ) → Result ℕ Cause
last_number limits words = do
  number ← number_first limits words
  end ← end_of number.1
  Ok number.0

-- a reply with one number within these limits
abbrev pub numbered_reply : (ℕ → Reply) → Limits → List (List ℕ) → Result Reply Cause
numbered_reply reply limits words = last_number limits words >>= (λ number. Ok (reply number))

-- a reply that names the two ends of a resize
unfoldable pub busy_of : List (List ℕ) → Result Reply Cause
busy_of words = do
  root ← number_first owner_limits words
  last ← number_first owner_limits root.1
  end ← end_of last.1
  Ok (Busy root.0 last.0)

-- a reply of this name without a list, with the words behind its name
unfoldable pub plain_of : List ℕ → List (List ℕ) → Result Reply Cause
plain_of name words =
    if is_word name (codes "bound") then bare_reply (Bound false) words
    else if is_word name (codes "exists") then numbered_reply Exists owner_limits words
    else if is_word name (codes "found") then numbered_reply Found owner_limits words
    else if is_word name (codes "missing") then bare_reply Missing words
    else if is_word name (codes "released") then bare_reply (Released false) words
    else if is_word name (codes "absent") then bare_reply Absent words
    else if is_word name (codes "rebound") then bare_reply Rebound words
    else if is_word name (codes "toobig") then numbered_reply TooBig (between 0 18446744073709551615) words
    else if is_word name (codes "busy") then busy_of words
    else if is_word name (codes "notable") then numbered_reply NoTable owner_limits words
    else if is_word name (codes "nonode") then bare_reply NoNode words
    else Err UnknownWord

-- the owners of these words
abbrev pub owners_of : List (List ℕ) → Result (List ℕ) Cause
owners_of [] = Ok []
owners_of (word ∷ words) = do
  owner ← number_of owner_limits word
  owners ← owners_of words
  Ok (owner ∷ owners)

-- ---- lines that claim

-- the word ends with a colon
abbrev pub ends_with_colon : List ℕ → Bool
ends_with_colon word = nat_lt 0 (length word) && slice_index word (length word - 1) == 58

-- the worker of a claim's first word, which ends with a colon
unfoldable pub worker_of : TableLine → List ℕ → Result ℕ Cause
worker_of table word =
    if ends_with_colon word then number_of (worker_limits table.config) (take (length word - 1) word)
    else Err UnknownWord

-- a worker's list of owners
unfoldable pub list_of : ℕ → List (List ℕ) → Result Told Cause
list_of worker words = owners_of words >>= (λ owners. Ok (worker, Listed (length owners), owners))

-- a worker's reply, and the owners beside it
unfoldable pub reply_of : ℕ → List (List ℕ) → Result Told Cause
reply_of worker [] = Err UnknownWord
reply_of worker (name ∷ words) =
    if is_word name (codes "list") then list_of worker words
    else (plain_of name words >>= (λ reply. Ok (worker, reply, [])))

-- what a line of these words claims
unfoldable pub told_of : TableLine → List (List ℕ) → Result Told Cause
told_of table [] = Err UnknownWord
told_of table (word ∷ words) = worker_of table word >>= (λ worker. reply_of worker words)
