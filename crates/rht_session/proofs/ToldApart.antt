-- What C is told of an answer can be read back: so no two answers are told alike.
use Rattle.std.proofs.Common.{◌≡◌, ℕ, true, false, refl, sym, ap, ◌∙◌}
use Rattle.std.specs.Prelude.{nat_eq, nat_le, if◌then◌else◌, Option, Some, None, Result, Ok, Err}
use Rattle.rht_model.specs.declared.history.Reply.{Reply}
use Rattle.rht_model.specs.declared.history.Reply.TheVariants.{Bound, Exists, Found, Missing, Listed, Released, Absent, Rebound, TooBig, Again, Busy, NoTable, NoNode, Pending, Elsewhere, Walked, Moved, Idle, Clear, Counted}
use Rattle.rht_session.specs.declared.refused.Refused.{Refused}
use Rattle.rht_session.specs.declared.refused.Refused.TheVariants.{NotOpen, InCall, NoCall, NoSteps, Waiting}
use Rattle.rht_session.specs.declared.plain.CReply.{CReply}
use Rattle.rht_session.specs.Plain.{cursor_said}
use Rattle.rht_session.specs.Told.{code_of, refusal_code, fields_of, IsTold, IsToldWhole, TellsApart, TellsWholeApart}

-- ---- reading what was told

-- the reply of this code, which is one of 1 to 20, with these numbers
abbrev reply_read : ℕ → CReply → Reply
reply_read code f =
    if nat_eq code 1 then Bound f.kick
    else if nat_eq code 2 then Exists f.owner
    else if nat_eq code 3 then Found f.owner
    else if nat_eq code 4 then Missing
    else if nat_eq code 5 then Listed f.len
    else if nat_eq code 6 then Released f.kick
    else if nat_eq code 7 then Absent
    else if nat_eq code 8 then Rebound
    else if nat_eq code 9 then TooBig f.count
    else if nat_eq code 10 then Again f.table
    else if nat_eq code 11 then Busy f.table f.last
    else if nat_eq code 12 then NoTable f.size
    else if nat_eq code 13 then NoNode
    else if nat_eq code 14 then Pending f.caller f.section
    else if nat_eq code 15 then Elsewhere
    else if nat_eq code 16 then Walked f.len (cursor_said f.next)
    else if nat_eq code 17 then Moved f.again
    else if nat_eq code 18 then Idle
    else if nat_eq code 19 then Clear f.returned
    else Counted f.count

abbrev refusal_read : ℕ → Refused
refusal_read code =
    if nat_eq code 64 then NotOpen
    else if nat_eq code 65 then InCall
    else if nat_eq code 66 then NoCall
    else if nat_eq code 67 then NoSteps
    else Waiting

abbrev whole_read : ℕ → CReply → Result Reply Refused
whole_read code f = if nat_le code 20 then Ok (reply_read code f) else Err (refusal_read code)

abbrev answer_read : ℕ → CReply → Result (Option Reply) Refused
answer_read code f =
    if nat_eq code 0 then Ok None
    else if nat_le code 20 then Ok (Some (reply_read code f)) else Err (refusal_read code)

-- ---- it is what was answered

read_back : (r : Reply)
    → (nat_eq (code_of r) 0 ≡ false) × (nat_le (code_of r) 20 ≡ true) × (reply_read (code_of r) (fields_of r) ≡ r)
read_back (Bound kick) = (refl, refl, refl)
read_back (Exists owner) = (refl, refl, refl)
read_back (Found owner) = (refl, refl, refl)
read_back Missing = (refl, refl, refl)
read_back (Listed len) = (refl, refl, refl)
read_back (Released kick) = (refl, refl, refl)
read_back Absent = (refl, refl, refl)
read_back Rebound = (refl, refl, refl)
read_back (TooBig count) = (refl, refl, refl)
read_back (Again table) = (refl, refl, refl)
read_back (Busy root last) = (refl, refl, refl)
read_back (NoTable size) = (refl, refl, refl)
read_back NoNode = (refl, refl, refl)
read_back (Pending caller section) = (refl, refl, refl)
read_back Elsewhere = (refl, refl, refl)
read_back (Walked len None) = (refl, refl, refl)
read_back (Walked len (Some cursor)) = (refl, refl, refl)
read_back (Moved again) = (refl, refl, refl)
read_back Idle = (refl, refl, refl)
read_back (Clear returned) = (refl, refl, refl)
read_back (Counted count) = (refl, refl, refl)

whole_of : (reply : Reply) → whole_read (code_of reply) (fields_of reply) ≡ Ok reply
whole_of reply =
    let back = read_back reply in
    ap (λ b. if b then Ok (reply_read (code_of reply) (fields_of reply)) else Err (refusal_read (code_of reply))) back.1
    ∙ ap (λ r. Ok r) back.2

answer_of : (reply : Reply) → answer_read (code_of reply) (fields_of reply) ≡ Ok (Some reply)
answer_of reply =
    let back = read_back reply in
    ap (λ b. if b then Ok None else if nat_le (code_of reply) 20 then Ok (Some (reply_read (code_of reply) (fields_of reply)))
    else Err (refusal_read (code_of reply))) back.0
    ∙ ap (λ b. if b then Ok (Some (reply_read (code_of reply) (fields_of reply))) else Err (refusal_read (code_of reply))) back.1
    ∙ ap (λ r. Ok (Some r)) back.2

whole_refused : (refused : Refused) (f : CReply) → whole_read (refusal_code refused) f ≡ Err refused
whole_refused NotOpen f = refl
whole_refused InCall f = refl
whole_refused NoCall f = refl
whole_refused NoSteps f = refl
whole_refused Waiting f = refl

answer_refused : (refused : Refused) (f : CReply) → answer_read (refusal_code refused) f ≡ Err refused
answer_refused NotOpen f = refl
answer_refused InCall f = refl
answer_refused NoCall f = refl
answer_refused NoSteps f = refl
answer_refused Waiting f = refl

whole_told : (answer : Result Reply Refused) (code : ℕ) (before after : CReply) → IsToldWhole answer code before after
    → whole_read code after ≡ answer
whole_told (Ok reply) code before after told =
    ap (λ (n : ℕ). whole_read n after) told.0 ∙ ap (whole_read (code_of reply)) told.1 ∙ whole_of reply
whole_told (Err refused) code before after told =
    ap (λ (n : ℕ). whole_read n after) told.0 ∙ whole_refused refused after

answer_told : (answer : Result (Option Reply) Refused) (code : ℕ) (before after : CReply) → IsTold answer code before after
    → answer_read code after ≡ answer
answer_told (Ok None) code before after told = ap (λ (n : ℕ). answer_read n after) told.0
answer_told (Ok (Some reply)) code before after told =
    ap (λ (n : ℕ). answer_read n after) told.0 ∙ ap (answer_read (code_of reply)) told.1 ∙ answer_of reply
answer_told (Err refused) code before after told =
    ap (λ (n : ℕ). answer_read n after) told.0 ∙ answer_refused refused after

pub told_apart : TellsApart
told_apart one other code before after first second =
    sym (answer_told one code before after first) ∙ answer_told other code before after second

pub told_whole_apart : TellsWholeApart
told_whole_apart one other code before after first second =
    sym (whole_told one code before after first) ∙ whole_told other code before after second
