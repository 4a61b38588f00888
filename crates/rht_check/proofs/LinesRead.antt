-- What the calls that read a line answer, in the words of the definitions.
use Rattle.std.proofs.Common.{◌≡◌, ℕ, true, false, Result, Ok, Err, List, [], ◌∷◌, length, codes, refl, ◌∙◌, ap}
use Rattle.rht_model.specs.declared.history.Reply.TheVariants.{Listed}
use Rattle.rht_script.specs.declared.script.TableLine.{TableLine}
use Rattle.rht_script.specs.declared.script.ScriptFault.{ScriptFault}
use Rattle.rht_script.specs.declared.script.ReadError.{ReadError}
use Rattle.rht_script.specs.declared.script.ReadError.TheVariants.{Fault, Memory}
use Rattle.rht_script.specs.declared.cause.Cause.{Cause}
use Rattle.rht_script.specs.declared.cause.Cause.TheVariants.{UnknownWord}
use Rattle.rht_script.specs.Spelling.{◌>>=◌, is_word}
use Rattle.rht_script.specs.Grammar.{at_line, fault_at}
use Rattle.rht_script.specs.Reading.{IsReasonFor}
use Rattle.rht_check.specs.ClaimLines.{worker_of, plain_of, owners_of, list_of, reply_of, told_of}

-- what is read behind something that was read, and behind a fault
pub at_line-ok : {X Y : Type 0} (line : ℕ) (read : Result X Cause) (next : X → Result Y Cause) (value : X)
    → at_line line read ≡ Ok value → at_line line (read >>= next) ≡ at_line line (next value)
at_line-ok line (Ok other) next value is = ap (λ v. at_line line (next v)) (let same : other ≡ value = cc in same)
at_line-ok line (Err cause) next value is = absurd (cc)

pub at_line-err : {X Y : Type 0} (line : ℕ) (read : Result X Cause) (next : X → Result Y Cause) (fault : ScriptFault)
    → at_line line read ≡ Err fault → at_line line (read >>= next) ≡ Err fault
at_line-err line (Ok value) next fault is = absurd (cc)
at_line-err line (Err cause) next fault is = let same : fault_at line cause ≡ fault = cc in ap (λ (f : ScriptFault). Err f) same

-- the reason why something was not read is one why what is read behind it was not
pub IsReasonFor-first : {X Y : Type 0} (line : ℕ) (read : Result X Cause) (next : X → Result Y Cause) (error : ReadError)
    → IsReasonFor (at_line line read) error → IsReasonFor (at_line line (read >>= next)) error
IsReasonFor-first line read next (Fault fault) reason = at_line-err line read next fault reason
IsReasonFor-first line read next Memory reason = tt

-- ---- a reply, and a whole line

pub told_of-none : (table : TableLine) → told_of table [] ≡ Err UnknownWord
unfolding told_of
told_of-none table = refl

pub told_of-first : (table : TableLine) (words : List (List ℕ)) (word : List ℕ) (rest : List (List ℕ)) → words ≡ word ∷ rest
    → told_of table words ≡ (worker_of table word >>= (λ worker. reply_of worker rest))
unfolding told_of
told_of-first table words word rest parts = ap (told_of table) parts

module _ (worker : ℕ) where
  pub reply_of-none : reply_of worker [] ≡ Err UnknownWord
  unfolding reply_of
  reply_of-none = refl

  pub reply_of-list : (words : List (List ℕ)) (name : List ℕ) (rest : List (List ℕ)) → words ≡ name ∷ rest
      → is_word name (codes "list") ≡ true → reply_of worker words ≡ list_of worker rest
  unfolding reply_of
  reply_of-list words name rest parts is = ap (reply_of worker) parts ∙ rw is refl

  pub reply_of-plain : (words : List (List ℕ)) (name : List ℕ) (rest : List (List ℕ)) → words ≡ name ∷ rest
      → is_word name (codes "list") ≡ false
      → reply_of worker words ≡ (plain_of name rest >>= (λ reply. Ok (worker, reply, [])))
  unfolding reply_of
  reply_of-plain words name rest parts is = ap (reply_of worker) parts ∙ rw is refl

  pub list_of-owners : (words : List (List ℕ))
      → list_of worker words ≡ (owners_of words >>= (λ owners. Ok (worker, Listed (length owners), owners)))
  unfolding list_of
  list_of-owners words = refl
