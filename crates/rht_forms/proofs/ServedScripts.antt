-- How a form that reads its input is served: what was read of it is its input, and a text of its was written whole, or where the sink
-- failed a prefix of it was.
use Rattle.std.proofs.Common.{ℕ, List, Option, Result, Ok, Err, refl, inl, inr, arith}
use Rattle.rht_io.specs.declared.source.Failed.{Failed}
use Rattle.rht_io.specs.Told.{Rose, Puts}
use Rattle.rht_script.specs.declared.script.ScriptFault.{ScriptFault}
use Rattle.rht_registry.specs.declared.replaying.ReplayError.{ReplayError}
use Rattle.rht_registry.specs.declared.replaying.ReplayError.TheVariants as replays
use Rattle.rht_registry.specs.Players.{Writes}
use Rattle.rht_forms.specs.declared.form.Form.{Form}
use Rattle.rht_forms.specs.declared.ending.Failure.{Failure}
use Rattle.rht_forms.specs.declared.ending.Failure.TheVariants.{Fault, Read, Write, Memory}
use Rattle.rht_forms.specs.Input.{IsAtFault, IsUnread}
use Rattle.rht_forms.specs.Forms.{ReadsInput, Prints, IsFaultOf}
use Rattle.rht_forms.specs.Endings.{FailsBy, Serves, ServesUnread, served_by, replayed_by}

-- a count that stays 0 doesn't rise
pub never_rises : Rose 0 0 → ⊥
never_rises rose = elim rose [
  | inl more ↦ omega (arith, more)
  | inr last ↦ omega (arith, last)
]

module _ {S O : Type 0} (left : S → Option (List ℕ)) (sfaults : S → ℕ) (held : O → Option (List ℕ))
    (ofaults : O → ℕ) (form : Form) (s s' : S) where
  -- nothing was read by the form's reading
  pub FailsBy-unread : {X : Type 0} (reading : List ℕ → Result X ScriptFault)
      → ((fault : ScriptFault) → IsAtFault reading (left s) (left s') fault → IsFaultOf form (left s) (left s') fault)
      → ReadsInput form → (o : O) (failure : Failure)
      → IsUnread reading (left s) (left s') (sfaults s) (sfaults s') failure
      → FailsBy left sfaults held ofaults form s s' o o failure
  FailsBy-unread reading at_fault reads o (Fault fault) unread = (at_fault fault unread, refl)
  FailsBy-unread reading at_fault reads o Read unread = (unread, refl, reads)
  FailsBy-unread reading at_fault reads o Write unread = absurd unread
  FailsBy-unread reading at_fault reads o Memory unread = inl refl

  -- the text was put: it was written, or the sink failed and a prefix of it was
  pub Serves-put : (o o' : O) (text : List ℕ) (put : Result (Unit {0}) Failed)
      → Prints form (left s) (left s') text → Puts held ofaults o o' put text
      → Serves left sfaults held ofaults form s s' o o' (served_by put)
  Serves-put o o' text (Ok done) printed puts = record { text = text; printed = printed; written = puts.whole }
  Serves-put o o' text (Err failed) printed puts =
      (puts.failed, record { text = text; printed = printed; written = puts.prefix })

  -- the text is a replay: it was written, or the sink failed or memory ran out and a prefix of it was
  pub Serves-replayed : (o o' : O) (text : List ℕ) (replayed : Result (Unit {0}) ReplayError)
      → Prints form (left s) (left s') text → Writes held ofaults o o' replayed text
      → Serves left sfaults held ofaults form s s' o o' (replayed_by replayed)
  Serves-replayed o o' text (Ok done) printed writes = record { text = text; printed = printed; written = writes.whole }
  Serves-replayed o o' text (Err replays.Write) printed writes =
      (writes.write refl, record { text = text; printed = printed; written = writes.prefix })
  Serves-replayed o o' text (Err replays.Memory) printed writes =
      inr (record { text = text; printed = printed; written = writes.prefix })

  -- a form that reads nothing is served so whatever source there is
  pub Serves-unread : (o o' : O) (served : Result (Unit {0}) Failure) → ServesUnread held ofaults form o o' served
      → Serves left sfaults held ofaults form s s o o' served
  Serves-unread o o' (Ok done) serves = serves (left s)
  Serves-unread o o' (Err (Fault fault)) serves = serves (left s)
  Serves-unread o o' (Err Read) serves = absurd (never_rises (serves (left s)).0)
  Serves-unread o o' (Err Write) serves = serves (left s)
  Serves-unread o o' (Err Memory) serves = serves (left s)
