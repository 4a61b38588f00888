-- Read sections. Each caller has a section word, which is odd while it is in one. Who gives nodes or tables back waits until each section that was open is left.
use Rattle.std.specs.Prelude.{◌≡◌, ℕ, ◌%◌, ◌<◌, ◌⊎◌, true, List}
use Rattle.rht_words.specs.declared.op.Op.{Op}
use Rattle.rht_words.specs.declared.op.Op.TheVariants.{Add}
use Rattle.rht_words.specs.declared.env.Env.{Env}
use Rattle.rht_words.specs.declared.geometry.Geometry.{Geometry}
use Rattle.rht_words.specs.Operations.{op_place, word_after}
use Rattle.rht_words.specs.Places.{Section, place_of, word_at}
use Rattle.rht_core.specs.declared.event.Event.{Event}
use Rattle.rht_callers.specs.Locals.{is_idle}
use Rattle.rht_core.specs.Laws.{IsRecorded}
use Rattle.rht_core.specs.Runs.{local_of, run_of, IsAdmitted}
use Rattle.rht_core.specs.Traces.{Did}

-- by its section word the caller is in no read section
abbrev pub IsInNoSection : Geometry → List ℕ → ℕ → Type 0
IsInNoSection g words c = word_at g words (Section c) % 2 ≡ 0

-- the operation of this caller adds 1 to the section word of that one, which is itself
abbrev pub AddsToOwn : Geometry → ℕ → ℕ → Op → Type 0
AddsToOwn g c d op = (d ≡ c) × (op ≡ Add (place_of g (Section c)) 1)

module _ (M : Type 0) (mix : ℕ → ℕ → ℕ → ℕ) where
  -- in every run a caller that is in no call is in no read section, whether it is enrolled or not
  abbrev pub Sections : Type 0
  Sections =
      (env : Env) (events : List Event) (c : ℕ) → IsAdmitted events → c < env.geometry.callers
      → is_idle (local_of (run_of {M = M} mix env events).core c) ≡ true
      → IsInNoSection env.geometry (run_of {M = M} mix env events).core.words c

  -- in every run an operation of a call that is on a section word leaves it as it was, or adds 1 to the caller's own
  abbrev pub OwnSections : Type 0
  OwnSections =
      (env : Env) (events : List Event) (c d : ℕ) (did : Did) → IsAdmitted events → d < 16
      → IsRecorded M mix env events c did → op_place did.op ≡ place_of env.geometry (Section d)
      → (word_after did.old did.op ≡ did.old) ⊎ AddsToOwn env.geometry c d did.op
