-- A worker's commands among those of all: none where no command is the worker's, and else the first that is, before those behind it.
use Rattle.std.proofs.Common.{◌≡◌, ℕ, ◌+◌, ◌<◌, ◌==◌, ◌⊎◌, Bool, true, false, None, Some, List, [], ◌∷◌, length, All, drop, get_or, suc, zero, refl, sym, ◌∙◌, add-one, arith, inl, inr}
use Rattle.std.proofs.lemmas.Bool.{cases_Bool, ne_eqb}
use Rattle.std.proofs.lemmas.List.Elements.{All-head, All-tail}
use Rattle.std.proofs.lemmas.List.Quantifiers.{position-Some}
use Rattle.std.proofs.lemmas.Iterator.Adapters.{position_from-zero}
use Rattle.std.specs.List.{position, position_from}
use Rattle.rht_model.specs.declared.history.Call.{Call}
use Rattle.rht_check.specs.Claims.{commands_of}
use Rattle.rht_check.specs.CommandsLeft.{IsWorkerOf}

module _ (worker : ℕ) where
  -- whether the command is the worker's
  abbrev pub is_own : ℕ × Call → Bool
  is_own command = command.0 == worker

  -- a command of the worker comes before those behind it, and one of another worker is left out
  pub commands_of-own : (command : ℕ × Call) (commands : List (ℕ × Call)) → is_own command ≡ true
      → commands_of worker (command ∷ commands) ≡ command.1 ∷ commands_of worker commands
  commands_of-own command commands own = rw own refl

  pub commands_of-other : (command : ℕ × Call) (commands : List (ℕ × Call)) → is_own command ≡ false
      → commands_of worker (command ∷ commands) ≡ commands_of worker commands
  commands_of-other command commands other = rw other refl

  -- the worker is none of these, which are counted from 1
  abbrev pub IsOutside : ℕ → Type 0
  IsOutside workers = (worker ≡ 0) ⊎ (workers < worker)

  not_own : (workers : ℕ) (command : ℕ × Call) → IsWorkerOf workers command → IsOutside workers → is_own command ≡ false
  not_own workers command of (inl none) = ne_eqb command.0 worker (λ same. omega (arith, of.0))
  not_own workers command of (inr above) = ne_eqb command.0 worker (λ same. omega (arith, of.1))

  -- By induction over the commands, none of which is the worker's.
  pub commands_of-outside : (workers : ℕ) (commands : List (ℕ × Call)) → All (IsWorkerOf workers) commands
      → IsOutside workers → commands_of worker commands ≡ []
  commands_of-outside workers [] all outside = refl
  commands_of-outside workers (command ∷ commands) all outside =
      let other = not_own workers command (All-head (IsWorkerOf workers) command commands all) outside in
      commands_of-other command commands other
      ∙ commands_of-outside workers commands (All-tail (IsWorkerOf workers) command commands all) outside

  -- By induction over the commands, down to the first that is the worker's.
  first_own : (commands : List (ℕ × Call)) (place : ℕ) (default : ℕ × Call) → place < length commands
      → is_own (get_or commands place default) ≡ true
      → ((k : ℕ) → k < place → is_own (get_or commands k default) ≡ false)
      → commands_of worker commands
      ≡ (get_or commands place default).1 ∷ commands_of worker (drop (suc place) commands)
  first_own [] place default within own before = absurd (omega arith)
  first_own (command ∷ commands) zero default within own before = commands_of-own command commands own
  first_own (command ∷ commands) (suc place) default within own before =
      commands_of-other command commands (before 0 (omega arith))
      ∙ first_own commands place default (omega arith) own (λ k below. before (suc k) (omega arith))

  pub commands_of-first : (commands : List (ℕ × Call)) (place : ℕ) (default : ℕ × Call)
      → position is_own commands ≡ Some place
      → commands_of worker commands
      ≡ (get_or commands place default).1 ∷ commands_of worker (drop (place + 1) commands)
  commands_of-first commands place default is =
      let first = position-Some is_own commands place default is in
      rw (add-one place) (first_own commands place default first.0 first.1 first.2)

  -- By induction over the commands, none of which is the worker's.
  none_own : (commands : List (ℕ × Call)) (start : ℕ) → position_from is_own start commands ≡ None
      → commands_of worker commands ≡ []
  none_own [] start none = refl
  none_own (command ∷ commands) start none =
      elim (cases_Bool (is_own command)) [
        | inl own ↦
            let found : Some start ≡ None = rw own at none in
            cc
        | inr other ↦ commands_of-other command commands other ∙ none_own commands (start + 1) (rw other at none)
      ]

  pub commands_of-none : (commands : List (ℕ × Call)) → position is_own commands ≡ None
      → commands_of worker commands ≡ []
  commands_of-none commands none = none_own commands 0 (sym (position_from-zero is_own commands) ∙ none)
