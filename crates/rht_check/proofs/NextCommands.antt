-- Where a worker's next command stands, and what taking it leaves to that worker and to the others.
use Rattle.std.proofs.Common.{◌≡◌, ◌≢◌, ℕ, ◌+◌, ◌-◌, ◌<◌, ◌≤◌, true, Option, None, Some, List, [], ◌∷◌, length, All, take, drop, get_or, set, sym, ◌∙◌, ap, add_assoc, arith, inl, inr}
use Rattle.std.proofs.lemmas.Bool.{cases_eq}
use Rattle.std.proofs.lemmas.Grind.{common_steps}
use Rattle.std.proofs.lemmas.List.{get_or-set_same, get_or-set_other, get_or-drop, length-drop, length-set, drop-drop}
use Rattle.std.proofs.lemmas.List.Elements.{All-drop}
use Rattle.std.proofs.lemmas.List.Quantifiers.{position-Some}
use Rattle.std.specs.Option.{MatchOption, is_some}
use Rattle.std.specs.List.{position, slice_index}
use Rattle.rht_model.specs.declared.history.Call.{Call}
use Rattle.rht_model.specs.declared.history.Call.TheVariants.{Count}
use Rattle.rht_check.specs.Claims.{commands_of}
use Rattle.rht_check.specs.CommandsLeft.{Left, left_of, IsWorkerOf, IsNextAt, TakesCommand}
use Rattle.rht_check.proofs.WorkersCommands.{is_own, IsOutside, commands_of-outside, commands_of-first}

-- all commands are of workers that have a place
abbrev pub HasWorkers : Left → Type 0
HasWorkers left = All (IsWorkerOf (length left.places)) left.commands

-- what the code has as the commands from a place on
pub commands_from : (place : ℕ) (commands : List (ℕ × Call))
    → take (length commands - place) (drop place commands) ≡ drop place commands
commands_from place commands = grind (arith, common_steps)

-- a worker that has no place has no commands left
pub left_of-outside : (left : Left) (worker : ℕ) → HasWorkers left → IsOutside worker (length left.places)
    → left_of left worker ≡ []
left_of-outside left worker workers outside =
    let from = slice_index left.places (worker - 1) in
    commands_of-outside worker (length left.places) (drop from left.commands)
    (All-drop (IsWorkerOf (length left.places)) from left.commands workers) outside

module _ (left : Left) (worker : ℕ) where
  abbrev from : ℕ
  from = slice_index left.places (worker - 1)

  pub next_at : (steps : ℕ) → 0 < worker → worker ≤ length left.places
      → position (is_own worker) (drop from left.commands) ≡ Some steps → IsNextAt left worker (from + steps)
  next_at steps some within is = record {
    counted = (some, within);
    within = omega (arith, length-drop from left.commands, (position-Some (is_own worker) (drop from left.commands) steps (0, Count) is).0);
    parts = λ default.
        commands_of-first worker (drop from left.commands) steps default is
        ∙ ap (λ (c : ℕ × Call). c.1 ∷ commands_of worker (drop (steps + 1) (drop from left.commands)))
        (get_or-drop from left.commands steps default)
        ∙ ap (λ (cs : List (ℕ × Call)). (get_or left.commands (from + steps) default).1 ∷ commands_of worker cs)
        (drop-drop (steps + 1) from left.commands ∙ ap (λ n. drop n left.commands) (sym (add_assoc from steps 1)));
  }

  -- the places after the command at this one was taken
  abbrev after : ℕ → Left
  after place = record left { places = set left.places (worker - 1) (place + 1) }

  pub taken_at : (place : ℕ) (default : ℕ × Call) → HasWorkers left → IsNextAt left worker place
      → TakesCommand left (after place) worker (get_or left.commands place default).1
  taken_at place default workers next = record {
    taken =
        next.parts default
        ∙ ap (λ n. (get_or left.commands place default).1 ∷ commands_of worker (drop n left.commands))
        (sym (get_or-set_same left.places (worker - 1) (place + 1) 0 (omega (arith, next.counted.0, next.counted.1))));
    others = λ other differs. elim (cases_eq other 0) [
      | inl none ↦
          left_of-outside (after place) other (rw (length-set left.places (worker - 1) (place + 1)) workers) (inl none)
          ∙ sym (left_of-outside left other workers (inl none))
      | inr some ↦
          ap (λ n. commands_of other (drop n left.commands))
          (get_or-set_other left.places (worker - 1) (other - 1) (place + 1) 0 (λ same. differs (omega (arith, next.counted.0))))
    ];
  }

-- a worker whose next command was found has commands left
pub is_left : (left : Left) (worker : ℕ) (found : Option ℕ)
    → MatchOption found (left_of left worker ≡ []) (IsNextAt left worker)
    → is_some found ≡ true → left_of left worker ≢ []
is_left left worker None none some = absurd (cc)
is_left left worker (Some place) next some =
    λ none. let both = sym (next.parts (0, Count)) ∙ none in cc
