-- The commands of a worker among those of all, and the calls of all workers: what is so of each, and how many pass a test.
use Rattle.std.proofs.Common.{◌≡◌, ℕ, zero, suc, ◌+◌, ◌<◌, ◌≤◌, ◌==◌, ◌&&◌, nat_lt, Bool, true, false, cond, List, [], ◌∷◌, ◌++◌, length, map, get_or, refl, sym, ◌∙◌, ap, subst, inl, inr, arith}
use Rattle.std.specs.Prelude.{count_by}
use Rattle.std.specs.List.{AllByRecursion}
use Rattle.std.proofs.lemmas.Bool.{cases_lt, eq-eqb, ne_eqb, lt-ltb, le-ltb}
use Rattle.std.proofs.lemmas.List.{append-nil}
use Rattle.std.proofs.lemmas.List.Sums.{sum_by-cons, sum_by-append}
use Rattle.rht_words.proofs.EachElement.{AllByRecursion-append}
use Rattle.rht_model.specs.declared.history.Call.{Call}
use Rattle.rht_core.specs.Serving.{calls_of}
use Rattle.rht_workers.specs.WorkerCalls.{commands_of, calls_from}

-- ---- the commands of a worker

module _ {C : Type 0} where
  -- a command in front of two lists, whether or not it is the worker's
  with_own : (own : Bool) (ask : C) (whole asked more : List C) → whole ≡ asked ++ more
      → cond own (ask ∷ whole) whole ≡ cond own (ask ∷ asked) asked ++ more
  with_own true ask whole asked more is = ap (λ l. ask ∷ l) is
  with_own false ask whole asked more is = is

  commands_of-append : (worker : ℕ) (commands more : List (ℕ × C))
      → commands_of worker (commands ++ more) ≡ commands_of worker commands ++ commands_of worker more
  commands_of-append worker [] more = refl
  commands_of-append worker (command ∷ commands) more =
      with_own (command.0 == worker) command.1 (commands_of worker (commands ++ more)) (commands_of worker commands)
      (commands_of worker more) (commands_of-append worker commands more)

  -- a command of its own comes last among its commands
  pub commands_of-own : (worker : ℕ) (commands : List (ℕ × C)) (command : ℕ × C) → (command.0 == worker) ≡ true
      → commands_of worker (commands ++ command ∷ []) ≡ commands_of worker commands ++ command.1 ∷ []
  commands_of-own worker commands command own =
      commands_of-append worker commands (command ∷ [])
      ∙ ap (λ mine. commands_of worker commands ++ cond mine (command.1 ∷ []) []) own

  -- and one of another worker isn't among them
  pub commands_of-other : (worker : ℕ) (commands : List (ℕ × C)) (command : ℕ × C) → (command.0 == worker) ≡ false
      → commands_of worker (commands ++ command ∷ []) ≡ commands_of worker commands
  commands_of-other worker commands command other =
      commands_of-append worker commands (command ∷ [])
      ∙ ap (λ mine. commands_of worker commands ++ cond mine (command.1 ∷ []) []) other
      ∙ append-nil (commands_of worker commands)

  -- what is so of all commands is so of a worker's
  pub commands_of-each : (P : C → Type 0) (worker : ℕ) (commands : List (ℕ × C)) → AllByRecursion (λ command. P command.1) commands
      → AllByRecursion P (commands_of worker commands)
  commands_of-each P worker [] each = tt
  commands_of-each P worker (command ∷ commands) each =
      by_test (command.0 == worker) (commands_of-each P worker commands each.1)
    where
      by_test : (mine : Bool) → AllByRecursion P (commands_of worker commands)
          → AllByRecursion P (cond mine (command.1 ∷ commands_of worker commands) (commands_of worker commands))
      by_test true behind = (each.0, behind)
      by_test false behind = behind

-- ---- the calls of all workers

pub calls_of-append : (worker : ℕ) (commands more : List (ℕ × Call))
    → calls_of worker (commands ++ more) ≡ calls_of worker commands ++ calls_of worker more
calls_of-append worker [] more = refl
calls_of-append worker (command ∷ commands) more =
    with_own (command.0 == worker) command.1 (calls_of worker (commands ++ more)) (calls_of worker commands)
    (calls_of worker more) (calls_of-append worker commands more)

-- a worker's calls among its own are all of them, and among another's none
calls_of-own : (worker : ℕ) (calls : List Call) → calls_of worker (map (λ call. (worker, call)) calls) ≡ calls
calls_of-own worker [] = refl
calls_of-own worker (call ∷ calls) =
    ap (λ own. cond own (call ∷ calls_of worker (map (λ c. (worker, c)) calls)) (calls_of worker (map (λ c. (worker, c)) calls)))
    (eq-eqb worker worker refl)
    ∙ ap (λ l. call ∷ l) (calls_of-own worker calls)

calls_of-other : (worker other : ℕ) (calls : List Call) → (worker == other) ≡ false → calls_of other (map (λ call. (worker, call)) calls) ≡ []
calls_of-other worker other [] differs = refl
calls_of-other worker other (call ∷ calls) differs =
    ap (λ own. cond own (call ∷ calls_of other (map (λ c. (worker, c)) calls)) (calls_of other (map (λ c. (worker, c)) calls))) differs
    ∙ calls_of-other worker other calls differs

module _ {A : Type 0} (calls : ℕ → A → List Call) where
  -- those of workers further on are another's
  calls_of-below : (first other : ℕ) (all : List A) → other < first → calls_of other (calls_from calls first all) ≡ []
  calls_of-below first other [] less = refl
  calls_of-below first other (own ∷ all) less =
      calls_of-append other (map (λ call. (first, call)) (calls first own)) (calls_from calls (first + 1) all)
      ∙ ap (λ l. l ++ calls_of other (calls_from calls (first + 1) all))
      (calls_of-other first other (calls first own) (ne_eqb first other (λ same. absurd (omega (arith, same, less)))))
      ∙ calls_of-below (first + 1) other all (omega (arith, less))

  -- By induction over the workers: the calls of each are its own.
  calls_of-from : (default : A) (first i : ℕ) (all : List A) → i < length all
      → calls_of (first + i) (calls_from calls first all) ≡ calls (first + i) (get_or all i default)
  calls_of-from default first i [] below = absurd (omega (arith, below))
  calls_of-from default first zero (own ∷ all) below =
      let here : first + 0 ≡ first = omega arith in
      subst (λ (n : ℕ). calls_of n (calls_from calls first (own ∷ all)) ≡ calls n own) (sym here)
      (calls_of-append first (map (λ call. (first, call)) (calls first own)) (calls_from calls (first + 1) all)
      ∙ ap (λ l. l ++ calls_of first (calls_from calls (first + 1) all)) (calls_of-own first (calls first own))
      ∙ ap (λ l. calls first own ++ l) (calls_of-below (first + 1) first all (omega arith))
      ∙ append-nil (calls first own))
  calls_of-from default first (suc i) (own ∷ all) below =
      let there : first + 1 + i ≡ first + suc i = omega arith in
      subst (λ (n : ℕ). calls_of n (calls_from calls first (own ∷ all)) ≡ calls n (get_or all i default)) there
      (calls_of-append (first + 1 + i) (map (λ call. (first, call)) (calls first own)) (calls_from calls (first + 1) all)
      ∙ ap (λ l. l ++ calls_of (first + 1 + i) (calls_from calls (first + 1) all))
      (calls_of-other first (first + 1 + i) (calls first own) (ne_eqb first (first + 1 + i) (λ same. absurd (omega (arith, same)))))
      ∙ calls_of-from default (first + 1) i all (omega (arith, below)))

  pub calls_of-all : (default : A) (i : ℕ) (all : List A) → i < length all
      → calls_of (i + 1) (calls_from calls 1 all) ≡ calls (i + 1) (get_or all i default)
  calls_of-all default i all below =
      let same : 1 + i ≡ i + 1 = omega arith in
      subst (λ (n : ℕ). calls_of n (calls_from calls 1 all) ≡ calls n (get_or all i default)) same (calls_of-from default 1 i all below)

  -- what is so of each worker's calls is so of all
  calls_by-each : (P : Call → Type 0) (worker : ℕ) (own : List Call) → AllByRecursion P own
      → AllByRecursion (λ (command : ℕ × Call). P command.1) (map (λ call. (worker, call)) own)
  calls_by-each P worker [] each = tt
  calls_by-each P worker (call ∷ own) each = (each.0, calls_by-each P worker own each.1)

  pub calls_from-each : (P : Call → Type 0) → ((worker : ℕ) (own : A) → AllByRecursion P (calls worker own))
      → (worker : ℕ) (all : List A) → AllByRecursion (λ (command : ℕ × Call). P command.1) (calls_from calls worker all)
  calls_from-each P each worker [] = tt
  calls_from-each P each worker (own ∷ all) =
      AllByRecursion-append (λ (command : ℕ × Call). P command.1) (map (λ call. (worker, call)) (calls worker own))
      (calls_from calls (worker + 1) all) (calls_by-each P worker (calls worker own) (each worker own))
      (calls_from-each P each (worker + 1) all)

-- ---- counted

-- a number by a test
abbrev pub one_if : Bool → ℕ
one_if test = cond test 1 0

-- a command of a worker from this one on is that worker's, or one further on
one_of : (asks : Bool) (n worker : ℕ)
    → one_if ((n == worker) && asks) + one_if (nat_lt (worker + 1) (n + 1) && asks) ≤ one_if (nat_lt worker (n + 1) && asks)
one_of asks n worker = elim (cases_lt worker n) [
  | inl more ↦
      let other : (n == worker) ≡ false = ne_eqb n worker (λ same. absurd (omega (arith, same, more))) in
      let behind : nat_lt (worker + 1) (n + 1) ≡ true = lt-ltb (worker + 1) (n + 1) (omega (arith, more)) in
      let here : nat_lt worker (n + 1) ≡ true = lt-ltb worker (n + 1) (omega (arith, more)) in
      omega (
        arith,
        ap (λ b. one_if (b && asks)) other,
        ap (λ b. one_if (b && asks)) behind,
        ap (λ b. one_if (b && asks)) here,
      )
  | inr less ↦ elim (cases_lt n worker) [
    | inl below ↦
        let other : (n == worker) ≡ false = ne_eqb n worker (λ same. absurd (omega (arith, same, below))) in
        let behind : nat_lt (worker + 1) (n + 1) ≡ false = le-ltb (worker + 1) (n + 1) (omega (arith, below)) in
        omega (arith, ap (λ b. one_if (b && asks)) other, ap (λ b. one_if (b && asks)) behind)
    | inr same ↦
        let own : (n == worker) ≡ true = eq-eqb n worker (omega (arith, same, less)) in
        let behind : nat_lt (worker + 1) (n + 1) ≡ false = le-ltb (worker + 1) (n + 1) (omega (arith, less)) in
        let here : nat_lt worker (n + 1) ≡ true = lt-ltb worker (n + 1) (omega (arith, same)) in
        omega (
          arith,
          ap (λ b. one_if (b && asks)) own,
          ap (λ b. one_if (b && asks)) behind,
          ap (λ b. one_if (b && asks)) here,
        )
  ]
]

one_less : (first second : Bool) → one_if (first && second) ≤ one_if second
one_less true second = omega arith
one_less false second = omega arith

module _ {C : Type 0} (test : C → Bool) where
  -- how many of a worker's commands pass a test
  pub count-commands_of : (worker : ℕ) (commands : List (ℕ × C))
      → count_by test (commands_of worker commands) ≡ count_by (λ command. (command.0 == worker) && test command.1) commands
  count-commands_of worker [] = refl
  count-commands_of worker (command ∷ commands) =
      by_test (command.0 == worker) refl (count-commands_of worker commands)
    where
      by_test : (mine : Bool) → (command.0 == worker) ≡ mine
          → count_by test (commands_of worker commands) ≡ count_by (λ c. (c.0 == worker) && test c.1) commands
          → count_by test (cond (command.0 == worker) (command.1 ∷ commands_of worker commands) (commands_of worker commands))
          ≡ count_by (λ c. (c.0 == worker) && test c.1) (command ∷ commands)
      by_test true mine behind =
          let first = sum_by-cons (λ (c : ℕ × C). one_if ((c.0 == worker) && test c.1)) command commands in
          let own : count_by test (cond (command.0 == worker) (command.1 ∷ commands_of worker commands) (commands_of worker commands))
          ≡ one_if (test command.1) + count_by test (commands_of worker commands) =
          ap (λ b. count_by test (cond b (command.1 ∷ commands_of worker commands) (commands_of worker commands))) mine
          ∙ sum_by-cons (λ a. one_if (test a)) command.1 (commands_of worker commands) in
          let here : one_if ((command.0 == worker) && test command.1) ≡ one_if (test command.1) =
          ap (λ b. one_if (b && test command.1)) mine in
          omega (arith, first, own, here, behind)
      by_test false mine behind =
          let first = sum_by-cons (λ (c : ℕ × C). one_if ((c.0 == worker) && test c.1)) command commands in
          let own : count_by test (cond (command.0 == worker) (command.1 ∷ commands_of worker commands) (commands_of worker commands))
          ≡ count_by test (commands_of worker commands) =
          ap (λ b. count_by test (cond b (command.1 ∷ commands_of worker commands) (commands_of worker commands))) mine in
          let here : one_if ((command.0 == worker) && test command.1) ≡ 0 =
          ap (λ b. one_if (b && test command.1)) mine in
          omega (arith, first, own, here, behind)

  -- the commands that pass it, of workers from this one on, and of one worker
  abbrev count_from : ℕ → List (ℕ × C) → ℕ
  count_from worker commands = count_by (λ command. nat_lt worker (command.0 + 1) && test command.1) commands

  abbrev own_count : ℕ → List (ℕ × C) → ℕ
  own_count worker commands = count_by (λ command. (command.0 == worker) && test command.1) commands

  count_step : (worker : ℕ) (commands : List (ℕ × C))
      → own_count worker commands + count_from (worker + 1) commands ≤ count_from worker commands
  count_step worker [] = omega arith
  count_step worker (command ∷ commands) =
      omega (
        arith,
        count_step worker commands,
        one_of (test command.1) command.0 worker,
        sum_by-cons (λ (c : ℕ × C). one_if ((c.0 == worker) && test c.1)) command commands,
        sum_by-cons (λ (c : ℕ × C). one_if (nat_lt (worker + 1) (c.0 + 1) && test c.1)) command commands,
        sum_by-cons (λ (c : ℕ × C). one_if (nat_lt worker (c.0 + 1) && test c.1)) command commands,
      )

  -- no more pass it and another one than pass it
  count_less : (other : ℕ × C → Bool) (commands : List (ℕ × C))
      → count_by (λ command. other command && test command.1) commands ≤ count_by (λ command. test command.1) commands
  count_less other [] = omega arith
  count_less other (command ∷ commands) =
      omega (
        arith,
        count_less other commands,
        one_less (other command) (test command.1),
        sum_by-cons (λ (c : ℕ × C). one_if (other c && test c.1)) command commands,
        sum_by-cons (λ (c : ℕ × C). one_if (test c.1)) command commands,
      )

  -- no more of a worker's commands pass it than of all
  pub count_own-less : (worker : ℕ) (commands : List (ℕ × C))
      → count_by test (commands_of worker commands) ≤ count_by (λ command. test command.1) commands
  count_own-less worker commands =
      omega (arith, count-commands_of worker commands, count_less (λ command. command.0 == worker) commands)

  -- Where no more of each worker's calls want something than commands of its own pass the test, no more of all calls do than of all commands.
  module _ {A : Type 0} (calls : ℕ → A → List Call) (wants : Call → Bool) (commands : List (ℕ × C))
      (few : (worker : ℕ) (own : A) → count_by wants (calls worker own) ≤ count_by test (commands_of worker commands)) where
    -- the same with the worker beside each call
    calls_by_want : (worker : ℕ) (own : List Call)
        → count_by (λ (command : ℕ × Call). wants command.1) (map (λ call. (worker, call)) own) ≡ count_by wants own
    calls_by_want worker [] = refl
    calls_by_want worker (call ∷ own) =
        omega (
          arith,
          calls_by_want worker own,
          sum_by-cons (λ (command : ℕ × Call). one_if (wants command.1)) (worker, call) (map (λ c. (worker, c)) own),
          sum_by-cons (λ (c : Call). one_if (wants c)) call own,
        )

    -- by induction over the workers
    calls_from_want : (worker : ℕ) (all : List A)
        → count_by (λ (command : ℕ × Call). wants command.1) (calls_from calls worker all) ≤ count_from worker commands
    calls_from_want worker [] = omega arith
    calls_from_want worker (own ∷ all) =
        omega (
          arith,
          sum_by-append (λ (command : ℕ × Call). one_if (wants command.1)) (map (λ call. (worker, call)) (calls worker own))
              (calls_from calls (worker + 1) all),
          calls_by_want worker (calls worker own),
          few worker own,
          count-commands_of worker commands,
          calls_from_want (worker + 1) all,
          count_step worker commands,
        )

    pub all_calls_want : (all : List A)
        → count_by (λ (command : ℕ × Call). wants command.1) (calls_from calls 1 all) ≤ count_by (λ command. test command.1) commands
    all_calls_want all = omega (arith, calls_from_want 1 all, count_less (λ command. nat_lt 1 (command.0 + 1)) commands)

    -- so it is for the first worker's
    pub first_calls_want : (default : A) (all : List A) → 0 < length all
        → count_by wants (calls_of 1 (calls_from calls 1 all)) ≤ count_by (λ command. test command.1) commands
    first_calls_want default all some =
        omega (
          arith,
          ap (count_by wants) (calls_of-all calls default 0 all some),
          few 1 (get_or all 0 default),
          count_own-less 1 commands,
        )
