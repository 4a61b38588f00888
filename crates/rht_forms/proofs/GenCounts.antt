-- In a run of the script of a number as many endings are of a sort as the script has commands that can only end so. Each call has the cause
-- of its reply, and a look-up has one for `Found` and `Missing` alone. So what is counted of a worker's endings is what is counted of
-- its calls, and the calls of all workers are the commands.
use Rattle.std.proofs.Common.{◌≡◌, ℕ, zero, suc, ◌+◌, ◌<◌, ◌≤◌, ◌==◌, Bool, true, false, List, [], ◌∷◌, length, map, refl, sym, ap, ◌∙◌, subst, inl, inr, arith}
use Rattle.std.specs.Prelude.{slice_index_or, if◌then◌else◌, count_by, sum_by}
use Rattle.std.specs.List.{AllByRecursion}
use Rattle.std.proofs.lemmas.Bool.{cases_eq, eq-eqb, ne_eqb}
use Rattle.std.proofs.lemmas.List.Sums.{sum_by-cons}
use Rattle.rht_words.specs.declared.config.Config.{Config}
use Rattle.rht_words.specs.declared.env.Env.{Env}
use Rattle.rht_words.proofs.EachElement.{AllByRecursion-cut}
use Rattle.rht_words.proofs.Members.{one_if}
use Rattle.rht_policy.specs.Mix.{mix_named}
use Rattle.rht_model.specs.declared.bindings.Closed.{Closed}
use Rattle.rht_model.specs.declared.finished.Finished.{Finished}
use Rattle.rht_model.specs.declared.history.Call.{Call}
use Rattle.rht_model.specs.declared.history.Call.TheVariants.{Bind, Find, All, Release, Rebind, Walk, Work, Tidy, Count}
use Rattle.rht_model.specs.declared.history.Reply.{Reply}
use Rattle.rht_model.specs.declared.history.Reply.TheVariants.{Bound, Exists, Found, Missing, Released, Absent}
use Rattle.rht_model.specs.Endings.{Ending}
use Rattle.rht_core.specs.declared.event.Event.{Event}
use Rattle.rht_core.specs.Causes.{CauseOf, HasCause}
use Rattle.rht_core.specs.Serving.{Serves, calls_of}
use Rattle.rht_core.specs.Traces.{Past}
use Rattle.rht_core.proofs.Histories.ToldEntries.{tries-last}
use Rattle.rht_run.specs.ServedRuns.{tag_of, HasRun}
use Rattle.rht_registry.proofs.SoundCommands.{IsCommandFor}
use Rattle.rht_script.specs.Generated.{generated_said, generated_commands, is_bind, is_find, is_release, how_many as how_many_ask}
use Rattle.rht_script.proofs.GeneratedCommands.{generated_counts}
use Rattle.rht_forms.specs.GenText.{is_absent, CountsCommands}

-- the call binds, looks up or releases
abbrev IsPlain : Call → Type 0
IsPlain call = one_if (is_bind call) + (one_if (is_find call) + one_if (is_release call)) ≡ 1

-- what is counted in a list is the sum of what is counted of each element
record IsSumOf {X : Type 0} (of_one : X → ℕ) (m : List X → ℕ) : Type 0 where
  none : m [] ≡ 0
  more : (x : X) (xs : List X) → m (x ∷ xs) ≡ of_one x + m xs

-- ---- the commands are of three kinds

at_most_one : (call : Call) → one_if (is_bind call) + (one_if (is_find call) + one_if (is_release call)) ≤ 1
at_most_one (Bind port owner once) = omega arith
at_most_one (Find port) = omega arith
at_most_one (All port) = omega arith
at_most_one (Release port owner) = omega arith
at_most_one (Rebind port owner new) = omega arith
at_most_one (Walk from limit) = omega arith
at_most_one Work = omega arith
at_most_one Tidy = omega arith
at_most_one Count = omega arith

-- of each kind so many
abbrev plain_many : List (ℕ × Call) → ℕ
plain_many commands = how_many_ask is_bind commands + (how_many_ask is_find commands + how_many_ask is_release commands)

plain_many-cons : (command : ℕ × Call) (commands : List (ℕ × Call)) → plain_many (command ∷ commands)
    ≡ one_if (is_bind command.1) + (one_if (is_find command.1) + one_if (is_release command.1)) + plain_many commands
plain_many-cons command commands =
    let binds = sum_by-cons (λ (c : ℕ × Call). one_if (is_bind c.1)) command commands in
    let finds = sum_by-cons (λ (c : ℕ × Call). one_if (is_find c.1)) command commands in
    let releases = sum_by-cons (λ (c : ℕ × Call). one_if (is_release c.1)) command commands in omega (arith, binds, finds, releases)

plain_many-few : (commands : List (ℕ × Call)) → plain_many commands ≤ length commands
plain_many-few [] = omega arith
plain_many-few (command ∷ commands) =
    omega (arith, plain_many-cons command commands, at_most_one command.1, plain_many-few commands)

-- where these are all, each command is of one of them
all_plain : (commands : List (ℕ × Call)) → length commands ≤ plain_many commands → AllByRecursion (λ c. IsPlain c.1) commands
all_plain [] many = tt
all_plain (command ∷ commands) many =
    let sum = plain_many-cons command commands in
    let most = at_most_one command.1 in
    let few = plain_many-few commands in
    (omega (arith, many, sum, most, few), all_plain commands (omega (arith, many, sum, most)))

-- and so is each call of a worker
calls_plain : (worker : ℕ) (commands : List (ℕ × Call)) → AllByRecursion (λ c. IsPlain c.1) commands
    → AllByRecursion IsPlain (calls_of worker commands)
calls_plain worker [] all = tt
calls_plain worker (command ∷ commands) all =
    with_or_without (command.0 == worker) all.0 (calls_plain worker commands all.1)
  where
    with_or_without : (b : Bool) → IsPlain command.1 → AllByRecursion IsPlain (calls_of worker commands)
        → AllByRecursion IsPlain (if b then command.1 ∷ calls_of worker commands else calls_of worker commands)
    with_or_without true one rest = (one, rest)
    with_or_without false one rest = rest

-- ---- the calls of all workers are the commands

module _ (of_call : Call → ℕ) where
  -- what is counted of these calls
  abbrev asked : List Call → ℕ
  asked [] = 0
  asked (call ∷ calls) = of_call call + asked calls

  -- and of the calls of so many workers behind this one
  abbrev asked_of : List (ℕ × Call) → ℕ → ℕ → ℕ
  asked_of commands before zero = 0
  asked_of commands before (suc n) = asked (calls_of (before + 1) commands) + asked_of commands (before + 1) n

  asked_of-none : (before n : ℕ) → asked_of [] before n ≡ 0
  asked_of-none before zero = refl
  asked_of-none before (suc n) = omega (arith, asked_of-none (before + 1) n)

  -- the command of an earlier worker is none of theirs
  asked_of-earlier : (command : ℕ × Call) (commands : List (ℕ × Call)) (before n : ℕ) → command.0 ≤ before
      → asked_of (command ∷ commands) before n ≡ asked_of commands before n
  asked_of-earlier command commands before zero early = refl
  asked_of-earlier command commands before (suc n) early =
      let others = asked_of-earlier command commands (before + 1) n (omega (arith, early)) in
      rw (ne_eqb command.0 (before + 1) (λ same. absurd (omega (arith, same, early))))
      (ap (λ k. asked (calls_of (before + 1) commands) + k) others)

  -- that of one of them is counted once
  asked_of-one : (command : ℕ × Call) (commands : List (ℕ × Call)) (before n : ℕ) → before < command.0 → command.0 ≤ before + n
      → asked_of (command ∷ commands) before n ≡ of_call command.1 + asked_of commands before n
  asked_of-one command commands before zero low high = absurd (omega (arith, low, high))
  asked_of-one command commands before (suc n) low high = elim (cases_eq command.0 (before + 1)) [
    | inl same ↦
        let others = asked_of-earlier command commands (before + 1) n (omega (arith, same)) in
        rw (eq-eqb command.0 (before + 1) same) (omega (arith, others))
    | inr other ↦
        let others = asked_of-one command commands (before + 1) n (omega (arith, low, other)) (omega (arith, high)) in
        rw (ne_eqb command.0 (before + 1) other) (omega (arith, others))
  ]

  all_asked : (config : Config) (many : List (ℕ × Call) → ℕ) → IsSumOf (λ c. of_call c.1) many → (commands : List (ℕ × Call))
      → AllByRecursion (IsCommandFor config) commands → asked_of commands 0 config.callers ≡ many commands
  all_asked config many sums [] all = asked_of-none 0 config.callers ∙ sym sums.none
  all_asked config many sums (command ∷ commands) all =
      let one = asked_of-one command commands 0 config.callers (omega (arith, all.0.first)) (omega (arith, all.0.last)) in
      let others = all_asked config many sums commands all.1 in
      omega (arith, one, others, sums.more command commands)

  -- a call's cause is one for replies that are counted as the call is
  abbrev Agrees : (Reply → ℕ) → Type 1
  Agrees of_reply =
      (M : Type 0) (mix : ℕ → ℕ → ℕ → ℕ) (env : Env) (events : List Event) (c : ℕ) (past : Past) (call : Call) (reply : Reply)
      → CauseOf M mix env events c past call reply → IsPlain call → of_reply reply ≡ of_call call

  -- ---- the endings of a worker are those of its calls

  module _ (of_reply : Reply → ℕ) (m : List Ending → ℕ) (sums : IsSumOf (λ ending. of_reply ending.answer.reply) m) where
    abbrev IsCounted : Finished → Type 0
    IsCounted done = IsPlain done.call → of_reply done.reply ≡ of_call done.call

    one_worker : (auto : Bool) (calls : List Call) (endings : List Ending) (dones : List Finished) → Serves auto calls endings dones
        → AllByRecursion IsPlain calls → AllByRecursion IsCounted dones → m endings ≡ asked calls
    one_worker auto [] [] dones serves plain counted = sums.none
    one_worker auto [] (ending ∷ endings) dones serves plain counted = absurd serves
    one_worker auto (call ∷ calls) [] dones serves plain counted = absurd serves
    one_worker auto (call ∷ calls) (ending ∷ endings) dones serves plain counted =
        let parts = AllByRecursion-cut IsCounted serves.first serves.rest (subst (AllByRecursion IsCounted) serves.whole counted) in
        let for = serves.first_is in
        let tried = AllByRecursion-cut IsCounted for.tries for.behind (subst (AllByRecursion IsCounted) for.whole parts.0) in
        let here : of_reply ending.answer.reply ≡ of_call call =
        tries-last IsCounted call ending for.tries for.are_tries tried.0 plain.0 in
        let others = one_worker auto calls endings serves.rest serves.rest_is plain.1 parts.1 in
        omega (arith, sums.more ending endings, here, others)

    -- and those of all workers are theirs
    all_workers : (total : List (List Ending) → ℕ) → IsSumOf m total → (commands : List (ℕ × Call)) (endings : List (List Ending))
        (before : ℕ)
        → ((i : ℕ) → i < length endings → m (slice_index_or endings i []) ≡ asked (calls_of (before + i + 1) commands))
        → total endings ≡ asked_of commands before (length endings)
    all_workers total totals commands [] before each = totals.none
    all_workers total totals commands (own ∷ endings) before each =
        let same : before + 0 + 1 ≡ before + 1 = omega arith in
        let here : m own ≡ asked (calls_of (before + 1) commands) =
        each 0 (omega arith) ∙ ap (λ w. asked (calls_of w commands)) same in
        let others = all_workers total totals commands endings (before + 1)
        (λ i within. (let next : before + (suc i) + 1 ≡ before + 1 + i + 1 = omega arith in
        each (suc i) (omega (arith, within)) ∙ ap (λ w. asked (calls_of w commands)) next)) in
        omega (arith, totals.more own endings, here, others)

    -- ---- in a run

    counted_dones : Agrees of_reply → (M : Type 0) (mix : ℕ → ℕ → ℕ → ℕ) (env : Env) (events : List Event) (c : ℕ) (pasts : List Past)
        → AllByRecursion (HasCause M mix env events c) pasts → AllByRecursion IsCounted (map (λ past. past.done) pasts)
    counted_dones agrees M mix env events c [] causes = tt
    counted_dones agrees M mix env events c (past ∷ pasts) causes = (
      agrees M mix env events c past past.done.call past.done.reply causes.0,
      counted_dones agrees M mix env events c pasts causes.1,
    )

    -- so what is counted of all endings is what is counted of the commands
    as_asked : Agrees of_reply → (total : List (List Ending) → ℕ) → IsSumOf m total
        → (many : List (ℕ × Call) → ℕ) → IsSumOf (λ c. of_call c.1) many
        → (config : Config) (auto : Bool) (commands : List (ℕ × Call)) (endings : List (List Ending)) (closed : Closed)
        → AllByRecursion (IsCommandFor config) commands → AllByRecursion (λ c. IsPlain c.1) commands
        → HasRun config auto commands endings closed → total endings ≡ many commands
    as_asked agrees total totals many manys config auto commands endings closed sound plain run =
        all_workers total totals commands endings 0
        (λ i within. (let below : i < config.callers = omega (arith, within, run.served.workers) in
        let caused = run.caused i in
        let same : i + 1 ≡ 0 + i + 1 = omega arith in
        one_worker auto (calls_of (i + 1) commands) (slice_index_or endings i []) (run.tells.told.dones i)
        (run.tells.told.serves i below) (calls_plain (i + 1) commands plain)
        (subst (AllByRecursion IsCounted) caused.traced
        (counted_dones agrees (tag_of config.hash) (mix_named config) run.served.env run.served.events i _ caused.causes))
        ∙ ap (λ w. asked (calls_of w commands)) same))
        ∙ ap (λ n. asked_of commands 0 n) run.served.workers
        ∙ all_asked config many manys commands sound

-- ---- what is counted

how_many_ask-sums : (is : Call → Bool) → IsSumOf (λ (c : ℕ × Call). one_if (is c.1)) (how_many_ask is)
how_many_ask-sums is = record { none = refl; more = sum_by-cons (λ (c : ℕ × Call). one_if (is c.1)) }

-- two counts together
module _ {X : Type 0} (one other : X → ℕ) (m n : List X → ℕ) (sums : IsSumOf one m) (other_sums : IsSumOf other n) where
  both-sums : IsSumOf (λ x. one x + other x) (λ xs. m xs + n xs)
  both-sums = record {
    none = omega (arith, sums.none, other_sums.none);
    more = λ x xs. omega (arith, sums.more x xs, other_sums.more x xs);
  }

-- how many endings have a reply that passes a test
abbrev passing : (Reply → Bool) → List Ending → ℕ
passing is endings = count_by (λ ending. is ending.answer.reply) endings

passing-sums : (is : Reply → Bool) → IsSumOf (λ ending. one_if (is ending.answer.reply)) (passing is)
passing-sums is = record { none = refl; more = sum_by-cons (λ ending. one_if (is ending.answer.reply)) }

total-sums : (is : Reply → Bool) → IsSumOf (passing is) (λ endings. sum_by (passing is) endings)
total-sums is = record { none = refl; more = sum_by-cons (passing is) }

-- the sorts of replies that the line counts
abbrev is_bound : Reply → Bool
is_bound (Bound kick) = true
is_bound _ = false

abbrev is_exists : Reply → Bool
is_exists (Exists owner) = true
is_exists _ = false

abbrev is_found : Reply → Bool
is_found (Found owner) = true
is_found _ = false

abbrev is_missing : Reply → Bool
is_missing Missing = true
is_missing _ = false

abbrev is_released : Reply → Bool
is_released (Released kick) = true
is_released _ = false

-- a look-up is answered `Found` or `Missing`, and no other call is
finds_agree : Agrees (λ call. one_if (is_find call)) (λ reply. one_if (is_found reply) + one_if (is_missing reply))
finds_agree M mix env events c past (Find port) (Found owner) cause plain = refl
finds_agree M mix env events c past (Find port) Missing cause plain = refl
finds_agree M mix env events c past (Find port) _ cause plain = absurd cause
finds_agree M mix env events c past _ (Found owner) cause plain = absurd cause
finds_agree M mix env events c past _ Missing cause plain = absurd cause
finds_agree M mix env events c past _ _ cause plain = refl

-- and of these calls a release alone is answered `Released` or `Absent`
releases_agree : Agrees (λ call. one_if (is_release call)) (λ reply. one_if (is_released reply) + one_if (is_absent reply))
releases_agree M mix env events c past (Release port owner) (Released kick) cause plain = refl
releases_agree M mix env events c past (Release port owner) Absent cause plain = refl
releases_agree M mix env events c past (Release port owner) _ cause plain = absurd cause
releases_agree M mix env events c past (Rebind port owner new) reply cause plain = absurd (omega (arith, plain))
releases_agree M mix env events c past _ (Released kick) cause plain = absurd cause
releases_agree M mix env events c past _ Absent cause plain = absurd cause
releases_agree M mix env events c past _ _ cause plain = refl

-- ---- three counts

module _ (number : ℕ) (endings : List (List Ending)) (closed : Closed)
    (sound : AllByRecursion (IsCommandFor (generated_said number).config) (generated_commands number))
    (run : HasRun (generated_said number).config true (generated_commands number) endings closed) where
  plain : AllByRecursion (λ c. IsPlain c.1) (generated_commands number)
  plain =
      let counts = generated_counts number in
      all_plain (generated_commands number) (omega (arith, counts.all, counts.binds, counts.finds, counts.releases))

  -- what two tests pass together
  together : (of_call : Call → ℕ) (one other : Reply → Bool)
      → Agrees of_call (λ reply. one_if (one reply) + one_if (other reply))
      → (many : List (ℕ × Call) → ℕ) → IsSumOf (λ c. of_call c.1) many
      → sum_by (passing one) endings + sum_by (passing other) endings ≡ many (generated_commands number)
  together of_call one other agrees many manys =
      as_asked of_call (λ reply. one_if (one reply) + one_if (other reply)) (λ own. passing one own + passing other own)
      (both-sums (λ ending. one_if (one ending.answer.reply)) (λ ending. one_if (other ending.answer.reply))
      (passing one) (passing other) (passing-sums one) (passing-sums other))
      agrees (λ all. sum_by (passing one) all + sum_by (passing other) all)
      (both-sums (passing one) (passing other) (λ all. sum_by (passing one) all) (λ all. sum_by (passing other) all)
      (total-sums one) (total-sums other))
      many manys (generated_said number).config true (generated_commands number) endings closed sound plain run

  abbrev passing_all : (Reply → Bool) → ℕ
  passing_all is = sum_by (passing is) endings

  all_ended : passing_all (λ reply. true) ≡ 20000
  all_ended =
      as_asked (λ call. 1) (λ reply. 1) (passing (λ reply. true)) (passing-sums (λ reply. true))
      (λ M mix env events c past call reply cause plain. refl) (λ all. sum_by (passing (λ reply. true)) all)
      (total-sums (λ reply. true)) (λ commands. length commands) (record { none = refl; more = λ x xs. omega arith })
      (generated_said number).config true (generated_commands number) endings closed sound plain run
      ∙ (generated_counts number).all

  pub counts_commands : CountsCommands endings
  counts_commands = record {
    bound = passing_all is_bound;
    exists = passing_all is_exists;
    found = passing_all is_found;
    missing = passing_all is_missing;
    released = passing_all is_released;
    line =
        ap (λ n. n ∷ passing_all is_bound ∷ passing_all is_exists ∷ passing_all is_found ∷ passing_all is_missing
        ∷ passing_all is_released ∷ []) all_ended;
    finds =
        together (λ call. one_if (is_find call)) is_found is_missing finds_agree (how_many_ask is_find)
        (how_many_ask-sums is_find) ∙ (generated_counts number).finds;
    releases =
        together (λ call. one_if (is_release call)) is_released is_absent releases_agree (how_many_ask is_release)
        (how_many_ask-sums is_release) ∙ (generated_counts number).releases;
  }
