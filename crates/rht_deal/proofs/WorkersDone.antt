-- From what all workers have done to what was dealt: put in order, the commands of each worker are those that its pass has served, and they
-- ended as it kept them. So all passes have served the commands, each as its worker's.
use Rattle.std.proofs.Common.{◌≡◌, ℕ, zero, suc, ◌+◌, ◌-◌, ◌<◌, Bool, true, false, cond, List, [], ◌∷◌, length, map, get_or, refl, sym, ◌∙◌, ap, subst, arith}
use Rattle.std.specs.Prelude.{sum_by, ◌==◌}
use Rattle.std.specs.List.{AllByRecursion, range_with_len}
use Rattle.std.proofs.lemmas.List.{get_or-map, length-map}
use Rattle.std.proofs.lemmas.List.FromFn.{get_or-map-range_with_len, length-map-range_with_len, length-range_with_len}
use Rattle.std.proofs.lemmas.List.Sums.{sum_by-cons}
use Rattle.rht_words.specs.Settled.{plain_ways}
use Rattle.rht_model.specs.declared.history.Call.{Call}
use Rattle.rht_model.specs.declared.history.Call.TheVariants.{Count}
use Rattle.rht_core.specs.Serving.{calls_of}
use Rattle.rht_run.specs.declared.pass.Pass.{Pass}
use Rattle.rht_run.specs.declared.table.Table.{Table}
use Rattle.rht_run.specs.Workers.{HasServedCalls, HaveServedAll}
use Rattle.rht_script.specs.declared.script.Script.{Script}
use Rattle.rht_script.specs.declared.done.Done.{Done}
use Rattle.rht_deal.specs.declared.worker.Worker.{Worker}
use Rattle.rht_deal.specs.DoneCommands.{ending_of, numbers_of, done_by, endings_of, all_endings, as_done, calls_at}
use Rattle.rht_deal.specs.Numbers.{numbers_to, weight}
use Rattle.rht_deal.specs.Ordering.{AreOwn, AreEachOnce}
use Rattle.rht_deal.specs.Workers.{IsWorking, AreWorking, HaveDoneAll, passes_of, kept_of}

-- ---- commands in order

-- what was done has the numbers from this one on, each once
abbrev AreFrom : ℕ → List Done → Type 0
AreFrom number dones = numbers_of dones ≡ range_with_len number (length dones)

-- the call of a command behind others
module _ (all : List (ℕ × Call)) where
  -- those behind so many of them
  abbrev Behind : ℕ → List (ℕ × Call) → Type 0
  Behind count commands = (i : ℕ) → get_or commands i (0, Count) ≡ get_or all (count + i) (0, Count)

  -- The calls of a worker's commands are the calls at the numbers of what it has done. By induction over what was done.
  calls_of-as_done : (worker count : ℕ) (dones : List Done) (commands : List (ℕ × Call)) → length dones ≡ length commands
      → numbers_of dones ≡ range_with_len (count + 1) (length dones) → Behind count commands
      → calls_of worker (as_done dones commands) ≡ calls_at all (numbers_of (done_by worker dones))
  calls_of-as_done worker count [] commands same numbers behind = refl
  calls_of-as_done worker count (done ∷ dones) [] same numbers behind = absurd (omega (arith, same))
  calls_of-as_done worker count (done ∷ dones) (command ∷ commands) same numbers behind =
      let first : done.number ≡ count + 1 = λ i. get_or (numbers i) 0 0 in
      let others : numbers_of dones ≡ range_with_len (count + 1 + 1) (length dones) = λ i. tail (numbers i) in
      let on : Behind (count + 1) commands = λ i.
      (let same : count + suc i ≡ count + 1 + i = omega arith in behind (suc i) ∙ ap (λ n. get_or all n (0, Count)) same) in
      let rest = calls_of-as_done worker (count + 1) dones commands (omega (arith, same)) others on in
      let here : command.1 ≡ (get_or all (done.number - 1) (0, Count)).1 =
      (let place : count + 0 ≡ done.number - 1 = omega (arith, first) in
      ap (λ (c : ℕ × Call). c.1) (behind 0 ∙ ap (λ n. get_or all n (0, Count)) place)) in
      by_test (done.worker == worker) here rest
    where
      tail : List ℕ → List ℕ
      tail [] = []
      tail (n ∷ ns) = ns

      by_test : (own : Bool) → command.1 ≡ (get_or all (done.number - 1) (0, Count)).1
          → calls_of worker (as_done dones commands) ≡ calls_at all (numbers_of (done_by worker dones))
          → cond own (command.1 ∷ calls_of worker (as_done dones commands)) (calls_of worker (as_done dones commands))
          ≡ calls_at all (numbers_of (cond own (done ∷ done_by worker dones) (done_by worker dones)))
      by_test true here rest = λ i. here i ∷ rest i
      by_test false here rest = rest

  pub calls_of-done : (worker : ℕ) (dones : List Done) → length dones ≡ length all
      → numbers_of dones ≡ range_with_len 1 (length dones)
      → calls_of worker (as_done dones all) ≡ calls_at all (numbers_of (done_by worker dones))
  calls_of-done worker dones same numbers =
      calls_of-as_done worker 0 dones all same numbers (λ i. let same : i ≡ 0 + i = omega arith in ap (λ n. get_or all n (0, Count)) same)

-- ---- endings

-- the endings of a worker stand at its place
pub all_endings-at : (workers i : ℕ) (dones : List Done) → i < workers → get_or (all_endings workers dones) i [] ≡ endings_of (i + 1) dones
all_endings-at workers i dones below =
    get_or-map-range_with_len (λ worker. endings_of worker dones) 1 workers i (i + 1) [] below (omega arith)

pub length-all_endings : (workers : ℕ) (dones : List Done) → length (all_endings workers dones) ≡ workers
length-all_endings workers dones = length-map-range_with_len (λ worker. endings_of worker dones) 1 workers

-- ---- all workers

module _ {M : Type 0} (mix : ℕ → ℕ → ℕ → ℕ) (t : Table M) (script : Script) where
  -- a worker at its place is the one of that number
  pub AreWorking-at : (number : ℕ) (workers : List (Worker M)) (i : ℕ) (default : Worker M) → AreWorking mix t script number workers
      → i < length workers
      → IsWorking mix t script (get_or workers i default) × ((get_or workers i default).number ≡ number + i)
  AreWorking-at number [] i default all below = absurd (omega (arith, below))
  AreWorking-at number (worker ∷ workers) zero default all below = (all.0, (let is = all.1 in omega (arith, is)))
  AreWorking-at number (worker ∷ workers) (suc i) default all below =
      let there = AreWorking-at (number + 1) workers i default all.2 (omega (arith, below)) in
      (there.0, (let is = there.1 in omega (arith, is)))

  -- what each has done is its own, in rising order
  pub AreOwn-workers : (number : ℕ) (workers : List (Worker M)) → AreWorking mix t script number workers → AreOwn number (kept_of workers)
  AreOwn-workers number [] all = tt
  AreOwn-workers number (worker ∷ workers) all = (
    subst (λ (n : ℕ). AllByRecursion (λ (done : Done). done.worker ≡ n) worker.done.items) all.1 all.0.own,
    all.0.rising,
    AreOwn-workers (number + 1) workers all.2,
  )

  -- and together that is all, each once
  pub AreEachOnce-workers : (count : ℕ) (workers : List (Worker M)) → HaveDoneAll count workers → AreEachOnce count (kept_of workers)
  AreEachOnce-workers count workers all h = all h ∙ by_workers workers
    where
      by_workers : (ws : List (Worker M))
          → sum_by (λ (w : Worker M). weight h (numbers_of w.done.items)) ws ≡ sum_by (λ own. weight h (numbers_of own)) (kept_of ws)
      by_workers [] = refl
      by_workers (w ∷ ws) =
          omega (
            arith,
            sum_by-cons (λ (v : Worker M). weight h (numbers_of v.done.items)) w ws,
            sum_by-cons (λ own. weight h (numbers_of own)) w.done.items (kept_of ws),
            by_workers ws,
          )

  -- So all passes have served the commands, each as its worker's, with the endings that are kept.
  pub HaveServedAll-done : (workers : List (Worker M)) (dones : List Done) → t.env.config ≡ script.config
      → t.env.ways ≡ plain_ways → AreWorking mix t script 1 workers → length workers ≡ script.config.callers
      → numbers_of dones ≡ numbers_to (length script.commands.items)
      → ((i : ℕ) → i < length workers → done_by (i + 1) dones ≡ get_or (kept_of workers) i [])
      → HaveServedAll mix script.config t script.auto (as_done dones script.commands.items) (passes_of workers)
      (all_endings script.config.callers dones)
  HaveServedAll-done workers dones config ways all many numbers each = record {
    config_same = config;
    ways_plain = ways;
    many = length-map workers (λ (w : Worker M). w.pass) ∙ many;
    workers = length-all_endings script.config.callers dones;
    each = λ i default below.
        let commands = script.commands.items in
        let within : i < length workers = omega (arith, below, many) in
        let blank : Worker M = get_or workers i (some_worker workers within) in
        let there = AreWorking-at 1 workers i blank all within in
        let worker = get_or workers i blank in
        let count : length dones ≡ length commands =
        sym (length-map dones (λ (d : Done). d.number)) ∙ ap length numbers ∙ length-range_with_len 1 (length commands) in
        let in_order : numbers_of dones ≡ range_with_len 1 (length dones) = numbers ∙ ap (range_with_len 1) (sym count) in
        let mine : done_by (i + 1) dones ≡ worker.done.items =
        each i within ∙ get_or-map (λ (w : Worker M). w.done.items) workers i blank [] within in
        let number : worker.pass.number ≡ i = (let is = there.1 in let counted = there.0.counted in omega (arith, is, counted)) in
        let calls : calls_at commands (numbers_of worker.done.items) ≡ calls_of (i + 1) (as_done dones commands) =
        ap (λ ds. calls_at commands (numbers_of ds)) (sym mine) ∙ sym (calls_of-done commands (i + 1) dones count in_order) in
        let endings : map ending_of worker.done.items ≡ get_or (all_endings script.config.callers dones) i [] =
        ap (map ending_of) (sym mine) ∙ sym (all_endings-at script.config.callers i dones below) in
        let at : get_or (passes_of workers) i default ≡ worker.pass =
        get_or-map (λ (w : Worker M). w.pass) workers i blank default within in
        subst (λ (p : Pass M). HasServedCalls mix t script.auto i (calls_of (i + 1) (as_done dones commands)) p
        (get_or (all_endings script.config.callers dones) i [])) (sym at)
        (subst (λ cs. HasServedCalls mix t script.auto i cs worker.pass (get_or (all_endings script.config.callers dones) i [])) calls
        (subst (λ es. HasServedCalls mix t script.auto i (calls_at commands (numbers_of worker.done.items)) worker.pass es) endings
        (subst (λ (n : ℕ). HasServedCalls mix t script.auto n (calls_at commands (numbers_of worker.done.items)) worker.pass
        (map ending_of worker.done.items)) number there.0.served)));
  }
    where
      some_worker : (ws : List (Worker M)) → {i : ℕ} → i < length ws → Worker M
      some_worker [] below = absurd (omega (arith, below))
      some_worker (w ∷ ws) below = w

  -- so it is where the passes and what each has done were parted
  pub HaveServedAll-parted : (workers : List (Worker M)) (passes : List (Pass M)) (kept : List (List Done)) (dones : List Done) (count : ℕ)
      → t.env.config ≡ script.config → t.env.ways ≡ plain_ways → AreWorking mix t script 1 workers
      → length workers ≡ script.config.callers → passes ≡ passes_of workers → kept ≡ kept_of workers → count ≡ length script.commands.items → numbers_of dones ≡ numbers_to count
      → ((i : ℕ) → i < length kept → done_by (i + 1) dones ≡ get_or kept i [])
      → HaveServedAll mix script.config t script.auto (as_done dones script.commands.items) passes (all_endings script.config.callers dones)
  HaveServedAll-parted workers passes kept dones count config ways all many passes_are kept_are count_is numbers each =
      let as_many : length kept ≡ length workers = ap length kept_are ∙ length-map workers (λ (w : Worker M). w.done.items) in
      subst (λ ps. HaveServedAll mix script.config t script.auto (as_done dones script.commands.items) ps
      (all_endings script.config.callers dones)) (sym passes_are)
      (HaveServedAll-done workers dones config ways all many (numbers ∙ ap numbers_to count_is)
      (λ i below. each i (omega (arith, below, as_many)) ∙ ap (λ l. get_or l i []) kept_are))
