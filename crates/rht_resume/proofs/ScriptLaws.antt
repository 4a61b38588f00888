-- What the commands of a script say of the calls that they stand for: a `next` stands for walks alone, which want no node, bind nothing and
-- leave the bindings as they are. So no more calls want a node than commands bind or rebind, and they bind no other ports. Where the table is
-- roomy for the commands, it is roomy for the calls; and where it is enough for the plain calls of one worker, it is enough for all its calls.
use Rattle.std.proofs.Common.{◌≡◌, ℕ, zero, suc, ◌<◌, ◌≤◌, false, Option, Some, List, [], ◌∷◌, ◌++◌, length, take, get_or, refl, ◌∙◌, ap, subst, arith}
use Rattle.std.specs.Prelude.{count_by}
use Rattle.std.specs.List.{AllByRecursion}
use Rattle.std.proofs.lemmas.List.Sums.{sum_by-cons, sum_by-append}
use Rattle.rht_words.proofs.EachElement.{AllByRecursion-append}
use Rattle.rht_words.specs.declared.config.Config.{Config}
use Rattle.rht_words.specs.declared.config.Kind.{Kind}
use Rattle.rht_model.specs.declared.history.Call.{Call}
use Rattle.rht_model.specs.Answers.{bindings_after}
use Rattle.rht_model.specs.Endings.{Ending}
use Rattle.rht_model.specs.Multimap.{Port, Multimap, unbound}
use Rattle.rht_stands.specs.StandsFor.{AreBound}
use Rattle.rht_core.specs.FewPorts.{BindsAmong}
use Rattle.rht_core.specs.NeverRefused.{IsRoomyFor, bindings_after_all, IsSmallFor}
use Rattle.rht_core.specs.NodesUsed.{needs_node}
use Rattle.rht_core.specs.Serving.{calls_of}
use Rattle.rht_workers.proofs.WorkerCommands.{one_if, commands_of-each, calls_from-each, all_calls_want, first_calls_want}
use Rattle.rht_resume.specs.declared.resume.ResumeCall.{ResumeCall}
use Rattle.rht_resume.specs.declared.resume.ResumeCall.TheVariants as asks
use Rattle.rht_resume.specs.declared.resumed.Spot.{Spot}
use Rattle.rht_resume.specs.Answers.{calls_for, spot_after, own_endings, endings_behind, calls_in_turn, commands_of, own_calls, all_calls}
use Rattle.rht_resume.specs.Pieces.{Turn, On, Over, Never, start, begun, turn_of, walk_at, walks_by, walks_from, walks_of}
use Rattle.rht_resume.specs.Laws.{asks_node, AsksAmong, plain_calls, OutnumbersByCommands, IsRoomyForPieces, TakesAllWhereRoomy, IsSmallForPieces, AnswersAsModel}
use Rattle.rht_resume.proofs.ResumeRuns.{calls_of-all}

-- ---- the walks of a `next`

-- what is so of a walk from each spot is so of all of them
module _ (P : Call → Type 0) (walk : (spot : Spot) → P (walk_at spot)) (limit : ℕ) where
  walks_by-each : (endings : List Ending)
      → ((spot : Spot) (pairs : List (Port × ℕ)) → AllByRecursion P (walks_from limit spot pairs endings))
      → (turn : Turn) → AllByRecursion P (walks_by turn (λ spot pairs. walks_from limit spot pairs endings))
  walks_by-each endings others (On spot pairs) = others spot pairs
  walks_by-each endings others (Over outcome) = tt
  walks_by-each endings others Never = tt

  -- by induction over the answers
  walks_from-each : (spot : Spot) (pairs : List (Port × ℕ)) (endings : List Ending) → AllByRecursion P (walks_from limit spot pairs endings)
  walks_from-each spot pairs [] = tt
  walks_from-each spot pairs (ending ∷ endings) =
      (walk spot, walks_by-each endings (λ s p. walks_from-each s p endings) (turn_of limit spot pairs ending))

  walks_of-each : (spot : Spot) (endings : List Ending) → AllByRecursion P (walks_of limit spot endings)
  walks_of-each spot endings = walks_from-each spot [] endings

-- ---- nodes

-- such calls want none
want_none : (calls : List Call) → AllByRecursion (λ call. needs_node call ≡ false) calls → count_by needs_node calls ≡ 0
want_none [] each = refl
want_none (call ∷ calls) each =
    let here : one_if (needs_node call) ≡ 0 = ap one_if each.0 in
    omega (arith, here, want_none calls each.1, sum_by-cons (λ (c : Call). one_if (needs_node c)) call calls)

for_wants : (spot : Option Spot) (ask : ResumeCall) (own : List Ending)
    → count_by needs_node (calls_for spot ask own) ≤ one_if (asks_node ask)
for_wants spot (asks.Plain call) own = omega (arith, sum_by-cons (λ (c : Call). one_if (needs_node c)) call [])
for_wants spot (asks.Next limit) own =
    omega (
      arith,
      want_none (walks_of limit (begun spot) own) (walks_of-each (λ call. needs_node call ≡ false) (λ s. refl) limit (begun spot) own),
    )

-- by induction over a worker's commands
in_turn_wants : (spot : Option Spot) (asked : List ResumeCall) (endings : List Ending)
    → count_by needs_node (calls_in_turn spot asked endings) ≤ count_by asks_node asked
in_turn_wants spot [] endings = omega arith
in_turn_wants spot (ask ∷ asked) endings =
    let own = own_endings spot ask endings in
    let next = spot_after spot ask own in
    let behind = endings_behind spot ask endings in
    omega (
      arith,
      sum_by-append (λ (c : Call). one_if (needs_node c)) (calls_for spot ask own) (calls_in_turn next asked behind),
      for_wants spot ask own,
      in_turn_wants next asked behind,
      sum_by-cons (λ a. one_if (asks_node a)) ask asked,
    )

-- and so for all workers
all_want : (commands : List (ℕ × ResumeCall)) (endings : List (List Ending))
    → count_by (λ (command : ℕ × Call). needs_node command.1) (all_calls commands endings)
    ≤ count_by (λ command. asks_node command.1) commands
all_want commands endings =
    all_calls_want asks_node (own_calls commands) needs_node commands (λ worker own. in_turn_wants (Some start) (commands_of worker commands) own)
    endings

pub outnumbers : OutnumbersByCommands
outnumbers config commands endings more = omega (arith, more, all_want commands endings)

-- ---- ports

module _ (ports : List Port) where
  among-for : (spot : Option Spot) (ask : ResumeCall) (own : List Ending) → AsksAmong ports ask
      → AllByRecursion (BindsAmong ports) (calls_for spot ask own)
  among-for spot (asks.Plain call) own among = (among, tt)
  among-for spot (asks.Next limit) own among = walks_of-each (BindsAmong ports) (λ s. tt) limit (begun spot) own

  among-turn : (spot : Option Spot) (asked : List ResumeCall) (endings : List Ending) → AllByRecursion (AsksAmong ports) asked
      → AllByRecursion (BindsAmong ports) (calls_in_turn spot asked endings)
  among-turn spot [] endings among = tt
  among-turn spot (ask ∷ asked) endings among =
      let own = own_endings spot ask endings in
      let next = spot_after spot ask own in
      let behind = endings_behind spot ask endings in
      AllByRecursion-append (BindsAmong ports) (calls_for spot ask own) (calls_in_turn next asked behind)
      (among-for spot ask own among.0) (among-turn next asked behind among.1)

IsRoomyFor-calls : (config : Config) (commands : List (ℕ × ResumeCall)) (endings : List (List Ending)) → IsRoomyForPieces config commands
    → IsRoomyFor config (all_calls commands endings)
IsRoomyFor-calls config commands endings roomy = record {
  first = roomy.first;
  keeps_size = roomy.keeps_size;
  nodes = (let enough = roomy.nodes in omega (arith, enough, all_want commands endings));
  ports = roomy.ports;
  few = roomy.few;
  among =
      calls_from-each (own_calls commands) (BindsAmong roomy.ports)
      (λ worker own. among-turn roomy.ports (Some start) (commands_of worker commands) own
      (commands_of-each (AsksAmong roomy.ports) worker commands roomy.among)) 1 endings;
}

pub takes_all : TakesAllWhereRoomy
takes_all config auto commands answers closed resuming roomy =
    resuming.run.roomy (IsRoomyFor-calls config commands resuming.endings roomy)

-- ---- the bindings of one worker

module _ (kind : Kind) where
  -- Each prefix of these calls leaves the bindings that some prefix of those leaves.
  abbrev LeavesAsSome : Multimap → List Call → List Call → Type 0
  LeavesAsSome bindings calls others =
      (n : ℕ) → (m : ℕ) × (bindings_after_all kind bindings (take n calls) ≡ bindings_after_all kind bindings (take m others))

  -- the call leaves any bindings as they are
  abbrev LeavesAll : Call → Type 0
  LeavesAll call = (bindings : Multimap) → bindings_after kind bindings call ≡ bindings

  -- such calls in front make no difference
  quiet-front : (bindings : Multimap) (quiet calls others : List Call) → AllByRecursion LeavesAll quiet → LeavesAsSome bindings calls others
      → LeavesAsSome bindings (quiet ++ calls) others
  quiet-front bindings [] calls others each some n = some n
  quiet-front bindings (call ∷ quiet) calls others each some zero = (0, refl)
  quiet-front bindings (call ∷ quiet) calls others each some (suc n) =
      let behind = quiet-front bindings quiet calls others each.1 some n in
      (behind.0, ap (λ b. bindings_after_all kind b (take n (quiet ++ calls))) (each.0 bindings) ∙ behind.1)

  -- and the same call in front of both makes none
  same-front : (bindings : Multimap) (call : Call) (calls others : List Call) → LeavesAsSome (bindings_after kind bindings call) calls others
      → LeavesAsSome bindings (call ∷ calls) (call ∷ others)
  same-front bindings call calls others some zero = (0, refl)
  same-front bindings call calls others some (suc n) =
      let behind = some n in
      (suc behind.0, behind.1)

  -- By induction over a worker's commands: its calls leave what its plain calls leave.
  leaves-plain : (bindings : Multimap) (spot : Option Spot) (asked : List ResumeCall) (endings : List Ending)
      → LeavesAsSome bindings (calls_in_turn spot asked endings) (plain_calls asked)
  leaves-plain bindings spot [] endings = λ n. (n, refl)
  leaves-plain bindings spot (asks.Plain call ∷ asked) endings =
      let ask = asks.Plain call in
      let next = spot_after spot ask (own_endings spot ask endings) in
      let behind = endings_behind spot ask endings in
      same-front bindings call (calls_in_turn next asked behind) (plain_calls asked)
      (leaves-plain (bindings_after kind bindings call) next asked behind)
  leaves-plain bindings spot (asks.Next limit ∷ asked) endings =
      let ask = asks.Next limit in
      let own = own_endings spot ask endings in
      let next = spot_after spot ask own in
      let behind = endings_behind spot ask endings in
      quiet-front bindings (walks_of limit (begun spot) own) (calls_in_turn next asked behind) (plain_calls asked)
      (walks_of-each LeavesAll (λ s b. refl) limit (begun spot) own) (leaves-plain bindings next asked behind)

-- ---- one worker

IsSmallFor-calls : (config : Config) (commands : List (ℕ × ResumeCall)) (endings : List (List Ending)) → length endings ≡ config.callers
    → IsSmallForPieces config commands → IsSmallFor config (calls_of 1 (all_calls commands endings))
IsSmallFor-calls config commands endings workers small =
    let some : 0 < length endings = (let one = small.one in omega (arith, one, workers)) in
    let own = get_or endings 0 [] in
    let asked = commands_of 1 commands in
    let calls : calls_of 1 (all_calls commands endings) ≡ calls_in_turn (Some start) asked own = calls_of-all commands 0 endings some in
    record {
      one = small.one;
      first = small.first;
      keeps_size = small.keeps_size;
      nodes = (let enough = small.nodes in
          omega (
            arith,
            first_calls_want asks_node (own_calls commands) needs_node commands
                (λ worker own. in_turn_wants (Some start) (commands_of worker commands) own) [] endings some,
            enough,
          ));
      few = λ n bound.
          let plain = leaves-plain config.kind unbound (Some start) asked own n in
          small.few plain.0
          (subst (λ (b : Multimap). AreBound b 16)
          (ap (λ l. bindings_after_all config.kind unbound (take n l)) calls ∙ plain.1) bound);
    }

pub as_model : AnswersAsModel
as_model config auto commands answers closed resuming small =
    resuming.run.small (IsSmallFor-calls config commands resuming.endings resuming.run.served.workers small)
