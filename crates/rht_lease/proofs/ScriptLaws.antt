-- What the commands of a script say of the calls that they stand for: no more of these want a node than commands bind or rebind, and they bind
-- no other ports. So where the table is roomy for the commands, it is roomy for the calls. Where it is enough for one worker's commands, its
-- calls are those of the model, which answers each. And a history tells of what the workers leave.
use Rattle.std.proofs.Common.{◌≡◌, ℕ, ◌<◌, ◌≤◌, Bool, true, false, cond, List, [], ◌∷◌, length, map, take, get_or, refl, sym, ◌∙◌, subst, arith}
use Rattle.std.specs.Prelude.{count_by, filter}
use Rattle.std.specs.List.{AllByRecursion}
use Rattle.std.proofs.lemmas.List.Sums.{sum_by-cons, sum_by-append}
use Rattle.rht_words.proofs.EachElement.{AllByRecursion-append, AllByRecursion-map}
use Rattle.rht_words.specs.declared.config.Config.{Config}
use Rattle.rht_model.specs.declared.history.Call.{Call}
use Rattle.rht_model.specs.declared.history.Call.TheVariants.{Release}
use Rattle.rht_model.specs.Multimap.{Port, unbound}
use Rattle.rht_core.specs.FewPorts.{BindsAmong}
use Rattle.rht_core.specs.NeverRefused.{IsRoomyFor, bindings_after_all, EndAsAnswered}
use Rattle.rht_core.specs.NodesUsed.{needs_node}
use Rattle.rht_core.specs.ToldHistories.{endings_by}
use Rattle.rht_core.proofs.Histories.NeverRefused.{one_worker_while_answered}
use Rattle.rht_core.proofs.Histories.ToldHistories.{told}
use Rattle.rht_stands.specs.StandsFor.{AreBound}
use Rattle.rht_run.specs.ServedRuns.{tag_of}
use Rattle.rht_policy.specs.Mix.{mix_named}
use Rattle.rht_workers.proofs.WorkerCommands.{one_if, commands_of-each, calls_from-each, all_calls_want, first_calls_want}
use Rattle.rht_lease.specs.declared.lease.Lease.{Lease}
use Rattle.rht_lease.specs.declared.lease.LeaseCall.{LeaseCall}
use Rattle.rht_lease.specs.declared.lease.LeaseCall.TheVariants as asks
use Rattle.rht_lease.specs.Answers.{Answer, calls_in_turn, commands_of, own_calls, all_calls}
use Rattle.rht_lease.specs.Books.{has_lease, is_ended, release_of, book_after, calls_for}
use Rattle.rht_lease.specs.Laws.{asks_node, AsksAmong, OutnumbersByCommands, IsRoomyForLeases, TakesAllWhereRoomy, AnswersAsModel, HistoryFits}
use Rattle.rht_lease.specs.Modelled.{nothing_leased}
use Rattle.rht_lease.proofs.LeaseRuns.{calls_of-all}
use Rattle.rht_lease.proofs.ModelledLeases.{few-turn, calls-turn, book-turn}

-- ---- nodes

-- releases want none
releases_want_none : (leases : List Lease) → count_by needs_node (map release_of leases) ≡ 0
releases_want_none [] = refl
releases_want_none (lease ∷ leases) =
    omega (
      arith,
      releases_want_none leases,
      sum_by-cons (λ (call : Call). one_if (needs_node call)) (release_of lease) (map release_of leases),
    )

cancel_wants_none : (has : Bool) (port owner : ℕ) → count_by needs_node (cond has (Release port owner ∷ []) []) ≡ 0
cancel_wants_none true port owner = refl
cancel_wants_none false port owner = refl

for_wants : (leases : List Lease) (ask : LeaseCall) → count_by needs_node (calls_for leases ask) ≤ one_if (asks_node ask)
for_wants leases (asks.Plain call) = omega (arith, sum_by-cons (λ (c : Call). one_if (needs_node c)) call [])
for_wants leases (asks.Lease lease) = omega arith
for_wants leases (asks.Renew lease) = omega arith
for_wants leases (asks.Cancel port owner) = omega (arith, cancel_wants_none (has_lease port owner leases) port owner)
for_wants leases (asks.Sweep now) = omega (arith, releases_want_none (filter (is_ended now) leases))

-- by induction over a worker's commands
in_turn_wants : (leases : List Lease) (asked : List LeaseCall) (answers : List Answer)
    → count_by needs_node (calls_in_turn leases asked answers) ≤ count_by asks_node asked
in_turn_wants leases [] answers = omega arith
in_turn_wants leases (ask ∷ asked) [] = omega arith
in_turn_wants leases (ask ∷ asked) (answer ∷ answers) =
    let next = book_after leases ask answer.0 in
    omega (
      arith,
      sum_by-append (λ (c : Call). one_if (needs_node c)) (calls_for leases ask) (calls_in_turn next asked answers),
      for_wants leases ask,
      in_turn_wants next asked answers,
      sum_by-cons (λ a. one_if (asks_node a)) ask asked,
    )

-- and so for all workers
all_want : (commands : List (ℕ × LeaseCall)) (answers : List (List Answer))
    → count_by (λ (command : ℕ × Call). needs_node command.1) (all_calls commands answers)
    ≤ count_by (λ command. asks_node command.1) commands
all_want commands answers =
    all_calls_want asks_node (own_calls commands) needs_node commands (λ worker own. in_turn_wants [] (commands_of worker commands) own) answers

pub outnumbers : OutnumbersByCommands
outnumbers config commands answers more = omega (arith, more, all_want commands answers)

-- ---- ports

module _ (ports : List Port) where
  among-cancel : (has : Bool) (port owner : ℕ) → AllByRecursion (BindsAmong ports) (cond has (Release port owner ∷ []) [])
  among-cancel true port owner = (tt, tt)
  among-cancel false port owner = tt

  among-for : (leases : List Lease) (ask : LeaseCall) → AsksAmong ports ask → AllByRecursion (BindsAmong ports) (calls_for leases ask)
  among-for leases (asks.Plain call) among = (among, tt)
  among-for leases (asks.Lease lease) among = (among, tt)
  among-for leases (asks.Renew lease) among = tt
  among-for leases (asks.Cancel port owner) among = among-cancel (has_lease port owner leases) port owner
  among-for leases (asks.Sweep now) among =
      AllByRecursion-map (BindsAmong ports) release_of (λ lease. tt) (filter (is_ended now) leases)

  among-turn : (leases : List Lease) (asked : List LeaseCall) (answers : List Answer) → AllByRecursion (AsksAmong ports) asked
      → AllByRecursion (BindsAmong ports) (calls_in_turn leases asked answers)
  among-turn leases [] answers among = tt
  among-turn leases (ask ∷ asked) [] among = tt
  among-turn leases (ask ∷ asked) (answer ∷ answers) among =
      AllByRecursion-append (BindsAmong ports) (calls_for leases ask) (calls_in_turn (book_after leases ask answer.0) asked answers)
      (among-for leases ask among.0) (among-turn (book_after leases ask answer.0) asked answers among.1)

IsRoomyFor-calls : (config : Config) (commands : List (ℕ × LeaseCall)) (answers : List (List Answer)) → IsRoomyForLeases config commands
    → IsRoomyFor config (all_calls commands answers)
IsRoomyFor-calls config commands answers roomy = record {
  first = roomy.first;
  keeps_size = roomy.keeps_size;
  nodes = (let enough = roomy.nodes in omega (arith, enough, all_want commands answers));
  ports = roomy.ports;
  few = roomy.few;
  among =
      calls_from-each (own_calls commands) (BindsAmong roomy.ports)
      (λ worker own. among-turn roomy.ports [] (commands_of worker commands) own
      (commands_of-each (AsksAmong roomy.ports) worker commands roomy.among)) 1 answers;
}

pub takes_all : TakesAllWhereRoomy
takes_all config auto commands answers closed leasing roomy = leasing.run.roomy (IsRoomyFor-calls config commands answers roomy)

-- ---- one worker

pub as_model : AnswersAsModel
as_model config auto commands answers closed leasing small =
    let asked = commands_of 1 commands in
    let own = get_or answers 0 [] in
    let endings = endings_by 0 leasing.endings in
    let one = small.one in
    let enough = small.nodes in
    let some : 0 < length answers = (let workers = leasing.answered.workers in omega (arith, one, workers)) in
    let calls_are = calls_of-all commands 0 answers some in
    let answered = leasing.answered.each 0 (omega (arith, one)) in
    let wanted = first_calls_want asks_node (own_calls commands) needs_node commands (λ worker own. in_turn_wants [] (commands_of worker commands) own)
    [] answers some in
    let modelled =
    one_worker_while_answered (tag_of config.hash) (mix_named config) config auto (all_calls commands answers) leasing.endings closed
    leasing.run.served record {
      one = small.one;
      first = small.first;
      keeps_size = small.keeps_size;
      nodes = omega (arith, wanted, enough);
      few =
          subst
          (λ calls. (n : ℕ) → EndAsAnswered config.kind unbound (take n calls) (take n endings)
          → ¬ AreBound (bindings_after_all config.kind unbound (take n calls)) 16)
          (sym calls_are) (few-turn config.kind nothing_leased asked own endings answered small.few);
    } in
    record {
      made = calls_are
          ∙ calls-turn config.kind nothing_leased asked own endings answered
          (subst (λ calls. EndAsAnswered config.kind unbound calls endings) calls_are modelled.answered);
      ended = modelled;
      kept =
          book-turn config.kind nothing_leased asked own endings answered
          (subst (λ calls. EndAsAnswered config.kind unbound calls endings) calls_are modelled.answered);
    }

-- ---- what the workers leave

pub history_fits : (M : Type 0) → HistoryFits M
history_fits M script outcome leased =
    told M (mix_named script.config) script.config script.auto (all_calls script.commands.items outcome.replies.items) leased.endings
    outcome.closed leased.served
