-- What follows for books and for the calls that commands stand for, in the words of leases and of the script's commands.
use Rattle.std.specs.Prelude.{◌≡◌, ℕ, ◌+◌, ◌<◌, ◌≤◌, ◌↔◌, ◌&&◌, ◌==◌, not, Bool, true, false, Some, List, [], length, take, drop, count_by, slice_get, slice_index_or}
use Rattle.std.specs.List.{AllByRecursion}
use Rattle.rht_words.specs.declared.config.Config.{Config}
use Rattle.rht_words.specs.Sizes.{first_size}
use Rattle.rht_model.specs.declared.bindings.Closed.{Closed}
use Rattle.rht_model.specs.declared.history.Call.{Call}
use Rattle.rht_model.specs.declared.history.Call.TheVariants.{Bind, Find, All, Release, Rebind, Walk, Work, Tidy, Count}
use Rattle.rht_model.specs.Endings.{Ending}
use Rattle.rht_model.specs.declared.history.Entry.{Entry}
use Rattle.rht_model.specs.Multimap.{Port}
use Rattle.rht_core.specs.FewPorts.{BindsAmong}
use Rattle.rht_core.specs.NeverRefused.{AreAllTaken, AreAsModel}
use Rattle.rht_core.specs.NodesUsed.{needs_node}
use Rattle.rht_core.specs.Serving.{calls_of}
use Rattle.rht_core.specs.ToldHistories.{endings_by, IsOutnumbered, TellsOf}
use Rattle.rht_stands.specs.StandsFor.{AreBound}
use Rattle.rht_lease.specs.declared.lease.Lease.{Lease}
use Rattle.rht_lease.specs.declared.lease.LeaseCall.{LeaseCall}
use Rattle.rht_lease.specs.declared.lease.LeaseCall.TheVariants as asks
use Rattle.rht_lease.specs.declared.lease.LeaseReply.TheVariants.{NoLease}
use Rattle.rht_lease.specs.declared.lease.LeaseScript.{LeaseScript}
use Rattle.rht_lease.specs.declared.outcome.LeaseOutcome.{LeaseOutcome}
use Rattle.rht_lease.specs.Answers.{Answer, IsAnswer, book_left, calls_in_turn, AreAnswered, is_lease, commands_of, all_calls}
use Rattle.rht_lease.specs.Books.{is_lease_of, has_lease, is_ended, lasting, sweep_calls, calls_for}
use Rattle.rht_lease.specs.Leasing.{IsLeasedBy, IsLeasing}
use Rattle.rht_lease.specs.Modelled.{nothing_leased, behind_commands, modelled_calls}

-- ---- books

-- the command wants a lease that isn't among these
abbrev pub wants_none_of : List Lease → LeaseCall → Bool
wants_none_of leases (asks.Plain call) = false
wants_none_of leases (asks.Lease lease) = false
wants_none_of leases (asks.Renew lease) = not (has_lease lease.port lease.owner leases)
wants_none_of leases (asks.Cancel port owner) = not (has_lease port owner leases)
wants_none_of leases (asks.Sweep now) = false

-- A command is answered that there is no lease exactly where it renews or cancels one that isn't in the book, which is what the commands before
-- it have left.
abbrev pub MissesWhereNoneIs : Type 0
MissesWhereNoneIs =
    (asked : List LeaseCall) (answers : List Answer) (endings : List Ending) → AreAnswered [] asked answers endings
    → (i : ℕ) (ask : LeaseCall) (answer : Answer) → slice_get asked i ≡ Some ask → slice_get answers i ≡ Some answer
    → (answer.0 ≡ NoLease) ↔ (wants_none_of (book_left [] (take i asked) (take i answers)) ask ≡ true)

-- how those of these calls ended that the command at this place stands for
abbrev pub own_endings : ℕ → LeaseCall → List LeaseCall → List Answer → List Ending → List Ending
own_endings i ask asked answers endings =
    take (length (calls_for (book_left [] (take i asked) (take i answers)) ask))
    (drop (length (calls_in_turn [] (take i asked) (take i answers))) endings)

-- Each command is answered by the calls that it stands for itself, and by the book that the commands before it have left. These calls end
-- behind those of the commands before it.
abbrev pub AnswersByOwnCalls : Type 0
AnswersByOwnCalls =
    (asked : List LeaseCall) (answers : List Answer) (endings : List Ending) → AreAnswered [] asked answers endings
    → (i : ℕ) (ask : LeaseCall) (answer : Answer) → slice_get asked i ≡ Some ask → slice_get answers i ≡ Some answer
    → IsAnswer (book_left [] (take i asked) (take i answers)) ask answer (own_endings i ask asked answers endings)

-- A book has never more leases than were asked for.
abbrev pub HoldsWhatIsAsked : Type 0
HoldsWhatIsAsked =
    (asked : List LeaseCall) (answers : List Answer) → length (book_left [] asked answers) ≤ count_by is_lease asked

-- ---- sweeps

-- the call is a release of this port and owner
abbrev pub is_release_of : Port → ℕ → Call → Bool
is_release_of port owner (Release other its) = other == port && its == owner
is_release_of port owner (Bind other its once) = false
is_release_of port owner (Find other) = false
is_release_of port owner (All other) = false
is_release_of port owner (Rebind other its new) = false
is_release_of port owner (Walk from limit) = false
is_release_of port owner Work = false
is_release_of port owner Tidy = false
is_release_of port owner Count = false

-- A sweep releases a port by an owner as often as the book has leases of both that have ended, and makes no other call.
abbrev pub SweepsEachEnded : Type 0
SweepsEachEnded =
    (now : ℕ) (leases : List Lease)
    → ((port : Port) (owner : ℕ) → count_by (is_release_of port owner) (sweep_calls now leases)
    ≡ count_by (λ lease. is_lease_of port owner lease && is_ended now lease) leases)
    × (length (sweep_calls now leases) + length (lasting now leases) ≡ length leases)

-- No lease that a sweep leaves has ended then.
abbrev pub LeavesNoneEnded : Type 0
LeavesNoneEnded = (now : ℕ) (leases : List Lease) → AllByRecursion (λ lease. is_ended now lease ≡ false) (lasting now leases)

-- ---- what the script says of its calls

-- the command binds or rebinds, a lease too
abbrev pub asks_node : LeaseCall → Bool
asks_node (asks.Plain call) = needs_node call
asks_node (asks.Lease lease) = true
asks_node (asks.Renew lease) = false
asks_node (asks.Cancel port owner) = false
asks_node (asks.Sweep now) = false

-- where the command binds, a lease too, its port is one of these
abbrev pub AsksAmong : List Port → LeaseCall → Type 0
AsksAmong ports (asks.Plain call) = BindsAmong ports call
AsksAmong ports (asks.Lease lease) = BindsAmong ports (Bind lease.port lease.owner false)
AsksAmong ports (asks.Renew lease) = Unit {0}
AsksAmong ports (asks.Cancel port owner) = Unit {0}
AsksAmong ports (asks.Sweep now) = Unit {0}

-- Where the calls that bind or rebind outnumber the nodes, the commands do.
abbrev pub OutnumbersByCommands : Type 0
OutnumbersByCommands =
    (config : Config) (commands : List (ℕ × LeaseCall)) (answers : List (List Answer)) → IsOutnumbered config (all_calls commands answers)
    → config.nodes < count_by (λ command. asks_node command.1) commands

-- The table begins with 64 buckets or more and doesn't shrink, it has as many nodes as there are commands that bind or rebind, or more, and
-- those that bind name 15 ports at most; a lease is one of them.
pub record IsRoomyForLeases (config : Config) (commands : List (ℕ × LeaseCall)) : Type 0 where
  pub first : 64 ≤ first_size config
  pub keeps_size : config.shrink ≡ false
  pub nodes : count_by (λ command. asks_node command.1) commands ≤ config.nodes
  pub ports : List Port
  pub few : length ports ≤ 15
  pub among : AllByRecursion (λ command. AsksAmong ports command.1) commands

-- Then no call about bindings that a command stands for is refused, and the size that is closed is the one with which the table began.
abbrev pub TakesAllWhereRoomy : Type 0
TakesAllWhereRoomy =
    (config : Config) (auto : Bool) (commands : List (ℕ × LeaseCall)) (answers : List (List Answer)) (closed : Closed)
    → (leasing : IsLeasing config auto commands answers closed) → IsRoomyForLeases config commands
    → AreAllTaken config (all_calls commands answers) leasing.endings closed

-- ---- one worker

-- The table has one worker, begins with 16 buckets or more and doesn't shrink, and has as many nodes as there are commands that bind or rebind,
-- or more. Behind each command fewer than 16 ports are bound by the model, which goes by the commands alone (`behind_commands`).
pub record IsSmallForLeases (config : Config) (commands : List (ℕ × LeaseCall)) : Type 0 where
  pub one : config.callers ≡ 1
  pub first : 16 ≤ first_size config
  pub keeps_size : config.shrink ≡ false
  pub nodes : count_by (λ command. asks_node command.1) commands ≤ config.nodes
  pub few : (n : ℕ) → ¬ AreBound (behind_commands config.kind nothing_leased (take n (commands_of 1 commands))).bindings 16

-- The worker's calls are those that the model makes of its commands. Each about bindings ended as the model answers it, in their order. What was
-- closed is what the model leaves. Before each command, and behind all, the worker's book has the leases that the model keeps.
pub record AreAsModelled (config : Config) (commands : List (ℕ × LeaseCall)) (answers : List (List Answer)) (endings : List Ending) (closed : Closed)
    : Type 0 where
  pub made : calls_of 1 (all_calls commands answers) ≡ modelled_calls config.kind nothing_leased (commands_of 1 commands)
  pub ended : AreAsModel config.kind (calls_of 1 (all_calls commands answers)) endings closed
  pub kept : (n : ℕ) → book_left [] (take n (commands_of 1 commands)) (take n (slice_index_or answers 0 []))
      ≡ (behind_commands config.kind nothing_leased (take n (commands_of 1 commands))).leases

-- So it is of what such commands leave.
abbrev pub AnswersAsModel : Type 0
AnswersAsModel =
    (config : Config) (auto : Bool) (commands : List (ℕ × LeaseCall)) (answers : List (List Answer)) (closed : Closed)
    → (leasing : IsLeasing config auto commands answers closed) → IsSmallForLeases config commands
    → AreAsModelled config commands answers (endings_by 0 leasing.endings) closed

-- ---- what the workers leave

-- A legal history tells of the run that they leave, and fits it.
abbrev pub HistoryFits : Type 0 → Type 0
HistoryFits M =
    (script : LeaseScript) (outcome : LeaseOutcome) (leased : IsLeasedBy M script outcome)
    → (history : List Entry) × TellsOf leased.served history
