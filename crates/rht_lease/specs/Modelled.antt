-- What the model makes of a worker's commands alone, where no call is refused: the bindings and the book behind them, and the calls that they
-- stand for. It knows no table and no run, and no answer but the model's.
use Rattle.std.specs.Prelude.{List, [], ◌∷◌, ◌++◌}
use Rattle.rht_words.specs.declared.config.Kind.{Kind}
use Rattle.rht_model.specs.declared.history.Call.{Call}
use Rattle.rht_model.specs.Answers.{bind_reply}
use Rattle.rht_model.specs.Multimap.{Multimap, unbound}
use Rattle.rht_core.specs.NeverRefused.{bindings_after_all}
use Rattle.rht_lease.specs.declared.lease.Lease.{Lease}
use Rattle.rht_lease.specs.declared.lease.LeaseCall.{LeaseCall}
use Rattle.rht_lease.specs.declared.lease.LeaseCall.TheVariants as asks
use Rattle.rht_lease.specs.Books.{leased, renewed, cancelled, lasting, calls_for}

-- what is bound, and the leases of the book
pub record Modelled : Type 0 where
  pub bindings : Multimap
  pub leases : List Lease

-- at first nothing is bound, and the book is empty
abbrev pub nothing_leased : Modelled
nothing_leased = record { bindings = unbound; leases = [] }

-- the book behind a command; whether a lease is kept is said by the model's reply to its bind
abbrev pub leases_behind : Kind → Modelled → LeaseCall → List Lease
leases_behind kind before (asks.Plain call) = before.leases
leases_behind kind before (asks.Lease lease) = leased before.leases lease (bind_reply kind (before.bindings lease.port))
leases_behind kind before (asks.Renew lease) = renewed lease.port lease.owner lease.last before.leases
leases_behind kind before (asks.Cancel port owner) = cancelled port owner before.leases
leases_behind kind before (asks.Sweep now) = lasting now before.leases

-- what a command leaves
abbrev pub behind_command : Kind → Modelled → LeaseCall → Modelled
behind_command kind before ask = record {
  bindings = bindings_after_all kind before.bindings (calls_for before.leases ask);
  leases = leases_behind kind before ask;
}

-- what commands leave, one after another
abbrev pub behind_commands : Kind → Modelled → List LeaseCall → Modelled
behind_commands kind before [] = before
behind_commands kind before (ask ∷ asked) = behind_commands kind (behind_command kind before ask) asked

-- the calls that they stand for
abbrev pub modelled_calls : Kind → Modelled → List LeaseCall → List Call
modelled_calls kind before [] = []
modelled_calls kind before (ask ∷ asked) = calls_for before.leases ask ++ modelled_calls kind (behind_command kind before ask) asked
