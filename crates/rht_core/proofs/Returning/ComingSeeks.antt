-- On its way to a port a call stands next only where it could come to before.
use Rattle.std.proofs.Common.{ℕ, List, [], ◌∷◌, Option, Some, None, refl, sym, subst, inl}
use Rattle.rht_words.specs.declared.env.Env.{Env}
use Rattle.rht_words.specs.declared.machine.Next.{Next}
use Rattle.rht_words.specs.declared.machine.Next.TheVariants.{Go, Done}
use Rattle.rht_words.specs.Operations.{old_of}
use Rattle.rht_words.specs.Standing.{Standing, stands_nowhere, if_one}
use Rattle.rht_nest.specs.Locate.{LocateModel}
use Rattle.rht_nest.specs.declared.locate.Located.{Located}
use Rattle.rht_nest.specs.declared.locate.LocatedBucket.{LocatedBucket}
use Rattle.rht_nest.specs.declared.locate.LocatedBucket.TheVariants as buckets
use Rattle.rht_chain.specs.Probe.{ProbeModel}
use Rattle.rht_chain.specs.declared.probe.Probed.{Probed}
use Rattle.rht_chain.specs.declared.probe.ProbeAt.{ProbeAt}
use Rattle.rht_chain.specs.declared.unlock.Unlock.{Unlock}
use Rattle.rht_release.specs.Seek.{SeekModel, seek_plan, seek_plan_at, seek_after, seek_after_at, located, early_or_none, bucket_or_early, found_or_future, probed, left, IsSeekIn, IsSeekAtIn}
use Rattle.rht_release.specs.SeekStanding.{standing_of_seek, at_found}
use Rattle.rht_release.specs.declared.found_port.FoundPort.{FoundPort}
use Rattle.rht_release.specs.declared.seek.SeekAt.{SeekAt}
use Rattle.rht_release.specs.declared.seek.SeekAt.TheVariants as at
use Rattle.rht_release.proofs.Seeks.{known_of_seek}
use Rattle.rht_core.specs.Reach.{ReachesTable, at_table, at_current}
use Rattle.rht_ghost.proofs.Theory.Ghosts.{Ghost}
use Rattle.rht_ghost.proofs.Theory.Knowledge.{TableMeans}
use Rattle.rht_ghost.proofs.Theory.Knowns.{KnownNode}
use Rattle.rht_ghost.proofs.Theory.Steps.{mem}
use Rattle.rht_ghost.proofs.Theory.Wholes.{Whole}
use Rattle.rht_core.proofs.Returning.Coming.{Comes, Tables, all_tables, all_nodes, to_nowhere, to_tables, to_nodes, to_next}
use Rattle.rht_core.proofs.Returning.ComingWays.{tables_missing, tables_located, locate_comes, home_there, SeesReached, ProbeReached, probe_comes}

-- where it stands next; where the way has ended, at the port that was found
abbrev pub seek_stands : SeekAt × Next (Option FoundPort) → Standing
seek_stands (state, Go) = standing_of_seek state
seek_stands (state, Done None) = stands_nowhere
seek_stands (state, Done (Some found)) = at_found found []

module _ (env : Env) (mix : ℕ → ℕ → ℕ → ℕ) (c port : ℕ) (own : Option KnownNode) (words : List ℕ) (G : Ghost) (whole : Whole env mix (mem env mix words) G) where
  module _ (from : Standing) where
    abbrev To : SeekAt × Next (Option FoundPort) → Type 0
    To next = Comes env.geometry words from (seek_stands next)

    at_early : (locate : LocateModel) (early : Option ℕ) → Tables env.geometry words from (if_one early)
        → To (early_or_none env.geometry locate early)
    at_early locate None there = to_nowhere _ _ _
    at_early locate (Some next) there = to_tables _ _ _ _ (there.0, tt)

    at_bucket : (locate : LocateModel) (shape : ℕ) (bucket : LocatedBucket)
        → Tables env.geometry words from (locate.table ∷ tables_missing bucket)
        → To (bucket_or_early env.geometry port locate shape bucket)
    at_bucket locate shape (buckets.At place) there = to_nodes _ _ _ _ _ (there.0, tt) tt
    at_bucket locate shape (buckets.Missing place early) there = at_early locate early there.1

    at_located : (next : LocateModel × Next Located) → Tables env.geometry words from (tables_located next)
        → To (located env.geometry port next.0 next.1)
    at_located (m, Go) there = to_tables _ _ _ _ there
    at_located (m, Done is) there = at_bucket m is.shape is.bucket there

    at_seen : (table shape : ℕ) (probe : ProbeModel) (end : Probed) (found : Option ℕ) → ReachesTable env.geometry words from table
        → SeesReached env mix words G whole from (record end.seen { found = found })
        → To (found_or_future table shape probe end found)
    at_seen table shape probe end None there sees = to_tables _ _ _ _ (there, tt)
    at_seen table shape probe end (Some node) there sees =
        record { tables = (there, tt); nodes = (sees.found.0, sees.before); listed = tt }

    at_probed : (table shape : ℕ) (probe : ProbeModel) (next : ProbeAt × Next Probed) → ReachesTable env.geometry words from table
        → ProbeReached env mix words G whole from next → To (probed table shape (record probe { at = next.0 }) next.1)
    at_probed table shape probe (state, Go) there reached = to_nodes _ _ _ _ _ (there, tt) reached
    at_probed table shape probe (state, Done end) there reached =
        at_seen table shape (record probe { at = state }) end end.seen.found there (record { found = reached.found; before = reached.before })

    at_left : (table : ℕ) (unlock : Unlock) (future : Option ℕ) → Tables env.geometry words from (if_one future)
        → To (left env.geometry table unlock future)
    at_left table unlock None there = to_nowhere _ _ _
    at_left table unlock (Some next) there = to_tables _ _ _ _ there

  seek_comes_at : (state : SeekAt) → IsSeekAtIn env.geometry state
      → TableMeans env mix c G (known_of_seek port own state).table
      → To (standing_of_seek state)
      (seek_after_at mix env.geometry port state (old_of words (seek_plan_at env.geometry state)))
  seek_comes_at at.CurrentTable within known = to_tables _ _ _ _ (at_current refl, tt)
  seek_comes_at (at.Locating locate) within known =
      let from = standing_of_seek (at.Locating locate) in
      at_located from _ (locate_comes env.geometry words from mix port locate (all_tables env.geometry words from))
  seek_comes_at (at.Probing table shape probe) within known =
      let from = standing_of_seek (at.Probing table shape probe) in
      let there = at_table table (inl refl) in
      at_probed from table shape probe _ there
      (probe_comes env mix words G whole from probe within.probe_in (all_nodes env.geometry words from)
      (home_there env mix words G whole from port table (Some shape) _ there known))
  seek_comes_at (at.Future table bucket) within known =
      let from = standing_of_seek (at.Future table bucket) in
      let there = at_table table (inl refl) in
      to_tables _ _ _ _ (there, to_next env.geometry words from table there)
  seek_comes_at (at.Leaving table unlock future) within known =
      let from = standing_of_seek (at.Leaving table unlock future) in
      at_left from table unlock future (all_tables env.geometry words from).1

  pub seek_comes : (m : SeekModel) → IsSeekIn env.geometry m → TableMeans env mix c G (known_of_seek port own m.at).table
      → let r = seek_after mix port m (old_of words (seek_plan m)) in
      Comes env.geometry words (standing_of_seek m.at) (seek_stands (r.0.at, r.1))
  seek_comes m within known =
      subst (λ g. To (standing_of_seek m.at) (seek_after_at mix g port m.at (old_of words (seek_plan_at g m.at)))) (sym within.geometry_same)
      (seek_comes_at m.at within.at_in known)
