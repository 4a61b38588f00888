-- A bind stands next only where it could come to before.
use Rattle.std.proofs.Common.{◌≡◌, ℕ, List, [], ◌∷◌, Option, Some, None, Bool, min, nat_le, nat_eq, refl, sym, subst, inl}
use Rattle.std.specs.Prelude.{◌==◌}
use Rattle.std.proofs.lemmas.Bool.{cond_both}
use Rattle.rht_words.specs.declared.env.Env.{Env}
use Rattle.rht_words.specs.declared.config.Kind.{Kind}
use Rattle.rht_words.specs.declared.config.Kind.TheVariants as kinds
use Rattle.rht_words.specs.declared.machine.Next.{Next}
use Rattle.rht_words.specs.declared.machine.Next.TheVariants.{Go, Done}
use Rattle.rht_words.specs.declared.machine.Start.{Start}
use Rattle.rht_words.specs.declared.machine.Start.TheVariants as starts
use Rattle.rht_words.specs.Links.{link_of}
use Rattle.rht_words.specs.Operations.{old_of}
use Rattle.rht_words.specs.Shapes.{size_of, unpacked}
use Rattle.rht_words.specs.Standing.{Standing, stands_nowhere, if_one}
use Rattle.rht_arena.specs.NewNode.{NewNodeModel, new_node_plan, new_node_after}
use Rattle.rht_policy.specs.Thresholds.{is_above_75, is_above_100, is_above_max}
use Rattle.rht_chain.specs.ChainNodes.{nodes_of_relink}
use Rattle.rht_chain.specs.Probe.{ProbeModel}
use Rattle.rht_chain.specs.Relink.{RelinkModel, relink_at, relink_after_at}
use Rattle.rht_chain.specs.declared.locked.Then.{Then}
use Rattle.rht_chain.specs.declared.locked.Then.TheVariants.{Table, Answer}
use Rattle.rht_chain.specs.declared.probe.Probed.{Probed}
use Rattle.rht_chain.specs.declared.probe.ProbeAt.{ProbeAt}
use Rattle.rht_chain.specs.declared.relink.RelinkAt.{RelinkAt}
use Rattle.rht_chain.specs.declared.relink.RelinkAt.TheVariants as relinks
use Rattle.rht_model.specs.declared.history.Reply.{Reply}
use Rattle.rht_nest.specs.Grow.{GrowModel, grow_plan, grow_after}
use Rattle.rht_nest.specs.Locate.{LocateModel}
use Rattle.rht_nest.specs.Make.{MakeModel, make_plan, make_after}
use Rattle.rht_nest.specs.Place.{PlaceModel, entered}
use Rattle.rht_nest.specs.Unmake.{UnmakeModel, unmake_plan, unmake_after}
use Rattle.rht_nest.specs.declared.locate.Located.{Located}
use Rattle.rht_nest.specs.declared.locate.LocatedBucket.{LocatedBucket}
use Rattle.rht_nest.specs.declared.locate.LocatedBucket.TheVariants as buckets
use Rattle.rht_bind.specs.Bind.{plan_at, after_at, filled, at_bucket, located, behind_page, grown, bound_already, found_or_future, probed, replaced, future_or_count, checked_count, published, unlocked, IsBindAtIn}
use Rattle.rht_bind.specs.BindStanding.{standing_of_bind, table_behind, at_list}
use Rattle.rht_bind.specs.Endings.{closed}
use Rattle.rht_bind.specs.Growing.{want_or_busy, size_grown, made, refused_or_found, ended_attempt, behind_attempt, checked_attach, unmade}
use Rattle.rht_bind.specs.declared.bind.Attempt.{Attempt}
use Rattle.rht_bind.specs.declared.bind.Claimed.{Claimed}
use Rattle.rht_bind.specs.declared.bind.FoundList.{FoundList}
use Rattle.rht_bind.specs.declared.bind.ending.Ending.{Ending}
use Rattle.rht_bind.specs.declared.bind.ending.Ending.TheVariants as endings
use Rattle.rht_bind.specs.declared.bind.growth.Growing.{Growing}
use Rattle.rht_bind.specs.declared.bind.growth.Refusal.{Refusal}
use Rattle.rht_bind.specs.declared.bind.BindAt.{BindAt}
use Rattle.rht_bind.specs.declared.bind.BindAt.TheVariants as at
use Rattle.rht_bind.proofs.BindKnowledge.{known_of_bind}
use Rattle.rht_core.specs.Reach.{ReachesTable, at_table, at_current}
use Rattle.rht_ghost.proofs.Theory.Ghosts.{Ghost}
use Rattle.rht_ghost.proofs.Theory.Knowledge.{TableMeans}
use Rattle.rht_ghost.proofs.Theory.Steps.{mem}
use Rattle.rht_ghost.proofs.Theory.Wholes.{Whole}
use Rattle.rht_core.proofs.Returning.Coming.{Comes, Tables, Nodes, all_tables, all_nodes, stays, to_nowhere, to_tables, to_nodes, to_next}
use Rattle.rht_core.proofs.Returning.ComingWays.{tables_missing, tables_located, locate_comes, home_there, ProbeReached, probe_comes}

-- ---- where it stands nowhere

-- while it takes its node, and once it has it
pub bind_filled : (new : NewNodeModel) (next : Next (Option ℕ)) → standing_of_bind (filled new next).0 ≡ stands_nowhere
bind_filled new Go = refl
bind_filled new (Done None) = refl
bind_filled new (Done (Some node)) = refl

-- at the end of an attempt, and behind the closing of its section
behind-nowhere : (attempt : Attempt) (answer : Option Reply) → standing_of_bind (behind_attempt attempt answer) ≡ stands_nowhere
behind-nowhere attempt None = refl
behind-nowhere attempt (Some reply) = refl

closed-nowhere : (env : Env) (ending : Ending) → standing_of_bind (closed env ending).0 ≡ stands_nowhere
closed-nowhere env (endings.Bound kick) = refl
closed-nowhere env (endings.Answered node reply) = refl
closed-nowhere env (endings.Anew attempt) = refl

unmade-nowhere : (attempt : Attempt) (answer : Option Reply) (unmake : UnmakeModel) (next : Next (Unit {0}))
    → standing_of_bind (unmade attempt answer unmake next) ≡ stands_nowhere
unmade-nowhere attempt answer unmake Go = refl
unmade-nowhere attempt answer unmake (Done done) = behind-nowhere attempt answer

found-nowhere : (once : Bool) (growing : Growing) (refusal : Refusal) (future : Option ℕ)
    → standing_of_bind (refused_or_found once growing refusal future) ≡ stands_nowhere
found-nowhere once growing refusal None = refl
found-nowhere once growing refusal (Some table) = behind-nowhere growing.attempt (ended_attempt once table)

module _ (env : Env) (mix : ℕ → ℕ → ℕ → ℕ) (port owner : ℕ) (words : List ℕ) (G : Ghost) (whole : Whole env mix (mem env mix words) G) where
  module _ (from : Standing) where
    abbrev To : BindAt → Type 0
    To next = Comes env.geometry words from (standing_of_bind next)

    abbrev Table-to : ℕ → Type 0
    Table-to slot = ReachesTable env.geometry words from slot

    nowhere : (next : BindAt) → standing_of_bind next ≡ stands_nowhere → To next
    nowhere next is = subst (Comes env.geometry words from) (sym is) (to_nowhere _ _ _)

    -- ---- the way to the bucket

    at_missing : (attempt : Attempt) (table shape : ℕ) (place : PlaceModel) (early : Option ℕ) → Table-to table
        → Tables env.geometry words from (if_one early) → To (at_bucket env port attempt table shape (buckets.Missing place early))
    at_missing attempt table shape place None there behind = to_tables _ _ _ _ (there, tt)
    at_missing attempt table shape place (Some next) there behind = to_tables _ _ _ _ (behind.0, tt)

    at_place : (attempt : Attempt) (table shape : ℕ) (bucket : LocatedBucket)
        → Tables env.geometry words from (table ∷ tables_missing bucket) → To (at_bucket env port attempt table shape bucket)
    at_place attempt table shape (buckets.At place) there = to_nodes _ _ _ _ _ (there.0, tt) tt
    at_place attempt table shape (buckets.Missing place early) there = at_missing attempt table shape place early there.0 there.1

    at_located : (attempt : Attempt) (next : LocateModel × Next Located) → Tables env.geometry words from (tables_located next)
        → To (located env port attempt next.0 next.1)
    at_located attempt (m, Go) there = to_tables _ _ _ _ there
    at_located attempt (m, Done is) there = at_place attempt m.table is.shape is.bucket there

    at_page : (attempt : Attempt) (table shape : ℕ) (start : Start PlaceModel ℕ) → Table-to table
        → To (behind_page env port attempt table shape start)
    at_page attempt table shape (starts.Running next) there = to_tables _ _ _ _ (there, tt)
    at_page attempt table shape (starts.Done place) there = to_nodes _ _ _ _ _ (there, tt) tt

    at_grown : (attempt : Attempt) (table shape : ℕ) (place : PlaceModel) (grow : GrowModel) (next : Next (Option ℕ)) → Table-to table
        → To (grown env port attempt table shape place grow next)
    at_grown attempt table shape place grow Go there = to_tables _ _ _ _ (there, tt)
    at_grown attempt table shape place grow (Done None) there = to_nowhere _ _ _
    at_grown attempt table shape place grow (Done (Some page)) there = at_page attempt table shape (entered place page) there

    -- ---- in the bucket

    at_port : (kind : Kind) (claimed : Claimed) (first : ℕ) (before : Option ℕ) → Table-to claimed.table
        → Nodes env.geometry words from (first ∷ if_one before) → To (bound_already kind claimed first before)
    at_port kinds.Single claimed first before there nodes = to_nodes _ _ _ _ _ (there, tt) (nodes.0, tt)
    at_port kinds.Listed claimed first before there nodes = to_nodes _ _ _ _ _ (there, tt) nodes

    at_seen : (kind : Kind) (claimed : Claimed) (found before : Option ℕ) (length : ℕ) → Table-to claimed.table
        → Nodes env.geometry words from (if_one found) → Nodes env.geometry words from (if_one before)
        → To (found_or_future kind claimed found before length)
    at_seen kind claimed None before length there found behind = to_tables _ _ _ _ (there, tt)
    at_seen kind claimed (Some first) before length there found behind = at_port kind claimed first before there (found.0, behind)

    at_probed : (kind : Kind) (attempt : Attempt) (table shape : ℕ) (probe : ProbeModel) (next : ProbeAt × Next Probed) → Table-to table
        → ProbeReached env mix words G whole from next → To (probed kind attempt table shape (record probe { at = next.0 }) next.1)
    at_probed kind attempt table shape probe (state, Go) there reached = to_nodes _ _ _ _ _ (there, tt) reached
    at_probed kind attempt table shape probe (state, Done end) there reached =
        at_seen kind _ end.seen.found end.seen.before end.seen.length there reached.found reached.before

    at_future : (claimed : Claimed) (length : ℕ) (future : Option ℕ) → Table-to claimed.table
        → Tables env.geometry words from (if_one future) → To (future_or_count claimed length future)
    at_future claimed length None there behind =
        cond_both (nat_le 16 length) _ _ To (λ t. to_tables _ _ _ _ (there, tt)) (λ f. to_tables _ _ _ _ (there, tt))
    at_future claimed length (Some next) there behind = to_tables _ _ _ _ (there, behind)

    at_count : (claimed : Claimed) (count : ℕ) → Table-to claimed.table → To (checked_count env claimed count)
    at_count claimed count there =
        cond_both (is_above_max (min count 65536) env.config.max) _ _ To (λ t. to_tables _ _ _ _ (there, tt))
        (λ f. cond_both (is_above_100 (min count 65536) (size_of (unpacked claimed.shape)) env.config.max) _ _ To
        (λ t. to_tables _ _ _ _ (there, tt)) (λ f. to_tables _ _ _ _ (there, tt)))

    at_front : (table place link : ℕ) (before : Option ℕ) → Table-to table → Nodes env.geometry words from (if_one before)
        → Comes env.geometry words from (record { tables = table ∷ []; nodes = nodes_of_relink (relink_at place link before); listed = [] })
    at_front table place link None there behind = to_tables _ _ _ _ (there, tt)
    at_front table place link (Some before) there behind = to_nodes _ _ _ _ _ (there, tt) behind

    at_unlocked : (attempt : Attempt) (next : Then Reply) → Tables env.geometry words from (table_behind next)
        → To (unlocked env attempt next)
    at_unlocked attempt (Table table) there = to_tables _ _ _ _ there
    at_unlocked attempt (Answer reply) there = to_nowhere _ _ _

    -- ---- where a table is wanted

    at_wanted : (growing : Growing) (root count : ℕ) → Table-to growing.table → To (want_or_busy env growing root count)
    at_wanted growing root count there =
        cond_both (is_above_75 (min count 65536) (size_grown growing) env.config.max) _ _ To (λ t. to_tables _ _ _ _ (there, tt))
        (λ f. cond_both (nat_eq root growing.table) _ _ To (λ t. to_tables _ _ _ _ (there, tt)) (λ f. to_tables _ _ _ _ (there, tt)))

    at_made : (growing : Growing) (size : ℕ) (make : MakeModel) (next : Next (Option (ℕ × ℕ))) → Table-to growing.table
        → To (made growing size make next)
    at_made growing size make Go there = to_tables _ _ _ _ (there, tt)
    at_made growing size make (Done None) there = to_tables _ _ _ _ (there, tt)
    at_made growing size make (Done (Some table)) there = to_tables _ _ _ _ (there, tt)

    at_attached : (once : Bool) (growing : Growing) (slot shape found : ℕ) → To (checked_attach env once growing slot shape found)
    at_attached once growing slot shape found =
        cond_both (found == 0) _ _ To (λ t. nowhere _ (behind-nowhere _ _)) (λ f. to_nowhere _ _ _)

  -- behind the store of the link only the bucket's word is left
  at_replaced : (list : FoundList) (relink : RelinkModel) (state : RelinkAt)
      → To (standing_of_bind (at.Replacing list (record relink { at = state })))
      (let r = relink_after_at relink state in replaced list r.0 r.1)
  at_replaced list relink (relinks.ChainLink before) = to_tables _ _ _ _ (at_table list.claimed.table (inl refl), tt)
  at_replaced list relink (relinks.Word word) = to_nowhere _ _ _

  at_published : (node table : ℕ) (kick : Bool) (relink : RelinkModel) (state : RelinkAt)
      → To (standing_of_bind (at.Publish node table (record relink { at = state }) kick))
      (let r = relink_after_at relink state in published node table kick r.0 r.1)
  at_published node table kick relink (relinks.ChainLink before) = to_tables _ _ _ _ (at_table table (inl refl), tt)
  at_published node table kick relink (relinks.Word word) = to_nowhere _ _ _

  -- ---- each operation

  pub bind_comes : (c : ℕ) (once : Bool) (state : BindAt) → IsBindAtIn env state
      → TableMeans env mix c G (known_of_bind port owner state).table
      → To (standing_of_bind state) (after_at mix env port once state (old_of words (plan_at env c state))).0
  bind_comes c once (at.Filling new) within known =
      let r = new_node_after new (old_of words (new_node_plan new)) in nowhere _ _ (bind_filled r.0 r.1)
  bind_comes c once (at.Opening attempt) within known = to_nowhere _ _ _
  bind_comes c once (at.CurrentTable attempt) within known = to_tables _ _ _ _ (at_current refl, tt)
  bind_comes c once (at.Locating attempt locate) within known =
      let from = standing_of_bind (at.Locating attempt locate) in
      at_located from attempt _ (locate_comes env.geometry words from mix port locate (all_tables env.geometry words from))
  bind_comes c once (at.Entering attempt table shape place grow) within known =
      let r = grow_after grow (old_of words (grow_plan grow)) in
      at_grown _ attempt table shape place r.0 r.1 (at_table table (inl refl))
  bind_comes c once (at.Probing attempt table shape probe) within known =
      let from = standing_of_bind (at.Probing attempt table shape probe) in
      let there = at_table table (inl refl) in
      at_probed from env.config.kind attempt table shape probe _ there
      (probe_comes env mix words G whole from probe within.probe_in (all_nodes env.geometry words from)
      (home_there env mix words G whole from port table (Some shape) _ there known))
  bind_comes c once (at.FoundOwner claimed found) within known = to_tables _ _ _ _ (at_table claimed.table (inl refl), tt)
  bind_comes c once (at.ListLink list) within known = stays env.geometry words (at_list list)
  bind_comes c once (at.ChainLink list) within known = stays env.geometry words (at_list list)
  bind_comes c once (at.LinkBehind list link) within known =
      at_front (at_list list) list.claimed.table list.claimed.bucket.place (link_of list.claimed.attempt.node) list.before
      (at_table list.claimed.table (inl refl)) (all_nodes env.geometry words (at_list list)).1
  bind_comes c once (at.Replacing list relink) within known = at_replaced list relink relink.at
  bind_comes c once (at.Future claimed length) within known =
      let from = standing_of_bind (at.Future claimed length) in
      let there = at_table claimed.table (inl refl) in
      at_future from claimed length _ there (to_next env.geometry words from claimed.table there)
  bind_comes c once (at.Count claimed) within known = at_count _ claimed _ (at_table claimed.table (inl refl))
  bind_comes c once (at.Link claimed) within known = stays env.geometry words (standing_of_bind (at.Link claimed))
  bind_comes c once (at.Raise claimed) within known = to_tables _ _ _ _ (at_table claimed.table (inl refl), tt)
  bind_comes c once (at.Publish node table relink kick) within known = at_published node table kick relink relink.at
  bind_comes c once (at.Unlocking attempt table unlock next) within known =
      let from = standing_of_bind (at.Unlocking attempt table unlock next) in
      at_unlocked from attempt next (all_tables env.geometry words from).1
  bind_comes c once (at.UnlockingFull growing unlock) within known =
      stays env.geometry words (standing_of_bind (at.UnlockingFull growing unlock))
  bind_comes c once (at.Root growing) within known = stays env.geometry words (standing_of_bind (at.Root growing))
  bind_comes c once (at.GrowthCount growing root) within known = at_wanted _ growing root _ (at_table growing.table (inl refl))
  bind_comes c once (at.Making growing size make) within known =
      let r = make_after make (old_of words (make_plan make)) in at_made _ growing size r.0 r.1 (at_table growing.table (inl refl))
  bind_comes c once (at.FutureAgain growing refusal) within known = nowhere _ _ (found-nowhere once growing refusal _)
  bind_comes c once (at.Attaching growing slot shape) within known = at_attached _ once growing slot shape _
  bind_comes c once (at.Unmaking attempt unmake answer) within known =
      let r = unmake_after unmake (old_of words (unmake_plan unmake)) in nowhere _ _ (unmade-nowhere attempt answer r.0 r.1)
  bind_comes c once (at.Closing ending) within known = nowhere _ _ (closed-nowhere env ending)
  bind_comes c once (at.Giving give reply) within known = to_nowhere _ _ _
