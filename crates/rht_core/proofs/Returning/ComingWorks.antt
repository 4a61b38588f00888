-- A worker stands next only where it could come to before.
use Rattle.std.proofs.Common.{◌≡◌, ℕ, ◌+◌, List, [], ◌∷◌, Option, Some, None, Bool, nat_lt, refl, sym, ◌∙◌, ap, subst, inl, inr, arith}
use Rattle.std.specs.Prelude.{◌==◌, ◌||◌, if◌then◌else◌}
use Rattle.std.proofs.lemmas.Bool.{cond_both}
use Rattle.rht_words.specs.declared.env.Env.{Env}
use Rattle.rht_words.specs.declared.geometry.Geometry.{Geometry}
use Rattle.rht_words.specs.declared.machine.Next.{Next}
use Rattle.rht_words.specs.declared.machine.Next.TheVariants.{Go, Done}
use Rattle.rht_words.specs.Links.{head_of, marker_of, node_of, slot_of, unlocked}
use Rattle.rht_words.specs.Operations.{old_of}
use Rattle.rht_words.specs.Shapes.{size_of, unpacked}
use Rattle.rht_words.specs.Standing.{Standing, stands_nowhere, if_one}
use Rattle.rht_chain.specs.Lock.{LockModel, lock_plan, lock_after}
use Rattle.rht_model.specs.declared.history.Reply.{Reply}
use Rattle.rht_nest.specs.Make.{MakeModel, make_plan, make_after}
use Rattle.rht_nest.specs.Place.{PlaceModel, place_plan, place_after}
use Rattle.rht_nest.specs.Tables.{is_nested}
use Rattle.rht_nest.specs.Unmake.{UnmakeModel, unmake_plan, unmake_after}
use Rattle.rht_nest.specs.declared.place.Bucket.{Bucket}
use Rattle.rht_nest.specs.declared.place.Bucket.TheVariants.{At, Absent}
use Rattle.rht_reclaim.specs.KeepSections.{KeepSectionsModel, keep_sections_after}
use Rattle.rht_reclaim.specs.ReturnTables.{ReturnTablesModel, return_tables_after}
use Rattle.rht_move.specs.Choice.{choice_of}
use Rattle.rht_move.specs.LastEntry.{LastEntryModel, last_entry_plan, last_entry_after, followed}
use Rattle.rht_move.specs.LastTable.{LastTableModel, last_table_plan, last_table_plan_at, last_table_after, last_table_after_at, next_or_shape}
use Rattle.rht_move.specs.Work.{plan_at, after_at, lock_seen, returned, kept, begun, made, attached, unmade, future_or_idle, bucket_of_root, next_bucket, entry_passed, locked, entry_table_seen, entry_or_empty, walked, second_locked, cut_off, unlocked_bucket, closed, retiring, with_word, last_seen, IsWorkAtIn}
use Rattle.rht_move.specs.WorkStanding.{standing_of_work, table_of_seek, tables_of, nodes_of}
use Rattle.rht_move.specs.declared.work.choice.Choice.{Choice}
use Rattle.rht_move.specs.declared.work.choice.Choice.TheVariants.{Attach, Later, Nothing}
use Rattle.rht_move.specs.declared.last_entry.Entry.{Entry}
use Rattle.rht_move.specs.declared.last_table.Last.{Last}
use Rattle.rht_move.specs.declared.last_table.LastTableAt.{LastTableAt}
use Rattle.rht_move.specs.declared.last_table.LastTableAt.TheVariants as seeks
use Rattle.rht_move.specs.declared.rehash.Emptying.{Emptying}
use Rattle.rht_move.specs.declared.rehash.Rehash.{Rehash}
use Rattle.rht_move.specs.declared.rehash.Target.{Target}
use Rattle.rht_move.specs.declared.work.Due.{Due}
use Rattle.rht_move.specs.declared.work.Wanted.{Wanted}
use Rattle.rht_move.specs.declared.work.ending.Ending.{Ending}
use Rattle.rht_move.specs.declared.work.ending.Ending.TheVariants as endings
use Rattle.rht_move.specs.declared.work.WorkAt.{WorkAt}
use Rattle.rht_move.specs.declared.work.WorkAt.TheVariants as at
use Rattle.rht_move.proofs.WorkKnowledge.{known_at_work, known_rehash, known_place}
use Rattle.rht_core.specs.Reach.{ReachesTable, at_table, at_current, by_future, ReachesNode, by_chain}
use Rattle.rht_ghost.proofs.Theory.Ghosts.{Ghost}
use Rattle.rht_ghost.proofs.Theory.Knowledge.{WorkMeans, IsNext}
use Rattle.rht_ghost.proofs.Theory.Steps.{mem}
use Rattle.rht_ghost.proofs.Theory.Wholes.{Whole, word_index, current-there}
use Rattle.rht_core.proofs.Returning.Coming.{Comes, Tables, Nodes, all_tables, all_nodes, stays, to_nowhere, to_tables, to_nodes, to_next, if_one-all, IsBucketThere}
use Rattle.rht_core.proofs.Returning.ComingWays.{first_there}

-- ---- where it stands nowhere

pub locked-nowhere : (g : Geometry) (lock : ℕ) → standing_of_work (lock_seen g lock).0 ≡ stands_nowhere
locked-nowhere g lock =
    cond_both (lock == 0) _ _ (λ (next : WorkAt × Next Reply). standing_of_work next.0 ≡ stands_nowhere) (λ t. refl) (λ f. refl)

pub returned-nowhere : (returns : ReturnTablesModel) (next : Next (Unit {0}))
    → standing_of_work (returned returns next) ≡ stands_nowhere
returned-nowhere returns Go = refl
returned-nowhere returns (Done done) = refl

pub kept-nowhere : (keep : KeepSectionsModel) (again : Bool) (next : Next (Unit {0}))
    → standing_of_work (kept keep again next) ≡ stands_nowhere
kept-nowhere keep again Go = refl
kept-nowhere keep again (Done done) = refl

closed-nowhere : (ending : Ending) → standing_of_work (closed ending) ≡ stands_nowhere
closed-nowhere (endings.Retiring root again) = refl
closed-nowhere (endings.LettingGo outcome) = refl

retiring-nowhere : (rehash : Rehash) (next : Option ℕ) → standing_of_work (retiring rehash next) ≡ stands_nowhere
retiring-nowhere rehash None = refl
retiring-nowhere rehash (Some next) = refl

module _ (env : Env) (mix : ℕ → ℕ → ℕ → ℕ) (words : List ℕ) (G : Ghost) (whole : Whole env mix (mem env mix words) G) where
  module _ (from : Standing) where
    abbrev To : WorkAt → Type 0
    To next = Comes env.geometry words from (standing_of_work next)

    abbrev There : ℕ → Type 0
    There slot = ReachesTable env.geometry words from slot

    nowhere : (next : WorkAt) → standing_of_work next ≡ stands_nowhere → To next
    nowhere next is = subst (Comes env.geometry words from) (sym is) (to_nowhere _ _ _)

    -- ---- the tables

    at_last : (root : ℕ) (next : LastTableModel × Next Last) → There root
        → ((seek : LastTableModel) → next ≡ (seek, Go) → There (table_of_seek seek.at))
        → ((last : Last) → next.1 ≡ Done last → There last.table) → To (last_seen root next.0 next.1)
    at_last root (seek, Go) there goes ends = to_tables _ _ _ _ (there, (goes seek refl, tt))
    at_last root (seek, Done last) there goes ends = to_tables _ _ _ _ (there, (ends last refl, tt))

    -- behind a load the search stands where it could come to
    seek_goes : (m : LastTableModel) → There (table_of_seek m.at)
        → (seek : LastTableModel) → last_table_after m (old_of words (last_table_plan m)) ≡ (seek, Go) → There (table_of_seek seek.at)
    seek_goes m there seek is = go m.at there is
      where
        next : (table : ℕ) (future : Option ℕ) → There table → ((slot : ℕ) → future ≡ Some slot → There slot)
            → There (table_of_seek (next_or_shape table future))
        next table None there leads = there
        next table (Some slot) there leads = leads slot refl

        go : (state : LastTableAt) → There (table_of_seek state)
            → last_table_after_at m state (old_of words (last_table_plan_at m.geometry state)) ≡ (seek, Go)
            → There (table_of_seek seek.at)
        go (seeks.Future table) there is =
            let word = old_of words (last_table_plan_at m.geometry (seeks.Future table)) in
            let same : record m { at = next_or_shape table (slot_of word) } ≡ seek =
            ap (λ (r : LastTableModel × Next Last). r.0) is in
            subst (λ (s : LastTableModel). There (table_of_seek s.at)) same
            (next table (slot_of word) there (λ slot leads. by_future table slot there leads))
        go (seeks.Shape table) there is = absurd (let e = ap (λ (r : LastTableModel × Next Last). r.1) is in cc)

    seek_ends : (m : LastTableModel) → There (table_of_seek m.at)
        → (last : Last) → (last_table_after m (old_of words (last_table_plan m))).1 ≡ Done last → There last.table
    seek_ends m there last is = go m.at there is
      where
        go : (state : LastTableAt) → There (table_of_seek state)
            → (last_table_after_at m state (old_of words (last_table_plan_at m.geometry state))).1 ≡ Done last → There last.table
        go (seeks.Future table) there is = absurd (cc)
        go (seeks.Shape table) there is =
            let shape = old_of words (last_table_plan_at m.geometry (seeks.Shape table)) in
            let found : Last = record { table = table; shape = shape } in
            let same : found ≡ last = cc in
            subst (λ (l : Last). There l.table) same there

    at_choice : (root : ℕ) (last : Last) (choice : Choice) → There root → There last.table → To (begun env root last choice)
    at_choice root last (Attach size) there behind = to_tables _ _ _ _ (there, (behind, tt))
    at_choice root last Later there behind = to_tables _ _ _ _ (there, tt)
    at_choice root last Nothing there behind = to_tables _ _ _ _ (there, tt)

    at_made : (wanted : Wanted) (make : MakeModel) (next : Next (Option (ℕ × ℕ))) → There wanted.root → There wanted.last.table
        → To (made wanted make next)
    at_made wanted make Go there behind = to_tables _ _ _ _ (there, (behind, tt))
    at_made wanted make (Done None) there behind =
        cond_both ((wanted.root == wanted.last.table) || is_nested wanted.last.shape) _ _ To (λ t. to_nowhere _ _ _)
        (λ f. to_tables _ _ _ _ (there, tt))
    at_made wanted make (Done (Some (slot, shape))) there behind = to_tables _ _ _ _ (there, (behind, tt))

    at_attached : (root slot shape future : ℕ) → There root → To (attached env.geometry root slot shape future)
    at_attached root slot shape future there =
        cond_both (future == 0) _ _ To (λ t. to_tables _ _ _ _ (there, tt)) (λ f. to_tables _ _ _ _ (there, tt))

    at_unmade : (root : ℕ) (unmake : UnmakeModel) (next : Next (Unit {0})) → There root → To (unmade root unmake next)
    at_unmade root unmake Go there = to_tables _ _ _ _ (there, tt)
    at_unmade root unmake (Done done) there = to_tables _ _ _ _ (there, tt)

    at_future : (root : ℕ) (due : Due) (future : Option ℕ) → There root → Tables env.geometry words from (if_one future)
        → To (future_or_idle root due future)
    at_future root due None there behind = to_nowhere _ _ _
    at_future root due (Some future) there behind = to_tables _ _ _ _ (there, behind)

    -- ---- the move of the current table

    abbrev Tables-of : Rehash → Type 0
    Tables-of rehash = Tables env.geometry words from (tables_of rehash [])

    at_root : (rehash : Rehash) (number : ℕ) → Tables-of rehash → To (bucket_of_root env.geometry rehash number)
    at_root rehash number there =
        cond_both (is_nested rehash.shape) _ _ To (λ t. to_tables _ _ _ _ there) (λ f. to_tables _ _ _ _ there)

    at_bucket : (rehash : Rehash) (number : ℕ) → Tables-of rehash → To (next_bucket env.geometry rehash number)
    at_bucket rehash number there =
        cond_both (nat_lt (number + 1) (size_of (unpacked rehash.shape))) _ _ To (λ t. at_root rehash (number + 1) there)
        (λ f. to_tables _ _ _ _ there)

    at_entry : (rehash : Rehash) (number : ℕ) (place : PlaceModel) (next : Next Bucket) → Tables-of rehash
        → To (entry_passed env.geometry rehash number place next)
    at_entry rehash number place Go there = to_tables _ _ _ _ there
    at_entry rehash number place (Done (At word)) there = to_tables _ _ _ _ there
    at_entry rehash number place (Done (Absent entry)) there = at_bucket rehash number there

    at_locked : (rehash : Rehash) (number : ℕ) (lock : LockModel) (next : Next ℕ) → Tables-of rehash
        → To (locked env.geometry rehash number lock next)
    at_locked rehash number lock Go there = to_tables _ _ _ _ there
    at_locked rehash number lock (Done word) there = to_tables _ _ _ _ (there.0, (there.1.0, (there.0, tt)))

    at_seen : (emptying : Emptying) (next : LastTableModel × Next Last) → Tables-of emptying.rehash
        → ((seek : LastTableModel) → next ≡ (seek, Go) → There (table_of_seek seek.at))
        → ((last : Last) → next.1 ≡ Done last → There last.table) → To (entry_table_seen emptying next.0 next.1)
    at_seen emptying (seek, Go) there goes ends = to_tables _ _ _ _ (there.0, (there.1.0, (goes seek refl, tt)))
    at_seen emptying (seek, Done last) there goes ends =
        cond_both (is_nested last.shape) _ _ To (λ t. to_tables _ _ _ _ there)
        (λ f. to_tables _ _ _ _ (there.0, (there.1.0, (ends last refl, tt))))

    at_first : (emptying : Emptying) (target : Target) (node : Option ℕ) → Tables-of emptying.rehash → There target.table
        → Nodes env.geometry words from (if_one node) → To (entry_or_empty env.geometry emptying target node)
    at_first emptying target None there behind nodes = to_tables _ _ _ _ there
    at_first emptying target (Some first) there behind nodes =
        to_nodes _ _ _ _ _ (there.0, (there.1.0, (behind, tt))) nodes

    at_walked : (emptying : Emptying) (target : Target) (next : LastEntryModel × Next Entry)
        → Tables env.geometry words from (tables_of emptying.rehash (target.table ∷ []))
        → ((walk : LastEntryModel) → next ≡ (walk, Go) → Nodes env.geometry words from (walk.node ∷ if_one walk.before))
        → ((entry : Entry) → next.1 ≡ Done entry → Nodes env.geometry words from (nodes_of entry))
        → To (walked emptying target next.0 next.1)
    at_walked emptying target (walk, Go) there goes ends = to_nodes _ _ _ _ _ there (goes walk refl)
    at_walked emptying target (walk, Done entry) there goes ends = to_nodes _ _ _ _ _ there (ends entry refl)

    at_second : (emptying : Emptying) (entry : Entry) (table : ℕ) (lock : LockModel) (next : Next ℕ)
        → Tables env.geometry words from (tables_of emptying.rehash (table ∷ [])) → Nodes env.geometry words from (nodes_of entry)
        → To (second_locked emptying entry table lock next)
    at_second emptying entry table lock Go there nodes = to_nodes _ _ _ _ _ there nodes
    at_second emptying entry table lock (Done word) there nodes = to_nodes _ _ _ _ _ there nodes

    at_cut : (emptying : Emptying) (before : Option ℕ) → Tables-of emptying.rehash → To (cut_off env.geometry emptying before)
    at_cut emptying None there = to_tables _ _ _ _ (there.0, (there.1.0, (there.0, tt)))
    at_cut emptying (Some before) there = to_tables _ _ _ _ (there.0, (there.1.0, (there.0, tt)))

    at_unlocked : (rehash : Rehash) (number : ℕ) (stop : Bool) → Tables-of rehash
        → To (unlocked_bucket env.geometry rehash number stop)
    at_unlocked rehash number stop there = cond_both stop _ _ To (λ t. to_nowhere _ _ _) (λ f. at_bucket rehash number there)

  -- ---- the bucket that is emptied

  -- its word, locked or not, leads to the same node
  unlocked-twice : (place word : ℕ) → head_of place (unlocked word) ≡ head_of place word
  unlocked-twice place word =
      let same : unlocked (unlocked word) ≡ unlocked word = omega (arith) in
      ap (λ w. if w == 0 then marker_of place else w) same

  bucket_there : (c : ℕ) (emptying : Emptying) (from : Standing) → ReachesTable env.geometry words from emptying.rehash.root
      → IsNext env mix c G (known_rehash emptying.rehash) (known_place emptying)
      → IsBucketThere env mix words G whole from (word_index env mix emptying.bucket.place)
  bucket_there c emptying from there next = record {
    slot = emptying.rehash.root;
    there = there;
    table = G.current;
    is_there = current-there env mix whole.tables;
    slot_is = next.empties.followed.root_is;
    number = emptying.number;
    below = next.below;
    here = next.here;
  }

  walk_nodes : (from : Standing) (m : LastEntryModel) → m.geometry ≡ env.geometry
      → Nodes env.geometry words from (m.node ∷ if_one m.before)
      → let r = last_entry_after m (old_of words (last_entry_plan m)) in
      ((walk : LastEntryModel) → r ≡ (walk, Go) → Nodes env.geometry words from (walk.node ∷ if_one walk.before))
      × ((entry : Entry) → r.1 ≡ Done entry → Nodes env.geometry words from (nodes_of entry))
  walk_nodes from m same nodes =
      go (node_of m.geometry.nodes (old_of words (last_entry_plan m)))
      (λ n leads. by_chain m.node n nodes.0
      (subst (λ g. node_of g.nodes (old_of words (last_entry_plan (record m { geometry = g }))) ≡ Some n) same leads))
    where
      go : (next : Option ℕ) → ((n : ℕ) → next ≡ Some n → ReachesNode env.geometry words from n)
          → ((walk : LastEntryModel) → followed m next ≡ (walk, Go) → Nodes env.geometry words from (walk.node ∷ if_one walk.before))
          × ((entry : Entry) → (followed m next).1 ≡ Done entry → Nodes env.geometry words from (nodes_of entry))
      go None leads = (
        (λ walk is. absurd (let e = ap (λ (r : LastEntryModel × Next Entry). r.1) is in cc)),
        (λ entry is.
            let found : Entry = record { node = m.node; before = m.before } in
            let one : found ≡ entry = cc in
            subst (λ (e : Entry). Nodes env.geometry words from (nodes_of e)) one nodes),
      )
      go (Some n) leads = (
        (λ walk is.
            let one : record m { node = n; before = Some m.node } ≡ walk = ap (λ (r : LastEntryModel × Next Entry). r.0) is in
            subst (λ (w : LastEntryModel). Nodes env.geometry words from (w.node ∷ if_one w.before)) one (leads n refl, (nodes.0, tt))),
        (λ entry is. absurd (cc)),
      )

  -- ---- each operation

  pub work_comes : (c : ℕ) (state : WorkAt) → IsWorkAtIn env state → WorkMeans env mix c (mem env mix words) G (known_at_work state)
      → To (standing_of_work state) (after_at mix env state (old_of words (plan_at env c state))).0
  work_comes c at.WorkLock within known = nowhere _ _ (locked-nowhere _ _)
  work_comes c (at.Returning returns) within known =
      let r = return_tables_after returns (old_of words (plan_at env c (at.Returning returns))) in nowhere _ _ (returned-nowhere r.0 r.1)
  work_comes c at.Opening within known = to_nowhere _ _ _
  work_comes c at.CurrentTable within known = to_tables _ _ _ _ (at_current refl, (at_current refl, tt))
  work_comes c (at.LastTable root seek) within known =
      let from = standing_of_work (at.LastTable root seek) in
      let there = all_tables env.geometry words from in
      at_last from root _ there.0 (seek_goes from seek there.1.0) (seek_ends from seek there.1.0)
  work_comes c (at.Count root last) within known =
      let from = standing_of_work (at.Count root last) in
      let there = all_tables env.geometry words from in
      at_choice from root last (choice_of env (old_of words (plan_at env c (at.Count root last))) last.shape (root == last.table)) there.0 there.1.0
  work_comes c (at.Making wanted make) within known =
      let from = standing_of_work (at.Making wanted make) in
      let there = all_tables env.geometry words from in
      let r = make_after make (old_of words (make_plan make)) in at_made from wanted r.0 r.1 there.0 there.1.0
  work_comes c (at.Attaching root last slot shape) within known = at_attached _ root slot shape _ (at_table root (inl refl))
  work_comes c (at.Unmaking root unmake) within known =
      let r = unmake_after unmake (old_of words (unmake_plan unmake)) in at_unmade _ root r.0 r.1 (at_table root (inl refl))
  work_comes c (at.RootFuture root due) within known =
      let from = standing_of_work (at.RootFuture root due) in
      let there = at_table root (inl refl) in
      at_future from root due _ there (to_next env.geometry words from root there)
  work_comes c (at.RootShape root future again) within known =
      let from = standing_of_work (at.RootShape root future again) in at_root from _ 0 (all_tables env.geometry words from)
  work_comes c (at.Entry rehash number place) within known =
      let from = standing_of_work (at.Entry rehash number place) in
      let r = place_after place (old_of words (place_plan place)) in
      at_entry from rehash number r.0 r.1 (all_tables env.geometry words from)
  work_comes c (at.Locking rehash number lock) within known =
      let from = standing_of_work (at.Locking rehash number lock) in
      let r = lock_after lock (old_of words (lock_plan lock)) in
      at_locked from rehash number r.0 r.1 (all_tables env.geometry words from)
  work_comes c (at.EntryTable emptying seek) within known =
      let from = standing_of_work (at.EntryTable emptying seek) in
      let there = all_tables env.geometry words from in
      at_seen from emptying _ (there.0, (there.1.0, tt)) (seek_goes from seek there.1.1.0) (seek_ends from seek there.1.1.0)
  work_comes c (at.Seed emptying last) within known = stays env.geometry words (standing_of_work (at.Seed emptying last))
  work_comes c (at.BucketWord emptying target) within known =
      let from = standing_of_work (at.BucketWord emptying target) in
      let there = all_tables env.geometry words from in
      let word = old_of words (plan_at env c (at.BucketWord emptying target)) in
      let next = known.more.next in
      at_first from (with_word emptying (unlocked word)) target (node_of env.geometry.nodes (head_of emptying.bucket.place (unlocked word)))
      (there.0, (there.1.0, tt)) there.1.1.0
      (if_one-all (ReachesNode env.geometry words from) _ (λ n leads.
      first_there env mix words G whole from emptying.bucket.place n next.lock.bucket (bucket_there c emptying from there.0 next)
      (ap (node_of env.geometry.nodes) (sym (unlocked-twice emptying.bucket.place word)) ∙ leads)))
  work_comes c (at.Walking emptying target walk) within known =
      let from = standing_of_work (at.Walking emptying target walk) in
      let nodes = walk_nodes from walk within.walk_in.geometry_same (all_nodes env.geometry words from) in
      at_walked from emptying target _ (all_tables env.geometry words from) nodes.0 nodes.1
  work_comes c (at.Key emptying target entry) within known = stays env.geometry words (standing_of_work (at.Key emptying target entry))
  work_comes c (at.LockingSecond emptying entry table lock) within known =
      let from = standing_of_work (at.LockingSecond emptying entry table lock) in
      let r = lock_after lock (old_of words (lock_plan lock)) in
      at_second from emptying entry table r.0 r.1 (all_tables env.geometry words from) (all_nodes env.geometry words from)
  work_comes c (at.EntryLink emptying entry second) within known = stays env.geometry words (standing_of_work (at.EntryLink emptying entry second))
  work_comes c (at.Linking emptying entry second) within known =
      let from = standing_of_work (at.Linking emptying entry second) in
      let there = all_tables env.geometry words from in
      to_nodes _ _ _ _ _ (there.0, (there.1.0, tt)) (all_nodes env.geometry words from)
  work_comes c (at.CuttingOff emptying entry) within known =
      let from = standing_of_work (at.CuttingOff emptying entry) in at_cut from emptying entry.before (all_tables env.geometry words from)
  work_comes c (at.Unlocking rehash number unlock stop) within known =
      let from = standing_of_work (at.Unlocking rehash number unlock stop) in
      at_unlocked from rehash number stop (all_tables env.geometry words from)
  work_comes c (at.Publishing rehash) within known =
      to_tables _ _ _ _ (at_table rehash.future (inr (inl refl)), tt)
  work_comes c (at.NewFuture rehash) within known = nowhere _ _ (retiring-nowhere rehash _)
  work_comes c (at.Closing ending) within known = nowhere _ _ (closed-nowhere ending)
  work_comes c (at.Retiring root again) within known = to_nowhere _ _ _
  work_comes c (at.KeepingSections keep again) within known =
      let r = keep_sections_after keep (old_of words (plan_at env c (at.KeepingSections keep again))) in
      nowhere _ _ (kept-nowhere r.0 again r.1)
  work_comes c (at.LettingGo outcome) within known = to_nowhere _ _ _
