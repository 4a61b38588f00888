-- A listing, a release and a rebind stand next only where they could come to before.
use Rattle.std.proofs.Common.{◌≡◌, ℕ, List, [], ◌∷◌, Option, Some, None, refl, sym, subst, inl}
use Rattle.std.specs.Prelude.{◌==◌}
use Rattle.std.proofs.lemmas.Bool.{cond_both}
use Rattle.rht_words.specs.declared.env.Env.{Env}
use Rattle.rht_words.specs.declared.machine.Next.{Next}
use Rattle.rht_words.specs.declared.machine.Next.TheVariants.{Go, Done}
use Rattle.rht_words.specs.Links.{node_of}
use Rattle.rht_words.specs.Operations.{old_of}
use Rattle.rht_words.specs.Ports.{owner_of}
use Rattle.rht_words.specs.Standing.{Standing, stands_nowhere, stands_in, if_one}
use Rattle.rht_arena.specs.NewNode.{NewNodeModel, new_node_plan, new_node_after}
use Rattle.rht_chain.specs.ChainNodes.{nodes_of_relink}
use Rattle.rht_chain.specs.Relink.{RelinkModel, relink_at, relink_after_at}
use Rattle.rht_chain.specs.declared.relink.RelinkAt.{RelinkAt}
use Rattle.rht_chain.specs.declared.relink.RelinkAt.TheVariants as relinks
use Rattle.rht_release.specs.All as all
use Rattle.rht_release.specs.AllStanding.{standing_of_all}
use Rattle.rht_release.specs.ListSearch.{list_followed, search_plan, search_after}
use Rattle.rht_release.specs.Rebind as rebind
use Rattle.rht_release.specs.RebindStanding.{standing_of_rebind}
use Rattle.rht_release.specs.Release as release
use Rattle.rht_release.specs.ReleaseStanding.{standing_of_release}
use Rattle.rht_release.specs.Seek.{SeekModel, seek_plan, seek_after}
use Rattle.rht_release.specs.SeekStanding.{standing_of_seek, at_found, at_relink, nodes_of_search}
use Rattle.rht_release.specs.declared.all.AllAt.{AllAt}
use Rattle.rht_release.specs.declared.all.AllAt.TheVariants as alls
use Rattle.rht_release.specs.declared.found_port.FoundPort.{FoundPort}
use Rattle.rht_release.specs.declared.list_search.ListPlace.{ListPlace}
use Rattle.rht_release.specs.declared.list_search.ListSearch.{ListSearch}
use Rattle.rht_release.specs.declared.list_search.ListSearch.TheVariants as searches
use Rattle.rht_release.specs.declared.rebind.RebindAt.{RebindAt}
use Rattle.rht_release.specs.declared.rebind.RebindAt.TheVariants as rebinds
use Rattle.rht_release.specs.declared.rebind.RebindEnd.{RebindEnd}
use Rattle.rht_release.specs.declared.rebind.RebindEnd.TheVariants as ends
use Rattle.rht_release.specs.declared.release.ReleaseAt.{ReleaseAt}
use Rattle.rht_release.specs.declared.release.ReleaseAt.TheVariants as releases
use Rattle.rht_release.proofs.Seeks.{known_of_seek}
use Rattle.rht_core.specs.Reach.{at_table, ReachesListed, in_chain, at_listed, by_list}
use Rattle.rht_ghost.proofs.Theory.Ghosts.{Ghost}
use Rattle.rht_ghost.proofs.Theory.Knowledge.{TableMeans}
use Rattle.rht_ghost.proofs.Theory.Knowns.{KnownNode}
use Rattle.rht_ghost.proofs.Theory.Steps.{mem}
use Rattle.rht_ghost.proofs.Theory.Wholes.{Whole}
use Rattle.rht_core.proofs.Returning.Coming.{Comes, Nodes, Listed, all_tables, all_nodes, stays, to_nowhere, to_tables, if_one-all}
use Rattle.rht_core.proofs.Returning.ComingSeeks.{seek_stands, seek_comes}

module _ (env : Env) (words : List ℕ) (from : Standing) where
  abbrev To : Standing → Type 0
  To = Comes env.geometry words from

  -- ---- a port that was found

  -- it is still at the port, and comes to these nodes of its list
  pub at_port : (found : FoundPort) (listed : List ℕ) → To (at_found found []) → Listed env.geometry words from listed
      → To (at_found found listed)
  at_port found listed there each = record { tables = there.tables; nodes = there.nodes; listed = each }

  -- and leaves it, but for its table
  pub leaves_port : (found : FoundPort) → To (at_found found []) → To (record { tables = found.table ∷ []; nodes = []; listed = [] })
  leaves_port found there = record { tables = there.tables; nodes = tt; listed = tt }

  -- the first node of the port is the first one of its list
  pub first_listed : (found : FoundPort) → To (at_found found []) → ReachesListed env.geometry words from found.node
  first_listed found there = in_chain found.node there.nodes.0

  -- the place before the first node gets another link
  relinks_at : (place link : ℕ) (before : Option ℕ) → Nodes env.geometry words from (if_one before)
      → Nodes env.geometry words from (nodes_of_relink (relink_at place link before))
  relinks_at place link None there = tt
  relinks_at place link (Some before) there = there

  pub at_relinking : (found : FoundPort) (link : ℕ) → To (at_found found [])
      → To (record { tables = found.table ∷ []; nodes = nodes_of_relink (relink_at found.bucket.place link found.before); listed = [] })
  at_relinking found link there =
      record { tables = there.tables; nodes = relinks_at found.bucket.place link found.before there.nodes.1; listed = tt }

-- a rebind that takes its node stands nowhere, and so does one that has taken it
pub rebind_filled : (new : NewNodeModel) (next : Next (Option ℕ)) → standing_of_rebind (rebind.filled new next).0 ≡ stands_nowhere
rebind_filled new Go = refl
rebind_filled new (Done None) = refl
rebind_filled new (Done (Some node)) = refl

-- ---- each call

module _ (env : Env) (mix : ℕ → ℕ → ℕ → ℕ) (port owner : ℕ) (words : List ℕ) (G : Ghost) (whole : Whole env mix (mem env mix words) G) (c : ℕ) where
  -- a state of its way, as it is known
  abbrev pub KnowsWay : SeekModel → Type 0
  KnowsWay seek = (own : Option KnownNode) × TableMeans env mix c G (known_of_seek port own seek.at).table

  -- ---- a listing

  all_sought : (from : Standing) (seek : SeekModel) (next : Next (Option FoundPort)) → Comes env.geometry words from (seek_stands (seek.at, next))
      → Comes env.geometry words from (standing_of_all (all.sought seek next))
  all_sought from seek Go there = there
  all_sought from seek (Done None) there = there
  all_sought from seek (Done (Some found)) there =
      at_port env words from found _ there (first_listed env words from found there, tt)

  all_followed : (from : Standing) (found : FoundPort) (next : Option ℕ) → Comes env.geometry words from (at_found found [])
      → ((n : ℕ) → next ≡ Some n → ReachesListed env.geometry words from n)
      → Comes env.geometry words from (standing_of_all (all.list_followed found next))
  all_followed from found None there leads = leaves_port env words from found there
  all_followed from found (Some n) there leads = at_port env words from found _ there (leads n refl, tt)

  -- the port that it has found, where it stands there
  here : (found : FoundPort) (listed : List ℕ) → Comes env.geometry words (at_found found listed) (at_found found [])
  here found listed =
      let at = at_found found listed in
      record { tables = all_tables env.geometry words at; nodes = all_nodes env.geometry words at; listed = tt }

  pub all_comes : (state : AllAt) → all.IsAllAtIn env state → ((seek : SeekModel) → state ≡ alls.Seeking seek → KnowsWay seek)
      → Comes env.geometry words (standing_of_all state)
      (standing_of_all (all.after_at mix env port state (old_of words (all.plan_at env c state))).0)
  all_comes alls.Opening within known = to_nowhere _ _ _
  all_comes (alls.Seeking seek) within known =
      let r = seek_after mix port seek (old_of words (seek_plan seek)) in
      all_sought (standing_of_seek seek.at) r.0 r.1 (seek_comes env mix c port (known seek refl).0 words G whole seek within (known seek refl).1)
  all_comes (alls.Owner found node) within known = stays env.geometry words (at_found found (node ∷ []))
  all_comes (alls.ListLink found node) within known =
      let from = at_found found (node ∷ []) in
      all_followed from found (node_of env.geometry.nodes (old_of words (all.plan_at env c (alls.ListLink found node)))) (here found (node ∷ []))
      (λ n leads. by_list node n (at_listed node (inl refl)) leads)
  all_comes (alls.Unlocking table unlock) within known = to_nowhere _ _ _
  all_comes alls.Closing within known = to_nowhere _ _ _

  -- ---- the search of a list

  -- it stands at the nodes at which it looks; and what it has found is one of them, behind which only the table is left
  abbrev search_stands : FoundPort → ListSearch × Next (Option ListPlace) → Standing
  search_stands found (search, Go) = at_found found (nodes_of_search search)
  search_stands found (search, Done None) = stands_in (found.table ∷ [])
  search_stands found (search, Done (Some place)) = at_found found (place.node ∷ if_one place.before)

  search_followed : (from : Standing) (found : FoundPort) (node : ℕ) (next : Option ℕ)
      → Comes env.geometry words from (at_found found []) → ReachesListed env.geometry words from node
      → ((n : ℕ) → next ≡ Some n → ReachesListed env.geometry words from n)
      → Comes env.geometry words from (search_stands found (list_followed node next))
  search_followed from found node None there at leads = leaves_port env words from found there
  search_followed from found node (Some n) there at leads = at_port env words from found _ there (leads n refl, (at, tt))

  search_comes : (found : FoundPort) (search : ListSearch)
      → Comes env.geometry words (at_found found (nodes_of_search search))
      (search_stands found (search_after env.geometry owner search (old_of words (search_plan env.geometry search))))
  search_comes found (searches.Owner node before) =
      let from = at_found found (node ∷ if_one before) in
      cond_both (owner_of (old_of words (search_plan env.geometry (searches.Owner node before))) == owner) _ _
      (λ next. Comes env.geometry words from (search_stands found next))
      (λ t. stays env.geometry words from)
      (λ f. at_port env words from found _ (here found _) (at_listed node (inl refl), tt))
  search_comes found (searches.ListLink node) =
      let from = at_found found (node ∷ []) in
      search_followed from found node (node_of env.geometry.nodes (old_of words (search_plan env.geometry (searches.ListLink node))))
      (here found (node ∷ [])) (at_listed node (inl refl)) (λ n leads. by_list node n (at_listed node (inl refl)) leads)

  -- ---- a release

  release_sought : (from : Standing) (seek : SeekModel) (next : Next (Option FoundPort))
      → Comes env.geometry words from (seek_stands (seek.at, next))
      → Comes env.geometry words from (standing_of_release (release.sought seek next))
  release_sought from seek Go there = there
  release_sought from seek (Done None) there = there
  release_sought from seek (Done (Some found)) there =
      at_port env words from found _ there (first_listed env words from found there, tt)

  release_searched : (from : Standing) (found : FoundPort) (search : ListSearch) (next : Next (Option ListPlace))
      → Comes env.geometry words from (search_stands found (search, next))
      → Comes env.geometry words from (standing_of_release (release.searched found search next))
  release_searched from found search Go there = there
  release_searched from found search (Done None) there = there
  release_searched from found search (Done (Some place)) there = there

  release_cut : (found : FoundPort) (node : ℕ) (before : Option ℕ)
      → let from = standing_of_release (releases.LinkBehind found node before) in
      let link = old_of words (release.plan_at env c (releases.LinkBehind found node before)) in
      Comes env.geometry words from (standing_of_release (release.cut_or_chain env.geometry found node link before))
  release_cut found node None =
      let from = at_found found (node ∷ []) in
      at_port env words from found _ (here found (node ∷ []))
      (if_one-all (ReachesListed env.geometry words from) _ (λ n leads. by_list node n (at_listed node (inl refl)) leads))
  release_cut found node (Some before) = stays env.geometry words (at_found found (node ∷ before ∷ []))

  release_linked : (found : FoundPort) (link : ℕ) (second : Option ℕ)
      → Comes env.geometry words (at_found found (if_one second))
      (standing_of_release (release.unlink_or_promote env.geometry found link second))
  release_linked found link None = at_relinking env words (at_found found []) found link (here found [])
  release_linked found link (Some second) = stays env.geometry words (at_found found (second ∷ []))

  -- behind the store of the link only the bucket's word is left
  relinked : (found : FoundPort) (relink : RelinkModel) (state : RelinkAt)
      → Comes env.geometry words (at_relink found (record relink { at = state }))
      (standing_of_release (let r = relink_after_at relink state in release.promoted found r.0 r.1))
  relinked found relink (relinks.ChainLink before) = to_tables _ _ _ _ (at_table found.table (inl refl), tt)
  relinked found relink (relinks.Word word) = to_nowhere _ _ _

  unlinked : (found : FoundPort) (relink : RelinkModel) (state : RelinkAt)
      → Comes env.geometry words (at_relink found (record relink { at = state }))
      (standing_of_release (let r = relink_after_at relink state in release.unlinked found r.0 r.1))
  unlinked found relink (relinks.ChainLink before) = to_tables _ _ _ _ (at_table found.table (inl refl), tt)
  unlinked found relink (relinks.Word word) = to_nowhere _ _ _

  pub release_comes : (state : ReleaseAt) → release.IsReleaseAtIn env state
      → ((seek : SeekModel) → state ≡ releases.Seeking seek → KnowsWay seek)
      → Comes env.geometry words (standing_of_release state)
      (standing_of_release (release.after_at mix env port owner state (old_of words (release.plan_at env c state))).0)
  release_comes releases.Opening within known = to_nowhere _ _ _
  release_comes (releases.Seeking seek) within known =
      let r = seek_after mix port seek (old_of words (seek_plan seek)) in
      release_sought (standing_of_seek seek.at) r.0 r.1 (seek_comes env mix c port (known seek refl).0 words G whole seek within (known seek refl).1)
  release_comes (releases.Searching found search) within known =
      let r = search_after env.geometry owner search (old_of words (search_plan env.geometry search)) in
      release_searched (at_found found (nodes_of_search search)) found r.0 r.1 (search_comes found search)
  release_comes (releases.LinkBehind found node before) within known = release_cut found node before
  release_comes (releases.CuttingOut found node before link) within known =
      leaves_port env words (at_found found (node ∷ before ∷ [])) found (here found (node ∷ before ∷ []))
  release_comes (releases.ChainLink found second) within known = release_linked found _ second
  release_comes (releases.SecondLink found second link) within known =
      at_relinking env words (at_found found (second ∷ [])) found _ (here found (second ∷ []))
  release_comes (releases.Promoting found relink) within known = relinked found relink relink.at
  release_comes (releases.Unlinking found relink) within known = unlinked found relink relink.at
  release_comes (releases.Lowering node shape) within known = to_nowhere _ _ _
  release_comes (releases.Unlocking table unlock removed) within known = to_nowhere _ _ _
  release_comes (releases.Closing reply removed) within known = to_nowhere _ _ _

  -- ---- a rebind

  rebind_sought : (from : Standing) (node : ℕ) (seek : SeekModel) (next : Next (Option FoundPort))
      → Comes env.geometry words from (seek_stands (seek.at, next))
      → Comes env.geometry words from (standing_of_rebind (rebind.sought node seek next))
  rebind_sought from node seek Go there = there
  rebind_sought from node seek (Done None) there = there
  rebind_sought from node seek (Done (Some found)) there =
      at_port env words from found _ there (first_listed env words from found there, tt)

  rebind_searched : (from : Standing) (node : ℕ) (found : FoundPort) (search : ListSearch) (next : Next (Option ListPlace))
      → Comes env.geometry words from (search_stands found (search, next))
      → Comes env.geometry words from (standing_of_rebind (rebind.searched node found search next))
  rebind_searched from node found search Go there = there
  rebind_searched from node found search (Done None) there = there
  rebind_searched from node found search (Done (Some place)) there = there

  rebind_swapped : (node : ℕ) (found : FoundPort) (old : ℕ) (before : Option ℕ)
      → Comes env.geometry words (at_found found (old ∷ if_one before))
      (standing_of_rebind (rebind.swap_or_chain node found old before))
  rebind_swapped node found old None = here found (old ∷ [])
  rebind_swapped node found old (Some before) = stays env.geometry words (at_found found (old ∷ before ∷ []))

  replaced : (node : ℕ) (found : FoundPort) (relink : RelinkModel) (state : RelinkAt)
      → Comes env.geometry words (at_relink found (record relink { at = state }))
      (standing_of_rebind (let r = relink_after_at relink state in rebind.replaced node found r.0 r.1))
  replaced node found relink (relinks.ChainLink before) = to_tables _ _ _ _ (at_table found.table (inl refl), tt)
  replaced node found relink (relinks.Word word) = to_nowhere _ _ _

  rebind_closed : (from : Standing) (end : RebindEnd)
      → Comes env.geometry words from (standing_of_rebind (rebind.closed env.geometry end).0)
  rebind_closed from (ends.Rebound removed) = to_nowhere _ _ _
  rebind_closed from (ends.Absent node) = to_nowhere _ _ _

  pub rebind_comes : (state : RebindAt) → rebind.IsRebindAtIn env state
      → ((node : ℕ) (seek : SeekModel) → state ≡ rebinds.Seeking node seek → KnowsWay seek)
      → Comes env.geometry words (standing_of_rebind state)
      (standing_of_rebind (rebind.after_at mix env port owner state (old_of words (rebind.plan_at env c state))).0)
  rebind_comes (rebinds.Filling new) within known =
      let r = new_node_after new (old_of words (new_node_plan new)) in
      subst (Comes env.geometry words (standing_of_rebind (rebinds.Filling new))) (sym (rebind_filled r.0 r.1)) (to_nowhere _ _ _)
  rebind_comes (rebinds.Opening node) within known = to_nowhere _ _ _
  rebind_comes (rebinds.Seeking node seek) within known =
      let r = seek_after mix port seek (old_of words (seek_plan seek)) in
      rebind_sought (standing_of_seek seek.at) node r.0 r.1 (seek_comes env mix c port (known node seek refl).0 words G whole seek within.seek_in (known node seek refl).1)
  rebind_comes (rebinds.Searching node found search) within known =
      let r = search_after env.geometry owner search (old_of words (search_plan env.geometry search)) in
      rebind_searched (at_found found (nodes_of_search search)) node found r.0 r.1 (search_comes found search)
  rebind_comes (rebinds.LinkBehind node found old before) within known =
      stays env.geometry words (at_found found (old ∷ if_one before))
  rebind_comes (rebinds.OwnListLink node found old before link) within known = rebind_swapped node found old before
  rebind_comes (rebinds.Swapping node found old before) within known =
      let from = at_found found (old ∷ before ∷ []) in leaves_port env words from found (here found (old ∷ before ∷ []))
  rebind_comes (rebinds.ChainLink node found) within known = stays env.geometry words (at_found found [])
  rebind_comes (rebinds.Link node found link) within known = at_relinking env words (at_found found []) found _ (here found [])
  rebind_comes (rebinds.Replacing node found relink) within known = replaced node found relink relink.at
  rebind_comes (rebinds.Unlocking table unlock end) within known = to_nowhere _ _ _
  rebind_comes (rebinds.Closing end) within known = rebind_closed _ end
  rebind_comes (rebinds.Giving give) within known = to_nowhere _ _ _
