-- The way of a release to its port, and along the list of its owners: none of them is the owner, or the first
-- one is, or a later one, which is cut out of the list.
use Rattle.std.proofs.Common.{◌≡◌, ℕ, ◌<◌, List, ◌∷◌, length, Option, Some, None, refl, sym, ◌∙◌, ap, subst, inl, inr}
use Rattle.std.proofs.lemmas.Bool.{cases_eq}
use Rattle.rht_words.specs.declared.env.Env.{Env}
use Rattle.rht_words.specs.declared.machine.Next.{Next}
use Rattle.rht_words.specs.declared.machine.Next.TheVariants.{Go, Done}
use Rattle.rht_words.specs.Links.{node_of}
use Rattle.rht_words.specs.Ports.{owner_of}
use Rattle.rht_words.specs.Operations.{old_of, applied}
use Rattle.rht_words.specs.Places.{Node, OwnerWord, ListLink, words_in}
use Rattle.rht_words.specs.Members.{NotIn}
use Rattle.rht_words.proofs.Memory.{Memory}
use Rattle.rht_model.specs.declared.history.Call.{Call}
use Rattle.rht_model.specs.declared.history.Call.TheVariants as calls
use Rattle.rht_model.specs.declared.history.Reply.{Reply}
use Rattle.rht_model.specs.declared.history.Reply.TheVariants.{Absent}
use Rattle.rht_model.specs.Multimap.{Multimap}
use Rattle.rht_model.specs.Answers.{plain, owners_released, bindings_after}
use Rattle.rht_model.proofs.CallEffects.{with_owners-same, with_owners-other}
use Rattle.rht_model.proofs.ReleasedOwners.{release_reply-none, owners_released-none}
use Rattle.rht_release.specs.ListSearch.{search_plan, search_after}
use Rattle.rht_release.specs.Release.{sought, searched, IsReleaseAtIn}
use Rattle.rht_release.specs.ReleaseHeld.{holds_bucket}
use Rattle.rht_release.specs.Seek.{SeekModel, seek_plan, seek_after}
use Rattle.rht_release.specs.declared.found_port.FoundPort.{FoundPort}
use Rattle.rht_release.specs.declared.list_search.ListPlace.{ListPlace}
use Rattle.rht_release.specs.declared.list_search.ListSearch.{ListSearch}
use Rattle.rht_release.specs.declared.release.ReleaseAt.{ReleaseAt}
use Rattle.rht_release.specs.declared.release.ReleaseAt.TheVariants as at
use Rattle.rht_ghost.proofs.Theory.Ghosts.{Ghost}
use Rattle.rht_ghost.proofs.Theory.Wholes.{Whole}
use Rattle.rht_ghost.proofs.Theory.Knowns.{Matching, Leads, list_link, first_of_list}
use Rattle.rht_ghost.proofs.Theory.Answering.{IsLegalOn, IsRight}
use Rattle.rht_ghost.proofs.Theory.Steps.{mem, owners, Step, StepWhere, step-map, reads}
use Rattle.rht_ghost.proofs.Pieces.Lists.{list_link-names, list_among}
use Rattle.rht_release.proofs.Seeks as seeks
use Rattle.rht_release.proofs.ListSearches.{first_among, list_more, search_begins, link_behind, behind_knows}
use Rattle.rht_release.proofs.ListSearches as searches
use Rattle.rht_release.proofs.ReleaseStores as stores
use Rattle.rht_release.proofs.ReleaseKnowledge as releases

module _ (env : Env) (mix : ℕ → ℕ → ℕ → ℕ) (c : ℕ) (port owner : ℕ) (low : c < env.geometry.callers)
    (words : List ℕ) (G : Ghost) (all : length words ≡ words_in env.geometry)
    (whole : Whole env mix (mem env mix words) G) where
  abbrev call : Call
  call = calls.Release port owner

  abbrev M : Memory
  M = mem env mix words

  -- the owners of each port now
  abbrev now : Multimap
  now = owners env mix M G

  abbrev ReleaseKnows : ReleaseAt → Memory → Ghost → Type 0
  ReleaseKnows = releases.ReleaseKnows env mix c port owner

  abbrev ReleaseMoved : ReleaseAt → ReleaseAt × Next (Reply × Option ℕ) → Type 0
  ReleaseMoved = releases.ReleaseMoved env mix c port owner words G

  abbrev ReleaseStep : ReleaseAt → Type 0
  ReleaseStep = releases.ReleaseStep env mix c port owner words G

  -- ---- the port isn't bound to the owner

  absent_right : IsRight call None (plain Absent)
  absent_right = record { replied = record { reply = tt; owners = refl }; tells = refl }

  absent_legal : NotIn owner (now port) → IsLegalOn env.config.kind c call now (plain Absent)
  absent_legal none = record {
    legal = inl (ap (λ reply. Some (plain reply)) (release_reply-none owner (now port) none));
    leaves = λ other. elim (cases_eq other port) [
      | inl e ↦
          ap (bindings_after env.config.kind now call) e
          ∙ with_owners-same now port (owners_released owner (now port))
          ∙ owners_released-none owner (now port) none ∙ ap now (sym e)
      | inr ne ↦ with_owners-other now port other (owners_released owner (now port)) ne
    ];
  }

  -- ---- the way to the port

  abbrev SeekNext : SeekModel × Next (Option FoundPort) → Memory → Ghost → Type 0
  SeekNext r = seeks.SeekNext env mix c call port None None (plain Absent) (r.0.at, r.1)

  sought_step : (seek : SeekModel) (r : SeekModel × Next (Option FoundPort))
      → StepWhere env mix (seeks.seek_there None (plain Absent) port None seek.at M)
      (seeks.seek_there_next None (plain Absent) port None (r.0.at, r.1)
      (mem env mix (applied words (seek_plan seek)))) c call words G
      (seek_plan seek) (seeks.held_of_seek None (plain Absent) seek.at)
      (seeks.seek_holds None (plain Absent) (r.0.at, r.1)) (SeekNext r)
      → ReleaseMoved (at.Seeking seek) (sought r.0 r.1, Go)
  sought_step seek (next, Go) step =
      step-map env mix (λ M' G' w k. record {
        knowing = record { only = k.knowing.only; means = k.knowing.means };
        fits = k.fits;
      }) step
  sought_step seek (next, Done None) step =
      step-map env mix (λ M' G' w k. record { knowing = record { only = k.only; means = k.means }; fits = tt }) step
  sought_step seek (next, Done (Some found)) step =
      step-map env mix
      (λ M' G' w k. record { knowing = search_begins env mix c (holds_bucket found) None port M' G' w owner found k; fits = tt })
      step

  pub seeking : (seek : SeekModel)
      → let here = at.Seeking seek in
      IsReleaseAtIn env here → ReleaseKnows here M G → ReleaseStep here
  seeking seek is known =
      sought_step seek (seek_after mix port seek (old_of words (seek_plan seek)))
      (seeks.seek_step env mix c call port None None (plain Absent) words G all whole
      (λ none. absent_legal (subst (NotIn owner) (sym none) tt)) absent_right refl seek is (record {
        knowing = record { only = known.knowing.only; means = known.knowing.means };
        fits = known.fits;
      }))

  -- ---- along the list

  abbrev SearchNext : FoundPort → ListSearch × Next (Option ListPlace) → Memory → Ghost → Type 0
  SearchNext = searches.SearchNext env mix c call port owner None None (plain Absent)

  -- it goes on, or has come to the node with the owner, or behind the last one
  searched_step : (found : FoundPort) (search : ListSearch) (r : ListSearch × Next (Option ListPlace))
      → Step env mix c call words G (search_plan env.geometry search) (holds_bucket found)
      (searches.search_holds env mix c call port owner None None (plain Absent) found r.1) (SearchNext found r)
      → ReleaseMoved (at.Searching found search) (searched found r.0 r.1, Go)
  searched_step found search (next, Go) step = step-map env mix (λ M' G' w k. record { knowing = k; fits = tt }) step
  searched_step found search (next, Done None) step = step-map env mix (λ M' G' w k. record { knowing = k; fits = tt }) step
  searched_step found search (next, Done (Some place)) step =
      step-map env mix (λ M' G' w k. record { knowing = k; fits = tt }) step

  pub searching : (found : FoundPort) (search : ListSearch) → ReleaseKnows (at.Searching found search) M G
      → ReleaseStep (at.Searching found search)
  searching found search known =
      searched_step found search (search_after env.geometry owner search (old_of words (search_plan env.geometry search)))
      (searches.search_step env mix c call port owner None None (plain Absent) words G all whole absent_legal absent_right refl
      found search known.knowing)

  -- which link is behind the node with the owner: the first one is to go out of the chain, a later one
  -- out of the list
  pub behind_step : (found : FoundPort) (node : ℕ) (before : Option ℕ)
      → ReleaseKnows (at.LinkBehind found node before) M G → ReleaseStep (at.LinkBehind found node before)
  behind_step found node None known =
      let k = known.knowing in
      let is = k.means.bucket in
      let among = is.means.stands.among in
      let alone : found.node ∷ is.behind ≡ node ∷ among.rear = first_among (found.node ∷ is.behind) node among in
      let first : node ≡ found.node = cc in
      let rest : among.rear ≡ is.behind = cc in
      let second = node_of env.geometry.nodes (M (Node node ListLink)) in
      let second_is : second ≡ first_of_list is.behind =
      ap (node_of env.geometry.nodes)
      (link_behind env mix c (holds_bucket found) None port M G whole owner found node None k ∙ ap list_link rest)
      ∙ list_link-names env.geometry.nodes is.behind
      (λ n i. list_among env mix M G whole port found.node is.behind is.bound_to n (inr i)) in
      let owner_is = ap (λ n. owner_of (M (Node n OwnerWord))) (sym first) ∙ is.means.owner_is in
      reads env mix whole refl refl (inl refl) (record {
        knowing =
            list_more env mix c (holds_bucket found) None port found (Matching node None owner) (Leads second owner) k
            (record { owner_is = owner_is; second_is = second_is });
        fits = tt;
      })
  behind_step found node (Some before) known =
      reads env mix whole refl refl (inl refl) (record {
        knowing = behind_knows env mix c (holds_bucket found) None port M G whole owner found node (Some before) known.knowing;
        fits = tt;
      })

  -- ---- a later node is cut out of the list

  pub cut_step : (found : FoundPort) (node before link : ℕ)
      → ReleaseKnows (at.CuttingOut found node before link) M G
      → ReleaseStep (at.CuttingOut found node before link)
  cut_step found node before link known =
      step-map env mix
      (λ M' G' w k. record { knowing = record { only = k.only; means = k.means }; fits = tt })
      (stores.cut_store env mix c port owner low words G all whole found node before link known.knowing)
