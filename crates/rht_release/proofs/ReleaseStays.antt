-- Whatever words it is told, a release stays in its table: a case a state.
-- Links are read totally, so what they name is there or is none.
use Rattle.std.proofs.Common.{ℕ, refl}
use Rattle.std.specs.Prelude.{Option, Some, None}
use Rattle.rht_words.specs.declared.env.Env.{Env}
use Rattle.rht_words.specs.declared.geometry.Geometry.{Geometry}
use Rattle.rht_words.specs.declared.machine.Next.{Next}
use Rattle.rht_words.specs.declared.machine.Next.TheVariants.{Go, Done}
use Rattle.rht_words.specs.Links.{link_of}
use Rattle.rht_words.specs.Planned.{IsWord}
use Rattle.rht_words.proofs.LinksRead.{node_of-in}
use Rattle.rht_words.proofs.PlannedWords.{link_of-fits}
use Rattle.rht_chain.specs.LockedWalk.{IsNodeOrNone}
use Rattle.rht_chain.specs.Relink.{RelinkModel, relink_after, IsRelinkIn}
use Rattle.rht_chain.proofs.PiecesStay.{relink_stays}
use Rattle.rht_release.specs.FoundPort.{IsFoundPortIn}
use Rattle.rht_release.specs.Seek.{SeekModel, seek_after}
use Rattle.rht_release.specs.ListSearch.{search_after}
use Rattle.rht_release.specs.Release.{after_at, sought, searched, unlocking, cut_or_chain, unlink_or_promote, promoted, unlinked, IsInListIn, IsReleaseAtIn}
use Rattle.rht_release.specs.declared.found_port.FoundPort.{FoundPort}
use Rattle.rht_release.specs.declared.list_search.ListPlace.{ListPlace}
use Rattle.rht_release.specs.declared.list_search.ListSearch.{ListSearch}
use Rattle.rht_release.specs.declared.release.ReleaseAt.{ReleaseAt}
use Rattle.rht_release.specs.declared.release.ReleaseAt.TheVariants as at
use Rattle.rht_release.proofs.FoundPortsStay.{relink_of-in, unlock_of-in}
use Rattle.rht_release.proofs.ListSearchStays.{SearchStays, search_stays}
use Rattle.rht_release.proofs.SeekStays.{SeekIsIn, seek_stays}

module _ (mix : ℕ → ℕ → ℕ → ℕ) (env : Env) (port owner : ℕ) where
  abbrev g : Geometry
  g = env.geometry

  sought-in : (seek : SeekModel) (next : Next (Option FoundPort)) → SeekIsIn g (seek, next)
      → IsReleaseAtIn env (sought seek next)
  sought-in seek Go stays = stays.seek_in
  sought-in seek (Done None) stays = tt
  sought-in seek (Done (Some found)) stays =
      record { found_in = stays.end_in; search_in = record { node_in = stays.end_in.node_in; before_in = tt } }

  unlocking-in : (found : FoundPort) (removed : Option ℕ) → IsFoundPortIn g found → IsNodeOrNone g removed
      → IsReleaseAtIn env (unlocking found removed)
  unlocking-in found removed found_in removed_in = record {
    table_in = found_in.table_in;
    unlock_in = unlock_of-in g found found_in;
    removed_in = removed_in;
  }

  searched-in : (found : FoundPort) (search : ListSearch) (next : Next (Option ListPlace)) → IsFoundPortIn g found
      → SearchStays g (search, next) → IsReleaseAtIn env (searched found search next)
  searched-in found search Go found_in stays = record { found_in = found_in; search_in = stays.search_in }
  searched-in found search (Done None) found_in stays = unlocking-in found None found_in tt
  searched-in found search (Done (Some place)) found_in stays =
      record { found_in = found_in; node_in = stays.end_in.node_in; before_in = stays.end_in.before_in }

  cut_or_chain-in : (found : FoundPort) (node link : ℕ) (before : Option ℕ) → IsInListIn g found node before
      → IsWord link → IsReleaseAtIn env (cut_or_chain g found node link before)
  cut_or_chain-in found node link None within link_in =
      record { found_in = within.found_in; second_in = node_of-in g link }
  cut_or_chain-in found node link (Some before) within link_in = record {
    found_in = within.found_in;
    node_in = within.node_in;
    before_in = within.before_in;
    link_in = link_in;
  }

  unlink_or_promote-in : (found : FoundPort) (link : ℕ) (second : Option ℕ) → IsFoundPortIn g found
      → IsNodeOrNone g second → IsWord link → IsReleaseAtIn env (unlink_or_promote g found link second)
  unlink_or_promote-in found link None found_in second_in link_in =
      record { found_in = found_in; relink_in = relink_of-in g found found_in link link_in }
  unlink_or_promote-in found link (Some second) found_in second_in link_in =
      record { found_in = found_in; second_in = second_in; link_in = link_in }

  promoted-in : (found : FoundPort) (relink : RelinkModel) (next : Next (Unit {0})) → IsFoundPortIn g found
      → IsRelinkIn g relink → IsReleaseAtIn env (promoted found relink next)
  promoted-in found relink Go found_in relink_in = record { found_in = found_in; relink_in = relink_in }
  promoted-in found relink (Done done) found_in relink_in = found_in.node_in

  unlinked-in : (found : FoundPort) (relink : RelinkModel) (next : Next (Unit {0})) → IsFoundPortIn g found
      → IsRelinkIn g relink → IsReleaseAtIn env (unlinked found relink next)
  unlinked-in found relink Go found_in relink_in = record { found_in = found_in; relink_in = relink_in }
  unlinked-in found relink (Done done) found_in relink_in =
      record { node_in = found_in.node_in; shape_in = found_in.shape_in }

  pub release_stays : (state : ReleaseAt) (word : ℕ) → IsReleaseAtIn env state → IsWord word
      → IsReleaseAtIn env (after_at mix env port owner state word).0
  release_stays at.Opening word within told = record { geometry_same = refl; at_in = tt }
  release_stays (at.Seeking seek) word within told =
      sought-in (seek_after mix port seek word).0 (seek_after mix port seek word).1
      (seek_stays g mix port seek word within told)
  release_stays (at.Searching found search) word within told =
      searched-in found (search_after g owner search word).0 (search_after g owner search word).1 within.found_in
      (search_stays g owner search word within.search_in)
  release_stays (at.LinkBehind found node before) word within told =
      cut_or_chain-in found node word before within told
  release_stays (at.CuttingOut found node before link) word within told =
      unlocking-in found (Some node) within.found_in within.node_in
  release_stays (at.ChainLink found second) word within told =
      unlink_or_promote-in found word second within.found_in within.second_in told
  release_stays (at.SecondLink found second link) word within told = record {
    found_in = within.found_in;
    relink_in =
        relink_of-in g found within.found_in (link_of second) (link_of-fits g second within.second_in);
  }
  release_stays (at.Promoting found relink) word within told =
      promoted-in found (relink_after relink).0 (relink_after relink).1 within.found_in
      (relink_stays g relink within.relink_in)
  release_stays (at.Unlinking found relink) word within told =
      unlinked-in found (relink_after relink).0 (relink_after relink).1 within.found_in
      (relink_stays g relink within.relink_in)
  release_stays (at.Lowering node shape) word within told = within.node_in
  release_stays (at.Unlocking table unlock removed) word within told = within.removed_in
  release_stays (at.Closing reply removed) word within told = within
