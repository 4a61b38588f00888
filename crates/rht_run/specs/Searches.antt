-- The search of a port's list for an owner as a piece.
use Rattle.std.specs.Prelude.{◌≡◌, ℕ, refl, Option, None, Some}
use Rattle.rht_words.specs.declared.env.Env.{Env}
use Rattle.rht_words.specs.declared.machine.Next.{Next}
use Rattle.rht_words.specs.declared.machine.Next.TheVariants.{Go, Done}
use Rattle.rht_release.specs.ListSearch.{search_after}
use Rattle.rht_release.specs.Release.{unlocking, searched as release_searched_at}
use Rattle.rht_release.specs.declared.release.ReleaseAt.TheVariants as releases
use Rattle.rht_release.specs.Rebind.{unlocking as rebind_unlocking, searched as rebind_searched_at}
use Rattle.rht_release.specs.declared.rebind.RebindAt.TheVariants as rebinds
use Rattle.rht_release.specs.declared.rebind.RebindEnd.TheVariants as ends
use Rattle.rht_release.specs.declared.found_port.FoundPort.{FoundPort}
use Rattle.rht_release.specs.declared.list_search.ListPlace.{ListPlace}
use Rattle.rht_release.specs.declared.list_search.ListSearch.{ListSearch}
use Rattle.rht_model.specs.declared.history.Reply.{Reply}
use Rattle.rht_callers.specs.declared.local.Doing.{Doing}
use Rattle.rht_run.specs.declared.searches.OwnerSought.{OwnerSought}
use Rattle.rht_run.specs.Rides.{piece_next}
use Rattle.rht_run.specs.Seeks.{release_at, rebind_at}

-- what contracts see of it: the search for this owner in a table stands here
pub record OwnerSearchModel : Type 0 where
  pub env : Env
  pub owner : ℕ
  pub search : ListSearch

abbrev pub owner_search : Env → ℕ → ListSearch → OwnerSearchModel
owner_search env owner search = record { env = env; owner = owner; search = search }

-- and says this, of the owner in the table
abbrev pub owner_sought : Env → ℕ → Option ListPlace → OwnerSought
owner_sought env owner place = record { env = env; owner = owner; place = place }

abbrev pub sought_owner : Env → ℕ → Next (Option ListPlace) → Next OwnerSought
sought_owner env owner Go = Go
sought_owner env owner (Done place) = Done (owner_sought env owner place)

abbrev pub search_told : Env → ℕ → ListSearch × Next (Option ListPlace) → OwnerSearchModel × Next OwnerSought
search_told env owner next = (owner_search env owner next.0, sought_owner env owner next.1)

abbrev pub owner_search_after : OwnerSearchModel → ℕ → OwnerSearchModel × Next OwnerSought
owner_search_after p word = search_told p.env p.owner (search_after p.env.geometry p.owner p.search word)

module _ {M : Type 0} (caller port : ℕ) (found : FoundPort) where
  -- a release has found the owner's node, or found that the port isn't bound to the owner
  abbrev pub release_then : Env → ℕ → Option ListPlace → Doing M × Option (Reply × Option ℕ)
  release_then env owner None = (release_at env caller port owner (unlocking found None), None)
  release_then env owner (Some place) =
      (release_at env caller port owner (releases.LinkBehind found place.node place.before), None)

  abbrev pub release_searched : OwnerSought → Doing M × Option (Reply × Option ℕ)
  release_searched there = release_then there.env there.owner there.place

  pub release_searching : (env : Env) (owner : ℕ) (next : ListSearch × Next (Option ListPlace))
      → ◌≡◌ {A = Doing M × Option (Reply × Option ℕ)} (release_at env caller port owner (release_searched_at found next.0 next.1), None)
      (piece_next (λ (p : OwnerSearchModel). release_at p.env caller port p.owner (releases.Searching found p.search))
      release_searched (search_told env owner next))
  release_searching env owner (search, Go) = refl
  release_searching env owner (search, Done None) = refl
  release_searching env owner (search, Done (Some place)) = refl

  module _ (new node : ℕ) where
    -- and so has a rebind, of the old owner
    abbrev pub rebind_then : Env → ℕ → Option ListPlace → Doing M × Option (Reply × Option ℕ)
    rebind_then env owner None =
        (rebind_at env caller port owner new (rebind_unlocking found (ends.Absent node)), None)
    rebind_then env owner (Some place) =
        (rebind_at env caller port owner new (rebinds.LinkBehind node found place.node place.before), None)

    abbrev pub rebind_searched : OwnerSought → Doing M × Option (Reply × Option ℕ)
    rebind_searched there = rebind_then there.env there.owner there.place

    pub rebind_searching : (env : Env) (owner : ℕ) (next : ListSearch × Next (Option ListPlace))
        → ◌≡◌ {A = Doing M × Option (Reply × Option ℕ)}
        (rebind_at env caller port owner new (rebind_searched_at node found next.0 next.1), None)
        (piece_next (λ (p : OwnerSearchModel). rebind_at p.env caller port p.owner new (rebinds.Searching node found p.search))
        rebind_searched (search_told env owner next))
    rebind_searching env owner (search, Go) = refl
    rebind_searching env owner (search, Done None) = refl
    rebind_searching env owner (search, Done (Some place)) = refl
