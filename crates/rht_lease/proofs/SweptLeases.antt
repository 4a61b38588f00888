-- A sweep over a list of leases, with one lease more.
use Rattle.std.proofs.Common.{◌≡◌, ℕ, ◌+◌, ◌<◌, ◌≤◌, true, false, cond, List, [], ◌∷◌, ◌++◌, length, length-take, map, take, get_or, sym, ◌∙◌, ap, arith}
use Rattle.std.specs.Prelude.{filter}
use Rattle.std.proofs.lemmas.List.{append-nil, map-append, length-map}
use Rattle.std.proofs.lemmas.List.Elements.{filter_more}
use Rattle.std.proofs.lemmas.List.Sums.{length-filter, count_by-le-length}
use Rattle.rht_lease.specs.declared.lease.Lease.{Lease}
use Rattle.rht_lease.specs.Books.{is_ended, release_of, sweep_calls}

module _ (now : ℕ) (leases : List Lease) (i : ℕ) where
  -- a sweep releases no more than there are leases
  pub length-sweep_calls : length (sweep_calls now (take i leases)) ≤ i
  length-sweep_calls =
      let ended = filter (is_ended now) (take i leases) in
      omega (
        arith,
        length-map ended release_of,
        length-filter (is_ended now) (take i leases),
        count_by-le-length (is_ended now) (take i leases),
        length-take i leases,
      )

  module _ (lease : Lease) (within : i < length leases) (here : lease ≡ get_or leases i lease) where
    one_more : sweep_calls now (take (i + 1) leases)
        ≡ sweep_calls now (take i leases) ++ map release_of (cond (is_ended now lease) (lease ∷ []) [])
    one_more =
        ap (map release_of) (filter_more (is_ended now) leases i lease within)
        ∙ map-append release_of (filter (is_ended now) (take i leases))
        (cond (is_ended now (get_or leases i lease)) (get_or leases i lease ∷ []) [])
        ∙ ap (λ (l : Lease). sweep_calls now (take i leases) ++ map release_of (cond (is_ended now l) (l ∷ []) [])) (sym here)

    pub sweep_calls-ended : is_ended now lease ≡ true
        → sweep_calls now (take (i + 1) leases) ≡ sweep_calls now (take i leases) ++ release_of lease ∷ []
    sweep_calls-ended is =
        one_more ∙ ap (λ b. sweep_calls now (take i leases) ++ map release_of (cond b (lease ∷ []) [])) is

    pub sweep_calls-lasting : is_ended now lease ≡ false → sweep_calls now (take (i + 1) leases) ≡ sweep_calls now (take i leases)
    sweep_calls-lasting lasts =
        one_more
        ∙ ap (λ b. sweep_calls now (take i leases) ++ map release_of (cond b (lease ∷ []) [])) lasts
        ∙ append-nil (sweep_calls now (take i leases))
