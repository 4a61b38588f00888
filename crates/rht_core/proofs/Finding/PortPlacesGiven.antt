-- What is true of the places of each port is so behind an operation that gives back a node which no open section has met.
use Rattle.std.proofs.Common.{◌≡◌, ℕ, ◌+◌, ◌^◌, ◌<◌, Bool, true, cond, Some, None, sym, ◌∙◌, ap, subst, inl, inr, arith}
use Rattle.rht_words.specs.declared.env.Env.{Env}
use Rattle.rht_words.specs.Places.{Node, NodeWord, ChainLink, KeyWord}
use Rattle.rht_words.proofs.LinksRead.{links_tell_apart}
use Rattle.rht_words.proofs.Memory.{Memory}
use Rattle.rht_words.specs.Ports.{IsPort}
use Rattle.rht_ghost.proofs.Theory.Ghosts.{Free, Taken, Ghost, seat_of, with_owner}
use Rattle.rht_ghost.proofs.Theory.Wholes.{chain_of, key_of, Whole}
use Rattle.rht_ghost.proofs.Theory.SeatedLinks.{next_of}
use Rattle.rht_core.proofs.Finding.Places.{Places, PlacesRight}
use Rattle.rht_core.proofs.Finding.GivenBack.{IsUnmet, kept_places, is_kept, same_seat, seatless_met, met_kept, place_was, place_stays}
use Rattle.rht_core.proofs.Finding.PortPlaces.{HasDied, IsReplaced, IsPlaceOf, LeadsLower, EndsOrLeads, PortPlacesRight}

module _ (env : Env) (mix : ℕ → ℕ → ℕ → ℕ) (now c n : ℕ) (M M' : Memory) (G : Ghost) (P : Places) (whole : Whole env mix M G)
    (right : PlacesRight env mix G P M now) (mine : G.node n ≡ Taken c)
    (same : (m : ℕ) (word : NodeWord) → m < env.geometry.nodes → M' (Node m word) ≡ M (Node m word))
    (met : ℕ → Bool) (unmet : IsUnmet env M met n) (of_ports : PortPlacesRight env mix M G P now) where
  abbrev G' : Ghost
  G' = with_owner G n Free

  abbrev P' : Places
  P' = kept_places G met P

  was : (i m p : ℕ) → P'.place i m ≡ Some p → (is_kept G met m ≡ true) × (P.place i m ≡ Some p)
  was = place_was env mix now c n M M' G P whole right mine same met unmet

  seats : (m : ℕ) → seat_of (G'.node m) ≡ seat_of (G.node m)
  seats = same_seat env mix now c n M M' G P whole right mine same met unmet

  key_same : (i m p : ℕ) → P.place i m ≡ Some p → key_of M' m ≡ key_of M m
  key_same i m p is = same m KeyWord (right.placed i m p is).among

  dead_kept : (m : ℕ) → is_kept G met m ≡ true → P'.dead m ≡ P.dead m
  dead_kept m kept = ap (λ b. cond b (P.dead m) None) kept

  died_given : (m : ℕ) → is_kept G met m ≡ true → HasDied G P now m → HasDied G' P' (now + 1) m
  died_given m kept died = record {
    at = died.at;
    is = dead_kept m kept ∙ died.is;
    early = let low = died.early in omega (arith, low);
    none = seats m ∙ died.none;
  }

  lower_given : (i m p : ℕ) → met m ≡ true → LeadsLower env mix P i (chain_of M m) p → LeadsLower env mix P' i (chain_of M m) p
  lower_given i m p is on =
      let among = (right.placed i on.next on.at on.placed).among in
      let kept = met_kept env mix now c n M M' G P whole right mine same met unmet on.next (unmet.leads m on.next is
      (ap (next_of env) on.leads ∙ links_tell_apart.link_names env.geometry.nodes on.next among)) in
      record {
        next = on.next;
        at = on.at;
        leads = on.leads;
        placed = place_stays env mix now c n M M' G P whole right mine same met unmet i on.next kept ∙ on.placed;
        below = on.below;
      }

  ends_given : (i m p : ℕ) → met m ≡ true → EndsOrLeads env mix G P i (chain_of M m) p → EndsOrLeads env mix G' P' i (chain_of M m) p
  ends_given i m p is (inl out) = inl (record {
    bucket = out.bucket;
    within = out.within;
    table = out.table;
    of = out.of;
    later = out.later;
    attached = out.attached;
    to = elim out.to [ inl end ↦ inl end | inr on ↦ inr (on.0, lower_given out.bucket m on.0 is on.1) ];
  })
  ends_given i m p is (inr (inl end)) = inr (inl end)
  ends_given i m p is (inr (inr on)) = inr (inr (lower_given i m p is on))

  pub port_places_given : PortPlacesRight env mix M' G' P' (now + 1)
  port_places_given = record {
    homes = λ i m p is.
        let old = was i m p is in
        let of = of_ports.homes i m p old.1 in
        let key = key_same i m p old.1 in
        subst (λ k. IsPlaceOf env mix G' k i) (sym key) (record { here = of.here; attached = of.attached });
    small = λ i m p is.
        let old = was i m p is in subst IsPort (sym (key_same i m p old.1)) (of_ports.small i m p old.1);
    died = λ i m p is.
        let old = was i m p is in
        elim (of_ports.died i m p old.1) [
          | inl sat ↦ inl (record { bucket = sat.bucket; seat = seats m ∙ sat.seat })
          | inr died ↦ inr (died_given m old.0 died)
        ];
    newest = λ i m k p q is other key less.
        let old = was i m p is in
        let mate = was i k q other in
        let at = key_same i m p old.1 in
        let gone = of_ports.newest i m k p q old.1 mate.1 (sym at ∙ key ∙ key_same i k q mate.1) less in
        subst (λ x. IsReplaced G' P' x m q) (sym at) (record {
          apart = gone.apart;
          at = gone.at;
          is = dead_kept m old.0 ∙ gone.is;
          before = gone.before;
        });
    lower = λ i m p none is.
        let old = was i m p is in
        let seatless = sym (seats m) ∙ none in
        subst (λ link. EndsOrLeads env mix G' P' i link p) (sym (same m ChainLink (right.placed i m p old.1).among))
        (ends_given i m p (seatless_met env mix now c n M M' G P whole right mine same met unmet m old.0 seatless)
        (of_ports.lower i m p seatless old.1));
  }
