-- Places behind an operation that gives back a node. It forgets the places of the nodes that no open section has met and that have no seat:
-- nobody stands at one of these, and nobody comes to one.
use Rattle.std.proofs.Common.{◌≡◌, ℕ, ◌+◌, ◌<◌, Bool, true, false, cond, Option, Some, None, refl, sym, ◌∙◌, ap, subst, inl, inr, arith}
use Rattle.std.specs.Prelude.{◌||◌}
use Rattle.std.specs.Option.{is_some}
use Rattle.std.proofs.lemmas.Bool.{both_ways, or_left, or_right, or_cases}
use Rattle.rht_words.specs.declared.env.Env.{Env}
use Rattle.rht_words.specs.Links.{link_of}
use Rattle.rht_words.specs.Members.{In}
use Rattle.rht_words.specs.Places.{Node, NodeWord, ChainLink, KeyWord}
use Rattle.rht_words.proofs.LinksRead.{links_tell_apart}
use Rattle.rht_words.proofs.Memory.{Memory}
use Rattle.rht_ghost.proofs.Theory.Ghosts.{put-other, put-all, Free, Leaving, Taken, Ghost, IsUsed, is_used, seat_of, with_owner}
use Rattle.rht_ghost.proofs.Theory.Wholes.{chain_of, Whole}
use Rattle.rht_ghost.proofs.Theory.SeatedLinks.{next_of}
use Rattle.rht_core.proofs.Finding.Falling.{falling-kept}
use Rattle.rht_core.proofs.Finding.Places.{Places, IsLow, Leads, IsLast, IsOfPort, PlacesRight}
use Rattle.rht_core.proofs.Finding.Deaths.{DeathsRight, IsLate}

-- No open section has met the node; and links lead from the nodes that were met to such nodes alone.
pub record IsUnmet (env : Env) (M : Memory) (met : ℕ → Bool) (n : ℕ) : Type 0 where
  pub leads : (m k : ℕ) → met m ≡ true → next_of env (chain_of M m) ≡ Some k → met k ≡ true
  pub apart : met n ≡ false

-- a node's places are kept that was met, or has a seat
abbrev pub is_kept : Ghost → (ℕ → Bool) → ℕ → Bool
is_kept G met n = met n || is_some (seat_of (G.node n))

abbrev pub kept_places : Ghost → (ℕ → Bool) → Places → Places
kept_places G met P = record {
  place = λ i n. cond (is_kept G met n) (P.place i n) None;
  dead = λ n. cond (is_kept G met n) (P.dead n) None;
}

module _ (env : Env) (mix : ℕ → ℕ → ℕ → ℕ) (now c n : ℕ) (M M' : Memory) (G : Ghost) (P : Places) (whole : Whole env mix M G)
    (right : PlacesRight env mix G P M now) (mine : G.node n ≡ Taken c)
    (same : (m : ℕ) (word : NodeWord) → m < env.geometry.nodes → M' (Node m word) ≡ M (Node m word))
    (met : ℕ → Bool) (unmet : IsUnmet env M met n) where
  abbrev G' : Ghost
  G' = with_owner G n Free

  abbrev P' : Places
  P' = kept_places G met P

  abbrev IsKept : ℕ → Type 0
  IsKept m = is_kept G met m ≡ true

  -- ---- who is what then

  pub same_seat : (m : ℕ) → seat_of (G'.node m) ≡ seat_of (G.node m)
  same_seat m = put-all (λ k o. seat_of o ≡ seat_of (G.node k)) G.node n Free (sym (ap seat_of mine)) (λ k ne. refl) m

  pub was_used : (m : ℕ) → IsUsed (G'.node m) → IsUsed (G.node m)
  was_used m = put-all (λ k o. is_used o ≡ true → is_used (G.node k) ≡ true) G.node n Free (λ used. absurd (cc)) (λ k ne used. used) m

  -- the node itself is forgotten
  not_kept : IsKept n → ⊥
  not_kept kept = elim (or_cases (met n) (is_some (seat_of (G.node n))) kept) [
    | inl is ↦ both_ways (met n) unmet.apart is
    | inr sits ↦ let none : false ≡ true = sym (ap (λ o. is_some (seat_of o)) mine) ∙ sits in cc
  ]

  kept_used : (m : ℕ) → IsKept m → IsUsed (G.node m) → IsUsed (G'.node m)
  kept_used m kept used =
      ap is_used (put-other G.node n Free m (λ e. not_kept (subst IsKept e kept))) ∙ used

  pub sitting_kept : (m j : ℕ) → seat_of (G.node m) ≡ Some j → IsKept m
  sitting_kept m j sits = or_right (met m) (is_some (seat_of (G.node m))) (ap is_some sits)

  pub met_kept : (m : ℕ) → met m ≡ true → IsKept m
  met_kept m is = or_left (met m) (is_some (seat_of (G.node m))) is

  pub seatless_met : (m : ℕ) → IsKept m → seat_of (G.node m) ≡ None → met m ≡ true
  seatless_met m kept none = elim (or_cases (met m) (is_some (seat_of (G.node m))) kept) [
    | inl is ↦ is
    | inr sits ↦ let both : false ≡ true = sym (ap is_some none) ∙ sits in cc
  ]

  -- ---- what is kept was so, and stays

  cond_some : (kept : Bool) (was : Option ℕ) (p : ℕ) → cond kept was None ≡ Some p → (kept ≡ true) × (was ≡ Some p)
  cond_some true was p is = (refl, is)
  cond_some false was p is = absurd (cc)

  pub place_was : (i m p : ℕ) → P'.place i m ≡ Some p → IsKept m × (P.place i m ≡ Some p)
  place_was i m p is = cond_some (is_kept G met m) (P.place i m) p is

  pub place_stays : (i m : ℕ) → IsKept m → P'.place i m ≡ P.place i m
  place_stays i m kept = ap (λ b. cond b (P.place i m) None) kept

  pub dead_was : (m t : ℕ) → P'.dead m ≡ Some t → IsKept m × (P.dead m ≡ Some t)
  dead_was m t is = cond_some (is_kept G met m) (P.dead m) t is

  dead_stays : (m : ℕ) → IsKept m → P'.dead m ≡ P.dead m
  dead_stays m kept = ap (λ b. cond b (P.dead m) None) kept

  -- ---- where links lead

  low_then : (i p : ℕ) → IsLow G P i p → IsLow G' P' i p
  low_then i p low f q sits is = low f q (sym (same_seat f) ∙ sits) (place_was i f q is).1

  -- a link of a node that was met
  leads_then : (i m p : ℕ) → met m ≡ true → Leads G P i (chain_of M m) p → Leads G' P' i (chain_of M m) p
  leads_then i m p is (inl low) = inl (low_then i p low)
  leads_then i m p is (inr on) =
      let among = (right.placed i on.next on.at on.placed).among in
      let kept = met_kept on.next (unmet.leads m on.next is
      (ap (next_of env) on.leads ∙ links_tell_apart.link_names env.geometry.nodes on.next among)) in
      inr (record {
        next = on.next;
        at = on.at;
        leads = on.leads;
        placed = place_stays i on.next kept ∙ on.placed;
        below = on.below;
        between = λ f q sits at. on.between f q (sym (same_seat f) ∙ sits) (place_was i f q at).1;
      })

  -- ---- places are right

  row_stays : (j m p : ℕ) → In m (G.bucket j).nodes → P.place j m ≡ Some p → P'.place j m ≡ Some p
  row_stays j m p there is = place_stays j m (sitting_kept m j (ap seat_of (whole.owned.member j m there))) ∙ is

  leaving_was : (m j : ℕ) → G'.node m ≡ Leaving j → G.node m ≡ Leaving j
  leaving_was m j =
      put-all (λ k o. o ≡ Leaving j → G.node k ≡ Leaving j) G.node n Free (λ e. absurd (cc)) (λ k ne e. e) m

  last_then : (j entry : ℕ) → G'.node entry ≡ Leaving j → IsLast G' P' j entry
  last_then j entry leaving =
      let was = leaving_was entry j leaving in
      let last = right.last j entry was in
      record {
        at = last.at;
        is = place_stays j entry (sitting_kept entry j (ap seat_of was)) ∙ last.is;
        above = λ f q there at. last.above f q there (place_was j f q at).1;
      }

  of_port_then : (first j i p : ℕ) → seat_of (G.node first) ≡ Some j → IsOfPort G P first j i p → IsOfPort G' P' first j i p
  of_port_then first j i p sits (inl here) = inl (here.0, place_stays j first (sitting_kept first j sits) ∙ here.1)
  of_port_then first j i p sits (inr elsewhere) =
      inr (record { other = elsewhere.other; low = low_then i p elsewhere.low; table = elsewhere.table })

  pub right_then : PlacesRight env mix G' P' M' (now + 1)
  right_then = record {
    falls = λ j. falling-kept (P.place j) (P'.place j) (G.bucket j).nodes (row_stays j) (right.falls j);
    last = last_then;
    placed = λ i m p is.
        let was = place_was i m p is in
        let at = right.placed i m p was.1 in
        record {
          early = let early = at.early in omega (arith, early);
          among = at.among;
          used = kept_used m was.0 at.used;
          table = at.table;
          of = at.of;
        };
    keys = λ i m k p is other.
        let a = (place_was i m p is).1 in
        let b = (place_was i k p other).1 in
        same m KeyWord (right.placed i m p a).among ∙ right.keys i m k p a b ∙ sym (same k KeyWord (right.placed i k p b).among);
    of_port = λ port first behind m j i p bound there sits is.
        let was = sym (same_seat first) ∙ sits in
        of_port_then first j i p was (right.of_port port first behind m j i p bound there was (place_was i m p is).1);
    leads = λ i m p none is.
        let was = place_was i m p is in
        let seatless = sym (same_seat m) ∙ none in
        subst (λ link. Leads G' P' i link p) (sym (same m ChainLink (right.placed i m p was.1).among))
        (leads_then i m p (seatless_met m was.0 seatless) (right.leads i m p seatless was.1));
    died_used = λ m t is. let was = dead_was m t is in kept_used m was.0 (right.died_used m t was.1);
  }

  -- ---- and so is since when nodes are no first ones

  pub late_then : (since m : ℕ) → IsKept m → IsLate env G P since m → IsLate env G' P' since m
  late_then since m kept (inl sits) = inl (record { bucket = sits.bucket; seat = same_seat m ∙ sits.seat })
  late_then since m kept (inr died) = inr (record {
    at = died.at;
    is = dead_stays m kept ∙ died.is;
    late = died.late;
    used = kept_used m kept died.used;
    among = died.among;
  })

  pub deaths_then : DeathsRight env M G P now → DeathsRight env M' G' P' (now + 1)
  deaths_then deaths m t among used none is =
      let was = dead_was m t is in
      let seatless = sym (same_seat m) ∙ none in
      let dead = deaths m t among (was_used m used) seatless was.1 in
      record {
        at = dead.at;
        is = dead_stays m was.0 ∙ dead.is;
        early = let early = dead.early in omega (arith, early);
        later = λ z leads.
            let link = sym (same m ChainLink among) ∙ leads in
            let late = dead.later z link in
            late_then dead.at z (kept_next m z (seatless_met m was.0 seatless) link late) late;
      }
    where
      -- a first one is kept, and so is one to which a link leads of a node that was met
      kept_next : (m z : ℕ) → met m ≡ true → chain_of M m ≡ link_of z → {since : ℕ} → IsLate env G P since z → IsKept z
      kept_next m z is link (inl sits) = sitting_kept z sits.bucket sits.seat
      kept_next m z is link (inr died) =
          met_kept z (unmet.leads m z is (ap (next_of env) link ∙ links_tell_apart.link_names env.geometry.nodes z died.among))
