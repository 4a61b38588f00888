-- More of what is true of places: each is in a bucket where its node's port belongs; of two places that nodes of one port have in a
-- bucket the lower one's node died before the higher one arose; and links of nodes with places lead down, or to the bucket's end, or out
-- to a table behind.
use Rattle.std.proofs.Common.{◌≡◌, ◌⊎◌, ℕ, ◌+◌, ◌*◌, ◌/◌, ◌^◌, ◌<◌, List, [], ◌∷◌, Option, Some, None, refl, sym, ◌∙◌, ap, subst, inl, inr, arith}
use Rattle.rht_words.specs.declared.env.Env.{Env}
use Rattle.rht_words.specs.Chains.{IsSegment}
use Rattle.rht_words.specs.Links.{link_of, marker_of, head_of}
use Rattle.rht_words.specs.Members.{In}
use Rattle.rht_words.specs.Shapes.{unpacked, size_of}
use Rattle.rht_words.proofs.Memory.{Memory}
use Rattle.rht_words.specs.Ports.{IsPort}
use Rattle.rht_ghost.proofs.Theory.Ghosts.{Leaving, Ghost, HasSeat, PageOf, seat_of, table_at, some-same}
use Rattle.rht_ghost.proofs.Theory.Passed.{hash-below, place-word, place-table, home-word}
use Rattle.rht_ghost.proofs.Theory.Wholes.{chain_of, key_of, hash_in, home, place_at, stop, ChainedRight, Whole, IsThere, force-there, seated_at}
use Rattle.rht_ghost.proofs.Theory.SeatedLinks.{home_chained, member_chained}
use Rattle.rht_core.proofs.Finding.Falling.{AreFalling, one_place, falling-leads}
use Rattle.rht_core.proofs.Finding.Places.{Places, IsElsewhere, PlacesRight, in_bucket, sitting_placed}

-- the node is a port's first one no more, since an event before this one
pub record HasDied (G : Ghost) (P : Places) (now n : ℕ) : Type 0 where
  pub at : ℕ
  pub is : P.dead n ≡ Some at
  pub early : at < now
  pub none : seat_of (G.node n) ≡ None

-- the port isn't bound to the node any more, which died before this place arose
pub record IsReplaced (G : Ghost) (P : Places) (port n p : ℕ) : Type 0 where
  pub apart : In n (G.bound port) → ⊥
  pub at : ℕ
  pub is : P.dead n ≡ Some at
  pub before : at < p

module _ (env : Env) (mix : ℕ → ℕ → ℕ → ℕ) where
  -- the bucket is the port's in its table
  pub record IsPlaceOf (G : Ghost) (port i : ℕ) : Type 0 where
    pub here : home env mix G port (table_at G i) ≡ Some i
    pub attached : table_at G i < G.attached

  -- the link leads to a node with a lower place in the bucket
  pub record LeadsLower (P : Places) (i link p : ℕ) : Type 0 where
    pub next : ℕ
    pub at : ℕ
    pub leads : link ≡ link_of next
    pub placed : P.place i next ≡ Some at
    pub below : at < p

  -- the link leads to a node with a place in the bucket
  abbrev pub LeadsInto : Places → ℕ → ℕ → Type 0
  LeadsInto P i link = (p : ℕ) × LeadsLower P i link p

  -- the link leads to the end of a bucket of a table behind this one, or to a node with a place there
  pub record LeadsOut (G : Ghost) (P : Places) (τ link : ℕ) : Type 0 where
    pub bucket : ℕ
    pub within : bucket < 64 * env.geometry.pages
    pub table : ℕ
    pub of : G.page (bucket / 64) ≡ PageOf table
    pub later : τ < table
    pub attached : table < G.attached
    pub to : (link ≡ marker_of (place_at env mix bucket)) ⊎ LeadsInto P bucket link

  -- the link leads out of the bucket's table, or to the bucket's end, or down
  abbrev pub EndsOrLeads : Ghost → Places → ℕ → ℕ → ℕ → Type 0
  EndsOrLeads G P i link p =
      LeadsOut G P (table_at G i) link ⊎ (link ≡ marker_of (place_at env mix i)) ⊎ LeadsLower P i link p

  pub record PortPlacesRight (M : Memory) (G : Ghost) (P : Places) (now : ℕ) : Type 0 where
    pub homes : (i n p : ℕ) → P.place i n ≡ Some p → IsPlaceOf G (key_of M n) i
    pub small : (i n p : ℕ) → P.place i n ≡ Some p → IsPort (key_of M n)
    pub died : (i n p : ℕ) → P.place i n ≡ Some p → HasSeat G n ⊎ HasDied G P now n
    pub newest : (i n m p q : ℕ) → P.place i n ≡ Some p → P.place i m ≡ Some q → key_of M n ≡ key_of M m → p < q
        → IsReplaced G P (key_of M n) n q
    pub lower : (i n p : ℕ) → seat_of (G.node n) ≡ None → P.place i n ≡ Some p → EndsOrLeads G P i (chain_of M n) p

  -- ---- of one moment

  module _ (M : Memory) (G : Ghost) (P : Places) (now : ℕ) (whole : Whole env mix M G) (right : PlacesRight env mix G P M now)
      (of_ports : PortPlacesRight M G P now) where
    -- a node that sits in a bucket is its port's first one
    pub sits_first : (n j : ℕ) → seat_of (G.node n) ≡ Some j → In n (G.bound (key_of M n))
    sits_first n j sits = subst (In n) (sym (seated_at env mix M G whole n j sits).bound_to) (inl refl)

    -- the port of a node with a place in a bucket has the bucket's number
    pub number_is : (τ b j n p : ℕ) → IsThere G τ → b < size_of (unpacked (G.table τ).shape) → (G.table τ).place b ≡ Some j
        → P.place j n ≡ Some p → hash_in env mix G (key_of M n) τ ≡ b
    number_is τ b j n p is_there below is placed =
        let hash = hash_in env mix G (key_of M n) τ in
        let here : (G.table τ).place hash ≡ Some j =
        subst (λ t. home env mix G (key_of M n) t ≡ Some j) (place-table env mix M G whole τ b j is_there below is)
        (of_ports.homes j n p placed).here in
        sym (place-word env mix M G whole τ hash j is_there (hash-below env mix M G whole (key_of M n) τ) here).number
        ∙ (place-word env mix M G whole τ b j is_there below is).number

    -- what leads to a bucket of a later table that is there, to its end or beyond it leads out
    pub leads_out : (τ k p link : ℕ) → τ < table_at G k → IsThere G (table_at G k) → (port : ℕ) → IsPlaceOf G port k
        → EndsOrLeads G P k link p → LeadsOut G P τ link
    leads_out τ k p link later is_there port of (inl out) =
        let further = out.later in
        record {
          bucket = out.bucket;
          within = out.within;
          table = out.table;
          of = out.of;
          later = omega (arith, later, further);
          attached = out.attached;
          to = out.to;
        }
    leads_out τ k p link later is_there port of (inr here) =
        let word = home-word env mix M G whole port (table_at G k) k is_there of.here in
        record {
          bucket = k;
          within = word.within;
          table = table_at G k;
          of = word.of;
          later = later;
          attached = of.attached;
          to = elim here [ inl end ↦ inl end | inr on ↦ inr (p, on) ];
        }

    -- where a place of its port is in another bucket than its first node, its table is an earlier one
    pub elsewhere_before : (i j n f p : ℕ) → key_of M n ≡ key_of M f → seat_of (G.node f) ≡ Some j → P.place i n ≡ Some p
        → IsElsewhere G P j i p → table_at G i < table_at G j
    elsewhere_before i j n f p key sits is elsewhere =
        let at = (seated_at env mix M G whole f j sits).at_home in
        let of = of_ports.homes i n p is in
        let apart : table_at G i ≡ table_at G j → ⊥ = λ e.
        elsewhere.other (some-same i j (sym of.here ∙ ap (home env mix G (key_of M n)) e
        ∙ ap (λ k. home env mix G k (table_at G j)) key ∙ at.here)) in
        let least = elsewhere.table in
        omega (arith, least, apart)

    -- the end of a bucket's chain
    end_leads : (j p : ℕ) (out : Option ℕ) → (G.bucket j).out ≡ out
        → ((entry at : ℕ) → P.place j entry ≡ Some at → G.node entry ≡ Leaving j → at < p)
        → EndsOrLeads G P j (stop env mix (place_at env mix j) out) p
    end_leads j p None none lower = inr (inl refl)
    end_leads j p (Some entry) some lower =
        let out = whole.moving.out j entry some in
        elim out.owner [
          | inl leaving ↦
              let last = right.last j entry leaving in
              inr (inr (record { next = entry; at = last.at; leads = refl; placed = last.is; below = lower entry last.at last.is leaving }))
          | inr further ↦
              let sits = ap seat_of further.first in
              let placed = sitting_placed env mix G P M now whole right further.bucket entry sits in
              let at = (seated_at env mix M G whole entry further.bucket sits).at_home in
              let table = out.table in
              let more = further.later in
              inl (leads_out (table_at G j) further.bucket (placed.at + 1) (link_of entry) (omega (arith, table, more))
              (force-there env mix whole.tables (table_at G further.bucket) at.current at.attached) (key_of M entry)
              (record { here = at.here; attached = at.attached })
              (inr (inr (record { next = entry; at = placed.at; leads = refl; placed = placed.is; below = omega arith }))))
        ]

    -- where the word of a bucket leads
    pub head_leads : (j : ℕ) → ChainedRight env mix M j (G.bucket j)
        → (p : ℕ) × EndsOrLeads G P j (head_of (place_at env mix j) (G.bucket j).plain) p
    head_leads j chained = go (G.bucket j).nodes refl chained.segment
      where
        go : (nodes : List ℕ) → (G.bucket j).nodes ≡ nodes
            → IsSegment (chain_of M) (head_of (place_at env mix j) (G.bucket j).plain) nodes
            (stop env mix (place_at env mix j) (G.bucket j).out)
            → (p : ℕ) × EndsOrLeads G P j (head_of (place_at env mix j) (G.bucket j).plain) p
        go [] none segment = (
          now,
          subst (λ link. EndsOrLeads G P j link now) (sym segment)
              (end_leads j now (G.bucket j).out refl (λ entry at is leaving. (right.placed j entry at is).early)),
        )
        go (first ∷ nodes) full segment =
            let top = (subst (AreFalling (P.place j)) full (right.falls j)).0 in (
              top.at + 1,
              inr (inr (record { next = first; at = top.at; leads = segment.0; placed = top.is; below = omega arith })),
            )

    -- the link of a node that sits in the bucket
    sitting_ends : (j n p : ℕ) → seat_of (G.node n) ≡ Some j → P.place j n ≡ Some p → EndsOrLeads G P j (chain_of M n) p
    sitting_ends j n p sits is = elim (in_bucket env mix G P M now whole right j n sits) [
      | inl there ↦
          elim (falling-leads (P.place j) (chain_of M) (head_of (place_at env mix j) (G.bucket j).plain) (G.bucket j).nodes
          (stop env mix (place_at env mix j) (G.bucket j).out) n p
          (member_chained env mix M G whole j n there).segment (right.falls j) there is) [
            | inl on ↦ inr (inr (record { next = on.next; at = on.at; leads = on.link; placed = on.placed; below = on.below }))
            | inr end ↦
                subst (λ link. EndsOrLeads G P j link p) (sym end.link)
                (end_leads j p (G.bucket j).out refl (λ entry at placed leaving. below_all entry at placed leaving there))
          ]
      | inr leaving ↦
          let next = (whole.owned.leaving_at n j leaving).next in
          let out = whole.moving.out j n (whole.owned.leaving_at n j leaving).out in
          let table = out.table in
          let more = next.later in
          let is_there = force-there env mix whole.tables (table_at G next.bucket) (omega (arith, more)) next.attached in
          let head = head_leads next.bucket (home_chained env mix M G whole (key_of M n) (table_at G next.bucket) next.bucket is_there
          next.here) in
          inl (leads_out (table_at G j) next.bucket head.0 (chain_of M n) (omega (arith, table, more)) is_there (key_of M n)
          (record { here = next.here; attached = next.attached })
          (subst (λ link. EndsOrLeads G P next.bucket link head.0) (sym next.chain) head.1))
    ]
      where
        below_all : (entry at : ℕ) → P.place j entry ≡ Some at → G.node entry ≡ Leaving j → In n (G.bucket j).nodes → at < p
        below_all entry at placed leaving there =
            let last = right.last j entry leaving in
            let above = last.above n p there is in
            let same : last.at ≡ at = one_place (P.place j) entry last.at at last.is placed in
            omega (arith, above, same)

    -- a first node that sits in another bucket than that of a place of its port leads out of that one
    pub sitting_out : (i j n f p : ℕ) → key_of M n ≡ key_of M f → seat_of (G.node f) ≡ Some j → P.place i n ≡ Some p
        → IsElsewhere G P j i p → LeadsOut G P (table_at G i) (chain_of M f)
    sitting_out i j n f p key sits is elsewhere =
        let at = (seated_at env mix M G whole f j sits).at_home in
        let placed = sitting_placed env mix G P M now whole right j f sits in
        leads_out (table_at G i) j placed.at (chain_of M f) (elsewhere_before i j n f p key sits is elsewhere)
        (force-there env mix whole.tables (table_at G j) at.current at.attached) (key_of M f)
        (record { here = at.here; attached = at.attached }) (sitting_ends j f placed.at sits placed.is)

    -- so does the link of each node that has a place
    pub ends_or_leads : (i n p : ℕ) → P.place i n ≡ Some p → EndsOrLeads G P i (chain_of M n) p
    ends_or_leads i n p is = go (seat_of (G.node n)) refl
      where
        go : (seat : Option ℕ) → seat_of (G.node n) ≡ seat → EndsOrLeads G P i (chain_of M n) p
        go None none = of_ports.lower i n p none is
        go (Some j) sits =
            let at = seated_at env mix M G whole n j sits in
            elim (right.of_port (key_of M n) n at.behind n j i p at.bound_to (inl refl) sits is) [
              | inl here ↦ subst (λ k. EndsOrLeads G P k (chain_of M n) p) (sym here.0) (sitting_ends j n p sits here.1)
              | inr elsewhere ↦ inl (sitting_out i j n n p refl sits is elsewhere)
            ]
