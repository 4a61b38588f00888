-- Where the words of buckets lead, and the links of nodes that are their ports' first ones: to such nodes, or
-- to none.
use Rattle.std.proofs.Common.{◌≡◌, ◌⊎◌, ℕ, List, [], ◌∷◌, Option, Some, None, true, refl, sym, ◌∙◌, ap, subst, inl, inr, arith}
use Rattle.rht_words.specs.declared.env.Env.{Env}
use Rattle.rht_words.specs.Chains.{IsSegment}
use Rattle.rht_words.specs.Links.{link_of, node_of, head_of}
use Rattle.rht_words.specs.Members.{In}
use Rattle.rht_words.proofs.LinksRead.{links_tell_apart}
use Rattle.rht_words.proofs.Memory.{Memory}
use Rattle.rht_ghost.proofs.Theory.Ghosts.{Ghost, HasSeat, is_first, seat_of, seated, seat-first, first-seat, table_at}
use Rattle.rht_ghost.proofs.Theory.Wholes.{chain_of, key_of, home, place_at, stop, ChainedRight, Whole, out-seated, IsThere, force-there}
use Rattle.rht_ghost.proofs.Theory.Passed.{home-within, home-no_entry}

-- a link leads to one node
pub link_of-one : (n m : ℕ) → link_of n ≡ link_of m → n ≡ m
link_of-one n m e = omega (arith, e)

-- the node to which a link leads
abbrev pub next_of : Env → ℕ → Option ℕ
next_of env link = node_of env.geometry.nodes link

-- a link that leads to a node is that node's
pub link-next_of : (env : Env) (link n : ℕ) → next_of env link ≡ Some n → link ≡ link_of n
link-next_of env link n leads = (links_tell_apart.named_by_link env.geometry.nodes link n leads).0

module _ (env : Env) (mix : ℕ → ℕ → ℕ → ℕ) (M : Memory) (G : Ghost) (whole : Whole env mix M G) where
  -- the chain of a port's bucket is right, and so is that of a bucket that has a node
  pub home_chained : (port τ j : ℕ) → IsThere G τ → home env mix G port τ ≡ Some j
      → ChainedRight env mix M j (G.bucket j)
  home_chained port τ j is_there is =
      (whole.buckets j (home-within env mix M G whole port τ j is_there is)
      (home-no_entry env mix M G whole port τ j is_there is)).chained

  pub member_chained : (j n : ℕ) → In n (G.bucket j).nodes → ChainedRight env mix M j (G.bucket j)
  member_chained j n there =
      let at = (whole.owned.first_at n j (whole.owned.member j n there)).at_home in
      home_chained (key_of M n) (table_at G j) j
      (force-there env mix whole.tables (table_at G j) at.current at.attached) at.here

  -- in a row of first nodes each leads to one, or to the row's end
  row_leads : (link : ℕ) (nodes : List ℕ) (last n z : ℕ) → IsSegment (chain_of M) link nodes last → In n nodes
      → chain_of M n ≡ link_of z → In z nodes ⊎ (last ≡ link_of z)
  row_leads link [] last n z segment i leads = absurd i
  row_leads link (x ∷ []) last n z segment (inl e) leads =
      inr (sym segment.1 ∙ ap (chain_of M) (sym e) ∙ leads)
  row_leads link (x ∷ []) last n z segment (inr i) leads = absurd i
  row_leads link (x ∷ y ∷ nodes) last n z segment (inl e) leads =
      inl (inr (inl (link_of-one z y (sym leads ∙ ap (chain_of M) e ∙ segment.1.0))))
  row_leads link (x ∷ y ∷ nodes) last n z segment (inr i) leads =
      elim (row_leads (chain_of M x) (y ∷ nodes) last n z segment.1 i leads) [
        | inl there ↦ inl (inr there)
        | inr end ↦ inr end
      ]

  -- the end of a bucket's chain leads to no node, or to a first one
  stop-seated : (j z : ℕ) → stop env mix (place_at env mix j) (G.bucket j).out ≡ link_of z → HasSeat G z
  stop-seated j z leads = go (G.bucket j).out refl leads
    where
      go : (out : Option ℕ) → (G.bucket j).out ≡ out → stop env mix (place_at env mix j) out ≡ link_of z
          → HasSeat G z
      go None is leads = absurd (omega (arith, leads))
      go (Some entry) is leads =
          let seat = out-seated env mix M G j entry (whole.moving.out j entry is) in
          record {
            bucket = seat.0;
            seat = ap (λ n. seat_of (G.node n)) (link_of-one z entry (sym leads))
                ∙ seat.1;
          }

  -- the word of a bucket leads to a first node, or to the end
  pub head-seated : (j z : ℕ) → ChainedRight env mix M j (G.bucket j)
      → head_of (place_at env mix j) (G.bucket j).plain ≡ link_of z → HasSeat G z
  head-seated j z chained leads = go (G.bucket j).nodes refl chained.segment
    where
      go : (nodes : List ℕ) → (G.bucket j).nodes ≡ nodes
          → IsSegment (chain_of M) (head_of (place_at env mix j) (G.bucket j).plain) nodes
          (stop env mix (place_at env mix j) (G.bucket j).out) → HasSeat G z
      go [] is segment = stop-seated j z (sym segment ∙ leads)
      go (x ∷ nodes) is segment =
          let same = link_of-one z x (sym leads ∙ segment.0) in
          let first = whole.owned.member j x (subst (In x) (sym is) (inl refl)) in
          record { bucket = j; seat = ap (λ n. seat_of (G.node n)) same ∙ ap seat_of first }

  -- and so does a first node
  pub chain-seated : (n z : ℕ) → HasSeat G n → chain_of M n ≡ link_of z → HasSeat G z
  chain-seated n z sits leads = elim (seated (G.node n) sits.bucket sits.seat) [
    | inl first ↦
        let j = sits.bucket in
        let there = (whole.owned.first_at n j first).there in
        elim (row_leads (head_of (place_at env mix j) (G.bucket j).plain) (G.bucket j).nodes
        (stop env mix (place_at env mix j) (G.bucket j).out) n z
        (member_chained j n there).segment there leads) [
          | inl in_it ↦ record { bucket = j; seat = ap seat_of (whole.owned.member j z in_it) }
          | inr end ↦ stop-seated j z end
        ]
    | inr leaving ↦
        let next = (whole.owned.leaving_at n sits.bucket leaving).next in
        head-seated next.bucket z
        (home_chained (key_of M n) (table_at G next.bucket) next.bucket
        (force-there env mix whole.tables (table_at G next.bucket) (let later = next.later in omega (arith, later)) next.attached) next.here)
        (sym next.chain ∙ leads)
  ]

  -- the same of the node to which the link is read to lead
  pub chain-first : (n m : ℕ) → is_first (G.node n) ≡ true → next_of env (chain_of M n) ≡ Some m
      → is_first (G.node m) ≡ true
  chain-first n m is leads =
      let from = first-seat (G.node n) is in
      let to = chain-seated n m (record { bucket = from.0; seat = from.1 })
      (link-next_of env (chain_of M n) m leads) in
      seat-first (G.node m) to.bucket to.seat
