-- What a walk knows at the nodes of a bucket's chain, and how each load there leads on from it.
use Rattle.std.proofs.Common.{◌≡◌, ◌≢◌, ℕ, ◌+◌, ◌^◌, ◌<◌, ◌≤◌, Bool, true, List, Option, Some, None, sym, ◌∙◌, ap, subst, inl, inr, arith}
use Rattle.std.proofs.lemmas.Bool.{cases_eq}
use Rattle.rht_words.specs.declared.env.Env.{Env}
use Rattle.rht_words.specs.Links.{link_of, head_of}
use Rattle.rht_words.specs.Members.{In}
use Rattle.rht_words.specs.Operations.{old_of}
use Rattle.rht_words.specs.Places.{IsBucketPlace}
use Rattle.rht_words.specs.declared.op.Op.TheVariants.{Load}
use Rattle.rht_words.specs.Shapes.{unpacked, size_of}
use Rattle.rht_words.proofs.Memory.{Memory}
use Rattle.rht_model.specs.declared.history.Cursor.{Cursor}
use Rattle.rht_walk.specs.Walk.{IsVisitIn, chain_of as chain_at, one_more}
use Rattle.rht_walk.specs.declared.walk.Visit.{Visit}
use Rattle.rht_walk.specs.declared.walk.Chain.{Chain}
use Rattle.rht_ghost.proofs.Theory.Ghosts.{Ghost, index_at, table_at, some-same}
use Rattle.rht_ghost.proofs.Theory.SeatedLinks.{head-seated, link_of-one}
use Rattle.rht_ghost.proofs.Theory.Steps.{mem}
use Rattle.rht_ghost.proofs.Theory.Wholes.{chain_of, key_of, hash_in, place_at, word_index, Whole, IsThere}
use Rattle.rht_core.proofs.Finding.Deaths.{DeathsRight, IsLate, late_next}
use Rattle.rht_core.proofs.Finding.Places.{Places, PlacesRight}
use Rattle.rht_core.proofs.Finding.Stages.{Ending}
use Rattle.rht_core.proofs.Finding.StageSteps.{headed_to, headed_nowhere, key_differs, link_to, link_nowhere, all_visited}
use Rattle.rht_core.proofs.Returning.TiedWalks.{IsWalked, IsAtBucket}
use Rattle.rht_core.proofs.Finding.BucketHeads.{bucket_right, head_placed}
use Rattle.rht_core.proofs.Finding.PortPlaces.{PortPlacesRight, sits_first, number_is, ends_or_leads}
use Rattle.rht_core.proofs.Walking.ShownNodes.{map-In}
use Rattle.rht_core.proofs.Walking.SlotsOfTables.{reached, missed, none_behind}
use Rattle.rht_core.proofs.Walking.TablesOfWalks.{walked_there, walked_number, walked_table, heading_here, heading_leads, walked_page}
use Rattle.rht_core.proofs.Walking.WalkFacts.{ports_of, Said, StageIs, RoomKnown, IsPassed, BucketsKnown, IsAt, IsBehind, IsInChain, HereAtKey, HereAtLink, IsAtOwner}

module _ (env : Env) (mix : ℕ → ℕ → ℕ → ℕ) (from : Option Cursor) (begin now : ℕ) (Missed WasLast : ℕ → Type 0)
    (seen : ℕ → Bool) (items : List (ℕ × ℕ)) (words : List ℕ) (G : Ghost) (P : Places) (whole : Whole env mix (mem env mix words) G)
    (right : PlacesRight env mix G P (mem env mix words) now) (deaths : DeathsRight env (mem env mix words) G P now)
    (of_ports : PortPlacesRight env mix (mem env mix words) G P now) where
  abbrev M : Memory
  M = mem env mix words

  abbrev At : Visit → Type 0
  At = IsAt env mix from begin now Missed WasLast seen items M G P

  abbrev Behind : Visit → Type 0
  Behind = IsBehind env mix from begin now Missed WasLast seen items M G P

  abbrev Room : ℕ → (ℕ → Type 0) → Type 0
  Room = RoomKnown env mix from begin now Missed WasLast seen items M G P

  abbrev SaidHere : ℕ → Type 0
  SaidHere = Said env mix from begin now Missed WasLast seen items M G P

  abbrev hash : ℕ → ℕ → ℕ
  hash slot port = hash_in env mix G port (index_at G slot)

  abbrev InChain : Chain → ℕ → (ℕ → ℕ → Type 0) → (ℕ → ℕ) → Type 0
  InChain = IsInChain env mix from begin now Missed WasLast seen items M G P

  abbrev AtKeyHere : Chain → ℕ → ℕ → ℕ → Type 0
  AtKeyHere = HereAtKey env mix from begin now Missed WasLast seen items M G P

  abbrev AtLinkHere : Chain → ℕ → ℕ → ℕ → Type 0
  AtLinkHere = HereAtLink env mix from begin now Missed WasLast seen items M G P

  abbrev Passed : ℕ → ℕ → ℕ → ℕ → ℕ → ℕ → Type 0
  Passed = IsPassed env mix from begin now Missed WasLast seen items M G P

  -- of nodes of which something is so something weaker is
  room_weaker : (slot : ℕ) (Where Where' : ℕ → Type 0) → ((n : ℕ) → Where n → Where' n) → Room slot Where → Room slot Where'
  room_weaker slot Where Where' so room = record {
    nodes = room.nodes;
    keys = room.keys;
    each = λ n i. let is = room.each n i in (is.0, so n is.1);
    distinct = room.distinct;
  }

  -- ---- a bucket that is missing

  pub missing_known : (visit : Visit) → (G.table (index_at G visit.table)).place visit.bucket ≡ None → At visit → Behind visit
  missing_known visit none at = record {
    of = at.of;
    low = at.low;
    known = λ last.
        let known = at.known last in
        record {
          behind = known.behind;
          here = λ port low same.
              none_behind env mix port seen 0 now M G P whole right deaths (SaidHere port) visit.table
              (missed env mix port seen 0 now M G P whole right deaths (SaidHere port) visit.table (known.here port low same)
              (ap (G.table (index_at G visit.table)).place same ∙ none)) last;
          ahead = known.ahead;
          room = room_weaker visit.table _ _ (λ n less. omega (arith, less)) known.room;
        };
  }

  -- ---- a bucket's word

  module _ (visit : Visit) (place : ℕ) (within : IsVisitIn visit) (there : IsBucketPlace env.geometry place)
      (tied : IsAtBucket env mix G visit place) where
    abbrev j : ℕ
    j = word_index env mix place

    abbrev slot : ℕ
    slot = visit.table

    is_there : IsThere G (index_at G slot)
    is_there = walked_there env mix words G whole visit within tied.walked

    below : visit.bucket < size_of (unpacked (G.table (index_at G slot)).shape)
    below = walked_number env mix words G whole visit within tied.walked

    here_is : (G.table (index_at G slot)).place visit.bucket ≡ Some j
    here_is = heading_here env mix words G whole visit within place there tied

    abbrev link : ℕ
    link = head_of place (old_of words (Load place))

    abbrev head : ℕ
    head = head_of (place_at env mix j) (G.bucket j).plain

    link_is : link ≡ head
    link_is = heading_leads env mix words G whole visit within place there tied

    -- it leads to a node
    pub head_known : (x : ℕ) → link ≡ link_of x → begin + 1 ≤ now → At visit
        → InChain (chain_at visit place) x (AtKeyHere (chain_at visit place) x) (λ at. at + 1)
    head_known x leads began at =
        let to : head ≡ link_of x = sym link_is ∙ leads in
        record {
          of = at.of;
          low = at.low;
          place_is = here_is;
          page_is = walked_page env mix words G whole visit within tied.walked j here_is;
          since = now;
          began = began;
          so_far = omega arith;
          late = inl (head-seated env mix M G whole j x
              (bucket_right env mix words G whole (index_at G slot) visit.bucket j is_there below here_is).chained to);
          known = λ last.
              let known = at.known last in
              let top = head_placed env mix words G whole (index_at G slot) visit.bucket j is_there below here_is P now right last x to in
              record {
                at = top.at;
                is = top.is;
                early = (right.placed j x top.at top.is).early;
                buckets = record {
                  behind = known.behind;
                  here = λ port low same.
                      headed_to env mix port seen now now M G P whole right deaths (SaidHere port) slot j x
                      (reached env mix port seen now now M G P whole right deaths (SaidHere port) slot j (known.here port low same)
                      (ap (G.table (index_at G slot)).place same ∙ here_is)) to;
                  ahead = known.ahead;
                  room = room_weaker slot _ _ (λ n less. inl less) known.room;
                };
              };
        }

    -- or to none
    pub headless_known : ((x : ℕ) → x < env.geometry.nodes → link ≢ link_of x) → At visit → Behind visit
    headless_known none at = record {
      of = at.of;
      low = at.low;
      known = λ last.
          let known = at.known last in
          record {
            behind = known.behind;
            here = λ port low same.
                none_behind env mix port seen 0 now M G P whole right deaths (SaidHere port) slot
                (headed_nowhere env mix port seen 0 now M G P whole right deaths (SaidHere port) slot j
                (reached env mix port seen 0 now M G P whole right deaths (SaidHere port) slot j (known.here port low same)
                (ap (G.table (index_at G slot)).place same ∙ here_is))
                (λ x l leads. none x l (link_is ∙ leads))) last;
            ahead = known.ahead;
            room = room_weaker slot _ _ (λ n less. omega (arith, less)) known.room;
          };
    }

  -- ---- a node

  module _ (chain : Chain) (m : ℕ) (within : IsVisitIn chain.visit) (walked : IsWalked env mix G chain.visit) where
    abbrev table : ℕ
    table = chain.visit.table

    abbrev τ : ℕ
    τ = index_at G table

    abbrev bucket : ℕ
    bucket = word_index env mix chain.place

    table_is : (G.table τ).place chain.visit.bucket ≡ Some bucket → table_at G bucket ≡ τ
    table_is = walked_table env mix words G whole chain.visit within walked bucket

    -- the port of a node with a place in the bucket is one of the bucket
    pub hash_is : (G.table τ).place chain.visit.bucket ≡ Some bucket → (n p : ℕ) → P.place bucket n ≡ Some p
        → hash table (key_of M n) ≡ chain.visit.bucket
    hash_is is n p at =
        number_is env mix M G P now whole right of_ports τ chain.visit.bucket bucket n p
        (walked_there env mix words G whole chain.visit within walked) (walked_number env mix words G whole chain.visit within walked) is at

    -- ---- its key

    -- no node that was shown has its key: one in the bucket with a higher place would have come when this one had died
    new_key : (at : InChain chain m (AtKeyHere chain m) (λ at. at + 1)) → τ + 1 ≡ G.attached → In (key_of M m) (ports_of items) → ⊥
    new_key at last there =
        let known = at.known last in
        let room = known.buckets.room in
        let of = map-In (key_of M) room.nodes (key_of M m) (subst (In (key_of M m)) room.keys there) in
        let here = hash_is at.place_is m known.at known.is in
        elim (room.each of.node of.there).1 [
          | inl before ↦
              let same = ap (hash table) of.is in
              absurd (below_itself (hash table (key_of M of.node)) (hash table (key_of M m)) chain.visit.bucket before same here)
          | inr above ↦
              let high = above.high in
              let gone = of_ports.newest bucket m of.node known.at above.at known.is above.is of.is (omega (arith, high)) in
              never gone.apart gone.at gone.is (not_before gone.at above.at at.since gone.before above.early) at.late
        ]
      where
        below_itself : (a h b : ℕ) → a < b → h ≡ a → h ≡ b → ⊥
        below_itself a h b less same here = omega (arith, less, same, here)

        not_before : (died high since : ℕ) → died < high → high < since → died < since
        not_before died high since before early = omega (arith, before, early)

        never : (In m (G.bound (key_of M m)) → ⊥) → (died : ℕ) → P.dead m ≡ Some died → died < at.since → IsLate env G P at.since m → ⊥
        never apart died is early (inl sits) =
            apart (sits_first env mix M G P now whole right of_ports m sits.bucket sits.seat)
        never apart died is early (inr late) =
            let same : late.at ≡ died = some-same late.at died (sym late.is ∙ is) in
            let from = late.late in
            omega (arith, same, early, from)

    pub key_known : (key : ℕ) → key_of M m ≡ key → seen m ≡ true → InChain chain m (AtKeyHere chain m) (λ at. at + 1)
        → IsAtOwner env mix from begin now Missed WasLast seen items M G P chain m key
    key_known key is stood at = record {
      in_chain = record {
        of = at.of;
        low = at.low;
        place_is = at.place_is;
        page_is = at.page_is;
        since = at.since;
        began = at.began;
        so_far = at.so_far;
        late = at.late;
        known = λ last.
            let known = at.known last in
            record {
              at = known.at;
              is = known.is;
              early = known.early;
              buckets = record {
                behind = known.buckets.behind;
                here = λ port low number_is. elim (cases_eq (key_of M m) port) [
                  | inl e ↦ inl (sym e ∙ is)
                  | inr ne ↦ inr (key_differs env mix port seen at.since now M G P whole right deaths (SaidHere port) table bucket m
                      chain.visited (known.buckets.here port low number_is) stood ne)
                ];
                ahead = known.buckets.ahead;
                room = known.buckets.room;
              };
            };
      };
      is = is;
      apart = λ last there. new_key at last (subst (λ k. In k (ports_of items)) (sym is) there);
    }

    -- ---- its link

    -- it leads to a node
    pub link_known : (n : ℕ) → chain_of M m ≡ link_of n → InChain chain m (AtLinkHere chain m) (λ at. at)
        → InChain (one_more chain) n (AtKeyHere (one_more chain) n) (λ at. at + 1)
    link_known n leads at = record {
      of = record { serial_is = at.of.serial_is; fits = at.of.fits };
      low = at.low;
      place_is = at.place_is;
      page_is = at.page_is;
      since = at.since;
      began = at.began;
      so_far = at.so_far;
      late = late_next env mix M G P whole now deaths at.since m n at.late leads;
      known = λ last.
          let known = at.known last in
          let buckets : BucketsKnown env mix from begin now Missed WasLast seen items M G P table chain.visit.bucket
          (AtKeyHere (one_more chain) n at.since) (Passed table chain.visit.bucket bucket known.at at.since) =
          record {
            behind = known.buckets.behind;
            here = λ port low same. link_to env mix port seen at.since now M G P whole right deaths (SaidHere port) table bucket m n
                (chain.visited + 1) (known.buckets.here port low same) leads;
            ahead = known.buckets.ahead;
            room = known.buckets.room;
          } in
          let of_table = table_is at.place_is in
          elim (ends_or_leads env mix M G P now whole right of_ports bucket m known.at known.is) [
            | inl out ↦ let later = out.later in let low = out.attached in absurd (omega (arith, last, of_table, later, low))
            | inr (inl end) ↦ absurd (let both = sym end ∙ leads in omega (arith, both))
            | inr (inr on) ↦
                let lower = on.below in
                let early = known.early in
                record {
                  at = on.at;
                  is = ap (P.place bucket) (link_of-one n on.next (sym leads ∙ on.leads)) ∙ on.placed;
                  early = omega (arith, lower, early);
                  buckets = record {
                    behind = buckets.behind;
                    here = buckets.here;
                    ahead = buckets.ahead;
                    room = room_weaker table _ _ (λ k is. lower_so known.at on.at at.since lower k is) buckets.room;
                  };
                }
          ];
    }
      where
        lower_so : (high low since : ℕ) → low < high → (k : ℕ) → Passed table chain.visit.bucket bucket high since k
            → Passed table chain.visit.bucket bucket (low + 1) since k
        lower_so high low since lower k (inl before) = inl before
        lower_so high low since lower k (inr above) = inr (record {
          here = above.here;
          at = above.at;
          is = above.is;
          high = let least = above.high in omega (arith, lower, least);
          early = above.early;
        })

    -- the bucket ends there, by what the ends of look-ups tell
    ends_known : ((port since : ℕ) → AtLinkHere chain m since port
        → StageIs env mix from begin now Missed WasLast seen items M G P port since (Ending table))
        → InChain chain m (AtLinkHere chain m) (λ at. at) → Behind chain.visit
    ends_known end at = record {
      of = at.of;
      low = at.low;
      known = λ last.
          let known = at.known last in
          record {
            behind = known.buckets.behind;
            here = λ port low same. none_behind env mix port seen at.since now M G P whole right deaths (SaidHere port) table
                (end port at.since (known.buckets.here port low same)) last;
            ahead = known.buckets.ahead;
            room = room_weaker table _ _ (λ k is. no_later known.at at.since k is) known.buckets.room;
          };
    }
      where
        no_later : (least since k : ℕ) → Passed table chain.visit.bucket bucket least since k
            → hash table (key_of M k) < chain.visit.bucket + 1
        no_later least since k (inl before) = omega (arith, before)
        no_later least since k (inr above) = let here = above.here in omega (arith, here)

    -- it leads to none, or as many were visited as there are
    pub linkless_known : ((n : ℕ) → n < env.geometry.nodes → chain_of M m ≢ link_of n)
        → InChain chain m (AtLinkHere chain m) (λ at. at) → Behind chain.visit
    linkless_known none =
        ends_known (λ port since stage. link_nowhere env mix port seen since now M G P whole right deaths (SaidHere port) table bucket m
        (chain.visited + 1) stage none)

    pub all_known : env.geometry.nodes ≤ chain.visited + 1 → InChain chain m (AtLinkHere chain m) (λ at. at) → Behind chain.visit
    all_known all =
        ends_known (λ port since stage. all_visited env mix port seen since now M G P whole right deaths (SaidHere port) table bucket m
        (chain.visited + 1) stage all)
