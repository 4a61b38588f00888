-- What a walk knows with one pair more: a node was visited whose port wasn't shown, so there is room for its pair.
use Rattle.std.proofs.Common.{◌≡◌, ◌⊎◌, ℕ, ◌+◌, ◌<◌, ◌≤◌, nat_lt, Bool, true, List, [], ◌∷◌, ◌++◌, length, map, Option, Some, sym, ◌∙◌, ap, subst, inl, inr, arith}
use Rattle.std.specs.Prelude.{if◌then◌else◌}
use Rattle.std.proofs.lemmas.Bool.{cond_both, lt-ltb}
use Rattle.std.proofs.lemmas.List.{append-nil, length-map, map-append}
use Rattle.std.specs.List.{AllByRecursion}
use Rattle.rht_words.specs.declared.env.Env.{Env}
use Rattle.rht_words.specs.Members.{In, IsDistinct}
use Rattle.rht_words.proofs.EachElement.{AllByRecursion-push}
use Rattle.rht_words.proofs.Members.{not_in_from, In-append_left, In-append_right, In-append_cases, IsDistinct-with}
use Rattle.rht_words.proofs.Memory.{Memory}
use Rattle.rht_model.specs.declared.history.Cursor.{Cursor}
use Rattle.rht_model.specs.Rooms.{with_kept}
use Rattle.rht_walk.specs.Walk.{Pairs, IsVisitIn}
use Rattle.rht_walk.specs.WalkLaws.{first_bucket}
use Rattle.rht_walk.specs.declared.walk.Chain.{Chain}
use Rattle.rht_ghost.proofs.Theory.Ghosts.{Ghost, index_at}
use Rattle.rht_ghost.proofs.Theory.Steps.{mem}
use Rattle.rht_ghost.proofs.Theory.Wholes.{key_of, hash_in, word_index, Whole, home}
use Rattle.rht_core.proofs.Walking.SlotsOfTables.{index_is}
use Rattle.rht_core.proofs.Finding.Deaths.{DeathsRight, late-earlier, late_used}
use Rattle.rht_core.proofs.Finding.Places.{Places, PlacesRight}
use Rattle.rht_core.proofs.Finding.Stages.{Stage, Reaching, Heading, AtKey, AtLink, Ending, Owning, StageMeans}
use Rattle.rht_core.proofs.Returning.TiedWalks.{IsWalked}
use Rattle.rht_core.proofs.Walking.KnownChains.{hash_is}
use Rattle.rht_core.proofs.Finding.PortPlaces.{PortPlacesRight}
use Rattle.rht_core.proofs.Walking.ShownNodes.{few-nodes}
use Rattle.rht_core.proofs.Walking.WalkFacts.{ports_of, SaidOf, IsShown, RoomKnown, IsPassed, IsInChain, HereAtLink, IsAtOwner}

-- what is known in a stage where the port is said so it is where something weaker is said
pub stage_said : (env : Env) (mix : ℕ → ℕ → ℕ → ℕ) (port : ℕ) (seen : ℕ → Bool) (since : ℕ) (Said Said' : Type 0) → (Said → Said')
    → (M : Memory) (G : Ghost) (P : Places) (stage : Stage)
    → StageMeans env mix port seen since Said M G P stage → StageMeans env mix port seen since Said' M G P stage
stage_said env mix port seen since Said Said' said M G P = go
  where
    or_so : {A : Type 0} → Said ⊎ A → Said' ⊎ A
    or_so (inl was) = inl (said was)
    or_so (inr is) = inr is

    go : (stage : Stage) → StageMeans env mix port seen since Said M G P stage → StageMeans env mix port seen since Said' M G P stage
    go (Reaching slot) known = (known.0, or_so known.1)
    go (Heading slot j) known = (known.0, or_so known.1)
    go (AtKey slot j m visited) known = (known.0, known.1, or_so known.2)
    go (AtLink slot j m visited) known = (known.0, known.1, or_so known.2)
    go (Ending slot) known = (known.0, or_so known.1)
    go (Owning m) known = known

-- a pair that there is room for comes last
pub with_room : (room : Pairs) (pair : ℕ × ℕ) → length room.items < room.limit → (with_kept room pair).items ≡ room.items ++ pair ∷ []
with_room room pair less =
    ap (λ b. (if b then record { items = room.items ++ pair ∷ []; limit = room.limit } else room).items)
    (lt-ltb (length room.items) room.limit less)

-- where each pair is so, and this one too, each one is with it, kept or not
pub each_kept : (Is : ℕ × ℕ → Type 0) (room : Pairs) (pair : ℕ × ℕ) → AllByRecursion Is room.items → Is pair
    → AllByRecursion Is (with_kept room pair).items
each_kept Is room pair each is =
    cond_both (nat_lt (length room.items) room.limit) _ _ (λ (r : Pairs). AllByRecursion Is r.items)
    (λ t. AllByRecursion-push Is room.items pair each is) (λ f. each)

module _ (env : Env) (mix : ℕ → ℕ → ℕ → ℕ) (from : Option Cursor) (begin now : ℕ) (Missed WasLast : ℕ → Type 0)
    (seen : ℕ → Bool) (room : Pairs) (words : List ℕ) (G : Ghost) (P : Places) (whole : Whole env mix (mem env mix words) G)
    (right : PlacesRight env mix G P (mem env mix words) now) (deaths : DeathsRight env (mem env mix words) G P now)
    (of_ports : PortPlacesRight env mix (mem env mix words) G P now) (roomy : room.limit ≡ env.geometry.nodes) (chain : Chain)
    (m key owner : ℕ)
    (within : IsVisitIn chain.visit) (walked : IsWalked env mix G chain.visit) (among : m < env.geometry.nodes) (stood : seen m ≡ true)
    (at : IsAtOwner env mix from begin now Missed WasLast seen room.items (mem env mix words) G P chain m key) where
  abbrev M : Memory
  M = mem env mix words

  abbrev slot : ℕ
  slot = chain.visit.table

  abbrev τ : ℕ
  τ = index_at G slot

  abbrev j : ℕ
  j = word_index env mix chain.place

  abbrev pair : ℕ × ℕ
  pair = (key, owner)

  abbrev more : List (ℕ × ℕ)
  more = (with_kept room pair).items

  abbrev chained : IsInChain env mix from begin now Missed WasLast seen room.items M G P chain m
      (λ since port. (port ≡ key) ⊎ HereAtLink env mix from begin now Missed WasLast seen room.items M G P chain m since port)
      (λ at. at + 1)
  chained = at.in_chain

  -- where no table is behind the pair is kept
  more_is : τ + 1 ≡ G.attached → more ≡ room.items ++ pair ∷ []
  more_is last =
      let known = (chained.known last).buckets.room in
      let few = few-nodes env.geometry.nodes (key_of M) known.nodes m among
      (λ n i. (late_used env mix M G P whole 0 n (known.each n i).0.late).0)
      (subst IsDistinct known.keys known.distinct)
      (λ there. at.apart last (subst (In key) (sym known.keys) (subst (λ k. In k (map (key_of M) known.nodes)) at.is there))) in
      let count = length-map room.items (λ (p : ℕ × ℕ). p.0) in
      let same = ap length known.keys in
      with_room room pair (omega (arith, few, count, same, roomy))

  ports_more : τ + 1 ≡ G.attached → ports_of more ≡ ports_of room.items ++ key ∷ []
  ports_more last = ap ports_of (more_is last) ∙ map-append (λ (p : ℕ × ℕ). p.0) room.items (pair ∷ [])

  said_more : τ + 1 ≡ G.attached → (port : ℕ) → SaidOf Missed room.items port → SaidOf Missed more port
  said_more last port (inl missed) = inl missed
  said_more last port (inr shown) = inr (subst (In port) (sym (ports_more last)) (In-append_left port (ports_of room.items) (key ∷ [])
      shown))

  stage_more : τ + 1 ≡ G.attached → (port since : ℕ) (stage : Stage)
      → StageMeans env mix port seen since (SaidOf Missed room.items port) M G P stage
      → StageMeans env mix port seen since (SaidOf Missed more port) M G P stage
  stage_more last port since stage =
      stage_said env mix port seen since (SaidOf Missed room.items port) (SaidOf Missed more port) (said_more last port) M G P stage

  -- the node's place, and the bucket of its port
  abbrev Passed : ℕ → ℕ → Type 0
  Passed least n = IsPassed env mix from begin now Missed WasLast seen more M G P slot chain.visit.bucket j least chained.since n

  abbrev IsShownNow : ℕ → Type 0
  IsShownNow n = IsShown env mix from begin now Missed WasLast seen more M G P slot n

  room_more : (last : τ + 1 ≡ G.attached)
      → RoomKnown env mix from begin now Missed WasLast seen more M G P slot (Passed (chained.known last).at)
  room_more last =
      let known = chained.known last in
      let old = known.buckets.room in
      let here = hash_is env mix from begin now Missed WasLast seen room.items words G P whole right deaths of_ports chain m within
      walked
      chained.place_is m known.at known.is in
      record {
        nodes = old.nodes ++ m ∷ [];
        keys = ports_more last ∙ ap (λ xs. xs ++ key ∷ []) old.keys
            ∙ ap (λ k. map (key_of M) old.nodes ++ k ∷ []) (sym at.is) ∙ sym (map-append (key_of M) old.nodes (m ∷ []));
        each = λ n i. elim (In-append_cases n old.nodes (m ∷ []) i) [
          | inl before ↦ let is = old.each n before in (
            record { met = is.0.met; late = is.0.late; from_first = is.0.from_first },
            passed_on known.at n is.1,
          )
          | inr (inl e) ↦ subst (λ k. IsShownNow k × Passed known.at k) (sym e) (
            record {
              met = stood;
              late = late-earlier env G P chained.since 0 m (omega arith) chained.late;
              from_first = let low = chained.low in omega (arith, low, here);
            },
            inr (record { here = here; at = known.at; is = known.is; high = omega arith; early = known.early }),
          )
          | inr (inr none) ↦ absurd none
        ];
        distinct = subst IsDistinct (sym (ports_more last)) (IsDistinct-with (ports_of room.items) key []
            (subst IsDistinct (sym (append-nil (ports_of room.items))) old.distinct)
            (not_in_from key (ports_of room.items) (at.apart last)) tt);
      }
    where
      passed_on : (least n : ℕ)
          → IsPassed env mix from begin now Missed WasLast seen room.items M G P slot chain.visit.bucket j (least + 1) chained.since n
          → Passed least n
      passed_on least n (inl before) = inl before
      passed_on least n (inr above) = inr (record {
        here = above.here;
        at = above.at;
        is = above.is;
        high = let high = above.high in omega (arith, high);
        early = above.early;
      })

  -- with its pair kept the walk stands behind the load of the owner
  pub kept_known : IsInChain env mix from begin now Missed WasLast seen more M G P chain m
      (HereAtLink env mix from begin now Missed WasLast seen more M G P chain m) (λ at. at)
  kept_known = record {
    of = record { serial_is = chained.of.serial_is; fits = chained.of.fits };
    low = chained.low;
    place_is = chained.place_is;
    page_is = chained.page_is;
    since = chained.since;
    began = chained.began;
    so_far = chained.so_far;
    late = chained.late;
    known = λ last.
        let known = chained.known last in
        record {
          at = known.at;
          is = known.is;
          early = known.early;
          buckets = record {
            behind = λ port low less. said_more last port (known.buckets.behind port low less);
            here = λ port low same. elim (known.buckets.here port low same) [
              | inl e ↦ stage_key last port e low same
              | inr stage ↦ stage_more last port chained.since (AtLink slot j m (chain.visited + 1)) stage
            ];
            ahead = λ port less. stage_more last port 0 (Reaching slot) (known.buckets.ahead port less);
            room = room_more last;
          };
        };
  }
    where
      stage_key : τ + 1 ≡ G.attached → (port : ℕ) → port ≡ key → first_bucket from ≤ hash_in env mix G port τ
          → hash_in env mix G port τ ≡ chain.visit.bucket
          → HereAtLink env mix from begin now Missed WasLast seen more M G P chain m chained.since port
      stage_key last port e low same = (
        record {
          of = walked.of;
          here =
              subst (λ σ. home env mix G port σ ≡ Some j) (index_is env mix M G whole slot walked.of)
              (ap (G.table τ).place same ∙ chained.place_is);
        },
        chained.late,
        inl (inr (subst (In port) (sym (ports_more last)) (In-append_right port (ports_of room.items) (key ∷ []) (inl e)))),
      )
