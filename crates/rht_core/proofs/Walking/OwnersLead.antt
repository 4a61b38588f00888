-- Each operation of a walk that has shown each owner that it loaded leads on so, or it has to begin anew.
use Rattle.std.proofs.Common.{◌≡◌, ◌⊎◌, ℕ, ◌+◌, ◌/◌, ◌<◌, ◌≤◌, nat_lt, nat_le, Bool, true, List, [], ◌∷◌, ◌++◌, length, Option, Some, None, refl, sym, ◌∙◌, ap, subst, inl, inr, arith}
use Rattle.std.specs.Prelude.{◌==◌}
use Rattle.std.specs.List.{AllByRecursion}
use Rattle.std.proofs.lemmas.Bool.{cond_both, eqb-true}
use Rattle.std.proofs.lemmas.List.{append-nil, length_push, map-append}
use Rattle.rht_words.specs.declared.env.Env.{Env}
use Rattle.rht_words.specs.declared.machine.Next.{Next}
use Rattle.rht_words.specs.declared.machine.Next.TheVariants.{Go, Done}
use Rattle.rht_words.specs.Links.{link_of, marker_of, node_of, head_of, slot_of}
use Rattle.rht_words.specs.Members.{IsDistinct}
use Rattle.rht_words.specs.Operations.{old_of}
use Rattle.rht_words.specs.Places.{Slot, FutureWord, Node, OwnerWord, IsBucketPlace}
use Rattle.rht_words.specs.Ports.{owner_of}
use Rattle.rht_words.proofs.LinksRead.{links_tell_apart}
use Rattle.rht_words.proofs.Members.{not_in_from, In-append_cases, IsDistinct-with}
use Rattle.rht_words.proofs.Memory.{Memory}
use Rattle.rht_words.proofs.PlacesApart.{words_in-few}
use Rattle.rht_model.specs.declared.history.Cursor.{Cursor}
use Rattle.rht_model.specs.Rooms.{with_kept}
use Rattle.rht_nest.specs.Place.{PlaceModel}
use Rattle.rht_nest.specs.Tables.{is_nested}
use Rattle.rht_nest.specs.declared.place.Bucket.{Bucket}
use Rattle.rht_nest.specs.declared.place.Bucket.TheVariants as buckets
use Rattle.rht_walk.specs.Walk.{Pairs, plan_at, fits, visiting, begun, goes, room_after, reached, bucket_ended, chain_ended, led_to, unless_behind, chain_of as chain_at, one_more, IsVisitIn, IsWalkAtIn}
use Rattle.rht_walk.specs.WalkStanding.{standing_of_walk}
use Rattle.rht_walk.specs.declared.walk.Visit.{Visit}
use Rattle.rht_walk.specs.declared.walk.Chain.{Chain}
use Rattle.rht_walk.specs.declared.walk.WalkEnd.TheVariants as ends
use Rattle.rht_walk.specs.declared.walk.WalkAt.{WalkAt}
use Rattle.rht_walk.specs.declared.walk.WalkAt.TheVariants as at
use Rattle.rht_ghost.proofs.Pieces.TableLoads.{LeadsBehind, future_leads}
use Rattle.rht_ghost.proofs.Theory.Ghosts.{Ghost, index_at, table_of_page, table_at, some-same, PageOf}
use Rattle.rht_ghost.proofs.Theory.SeatedLinks.{link_of-one}
use Rattle.rht_ghost.proofs.Theory.Steps.{mem}
use Rattle.rht_ghost.proofs.Theory.Wholes.{chain_of, key_of, hash_in, place_at, word_index, index-place_at, Whole, IsThere}
use Rattle.rht_core.proofs.Finding.BucketHeads.{bucket_right}
use Rattle.rht_core.proofs.Finding.Falling.{one_place}
use Rattle.rht_core.proofs.Finding.Places.{Places, PlacesRight}
use Rattle.rht_core.proofs.Finding.PortPlaces.{LeadsOut, EndsOrLeads, PortPlacesRight, number_is, leads_out, head_leads, ends_or_leads}
use Rattle.rht_core.proofs.Returning.TiedWalks.{IsWalked, tied_of_walk}
use Rattle.rht_core.proofs.Walking.KeptPairs.{with_room}
use Rattle.rht_core.proofs.Walking.OwnersKept.{owners_of, IsHigher, AreShown, IsEmpty, HasStood, AreShownOnce, HasBehind, IsOut, IsIn, AtNode, BeforeBucket, BehindBucket, KeepsOwners}
use Rattle.rht_core.proofs.Walking.ShownNodes.{fewer}
use Rattle.rht_core.proofs.Walking.SlotsOfTables.{index_is}
use Rattle.rht_core.proofs.Walking.TablesOfWalks.{walked_there, walked_number, walked_table, heading_here, heading_leads, walked_page}

-- the owners that were loaded, with that of an operation
abbrev pub loaded_after : WalkAt → List ℕ → ℕ → List ℕ
loaded_after at.Opening loaded word = loaded
loaded_after at.CurrentTable loaded word = loaded
loaded_after (at.Serial table) loaded word = loaded
loaded_after (at.Shape table serial) loaded word = loaded
loaded_after (at.Entry visit way) loaded word = loaded
loaded_after (at.Heading visit place) loaded word = loaded
loaded_after (at.Key chain node) loaded word = loaded
loaded_after (at.Owner chain node port) loaded word = loaded ++ owner_of word ∷ []
loaded_after (at.Link chain node) loaded word = loaded
loaded_after (at.StrangeEnd visit) loaded word = loaded
loaded_after (at.TableEnd table) loaded word = loaded
loaded_after (at.Closing end) loaded word = loaded

module _ (env : Env) (mix : ℕ → ℕ → ℕ → ℕ) (seen : ℕ → Bool) (now : ℕ) (words : List ℕ) (G : Ghost) (P : Places)
    (whole : Whole env mix (mem env mix words) G) (right : PlacesRight env mix G P (mem env mix words) now)
    (of_ports : PortPlacesRight env mix (mem env mix words) G P now) where
  abbrev M : Memory
  M = mem env mix words

  -- ---- with the same pairs

  module _ (from : Option Cursor) (limit shown : ℕ) (items : List (ℕ × ℕ)) (loaded : List ℕ) where
    abbrev Means : WalkAt → Type 0
    Means = KeepsOwners env mix seen items loaded G P

    abbrev Once : ℕ → (ℕ → ℕ → Type 0) → Type 0
    Once = AreShownOnce env mix seen items loaded G P

    abbrev Before : Visit → Type 0
    Before = BeforeBucket env mix seen items loaded G P

    abbrev Behind : Visit → Type 0
    Behind = BehindBucket env mix seen items loaded G P

    -- at weaker places
    weaker : (slot : ℕ) (Where Where' : ℕ → ℕ → Type 0) → ((number at : ℕ) → Where number at → Where' number at) → Once slot Where
        → Once slot Where'
    weaker slot Where Where' so once = record {
      nodes = once.nodes;
      counted = once.counted;
      each = λ n i.
          let had = once.each n i in
          record {
            met = had.met;
            number = had.number;
            word = had.word;
            at = had.at;
            here = had.here;
            page = had.page;
            is = had.is;
            stood = so had.number had.at had.stood;
          };
      distinct = once.distinct;
      all = once.all;
    }

    -- ---- buckets

    visits : (visit : Visit) → Before visit → Means (visiting env.geometry visit)
    visits visit before = cond_both (is_nested visit.shape) _ _ Means (λ t. before) (λ f. before)

    -- a bucket has ended
    ended : (visit : Visit) → Behind visit → Means (bucket_ended env.geometry limit shown visit)
    ended visit behind =
        cond_both (nat_lt (visit.bucket + 1) _) _ _ Means
        (λ t. cond_both (nat_le limit shown) _ _ Means (λ enough. behind.all)
        (λ few. visits (record visit { bucket = visit.bucket + 1 }) behind))
        (λ f. behind.all)

    empty_shown : (slot : ℕ) (Where : ℕ → ℕ → Type 0) → IsEmpty env mix seen items loaded G P → Once slot Where
    empty_shown slot Where empty = record {
      nodes = [];
      counted = ap length empty.none;
      each = λ n i. absurd i;
      distinct = tt;
      all = ap owners_of empty.none ∙ sym empty.nothing;
    }

    begins : (start : Option Cursor) (table serial shape : ℕ) → IsEmpty env mix seen items loaded G P
        → Means (begun env.geometry start table serial shape)
    begins None table serial shape empty = visits _ (empty_shown table _ empty)
    begins (Some cursor) table serial shape empty =
        cond_both (fits serial shape cursor) _ _ Means (λ t. visits _ (empty_shown table _ empty)) (λ f. tt)

    missing : (visit : Visit) → Before visit → Behind visit
    missing visit before = weaker visit.table _ _ (λ number at less. omega (arith, less)) before

    enters : (visit : Visit) (way : PlaceModel) (next : Next Bucket) → Before visit
        → Means (reached env.geometry limit shown visit way next)
    enters visit way Go before = before
    enters visit way (Done (buckets.At place)) before = before
    enters visit way (Done (buckets.Absent entry)) before = ended visit (missing visit before)

    -- ---- chains

    -- where a link leads
    record LeadsSo (chain : Chain) (link : ℕ) : Type 0 where
      to_node : (n : ℕ) → link ≡ link_of n → AtNode env mix seen items loaded G P chain n (λ at. at + 1)
      strange : HasBehind env mix seen items loaded G P chain.visit.table ⊎ Behind chain.visit
      marked : link ≡ marker_of chain.place → Behind chain.visit

    chain_ends : (chain : Chain) (link : ℕ) → LeadsSo chain link → Means (chain_ended env.geometry limit shown chain link)
    chain_ends chain link so =
        cond_both (link == marker_of chain.place) _ _ Means
        (λ t. ended chain.visit (so.marked (eqb-true link (marker_of chain.place) t))) (λ f. so.strange)

    led : (chain : Chain) (link : ℕ) → LeadsSo chain link → (node : Option ℕ) → node_of env.geometry.nodes link ≡ node
        → Means (led_to env.geometry limit shown chain link node)
    led chain link so None none = chain_ends chain link so
    led chain link so (Some n) some =
        cond_both (nat_lt chain.visited env.geometry.nodes) _ _ Means
        (λ t. so.to_node n (links_tell_apart.named_by_link env.geometry.nodes link n some).0) (λ f. chain_ends chain link so)

    -- ---- in a bucket

    module _ (chain : Chain) (within : IsVisitIn chain.visit) (place_in : IsBucketPlace env.geometry chain.place)
        (walked : IsWalked env mix G chain.visit)
        (here : (G.table (index_at G chain.visit.table)).place chain.visit.bucket ≡ Some (word_index env mix chain.place)) where
      abbrev slot : ℕ
      slot = chain.visit.table

      abbrev τ : ℕ
      τ = index_at G slot

      abbrev j : ℕ
      j = word_index env mix chain.place

      page_here : G.page (j / 64) ≡ PageOf τ
      page_here = walked_page env mix words G whole chain.visit within walked j here

      table_here : table_at G j ≡ τ
      table_here = walked_table env mix words G whole chain.visit within walked j here

      -- out of the table
      out_so : (link : ℕ) → LeadsOut env mix G P τ link → LeadsSo chain link
      out_so link out = record {
        to_node = λ n leads. record {
          here = here;
          page = page_here;
          stands = elim out.to [
            | inl end ↦ absurd (let both = sym end ∙ leads in omega (arith, both))
            | inr on ↦ inl (record {
              bucket = out.bucket;
              at = on.1.at;
              is = ap (P.place out.bucket) (link_of-one n on.1.next (sym leads ∙ on.1.leads)) ∙ on.1.placed;
              table = out.table;
              of = out.of;
              later = out.later;
            })
          ];
        };
        strange = inl (let later = out.later in let low = out.attached in omega (arith, later, low));
        marked = λ same. elim out.to [
          | inl end ↦ absurd (not_here (sym end ∙ same))
          | inr on ↦ absurd (let both = sym same ∙ on.1.leads in omega (arith, both))
        ];
      }
        where
          not_here : marker_of (place_at env mix out.bucket) ≡ marker_of chain.place → ⊥
          not_here same =
              let few = words_in-few env.geometry in
              let low = out.within in
              let one = links_tell_apart.marker_names (place_at env mix out.bucket) chain.place (omega (arith, few, low))
              (omega (arith, few, place_in.1)) same in
              let bucket : out.bucket ≡ j = sym (index-place_at env mix out.bucket) ∙ ap (word_index env mix) one in
              let table : out.table ≡ τ = sym (ap table_of_page out.of) ∙ ap (table_at G) bucket ∙ table_here in
              let later = out.later in
              omega (arith, table, later)

      -- from where its link leads out, to the bucket's end or to a lower place
      way_so : (link p : ℕ) → EndsOrLeads env mix G P j link p → Behind chain.visit
          → ((at : ℕ) → at < p → Once slot (IsHigher chain.visit.bucket (at + 1))) → LeadsSo chain link
      way_so link p (inl out) behind lower = out_so link (subst (λ t. LeadsOut env mix G P t link) table_here out)
      way_so link p (inr (inl end)) behind lower = record {
        to_node = λ n leads. absurd (let both = sym end ∙ leads in omega (arith, both));
        strange = inr behind;
        marked = λ same. behind;
      }
      way_so link p (inr (inr on)) behind lower = record {
        to_node = λ n leads. record {
          here = here;
          page = page_here;
          stands = inr (record {
            at = on.at;
            is = ap (P.place j) (link_of-one n on.next (sym leads ∙ on.leads)) ∙ on.placed;
            shown = lower on.at on.below;
          });
        };
        strange = inr behind;
        marked = λ same. behind;
      }

      -- the link of a node
      link_so : (m : ℕ) → IsOut env mix seen items loaded G P slot m ⊎ IsIn env mix seen items loaded G P chain m (λ at. at)
          → LeadsSo chain (chain_of M m)
      link_so m (inl out) =
          let table = ap table_of_page out.of in
          let later = out.later in
          out_so (chain_of M m) (leads_out env mix M G P now whole right of_ports τ out.bucket out.at (chain_of M m)
          (omega (arith, table, later)) (subst (IsThere G) (sym table) (whole.pages.there (out.bucket / 64) out.table out.of))
          (key_of M m) (of_ports.homes out.bucket m out.at out.is)
          (ends_or_leads env mix M G P now whole right of_ports out.bucket m out.at out.is))
      link_so m (inr is) =
          way_so (chain_of M m) is.at (ends_or_leads env mix M G P now whole right of_ports j m is.at is.is)
          (weaker slot _ _ (λ number at high. no_later number at high) is.shown)
          (λ at less. weaker slot _ _ (λ number high had. lower at number high less had) is.shown)
        where
          no_later : (number at : ℕ) → IsHigher chain.visit.bucket is.at number at → number < chain.visit.bucket + 1
          no_later number at (inl less) = omega (arith, less)
          no_later number at (inr same) = omega (arith, same.0)

          lower : (at number high : ℕ) → at < is.at → IsHigher chain.visit.bucket is.at number high
              → IsHigher chain.visit.bucket (at + 1) number high
          lower at number high less (inl before) = inl before
          lower at number high less (inr same) = inr (same.0, omega (arith, less, same.1))

    -- the bucket's word
    head_so : (visit : Visit) (place : ℕ) (link : ℕ) (within : IsVisitIn visit) → (place_in : IsBucketPlace env.geometry place)
        → (walked : IsWalked env mix G visit)
        → (here : (G.table (index_at G visit.table)).place visit.bucket ≡ Some (word_index env mix place))
        → link ≡ head_of (place_at env mix (word_index env mix place)) (G.bucket (word_index env mix place)).plain → Before visit
        → LeadsSo (chain_at visit place) link
    head_so visit place link within place_in walked here same before =
        let j = word_index env mix place in
        let head = head_leads env mix M G P now whole right of_ports j
        (bucket_right env mix words G whole (index_at G visit.table) visit.bucket j (walked_there env mix words G whole visit within walked)
        (walked_number env mix words G whole visit within walked) here).chained in
        way_so (chain_at visit place) within place_in walked here link head.0
        (subst (λ l. EndsOrLeads env mix G P j l head.0) (sym same) head.1) (missing visit before)
        (λ at less. weaker visit.table _ _ (λ number high had. inl had) before)

    -- ---- a table's future

    future_known : (visit : Visit) (future : Option ℕ) → LeadsBehind env mix M G whole (index_at G visit.table) future
        → HasBehind env mix seen items loaded G P visit.table ⊎ Behind visit
        → Means (unless_behind future (bucket_ended env.geometry limit shown visit))
    future_known visit (Some table) leads either = tt
    future_known visit None last (inl behind) = absurd (omega (arith, last, behind))
    future_known visit None last (inr behind) = ended visit behind

    table_ends : (future : Option ℕ) → AreShown env mix seen items loaded G P → Means (unless_behind future (at.Closing (ends.Walked None)))
    table_ends None shown = shown
    table_ends (Some table) shown = tt

  -- ---- with one pair more

  module _ (room : Pairs) (loaded : List ℕ) (roomy : room.limit ≡ env.geometry.nodes) (chain : Chain) (m port owner : ℕ)
      (within : IsVisitIn chain.visit) (walked : IsWalked env mix G chain.visit) (among : m < env.geometry.nodes) (stood : seen m ≡ true)
      (at : AtNode env mix seen room.items loaded G P chain m (λ at. at + 1)) where
    abbrev more : List (ℕ × ℕ)
    more = (with_kept room (port, owner)).items

    abbrev slot_here : ℕ
    slot_here = chain.visit.table

    abbrev bucket : ℕ
    bucket = chain.visit.bucket

    abbrev word : ℕ
    word = word_index env mix chain.place

    number_of : (number j n p : ℕ) → number ≤ bucket → (G.table (index_at G slot_here)).place number ≡ Some j → P.place j n ≡ Some p
        → hash_in env mix G (key_of M n) (index_at G slot_here) ≡ number
    number_of number j n p low is placed =
        let below = walked_number env mix words G whole chain.visit within walked in
        number_is env mix M G P now whole right of_ports (index_at G slot_here) number j n p
        (walked_there env mix words G whole chain.visit within walked) (omega (arith, low, below)) is placed

    -- the node wasn't shown: such nodes have a place in another bucket, or a higher one in this
    module _ (is : IsIn env mix seen room.items loaded G P chain m (λ at. at + 1)) where
      stood_apart : HasStood env mix seen room.items loaded G P slot_here (IsHigher bucket (is.at + 1)) m → ⊥
      stood_apart had = elim had.stood [
        | inl before ↦
            let there = number_of had.number had.word m had.at (omega (arith, before)) had.here had.is in
            let now_here = number_of bucket word m is.at (omega arith) at.here is.is in
            omega (arith, before, there, now_here)
        | inr same ↦
            let one : had.word ≡ word = some-same had.word word
            (sym had.here ∙ ap (G.table (index_at G slot_here)).place same.0 ∙ at.here) in
            let level : had.at ≡ is.at = one_place (P.place word) m had.at is.at
            (ap (λ w. P.place w m) (sym one) ∙ had.is) is.is in
            omega (arith, same.1, level)
      ]

      kept_more : more ≡ room.items ++ (port, owner) ∷ []
      kept_more =
          let less = fewer env.geometry.nodes is.shown.nodes m among
          (λ n i. let had = is.shown.each n i in (right.placed had.word n had.at had.is).among) is.shown.distinct
          (λ i. stood_apart (is.shown.each m i)) in
          let counted = is.shown.counted in
          with_room room (port, owner) (omega (arith, less, counted, roomy))

      once_more : AreShownOnce env mix seen more (loaded ++ owner ∷ []) G P slot_here (IsHigher bucket is.at)
      once_more = record {
        nodes = is.shown.nodes ++ m ∷ [];
        counted = ap length kept_more ∙ length_push room.items (port, owner) ∙ ap (λ n. n + 1) is.shown.counted
            ∙ sym (length_push is.shown.nodes m);
        each = λ n i. elim (In-append_cases n is.shown.nodes (m ∷ []) i) [
          | inl before ↦
              let had = is.shown.each n before in
              record {
                met = had.met;
                number = had.number;
                word = had.word;
                at = had.at;
                here = had.here;
                page = had.page;
                is = had.is;
                stood = higher had.number had.at had.stood;
              }
          | inr (inl e) ↦
              subst (HasStood env mix seen more (loaded ++ owner ∷ []) G P slot_here (IsHigher bucket is.at)) (sym e) (record {
                met = stood;
                number = bucket;
                word = word;
                at = is.at;
                here = at.here;
                page = at.page;
                is = is.is;
                stood = inr (refl, omega arith);
              })
          | inr (inr none) ↦ absurd none
        ];
        distinct = IsDistinct-with is.shown.nodes m [] (subst IsDistinct (sym (append-nil is.shown.nodes)) is.shown.distinct)
            (not_in_from m is.shown.nodes (λ i. stood_apart (is.shown.each m i))) tt;
        all = ap owners_of kept_more ∙ map-append (λ (p : ℕ × ℕ). p.1) room.items ((port, owner) ∷ [])
            ∙ ap (λ owners. owners ++ owner ∷ []) is.shown.all;
      }
        where
          higher : (number high : ℕ) → IsHigher bucket (is.at + 1) number high → IsHigher bucket is.at number high
          higher number high (inl before) = inl before
          higher number high (inr same) = inr (same.0, omega (arith, same.1))

    owner_kept : AtNode env mix seen more (loaded ++ owner ∷ []) G P chain m (λ at. at)
    owner_kept = record {
      here = at.here;
      page = at.page;
      stands = elim at.stands [
        | inl out ↦ inl (record {
          bucket = out.bucket;
          at = out.at;
          is = out.is;
          table = out.table;
          of = out.of;
          later = out.later;
        })
        | inr is ↦ inr (record { at = is.at; is = is.is; shown = once_more is })
      ];
    }

  -- ---- each state

  module _ (from : Option Cursor) (limit : ℕ) (room : Pairs) (roomy : room.limit ≡ env.geometry.nodes) (loaded : List ℕ) (c : ℕ) where
    abbrev Then : WalkAt → Type 0
    Then state =
        let old = old_of words (plan_at env.geometry c state) in
        KeepsOwners env mix seen (room_after state room old).items (loaded_after state loaded old) G P
        (goes env.geometry from limit (length room.items) state old)

    abbrev items : List (ℕ × ℕ)
    items = room.items

    pub owners_lead : (state : WalkAt) → IsWalkAtIn env.geometry state → tied_of_walk env mix G state
        → AllByRecursion (λ n. seen n ≡ true) (standing_of_walk state).nodes → KeepsOwners env mix seen items loaded G P state → Then state
    owners_lead at.Opening within tied met kept = kept
    owners_lead at.CurrentTable within tied met kept = kept
    owners_lead (at.Serial table) within tied met kept = kept
    owners_lead (at.Shape table serial) within tied met kept = begins from limit (length items) items loaded from table serial _ kept
    owners_lead (at.Entry visit way) within tied met kept = enters from limit (length items) items loaded visit _ _ kept
    owners_lead (at.Heading visit place) within tied met kept =
        let link = head_of place (old_of words (plan_at env.geometry c (at.Heading visit place))) in
        led from limit (length items) items loaded (chain_at visit place) link
        (head_so from limit (length items) items loaded visit place link within.visit_in within.place_in tied.walked
        (heading_here env mix words G whole visit within.visit_in place within.place_in tied)
        (heading_leads env mix words G whole visit within.visit_in place within.place_in tied) kept)
        (node_of env.geometry.nodes link) refl
    owners_lead (at.Key chain node) within tied met kept = kept
    owners_lead (at.Owner chain node port) within tied met kept =
        owner_kept room loaded roomy chain node port (owner_of (M (Node node OwnerWord))) within.visit_in tied within.node_in met.0 kept
    owners_lead (at.Link chain node) within tied met kept =
        let link = chain_of M node in
        led from limit (length items) items loaded (one_more chain) link
        (link_so from limit (length items) items loaded (one_more chain) within.visit_in within.place_in
        (record { of = tied.of; shape_is = tied.shape_is }) kept.here node (of_more kept.stands))
        (node_of env.geometry.nodes link) refl
      where
        of_more : IsOut env mix seen items loaded G P chain.visit.table node ⊎ IsIn env mix seen items loaded G P chain node (λ at. at)
            → IsOut env mix seen items loaded G P chain.visit.table node
            ⊎ IsIn env mix seen items loaded G P (one_more chain) node (λ at. at)
        of_more (inl out) = inl out
        of_more (inr is) = inr (record { at = is.at; is = is.is; shown = is.shown })
    owners_lead (at.StrangeEnd visit) within tied met kept =
        future_known from limit (length items) items loaded visit (slot_of (M (Slot visit.table FutureWord)))
        (subst (λ τ. LeadsBehind env mix M G whole τ (slot_of (M (Slot visit.table FutureWord))))
        (sym (index_is env mix M G whole visit.table tied.of)) (future_leads env mix M G whole visit.table tied.of)) kept
    owners_lead (at.TableEnd table) within tied met kept =
        table_ends from limit (length items) items loaded (slot_of (M (Slot table FutureWord))) kept
    owners_lead (at.Closing (ends.Walked next)) within tied met kept = kept
    owners_lead (at.Closing (ends.Again table)) within tied met kept = tt
