-- What a look-up without locks knows in each of its states, and that each of its loads leads from what it knows to what it knows next.
-- A load leaves words and ghost, so all of this is said of one moment; what others do meanwhile is said by stages (`stage_stays`).
use Rattle.std.proofs.Common.{◌≡◌, ◌≢◌, ◌⊎◌, ℕ, ◌<◌, ◌≤◌, nat_lt, Bool, true, List, [], Option, Some, None, refl, sym, ◌∙◌, ap, inl, inr, arith}
use Rattle.std.specs.Prelude.{◌==◌}
use Rattle.std.specs.List.{AllByRecursion}
use Rattle.std.proofs.lemmas.Bool.{cond_both, eqb-true, eqb-false, ltb-false}
use Rattle.rht_words.specs.declared.env.Env.{Env}
use Rattle.rht_words.specs.declared.machine.Next.{Next}
use Rattle.rht_words.specs.declared.machine.Next.TheVariants.{Go, Done}
use Rattle.rht_words.specs.declared.op.Op.TheVariants.{Load}
use Rattle.rht_words.specs.Links.{link_of, marker_of, node_of, head_of, table_of, slot_of}
use Rattle.rht_words.specs.Operations.{old_of}
use Rattle.rht_words.specs.Places.{CurrentTable, Slot, FutureWord, Node, OwnerWord, IsBucketPlace}
use Rattle.rht_words.specs.Ports.{owner_of}
use Rattle.rht_words.proofs.LinksRead.{links_tell_apart}
use Rattle.rht_words.proofs.Memory.{Memory}
use Rattle.rht_model.specs.declared.history.Reply.{Reply}
use Rattle.rht_model.specs.declared.history.Reply.TheVariants.{Found, Missing}
use Rattle.rht_nest.specs.Reach.{ReachModel, reach_after, reach_plan}
use Rattle.rht_nest.specs.declared.place.Bucket.{Bucket}
use Rattle.rht_nest.specs.declared.place.Bucket.TheVariants as buckets
use Rattle.rht_find.specs.Find.{plan_at, goes, reached, walked_anew, chain_ended, led_to, next_table, IsFindAtIn}
use Rattle.rht_find.specs.FindStanding.{standing_of_find}
use Rattle.rht_find.specs.declared.find.Head.{Head}
use Rattle.rht_find.specs.declared.find.FindAt.{FindAt}
use Rattle.rht_find.specs.declared.find.FindAt.TheVariants as at
use Rattle.rht_ghost.proofs.Theory.Ghosts.{Ghost, none-some}
use Rattle.rht_ghost.proofs.Theory.Wholes.{chain_of, hash_in, key_of, place_at, word_index, Whole, AreFrom, current-there, at-there}
use Rattle.rht_ghost.proofs.Theory.Passed.{at-from, GrowsFrom, hash-below}
use Rattle.rht_ghost.proofs.Theory.Steps.{mem}
use Rattle.rht_ghost.proofs.Pieces.TableLoads.{LeadsBehind, future_leads}
use Rattle.rht_ghost.proofs.Pieces.Reaches.{IsReachingHome}
use Rattle.rht_core.proofs.Finding.BucketHeads.{loaded_head}
use Rattle.rht_core.proofs.Finding.Places.{Places, PlacesRight}
use Rattle.rht_core.proofs.Finding.PlacesSteps.{PlacesNext}
use Rattle.rht_core.proofs.Finding.Deaths.{DeathsRight, IsLate}
use Rattle.rht_core.proofs.Finding.Stages.{Stage, tables_at, Reaching, Heading, AtKey, AtLink, Ending, Owning, IsHome, StageMeans, stage_stays, toward_known}
use Rattle.rht_core.proofs.Finding.StageSteps.{at_current, headed_to, headed_nowhere, key_differs, key_is_it, link_to, link_nowhere, all_visited, walks_again, none_behind, goes_on}
use Rattle.rht_core.proofs.Finding.ReachSteps.{ReachLeads, reach_leads, reaching-stays}

module _ (env : Env) (mix : ℕ → ℕ → ℕ → ℕ) (port : ℕ) (seen : ℕ → Bool) (since : ℕ) (Says : Reply → Type 0) where
  -- the bucket with this word
  abbrev bucket_of_head : Head → ℕ
  bucket_of_head head = word_index env mix head.place

  abbrev StageIs : Memory → Ghost → Places → Stage → Type 0
  StageIs = StageMeans env mix port seen since (Says Missing)

  -- what it knows in a state
  abbrev pub LookMeans : Memory → Ghost → Places → FindAt → Type 0
  LookMeans M G P at.Opening = Unit {0}
  LookMeans M G P at.CurrentTable = Unit {0}
  LookMeans M G P (at.Locating reach) =
      (means : StageIs M G P (Reaching reach.table)) × IsReachingHome env mix G port means.0.table reach.at
  LookMeans M G P (at.Heading head) = StageIs M G P (Heading head.table (bucket_of_head head))
  LookMeans M G P (at.Key head node visited) = StageIs M G P (AtKey head.table (bucket_of_head head) node visited)
  LookMeans M G P (at.Link head node visited) = StageIs M G P (AtLink head.table (bucket_of_head head) node visited)
  LookMeans M G P (at.Future table) = StageIs M G P (Ending table)
  LookMeans M G P (at.Owner node) = StageIs M G P (Owning node)
  LookMeans M G P (at.Closing reply) = Says reply

  module _ (now : ℕ) (words : List ℕ) (G : Ghost) (P : Places) (whole : Whole env mix (mem env mix words) G)
      (right : PlacesRight env mix G P (mem env mix words) now) (deaths : DeathsRight env (mem env mix words) G P now)
      (absent : G.bound port ≡ [] → Says Missing)
      (found : (m : ℕ) → IsLate env G P since m → key_of (mem env mix words) m ≡ port
      → Says (Found (owner_of (mem env mix words (Node m OwnerWord))))) where
    abbrev M : Memory
    M = mem env mix words

    abbrev Means : Stage → Type 0
    Means = StageIs M G P

    abbrev Knows : FindAt → Type 0
    Knows = LookMeans M G P

    -- ---- the current table, and the future of one

    current_known : Means (Reaching (table_of (M CurrentTable)))
    current_known =
        let there = current-there env mix whole.tables in
        let right_now = whole.tables.each G.current there in
        let slot = (G.table G.current).slot in
        let is : table_of (M CurrentTable) ≡ slot =
        (let word = whole.tables.current_is in omega (arith, right_now.slot_in, word)) in
        rw is (at_current env mix port seen since now M G P whole right deaths (Says Missing) absent)

    -- ---- the end of a chain

    anew_known : (head : Head) → IsHome env mix port G head.table (bucket_of_head head) → Means (Ending head.table)
        → Knows (walked_anew head)
    anew_known head home_is ending =
        cond_both (nat_lt 0 head.left) _ _ Knows
        (λ t. walks_again env mix port seen since now M G P whole right deaths (Says Missing) head.table (bucket_of_head head) home_is
        ending)
        (λ f. ending)

    ended_known : (head : Head) (link : ℕ) → IsHome env mix port G head.table (bucket_of_head head) → Means (Ending head.table)
        → Knows (chain_ended head link)
    ended_known head link home_is ending =
        cond_both (link == marker_of head.place) _ _ Knows (λ t. ending) (λ f. anew_known head home_is ending)

    -- a link that is read as none leads to no node
    names_none : (link : ℕ) → node_of env.geometry.nodes link ≡ None → (n : ℕ) → n < env.geometry.nodes → link ≢ link_of n
    names_none link none n l same =
        none-some none (ap (node_of env.geometry.nodes) same ∙ links_tell_apart.link_names env.geometry.nodes n l)

    -- ---- a link that was loaded, of the bucket's word or of a node

    -- where it leads, by stages
    record LeadsStage (head : Head) (visited link : ℕ) : Type 0 where
      home_is : IsHome env mix port G head.table (bucket_of_head head)
      to_node : (n : ℕ) → link ≡ link_of n → Means (AtKey head.table (bucket_of_head head) n visited)
      to_none : ((n : ℕ) → n < env.geometry.nodes → link ≢ link_of n) → Means (Ending head.table)
      visited_all : env.geometry.nodes ≤ visited → Means (Ending head.table)

    led_known : (head : Head) (visited link : ℕ) → LeadsStage head visited link → (node : Option ℕ)
        → node_of env.geometry.nodes link ≡ node → Knows (led_to env.geometry head visited link node)
    led_known head visited link leads None none =
        ended_known head link leads.home_is (leads.to_none (names_none link none))
    led_known head visited link leads (Some n) some =
        let named = links_tell_apart.named_by_link env.geometry.nodes link n some in
        cond_both (nat_lt visited env.geometry.nodes) _ _ Knows
        (λ t. leads.to_node n named.0)
        (λ f. ended_known head link leads.home_is (leads.visited_all (ltb-false visited env.geometry.nodes f)))

    -- the first link of a bucket, by its word
    head_word : (head : Head) → IsBucketPlace env.geometry head.place → IsHome env mix port G head.table (bucket_of_head head)
        → head_of head.place (old_of words (Load head.place))
        ≡ head_of (place_at env mix (bucket_of_head head)) (G.bucket (bucket_of_head head)).plain
    head_word head there home_is =
        let τ = home_is.of.table in
        loaded_head env mix words G whole τ (hash_in env mix G port τ) (bucket_of_head head)
        (at-there home_is.of) (hash-below env mix M G whole port τ) home_is.here head.place there refl

    -- ---- the future of a table

    future_known : (slot : ℕ) (ending : Means (Ending slot)) (future : Option ℕ) → LeadsBehind env mix M G whole ending.0.table future
        → Knows (next_table env future)
    future_known slot ending None last =
        none_behind env mix port seen since now M G P whole right deaths (Says Missing) slot ending last
    future_known slot ending (Some next) behind =
        (goes_on env mix port seen since now M G P whole right deaths (Says Missing) slot next ending behind, tt)

    -- ---- each load

    reached_known : (next : ReachModel × Next Bucket)
        → ReachLeads env mix port seen since now words G P whole right deaths (Says Missing) next
        → Knows (reached env next.0 next.1)
    reached_known (m, Go) leads = leads
    reached_known (m, Done (buckets.At place)) leads = leads
    reached_known (m, Done (buckets.Absent entry)) leads = leads

    -- where its section has met the node at which it stands
    abbrev pub HasMet : FindAt → Type 0
    HasMet state = AllByRecursion (λ n. seen n ≡ true) (standing_of_find state).nodes

    pub look_leads : (caller : ℕ) (state : FindAt) → IsFindAtIn env state → HasMet state → Knows state
        → Knows (goes mix env port state (old_of words (plan_at env caller state)))
    look_leads caller at.Opening within met known = tt
    look_leads caller at.CurrentTable within met known = (current_known, tt)
    look_leads caller (at.Locating reach) within met known =
        reached_known (reach_after mix port reach (old_of words (reach_plan reach)))
        (reach_leads env mix port seen since now words G P whole right deaths (Says Missing) reach within known.0 known.1)
    look_leads caller (at.Heading head) within met known =
        let slot = head.table in
        let j = bucket_of_head head in
        let link = head_of head.place (old_of words (Load head.place)) in
        let is = head_word head within.place_in known.0 in
        led_known head 0 link
        (record {
          home_is = known.0;
          to_node = λ n leads. headed_to env mix port seen since now M G P whole right deaths (Says Missing) slot j n known
              (sym is ∙ leads);
          to_none = λ none. headed_nowhere env mix port seen since now M G P whole right deaths (Says Missing) slot j known
              (λ n l leads. none n l (is ∙ leads));
          visited_all = λ all. headed_nowhere env mix port seen since now M G P whole right deaths (Says Missing) slot j known
              (λ n l leads. absurd (omega (arith, l, all)));
        })
        (node_of env.geometry.nodes link) refl
    look_leads caller (at.Key head node visited) within met known =
        let slot = head.table in
        let j = bucket_of_head head in
        cond_both (key_of M node == port) _ _ Knows
        (λ t. key_is_it env mix port seen since now M G P whole right deaths (Says Missing) slot j node visited known
        (eqb-true (key_of M node) port t))
        (λ f. key_differs env mix port seen since now M G P whole right deaths (Says Missing) slot j node visited known met.0
        (eqb-false (key_of M node) port f))
    look_leads caller (at.Link head node visited) within met known =
        let slot = head.table in
        let j = bucket_of_head head in
        let link = chain_of M node in
        led_known head visited link
        (record {
          home_is = known.0;
          to_node = λ n leads. link_to env mix port seen since now M G P whole right deaths (Says Missing) slot j node n visited
              known leads;
          to_none = λ none. link_nowhere env mix port seen since now M G P whole right deaths (Says Missing) slot j node visited
              known none;
          visited_all = λ all. all_visited env mix port seen since now M G P whole right deaths (Says Missing) slot j node visited
              known all;
        })
        (node_of env.geometry.nodes link) refl
    look_leads caller (at.Future table) within met known =
        future_known table known (slot_of (M (Slot table FutureWord))) (future_leads env mix M G whole table known.0)
    look_leads caller (at.Owner node) within met known = found node known.0 known.1
    look_leads caller (at.Closing reply) within met known = known

-- what it knows by one notion of a right answer, it knows by another that holds wherever that one does
module _ (env : Env) (mix : ℕ → ℕ → ℕ → ℕ) (port : ℕ) (seen : ℕ → Bool) (since : ℕ) (Says Says' : Reply → Type 0)
    (said : (reply : Reply) → Says reply → Says' reply) (M : Memory) (G : Ghost) (P : Places) where
  or_else : {A : Type 0} → Says Missing ⊎ A → Says' Missing ⊎ A
  or_else (inl is) = inl (said Missing is)
  or_else (inr other) = inr other

  stage_says : (stage : Stage) → StageMeans env mix port seen since (Says Missing) M G P stage
      → StageMeans env mix port seen since (Says' Missing) M G P stage
  stage_says (Reaching slot) known = (known.0, or_else known.1)
  stage_says (Heading slot j) known = (known.0, or_else known.1)
  stage_says (AtKey slot j m visited) known = (known.0, known.1, or_else known.2)
  stage_says (AtLink slot j m visited) known = (known.0, known.1, or_else known.2)
  stage_says (Ending slot) known = (known.0, or_else known.1)
  stage_says (Owning m) known = known

  pub look_says : (state : FindAt) → LookMeans env mix port seen since Says M G P state → LookMeans env mix port seen since Says' M G P state
  look_says at.Opening known = tt
  look_says at.CurrentTable known = tt
  look_says (at.Locating reach) known = ((known.0.0, or_else known.0.1), known.1)
  look_says (at.Heading head) known = stage_says (Heading head.table (word_index env mix head.place)) known
  look_says (at.Key head node visited) known = stage_says (AtKey head.table (word_index env mix head.place) node visited) known
  look_says (at.Link head node visited) known = stage_says (AtLink head.table (word_index env mix head.place) node visited) known
  look_says (at.Future table) known = stage_says (Ending table) known
  look_says (at.Owner node) known = known
  look_says (at.Closing reply) known = said reply known

-- what it knows outlives an operation of anybody else
module _ (env : Env) (mix : ℕ → ℕ → ℕ → ℕ) (port : ℕ) (seen : ℕ → Bool) (since now : ℕ) (M : Memory) (G : Ghost) (P : Places) (M' : Memory) (G' : Ghost)
    (whole : Whole env mix M G) (whole' : Whole env mix M' G') (right : PlacesRight env mix G P M now)
    (low : ℕ) (step : PlacesNext env mix now low M G P M' G') (grow : GrowsFrom env mix low G G') (began : since ≤ now)
    (Says Says' : Reply → Type 0) (said : (reply : Reply) → Says reply → Says' reply)
    (absent : G'.bound port ≡ [] → Says' Missing) where
  stays : (stage : Stage) → AreFrom low G (tables_at stage) → StageMeans env mix port seen since (Says Missing) M G P stage
      → StageMeans env mix port seen since (Says' Missing) M' G' step.places stage
  stays = stage_stays env mix port seen since now M G P M' G' whole whole' right low step grow began (Says Missing) (Says' Missing)
      (said Missing) absent

  pub look_stays : (state : FindAt) → AreFrom low G (standing_of_find state).tables → LookMeans env mix port seen since Says M G P state
      → LookMeans env mix port seen since Says' M' G' step.places state
  look_stays at.Opening from known = tt
  look_stays at.CurrentTable from known = tt
  look_stays (at.Locating reach) from known = (
    (
      at-from env mix low G G' grow reach.table known.0.0 (from reach.table (inl refl) known.0.0),
      toward_known env mix port seen since now M G P M' G' whole whole' right low step grow began (Says Missing) (Says' Missing)
          (said Missing) absent known.0.0.table known.0.1,
    ),
    reaching-stays env mix low G G' grow port reach known.0.0 (from reach.table (inl refl) known.0.0) known.1,
  )
  look_stays (at.Heading head) from known = stays (Heading head.table (word_index env mix head.place)) from known
  look_stays (at.Key head node visited) from known = stays (AtKey head.table (word_index env mix head.place) node visited) from known
  look_stays (at.Link head node visited) from known = stays (AtLink head.table (word_index env mix head.place) node visited) from known
  look_stays (at.Future table) from known = stays (Ending table) from known
  look_stays (at.Owner node) from known = stays (Owning node) from known
  look_stays (at.Closing reply) from known = said reply known
