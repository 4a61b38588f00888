-- Each operation of a look-up keeps what others rely on: it opens its read section, loads words, and closes it. Its answer is only claimed
-- here. That it is right is shown over whole runs, since it rests on what was so when the call began.
use Rattle.std.proofs.Common.{◌≡◌, ℕ, ◌<◌, nat_lt, List, length, Option, Some, None, true, false, refl, ap, sym, subst, inl}
use Rattle.std.specs.Prelude.{◌==◌}
use Rattle.std.proofs.lemmas.Bool.{cond_both}
use Rattle.rht_words.specs.declared.env.Env.{Env}
use Rattle.rht_words.specs.declared.geometry.Geometry.{Geometry}
use Rattle.rht_words.specs.declared.machine.Next.{Next}
use Rattle.rht_words.specs.declared.machine.Next.TheVariants.{Go, Done}
use Rattle.rht_words.specs.Held as held
use Rattle.rht_words.specs.Held.{Held}
use Rattle.rht_words.specs.Links.{node_of, slot_of, table_of, head_of, marker_of}
use Rattle.rht_words.specs.Operations.{old_of, word_after}
use Rattle.rht_words.specs.Places.{words_in}
use Rattle.rht_words.specs.Ports.{word_of, owner_of}
use Rattle.rht_words.proofs.Memory.{Memory}
use Rattle.rht_nest.specs.Reach.{ReachModel, reach_plan, reach_after}
use Rattle.rht_nest.specs.declared.place.Bucket.{Bucket}
use Rattle.rht_nest.specs.declared.place.Bucket.TheVariants as buckets
use Rattle.rht_nest.specs.declared.reach.ReachAt.{ReachAt}
use Rattle.rht_nest.specs.declared.reach.ReachAt.TheVariants as reaches
use Rattle.rht_model.specs.declared.history.Call.{Call}
use Rattle.rht_model.specs.declared.history.Call.TheVariants as calls
use Rattle.rht_model.specs.declared.history.Reply.{Reply}
use Rattle.rht_model.specs.declared.history.Reply.TheVariants.{Found, Missing}
use Rattle.rht_model.specs.Answers.{Answer, plain}
use Rattle.rht_model.specs.Replies.{takes_out}
use Rattle.rht_find.specs.Find.{plan_at, goes, after_at, locating, reached, walked_anew, chain_ended, led_to, compared, next_table}
use Rattle.rht_find.specs.FindHeld.{held_of_find, in_section}
use Rattle.rht_find.specs.declared.find.Head.{Head}
use Rattle.rht_find.specs.declared.find.FindAt.{FindAt}
use Rattle.rht_find.specs.declared.find.FindAt.TheVariants as at
use Rattle.rht_ghost.proofs.Theory.Ghosts.{Ghost}
use Rattle.rht_ghost.proofs.Theory.Wholes.{Whole}
use Rattle.rht_ghost.proofs.Theory.Knowledge.{Knowing}
use Rattle.rht_ghost.proofs.Theory.Knowns.{known_nothing}
use Rattle.rht_ghost.proofs.Theory.Answering.{IsRight, KeepsAnswer, claims, none_early}
use Rattle.rht_ghost.proofs.Theory.Steps.{Holding, mem, owners, Step, loads, answered, answered_where, reads, still_has}
use Rattle.rht_ghost.proofs.Pieces.OwnSections.{OpensNone, open_step, close_step}

-- ---- states between the opening and the closing

-- a look-up in this state is in its section, and knows no answer
abbrev IsInside : FindAt → Type 0
IsInside state = held_of_find state ≡ in_section

reached-inside : (env : Env) (reach : ReachModel) (next : Next Bucket) → IsInside (reached env reach next)
reached-inside env reach Go = refl
reached-inside env reach (Done (buckets.At place)) = refl
reached-inside env reach (Done (buckets.Absent entry)) = refl

walked_anew-inside : (head : Head) → IsInside (walked_anew head)
walked_anew-inside head = cond_both (nat_lt 0 head.left) _ _ IsInside (λ t. refl) (λ f. refl)

chain_ended-inside : (head : Head) (link : ℕ) → IsInside (chain_ended head link)
chain_ended-inside head link =
    cond_both (link == marker_of head.place) _ _ IsInside (λ t. refl) (λ f. walked_anew-inside head)

led_to-inside : (g : Geometry) (head : Head) (visited link : ℕ) (node : Option ℕ) → IsInside (led_to g head visited link node)
led_to-inside g head visited link None = chain_ended-inside head link
led_to-inside g head visited link (Some node) =
    cond_both (nat_lt visited g.nodes) _ _ IsInside (λ t. refl) (λ f. chain_ended-inside head link)

compared-inside : (port : ℕ) (head : Head) (node visited key : ℕ) → IsInside (compared port head node visited key)
compared-inside port head node visited key = cond_both (key == word_of port) _ _ IsInside (λ t. refl) (λ f. refl)

-- behind any operation but the last one its section is open
pub stays_open : (mix : ℕ → ℕ → ℕ → ℕ) (env : Env) (port : ℕ) (state : FindAt) (word : ℕ)
    → (held_of_find (goes mix env port state word)).section ≡ true
stays_open mix env port (at.Locating reach) word =
    let r = reach_after mix port reach word in ap (λ (h : Held Answer). h.section) (reached-inside env r.0 r.1)
stays_open mix env port (at.Heading head) word =
    let link = head_of head.place word in
    ap (λ (h : Held Answer). h.section) (led_to-inside env.geometry head 0 link (node_of env.geometry.nodes link))
stays_open mix env port (at.Key head node visited) word =
    ap (λ (h : Held Answer). h.section) (compared-inside port head node visited word)
stays_open mix env port (at.Link head node visited) word =
    ap (λ (h : Held Answer). h.section) (led_to-inside env.geometry head visited word (node_of env.geometry.nodes word))
stays_open mix env port (at.Future table) word = next_open (slot_of word)
  where
    next_open : (future : Option ℕ) → (held_of_find (next_table env future)).section ≡ true
    next_open None = refl
    next_open (Some next) = refl
stays_open mix env port _ word = refl

-- finding the bucket only loads
reach_leaves : (m : ReachModel) (word : ℕ) → word_after word (reach_plan m) ≡ word
reach_leaves m word = go m.at
  where
    go : (state : ReachAt) → word_after word (reach_plan (record m { at = state })) ≡ word
    go reaches.Shape = refl
    go (reaches.Seed shape) = refl
    go (reaches.Entry place) = refl

-- ---- each operation

module _ (env : Env) (mix : ℕ → ℕ → ℕ → ℕ) (c : ℕ) (port : ℕ) where
  abbrev call : Call
  call = calls.Find port

  -- what it holds in a state, of which nothing else is known here
  abbrev pub FindKnows : FindAt → Memory → Ghost → Type 0
  FindKnows state M G = Knowing env mix c (held_of_find state) known_nothing M G

  -- what it holds and knows after an operation
  abbrev pub find_holds : FindAt × Next Reply → Holding
  find_holds (state, Go) = held_of_find state
  find_holds (state, Done reply) = held.ended_with (plain reply)

  abbrev pub FindNext : FindAt × Next Reply → Memory → Ghost → Type 0
  FindNext r M G = Knowing env mix c (find_holds r) known_nothing M G

  module _ (words : List ℕ) (G : Ghost) (all : length words ≡ words_in env.geometry)
      (whole : Whole env mix (mem env mix words) G) (low : c < env.geometry.callers) where
    -- what an operation leads to from a state
    abbrev pub FindMoved : FindAt → FindAt × Next Reply → Type 0
    FindMoved state r =
        Step env mix c call words G (plan_at env c state) (held_of_find state) (find_holds r) (FindNext r)

    abbrev pub FindStep : FindAt → Type 0
    FindStep state = FindMoved state (after_at mix env port state (old_of words (plan_at env c state)))

    abbrev Leaves : FindAt → Type 0
    Leaves state =
        word_after (old_of words (plan_at env c state)) (plan_at env c state) ≡ old_of words (plan_at env c state)

    abbrev M : Memory
    M = mem env mix words

    -- it holds this, of which nothing else is known
    abbrev Holds : Holding → Memory → Ghost → Type 0
    Holds h M' G' = Knowing env mix c h known_nothing M' G'

    abbrev KnowsInside : Memory → Ghost → Type 0
    KnowsInside = Holds in_section

    -- a load that tells no answer
    goes_on : (state next : FindAt) → Leaves state → IsInside state → IsInside next → FindKnows state M G
        → FindMoved state (next, Go)
    goes_on state next leaves inside then knows =
        let op = plan_at env c state in
        let within : KnowsInside M G = subst (λ h. Knowing env mix c h known_nothing M G) inside knows in
        subst (λ h. Step env mix c call words G op h (held_of_find next) (Holds (held_of_find next))) (sym inside)
        (subst (λ h. Step env mix c call words G op in_section h (Holds h)) (sym then)
        (reads env mix whole leaves refl (inl refl) within))

    -- ---- an answer

    found_right : (owner : ℕ) → IsRight call None (plain (Found owner))
    found_right owner = record { replied = record { reply = tt; owners = refl }; tells = refl }

    missing_right : IsRight call None (plain Missing)
    missing_right = record { replied = record { reply = tt; owners = refl }; tells = refl }

    -- a load behind which the answer is known
    claims_it : (state : FindAt) (reply : Reply) → Leaves state → IsInside state → IsRight call None (plain reply)
        → takes_out reply ≡ false → FindKnows state M G → FindMoved state (at.Closing reply, Go)
    claims_it state reply leaves inside right none knows =
        let kind = env.config.kind in
        let now = owners env mix M G in
        let within : KnowsInside M G = subst (λ h. Knowing env mix c h known_nothing M G) inside knows in
        rw inside (answered_where env mix ⊥ ⊥ c call words G (plan_at env c state) in_section in_section (Some (plain reply)) None
        (FindNext (at.Closing reply, Go))
        (claims kind c call None None ⊥ now (plain reply) refl right none)
        (none_early kind c call ⊥ ⊥ now None None refl) (still_has refl)
        (loads env mix c words G (plan_at env c state) in_section in_section (FindNext (at.Closing reply, Go)) whole leaves refl
        (record { only = within.only; means = within.means })))

    -- behind the last table the port is missing
    next_moved : (table : ℕ) (future : Option ℕ) → FindKnows (at.Future table) M G
        → FindMoved (at.Future table) (next_table env future, Go)
    next_moved table None knows = claims_it (at.Future table) Missing refl refl missing_right refl knows
    next_moved table (Some next) knows = goes_on (at.Future table) (next_table env (Some next)) refl refl refl knows

    -- each operation of a look-up leads from what it holds to what it holds next
    pub find_step : (state : FindAt) → OpensNone env c G (plan_at env c state) (held_of_find state) → FindKnows state M G → FindStep state
    find_step at.Opening outside knows =
        answered env mix None (inl refl) (still_has refl)
        (open_step env mix c held.holds_nothing known_nothing refl words G all whole low (outside refl refl) knows)
    find_step at.CurrentTable outside knows =
        goes_on at.CurrentTable (locating env (table_of (old_of words (plan_at env c at.CurrentTable)))) refl refl refl knows
    find_step (at.Locating reach) outside knows =
        let r = reach_after mix port reach (old_of words (reach_plan reach)) in
        goes_on (at.Locating reach) (reached env r.0 r.1) (reach_leaves reach (old_of words (reach_plan reach))) refl
        (reached-inside env r.0 r.1) knows
    find_step (at.Heading head) outside knows =
        let link = head_of head.place (old_of words (plan_at env c (at.Heading head))) in
        goes_on (at.Heading head) _ refl refl
        (led_to-inside env.geometry head 0 link (node_of env.geometry.nodes link)) knows
    find_step (at.Key head node visited) outside knows =
        goes_on (at.Key head node visited) _ refl refl
        (compared-inside port head node visited (old_of words (plan_at env c (at.Key head node visited)))) knows
    find_step (at.Link head node visited) outside knows =
        let link = old_of words (plan_at env c (at.Link head node visited)) in
        goes_on (at.Link head node visited) _ refl refl
        (led_to-inside env.geometry head visited link (node_of env.geometry.nodes link)) knows
    find_step (at.Future table) outside knows =
        next_moved table (slot_of (old_of words (plan_at env c (at.Future table)))) knows
    find_step (at.Owner node) outside knows =
        let owner = owner_of (old_of words (plan_at env c (at.Owner node))) in
        claims_it (at.Owner node) (Found owner) refl refl (found_right owner) refl knows
    find_step (at.Closing reply) outside knows =
        answered env mix (Some (plain reply)) (inl (keeps reply)) (still_has refl)
        (close_step env mix c (held.ended_with (plain reply)) known_nothing refl words G all whole low refl refl knows)
      where
        keeps : (reply : Reply) → KeepsAnswer (Some (plain reply)) (Some (plain reply))
        keeps reply = record { reply = refl; owners = refl }
