-- The operations that take a node and give it back, and those that write a word of a node which the caller has.
use Rattle.std.proofs.Common.{◌≡◌, ◌≢◌, ℕ, ◌+◌, ◌*◌, ◌/◌, ◌%◌, ◌<◌, ◌==◌, List, length, Option, Some, None, cond, refl, sym, ◌∙◌, ap, subst, inl, inr, bit_and, bit_or, nat_lt, arith, false}
use Rattle.std.specs.Prelude.{IfSome}
use Rattle.std.proofs.lemmas.Bool.{cases_eq, eqb-true, eqb-false}
use Rattle.std.proofs.lemmas.Nat.Bits.{bit_at-lt}
use Rattle.std.specs.Int.{bit_at, bit_not, trailing_zeros, w64}
use Rattle.rht_words.specs.declared.env.Env.{Env}
use Rattle.rht_words.specs.declared.op.Op.{Op}
use Rattle.rht_words.specs.declared.op.Op.TheVariants.{Store, And, Or}
use Rattle.rht_words.specs.declared.machine.Next.{Next}
use Rattle.rht_words.specs.declared.machine.Next.TheVariants.{Go, Done}
use Rattle.rht_words.specs.Maps.{bit_of, bits_above, map_bits, IsBitIn}
use Rattle.rht_words.specs.Operations.{old_of, applied}
use Rattle.rht_words.specs.Places.{Node, NodeWord, ChainLink, KeyWord, OwnerWord, ListLink, NodeMap, map_words, place_of, words_in}
use Rattle.rht_words.proofs.BitChanges.{bit_at-cleared, bit_at-cleared_other}
use Rattle.rht_words.proofs.Memory.{Memory, IsWrite, is_write}
use Rattle.rht_arena.specs.TakeNode.{TakeNodeModel, take_node_plan, take_node_after, word_behind, next_word, claim_in, claim_among, IsTakeAtIn, IsTakeIn}
use Rattle.rht_arena.specs.declared.take_node.TakeNodeAt.{TakeNodeAt}
use Rattle.rht_arena.specs.declared.take_node.TakeNodeAt.TheVariants as takes
use Rattle.rht_arena.specs.NewNode.{NewNodeModel, new_node_plan, new_node_after, new_node_after_at, node_of_new, node_taken, IsNewNodeIn}
use Rattle.rht_arena.specs.declared.new_node.NewNodeAt.{NewNodeAt}
use Rattle.rht_arena.specs.declared.new_node.NewNodeAt.TheVariants as news
use Rattle.rht_arena.proofs.TakenWereFree.{claims}
use Rattle.rht_ghost.proofs.Theory.Ghosts.{put-same, put-all, Owner, Free, NodeHeld, Ghost, IsUsed, is_used, is_taken_by, held_not_used, unused-unlisted, with_owner}
use Rattle.rht_ghost.proofs.Theory.Wholes.{Whole}
use Rattle.rht_ghost.proofs.Theory.Knowns.{KnownNode, KnownTable, KnownBucket, knows_plain}
use Rattle.rht_ghost.proofs.Theory.Knowledge.{plainly, IsPlain, SpeaksOf, plain-speaks, NodeMeans, TableMeans, Knowing}
use Rattle.rht_ghost.proofs.Theory.Reliance.{members_used, TablesStay}
use Rattle.rht_ghost.proofs.Theory.KnowledgeStays.{BucketMeans-own, TableMeans-stay, BucketMeans-stay, BucketMeans-such}
use Rattle.rht_ghost.proofs.Theory.Frames.{chains_stay, tables_stay}
use Rattle.rht_ghost.proofs.Theory.WholeFrames.{same_chains, chains_passes}
use Rattle.rht_ghost.proofs.Theory.Steps.{Quiet, TakesNode, GivesNode, by_test, Holding, mem, SilentStep, silent, loads}
use Rattle.rht_ghost.proofs.Moves.TakenNodes.{reowned_chains, fill, take_node, give_node, retouch}

-- a node of which no word is known
abbrev pub bare : ℕ → KnownNode
bare n = record { node = n; chain = None; key = None; owner = None; list = None }

-- a known node with one word more, or another one
abbrev pub with_word : KnownNode → NodeWord → ℕ → KnownNode
with_word known ChainLink value = record known { chain = Some value }
with_word known KeyWord value = record known { key = Some value }
with_word known OwnerWord value = record known { owner = Some value }
with_word known ListLink value = record known { list = Some value }

-- what is known of a new node whose words are all stored, but for its link in a chain
abbrev pub filled : ℕ → ℕ → ℕ → KnownNode
filled n key owner = record { node = n; chain = None; key = Some key; owner = Some owner; list = Some 0 }

-- the node that was taken, and what is known of it
abbrev pub taken_by : TakeNodeModel × Next (Option ℕ) → Option ℕ
taken_by (take, Go) = None
taken_by (take, Done taken) = taken

abbrev pub known_taken : TakeNodeModel × Next (Option ℕ) → Option KnownNode
known_taken (take, Go) = None
known_taken (take, Done None) = None
known_taken (take, Done (Some node)) = Some (bare node)

-- what is known of a new node at a state of its making, and once it is made
abbrev pub known_at : ℕ → ℕ → NewNodeAt → Option KnownNode
known_at key owner (news.Taking take) = None
known_at key owner (news.Key node) = Some (bare node)
known_at key owner (news.Owner node) = Some (with_word (bare node) KeyWord key)
known_at key owner (news.ListLink node) = Some (with_word (with_word (bare node) KeyWord key) OwnerWord owner)

abbrev pub made_by : NewNodeAt × Next (Option ℕ) → Option ℕ
made_by (at, Go) = node_of_new at
made_by (at, Done made) = made

-- who ends without a node, or goes on without one, had none
pub made_none : (state : NewNodeAt) (word : ℕ) → made_by (new_node_after_at state word) ≡ None
    → node_of_new state ≡ None
made_none (news.Taking take) word none = refl
made_none _ word none = absurd (cc)

abbrev pub known_made : ℕ → ℕ → NewNodeAt × Next (Option ℕ) → Option KnownNode
known_made key owner (at, Go) = known_at key owner at
known_made key owner (at, Done None) = None
known_made key owner (at, Done (Some node)) = Some (filled node key owner)

-- Going on to another node or to the next word, or ending, takes none.
module _ (take : TakeNodeModel) (So : TakeNodeModel × Next (Option ℕ) → Type 0)
    (goes : (at : TakeNodeAt) → So (record take { at = at }, Go)) (ends : So (take, Done None)) where
  next_so : (index : ℕ) → So (next_word take index)
  next_so index =
      let next = word_behind take.geometry index in
      by_test (λ t. So (cond t (take, Done None) (record take { at = takes.MapWord next }, Go)))
      (next == take.start) (λ t. ends) (λ t. goes (takes.MapWord next))

  claim_so : (index word : ℕ) → So (claim_among take index word)
  claim_so index word =
      let free = bit_and word (map_bits take.geometry.nodes index) in
      by_test (λ t. So (claim_in take index (cond t None (Some (trailing_zeros w64 free))))) (free == 0)
      (λ t. next_so index) (λ t. goes (takes.Claim index (trailing_zeros w64 free)))

module _ (env : Env) (mix : ℕ → ℕ → ℕ → ℕ) (c : ℕ) (h : Holding) (table : KnownTable)
    (bucket : KnownBucket) where
  -- what the call holds with this node, and what the caller knows with this known of it
  abbrev pub holding : Option ℕ → Holding
  holding node = record h { node = node }

  abbrev pub knowing : Option ℕ → Option KnownNode → Memory → Ghost → Type 0
  knowing node known M G = Knowing env mix c (holding node)
      (knows_plain known table bucket) M G

  module _ (words : List ℕ) (G : Ghost) (all : length words ≡ words_in env.geometry)
      (whole : Whole env mix (mem env mix words) G) where
    abbrev M : Memory
    M = mem env mix words

    -- what was passed is so still where a node that is no port's has another owner
    stays-reowned : (n : ℕ) (owner : Owner) → is_used (G.node n) ≡ false → is_used owner ≡ false
        → TablesStay env mix G (with_owner G n owner)
    stays-reowned n owner was now =
        let same = reowned_chains env mix G n owner (unused-unlisted (G.node n) was)
        (unused-unlisted owner now) in
        tables_stay env mix M G (with_owner G n owner) whole same.tables
        (chains_passes env mix M G (with_owner G n owner) whole same)

    tables-reowned : (n : ℕ) (owner : Owner) → is_used (G.node n) ≡ false → is_used owner ≡ false
        → TableMeans env mix c G table → TableMeans env mix c (with_owner G n owner) table
    tables-reowned n owner was now means =
        TableMeans-stay env mix c M M G (with_owner G n owner) refl (stays-reowned n owner was now) table means

    -- and where none has
    stays-same : TablesStay env mix G G
    stays-same =
        let same = same_chains env mix G G.raised in
        tables_stay env mix M G G whole same.tables (chains_passes env mix M G G whole same)

    -- ---- a word of a node

    -- the words of the node that the caller has, after one of them was stored
    word-known : (known : KnownNode) (w : NodeWord) (value : ℕ) (M' : Memory) → NodeMeans env mix c M G known
        → IsWrite env.geometry M M' (Node known.node w) value
        → NodeMeans env mix c M' G (with_word known w value)
    word-known known w value M' means write = go w write
      where
        stays : (w u : NodeWord) (word : Option ℕ) → IsWrite env.geometry M M' (Node known.node w) value
            → Node known.node u ≢ Node known.node w → IfSome word (λ v. M (Node known.node u) ≡ v)
            → IfSome word (λ v. M' (Node known.node u) ≡ v)
        stays w u None write differs is = tt
        stays w u (Some v) write differs is = write.others (Node known.node u) means.has.among differs ∙ is

        go : (w : NodeWord) → IsWrite env.geometry M M' (Node known.node w) value
            → NodeMeans env mix c M' G (with_word known w value)
        go ChainLink write = record {
          has = means.has;
          chain = write.same;
          key = stays ChainLink KeyWord known.key write (λ e. cc) means.key;
          owner = stays ChainLink OwnerWord known.owner write (λ e. cc) means.owner;
          list = stays ChainLink ListLink known.list write (λ e. cc) means.list;
        }
        go KeyWord write = record {
          has = means.has;
          chain = stays KeyWord ChainLink known.chain write (λ e. cc) means.chain;
          key = write.same;
          owner = stays KeyWord OwnerWord known.owner write (λ e. cc) means.owner;
          list = stays KeyWord ListLink known.list write (λ e. cc) means.list;
        }
        go OwnerWord write = record {
          has = means.has;
          chain = stays OwnerWord ChainLink known.chain write (λ e. cc) means.chain;
          key = stays OwnerWord KeyWord known.key write (λ e. cc) means.key;
          owner = write.same;
          list = stays OwnerWord ListLink known.list write (λ e. cc) means.list;
        }
        go ListLink write = record {
          has = means.has;
          chain = stays ListLink ChainLink known.chain write (λ e. cc) means.chain;
          key = stays ListLink KeyWord known.key write (λ e. cc) means.key;
          owner = stays ListLink OwnerWord known.owner write (λ e. cc) means.owner;
          list = write.same;
        }

    abbrev pub FillStep : KnownNode → NodeWord → ℕ → Type 0
    FillStep known w value =
        SilentStep env mix c words G (Store (place_of env.geometry (Node known.node w)) value)
        (holding (Some known.node)) (holding (Some known.node))
        (knowing (Some known.node) (Some (with_word known w value)))

    -- a word of a node that the caller has is stored, of which what it knows of a bucket doesn't speak
    pub store_step : (known : KnownNode) (w : NodeWord) (value : ℕ) → SpeaksOf env mix (λ u. u ≢ w) bucket
        → knowing (Some known.node) (Some known) M G → FillStep known w value
    store_step known w value speaks knows =
        let op = Store (place_of env.geometry (Node known.node w)) value in
        let M' = mem env mix (applied words op) in
        let has = knows.means.node.has in
        let write = is_write env.geometry words (Node known.node w) op all has.among refl in
        let not_mine : (n : ℕ) → IsUsed (G.node n) → n ≢ known.node = λ n used e. held_not_used
        (G.node known.node) c has.mine (rw (sym e) used) in
        silent env mix c words G op (holding (Some known.node)) (holding (Some known.node))
        (knowing (Some known.node) (Some (with_word known w value))) Quiet whole tt tt
        (fill env mix c known.node w value M M' G whole has write)
        (record {
          holds = refl;
          leaves = inr (inl (record { node = known.node; word = w; has = refl; place = refl }));
        })
        (plainly env mix knows.only (word-known known w value M' knows.means.node write) knows.means.table
        (BucketMeans-such env mix c M M' G G (members_used env mix M G whole) (λ j holds. refl)
        (λ j n h i. refl)
        (chains_stay env mix c M M' G (Node known.node w) value whole write
        (λ n used e. not_mine n used (cc)))
        (λ n l used. write.others (Node n KeyWord) l (λ e. not_mine n used (cc)))
        (λ n l used. write.others (Node n OwnerWord) l (λ e. not_mine n used (cc))) (λ n. refl)
        stays-same (λ port τ j is. is.unbound) (λ u. u ≢ w)
        (λ u differs n own. (own, write.others (Node n u) own.among (λ e. differs (cc)))) bucket speaks knows.means.bucket))

    -- or where what it knows of a bucket doesn't speak of it at all
    pub fill_step : IsPlain env mix bucket → (known : KnownNode) (w : NodeWord) (value : ℕ)
        → knowing (Some known.node) (Some known) M G → FillStep known w value
    fill_step plain known w value =
        store_step known w value (plain-speaks env mix (λ u. u ≢ w) bucket plain)

    -- ---- a node is taken

    -- the and that clears the bit of a free node
    claim_taken : (index bit : ℕ) → IsBitIn env.geometry.nodes index bit
        → bit_at (old_of words (And (place_of env.geometry (NodeMap index)) (bit_not w64 (bit_of bit))))
        bit ≡ 1
        → knowing None None M G
        → SilentStep env mix c words G (And (place_of env.geometry (NodeMap index))
        (bit_not w64 (bit_of bit))) (holding None) (holding (Some (64 * index + bit)))
        (knowing (Some (64 * index + bit)) (Some (bare (64 * index + bit))))
    claim_taken index bit range free knows =
        let n = 64 * index + bit in
        let op = And (place_of env.geometry (NodeMap index)) (bit_not w64 (bit_of bit)) in
        let word = old_of words op in
        let M' = mem env mix (applied words op) in
        let low : index < map_words env.geometry.nodes = omega (arith, range.within, range.below) in
        let write : IsWrite env.geometry M M' (NodeMap index) (bit_and word (bit_not w64 (bit_of bit))) =
        is_write env.geometry words (NodeMap index) op all low refl in
        let taken = take_node env mix c index bit M M' G whole range free write in
        silent env mix c words G op (holding None) (holding (Some n)) (knowing (Some n) (Some (bare n)))
        (TakesNode n) whole taken.1 tt taken.0
        (record { taking = claims env.geometry index bit word range free; none = refl; holds = refl })
        (plainly env mix (record {
          nodes = put-all (λ m o. o ≡ NodeHeld c → Some n ≡ Some m) G.node n (NodeHeld c) (λ e. refl)
              (λ m ne held. let q = knows.only.nodes m held in absurd (cc));
          locks = knows.only.locks;
          raising = knows.only.raising;
          slots = knows.only.slots;
          pages_in = knows.only.pages_in;
          works = knows.only.works;
          reads = knows.only.reads;
        }) (record {
          has = record { mine = put-same G.node n (NodeHeld c); among = range.below };
          chain = tt;
          key = tt;
          owner = tt;
          list = tt;
        }) (tables-reowned n (NodeHeld c) (ap is_used taken.1) refl knows.means.table) (BucketMeans-own env mix c M M' G (with_owner G n (NodeHeld c))
        (members_used env mix M G whole) (λ j holds. refl) (λ j m h i. refl)
        (chains_stay env mix c M M' G (NodeMap index) (bit_and word (bit_not w64 (bit_of bit)))
        whole write (λ m used e. cc))
        (λ m l used. write.others (Node m KeyWord) l (λ e. cc))
        (λ m l used. write.others (Node m OwnerWord) l (λ e. cc))
        (put-all (λ m o. is_taken_by c o ≡ is_taken_by c (G.node m)) G.node n (NodeHeld c)
        (sym (ap (is_taken_by c) taken.1)) (λ m ne. refl))
        (stays-reowned n (NodeHeld c) (ap is_used taken.1) refl) (λ port τ j is. is.unbound) bucket
        (λ w each x has. let none = knows.only.nodes x has.mine in absurd (cc)) knows.means.bucket))

    -- one that finds the bit clear leaves the word
    claim_lost : (index bit : ℕ) → IsBitIn env.geometry.nodes index bit
        → bit_at (old_of words (And (place_of env.geometry (NodeMap index)) (bit_not w64 (bit_of bit))))
        bit ≡ 0
        → knowing None None M G
        → SilentStep env mix c words G (And (place_of env.geometry (NodeMap index))
        (bit_not w64 (bit_of bit))) (holding None) (holding None) (knowing None None)
    claim_lost index bit range clear knows =
        let op = And (place_of env.geometry (NodeMap index)) (bit_not w64 (bit_of bit)) in
        let word = old_of words op in
        let M' = mem env mix (applied words op) in
        let low : index < map_words env.geometry.nodes = omega (arith, range.within, range.below) in
        let write : IsWrite env.geometry M M' (NodeMap index) (bit_and word (bit_not w64 (bit_of bit))) =
        is_write env.geometry words (NodeMap index) op all low refl in
        let same : (k : ℕ) → k < 64 → bit_at (bit_and word (bit_not w64 (bit_of bit))) k ≡ bit_at word k
        = λ k l. elim (cases_eq k bit) [
          | inl q ↦ rw q (bit_at-cleared word bit range.within ∙ sym clear)
          | inr ne ↦ bit_at-cleared_other word bit k range.within l ne
        ] in
        silent env mix c words G op (holding None) (holding None) (knowing None None) Quiet whole tt tt
        (retouch env mix c index (bit_and word (bit_not w64 (bit_of bit))) M M' G whole low write same)
        (record { holds = refl; leaves = inl same })
        (plainly env mix knows.only tt knows.means.table (BucketMeans-own env mix c M M' G G (members_used env mix M G whole)
        (λ j holds. refl) (λ j m h i. refl)
        (chains_stay env mix c M M' G (NodeMap index) (bit_and word (bit_not w64 (bit_of bit)))
        whole write (λ m used e. cc))
        (λ m l used. write.others (Node m KeyWord) l (λ e. cc))
        (λ m l used. write.others (Node m OwnerWord) l (λ e. cc)) (λ m. refl)
        stays-same (λ port τ j is. is.unbound) bucket
        (λ w each x has. let none = knows.only.nodes x has.mine in absurd (cc)) knows.means.bucket))

    -- what an operation of the taking leads to
    abbrev pub TakeMoved : Op → TakeNodeModel × Next (Option ℕ) → Type 0
    TakeMoved op r = SilentStep env mix c words G op (holding None) (holding (taken_by r))
        (knowing (taken_by r) (known_taken r))

    -- of a taking in this table, state by state
    take_step_at : (start : ℕ) (at : TakeNodeAt) → IsTakeAtIn env.geometry at → knowing None None M G
        → let take : TakeNodeModel = record { geometry = env.geometry; start = start; at = at } in
        TakeMoved (take_node_plan take) (take_node_after take (old_of words (take_node_plan take)))
    take_step_at start (takes.MapWord index) range knows =
        let take : TakeNodeModel = record { geometry = env.geometry; start = start; at = takes.MapWord index } in
        let op = take_node_plan take in
        let step = loads env mix c words G op (holding None) (holding None) (knowing None None) whole
        refl refl knows in
        claim_so take (TakeMoved op) (λ at. step) step index (old_of words op)
    take_step_at start (takes.Claim index bit) range knows =
        let take : TakeNodeModel = record { geometry = env.geometry; start = start; at = takes.Claim index bit } in
        let op = take_node_plan take in
        let word = old_of words op in
        by_test (λ t. (bit_at word bit == 1) ≡ t → TakeMoved op
        (cond t (take, Done (Some (64 * index + bit)))
        (claim_among take index (bit_and word (bits_above bit))))) (bit_at word bit == 1)
        (λ t e. claim_taken index bit range (eqb-true (bit_at word bit) 1 t) knows)
        (λ t e.
        let clear : bit_at word bit ≡ 0 = (let less = bit_at-lt word bit in let ne = eqb-false
        (bit_at word bit) 1 t in omega (arith, less, ne)) in
        let step = claim_lost index bit range clear knows in
        claim_so take (TakeMoved op) (λ at. step) step index (bit_and word (bits_above bit))) refl

    pub take_step : (take : TakeNodeModel) → IsTakeIn env.geometry take → knowing None None M G
        → TakeMoved (take_node_plan take) (take_node_after take (old_of words (take_node_plan take)))
    take_step take is knows =
        subst (λ g. let here : TakeNodeModel = record { geometry = g; start = take.start; at = take.at } in TakeMoved
        (take_node_plan here) (take_node_after here (old_of words (take_node_plan here))))
        (sym is.geometry_same) (take_step_at take.start take.at is.at_in knows)

    -- ---- a node is given back

    pub give_step : IsPlain env mix bucket → (known : KnownNode) → knowing (Some known.node) (Some known) M G
        → SilentStep env mix c words G (Or (place_of env.geometry (NodeMap (known.node / 64)))
        (bit_of (known.node % 64))) (holding (Some known.node)) (holding None) (knowing None None)
    give_step plain known knows =
        let n = known.node in
        let op = Or (place_of env.geometry (NodeMap (n / 64))) (bit_of (n % 64)) in
        let M' = mem env mix (applied words op) in
        let has = knows.means.node.has in
        let write = is_write env.geometry words (NodeMap (n / 64)) op all (omega (arith, has.among)) refl in
        silent env mix c words G op (holding (Some n)) (holding None) (knowing None None) (GivesNode n)
        whole knows.means.node.has.mine tt
        (give_node env mix c n M M' G whole has write)
        (record { giving = refl; has = refl; holds = refl })
        (plainly env mix (record {
          nodes = put-all (λ m o. o ≡ NodeHeld c → ◌≡◌ {A = Option ℕ} None (Some m)) G.node n Free
              (λ e. absurd (cc))
              (λ m ne held. let q = knows.only.nodes m held in absurd (ne (cc)));
          locks = knows.only.locks;
          raising = knows.only.raising;
          slots = knows.only.slots;
          pages_in = knows.only.pages_in;
          works = knows.only.works;
          reads = knows.only.reads;
        }) tt (tables-reowned n Free (ap is_used has.mine) refl knows.means.table) (BucketMeans-stay env mix c M M' G (with_owner G n Free)
        (members_used env mix M G whole) (λ j holds. refl) (λ j m h i. refl)
        (chains_stay env mix c M M' G (NodeMap (n / 64))
        (bit_or (M (NodeMap (n / 64))) (bit_of (n % 64))) whole write (λ m used e. cc))
        (λ m l used. write.others (Node m KeyWord) l (λ e. cc))
        (λ m l used. write.others (Node m OwnerWord) l (λ e. cc))
        (put-all (λ m o. is_taken_by c o ≡ is_taken_by c (G.node m)) G.node n Free
        (sym (ap (is_taken_by c) knows.means.node.has.mine)) (λ m ne. refl))
        (stays-reowned n Free (ap is_used has.mine) refl) (λ port τ j is. is.unbound) bucket plain
        knows.means.bucket))

    -- ---- a new node, state by state

    abbrev pub NewMoved : ℕ → ℕ → Op → NewNodeAt × Next (Option ℕ) → Type 0
    NewMoved key owner op r =
        SilentStep env mix c words G op (holding None) (holding (made_by r))
        (knowing (made_by r) (known_made key owner r))

    taken_next : (key owner : ℕ) (op : Op) (r : TakeNodeModel × Next (Option ℕ)) → TakeMoved op r
        → SilentStep env mix c words G op (holding None) (holding (made_by (node_taken r.0 r.1)))
        (knowing (made_by (node_taken r.0 r.1)) (known_made key owner (node_taken r.0 r.1)))
    taken_next key owner op (take, Go) step = step
    taken_next key owner op (take, Done None) step = step
    taken_next key owner op (take, Done (Some node)) step = step

    -- what an operation of the making leads to, from what the call holds at its state
    abbrev pub NewStep : NewNodeModel → Type 0
    NewStep m =
        let r = new_node_after m (old_of words (new_node_plan m)) in
        SilentStep env mix c words G (new_node_plan m) (holding (node_of_new m.at))
        (holding (made_by (r.0.at, r.1))) (knowing (made_by (r.0.at, r.1))
        (known_made m.key m.owner (r.0.at, r.1)))

    new_step_at : IsPlain env mix bucket → (key owner : ℕ) (at : NewNodeAt)
        → IsNewNodeIn env.geometry (record { geometry = env.geometry; key = key; owner = owner; at = at })
        → knowing (node_of_new at) (known_at key owner at) M G
        → NewStep (record { geometry = env.geometry; key = key; owner = owner; at = at })
    new_step_at plain key owner (news.Taking take) is knows =
        taken_next key owner (take_node_plan take) (take_node_after take
        (old_of words (take_node_plan take))) (take_step take is.at_in knows)
    new_step_at plain key owner (news.Key node) is knows = fill_step plain (bare node) KeyWord key knows
    new_step_at plain key owner (news.Owner node) is knows = fill_step plain
        (with_word (bare node) KeyWord key) OwnerWord owner knows
    new_step_at plain key owner (news.ListLink node) is knows =
        fill_step plain (with_word (with_word (bare node) KeyWord key) OwnerWord owner) ListLink 0 knows

    pub new_node_step : IsPlain env mix bucket → (m : NewNodeModel) → IsNewNodeIn env.geometry m
        → knowing (node_of_new m.at) (known_at m.key m.owner m.at) M G
        → NewStep m
    new_node_step plain m is knows =
        subst (λ g. NewStep (record { geometry = g; key = m.key; owner = m.owner; at = m.at }))
        (sym is.geometry_same)
        (new_step_at plain m.key m.owner m.at (record {
          geometry_same = refl;
          key_in = is.key_in;
          owner_in = is.owner_in;
          at_in = is.at_in;
        }) knows)
