-- The stores of a relinking in a locked bucket: what the first one writes, which lock is left behind it,
-- and how a machine's relinking stands.
use Rattle.std.proofs.Common.{◌≡◌, ◌≢◌, ◌⊎◌, ℕ, ◌<◌, ◌≤◌, List, length, Option, Some, None, Bool, true, false, refl, sym, ap, ◌∙◌, subst, inl, inr}
use Rattle.rht_words.specs.declared.env.Env.{Env}
use Rattle.rht_words.specs.declared.geometry.Geometry.{Geometry}
use Rattle.rht_words.specs.declared.op.Op.{Op}
use Rattle.rht_words.specs.Links.{plain_of}
use Rattle.rht_words.specs.Operations.{op_place, applied}
use Rattle.rht_words.specs.Places.{Node, NodeWord, ChainLink, PageWord, IsBucketPlace, nodes_at, pages_at, words_in}
use Rattle.rht_words.proofs.Memory.{Memory, IsWrite, is_write}
use Rattle.rht_chain.specs.LockedWalk.{IsNodeOrNone}
use Rattle.rht_chain.specs.Relink.{RelinkModel, relink_new, relink_plan, relink_at}
use Rattle.rht_chain.specs.declared.relink.RelinkAt.{RelinkAt}
use Rattle.rht_chain.specs.declared.relink.RelinkAt.TheVariants.{ChainLink as AtLink, Word}
use Rattle.rht_chain.specs.Relink.{has_relinked}
use Rattle.rht_ghost.proofs.Theory.Ghosts.{Bucket, Ghost}
use Rattle.rht_ghost.proofs.Theory.Wholes.{place_at, word_index, place_at-index, index-within}
use Rattle.rht_ghost.proofs.Theory.Knowledge.{HoldsLock}
use Rattle.rht_ghost.proofs.Theory.Steps.{mem}
use Rattle.rht_ghost.proofs.Theory.Readiness.{Change, changed}
use Rattle.rht_ghost.proofs.Moves.Relinking.{relink_address, relink_value, relinked}
use Rattle.rht_ghost.proofs.Pieces.Rebounds.{lock_stays, node_behind_maps, node_before_pages, bucket_behind_maps}

-- ---- how a relinking stands

-- a relinking of this link before its first store, and behind it, where it has still to unlock the bucket
abbrev pub relinking : Geometry → ℕ → ℕ → Option ℕ → ℕ → Bool → RelinkModel
relinking g place word before link false = relink_new g place word before link
relinking g place word before link true = record (relink_new g place word before link) { at = Word word }

-- at its beginning nothing is stored
pub unstored : (place link : ℕ) (before : Option ℕ)
    → has_relinked before (relink_at place link before) ≡ false
unstored place link None = refl
unstored place link (Some node) = refl

-- it is before its first store, or has a node before it and is behind that store
pub relinking_so : (g : Geometry) (place word link : ℕ) (So : Option ℕ → RelinkModel → Type 0)
    → ((before : Option ℕ) → So before (relinking g place word before link false))
    → ((node : ℕ) → So (Some node) (relinking g place word (Some node) link true))
    → (before : Option ℕ) (relink : RelinkModel)
    → relink ≡ relinking g place word before link (has_relinked before relink.at) → So before relink
relinking_so g place word link So first second before relink is = go before relink.at is
  where
    go : (b : Option ℕ) (at : RelinkAt)
        → let r : RelinkModel = record relink { at = at } in
        r ≡ relinking g place word b link (has_relinked b at) → So b r
    go None (AtLink node) is = subst (So None) (sym is) (first None)
    go None (Word w) is = subst (So None) (sym is) (first None)
    go (Some node) (AtLink n) is = subst (So (Some node)) (sym is) (first (Some node))
    go (Some node) (Word w) is = subst (So (Some node)) (sym is) (second node)

-- ---- its first store

-- the lock that is held behind the first store
abbrev pub lock_left : ℕ → Option ℕ → Option ℕ
lock_left place None = None
lock_left place (Some node) = Some place

module _ (env : Env) (mix : ℕ → ℕ → ℕ → ℕ) (place word link : ℕ) (before : Option ℕ) where
  abbrev pub first_store : Op
  first_store = relink_plan (relink_new env.geometry place word before link)

  abbrev j : ℕ
  j = word_index env mix place

  module _ (words : List ℕ) (all : length words ≡ words_in env.geometry)
      (bucket : IsBucketPlace env.geometry place)
      (before_in : IsNodeOrNone env.geometry before) where
    -- the store is on the bucket's word, or on the link of the node before
    pub relink_write : IsWrite env.geometry (mem env mix words) (mem env mix (applied words first_store))
        (relink_address j before) (relink_value (place_at env mix j) link before)
    relink_write = go before before_in
      where
        go : (b : Option ℕ) → IsNodeOrNone env.geometry b
            → let op = relink_plan (relink_new env.geometry place word b link) in
            IsWrite env.geometry (mem env mix words) (mem env mix (applied words op)) (relink_address j b)
            (relink_value (place_at env mix j) link b)
        go None within =
            let is = place_at-index env mix place bucket in
            let op = relink_plan (relink_new env.geometry place word None link) in
            let M' = mem env mix (applied words op) in
            subst (λ p. IsWrite env.geometry (mem env mix words) M' (PageWord j) (plain_of p link)) (sym is)
            (is_write env.geometry words (PageWord j) op all (index-within env mix place bucket) (sym is))
        go (Some node) within =
            let op = relink_plan (relink_new env.geometry place word (Some node) link) in
            is_write env.geometry words (Node node ChainLink) op all within refl

    -- behind the maps of nodes and pages
    pub relink_behind_maps : nodes_at env.geometry ≤ op_place first_store
    relink_behind_maps = go before
      where
        go : (b : Option ℕ)
            → nodes_at env.geometry ≤ op_place (relink_plan (relink_new env.geometry place word b link))
        go None = bucket_behind_maps env.geometry place bucket
        go (Some node) = node_behind_maps env.geometry node ChainLink

    -- the lock is left, and the store is on the link of the node before; or it is left no more, and the store is on the bucket's word
    pub relink_left_lock : (p : ℕ) (b : Bucket) (nodes : List ℕ)
        → ((lock_left place before ≡ Some place) × (op_place first_store < pages_at env.geometry))
        ⊎ ((lock_left place before ≡ None) × (op_place first_store ≡ place_at env mix j)
        × ((relinked p link b nodes before).holder ≡ None))
    relink_left_lock p b nodes = go before before_in
      where
        go : (o : Option ℕ) → IsNodeOrNone env.geometry o
            → let op = relink_plan (relink_new env.geometry place word o link) in
            ((lock_left place o ≡ Some place) × (op_place op < pages_at env.geometry))
            ⊎ ((lock_left place o ≡ None) × (op_place op ≡ place_at env mix j) × ((relinked p link b nodes o).holder ≡ None))
        go None within = inr (refl, sym (place_at-index env mix place bucket), refl)
        go (Some node) within = inl (refl, node_before_pages env.geometry node ChainLink within)

  -- a word of a node that is no link in a chain stays
  pub relink_leaves : (M M' : Memory)
      → IsWrite env.geometry M M' (relink_address j before) (relink_value (place_at env mix j) link before)
      → (n : ℕ) (w : NodeWord) → n < env.geometry.nodes → w ≢ ChainLink → M' (Node n w) ≡ M (Node n w)
  relink_leaves M M' write n w among other = go before write
    where
      go : (b : Option ℕ)
          → IsWrite env.geometry M M' (relink_address j b) (relink_value (place_at env mix j) link b)
          → M' (Node n w) ≡ M (Node n w)
      go None write = write.others (Node n w) among (λ e. cc)
      go (Some node) write = write.others (Node n w) among (λ e. other (cc))

  -- ---- what the caller has behind it

  module _ (c : ℕ) (G : Ghost) (lock : HoldsLock env mix c G place word) (change : Change) (nodes : List ℕ)
      (there : change.place ≡ j)
      (relinks : change.bucket ≡ relinked (place_at env mix j) link (G.bucket j) nodes before) where
    abbrev G' : Ghost
    G' = changed G c change

    -- the caller has the lock then only where it isn't dropped
    pub holder_left : change.bucket.holder ≡ Some c → lock_left place before ≡ Some place
    holder_left holds = go before (ap (λ b. b.holder) (sym relinks) ∙ holds)
      where
        go : (b : Option ℕ) → (relinked (place_at env mix j) link (G.bucket j) nodes b).holder ≡ Some c
            → lock_left place b ≡ Some place
        go None holds = absurd (cc)
        go (Some node) holds = refl

    -- with a node before, the bucket is locked still
    pub lock_kept : (node : ℕ) → before ≡ Some node → HoldsLock env mix c G' place word
    lock_kept node is =
        lock_stays env mix c G change place word nodes there
        (relinks ∙ ap (relinked (place_at env mix j) link (G.bucket j) nodes) is) lock
