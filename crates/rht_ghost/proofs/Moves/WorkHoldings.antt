-- What the caller that does the work has after each of its moves, and that it has nothing more.
use Rattle.std.proofs.Common.{◌≡◌, ◌⊎◌, ℕ, ◌+◌, List, Option, Some, None, Bool, true, sym, ◌∙◌, ap, inl, inr, arith}
use Rattle.rht_words.specs.declared.env.Env.{Env}
use Rattle.rht_ghost.proofs.Theory.Ghosts.{put, put-all, NodeHeld, SlotOwner, First, Leaving, Ghost, slot_holder, none-some, some-same}
use Rattle.rht_ghost.proofs.Theory.Wholes.{place_at, word_index, index-place_at}
use Rattle.rht_ghost.proofs.Theory.Knowledge.{HasOnly, ReadsFrom-later}
use Rattle.rht_ghost.proofs.Theory.Readiness.{linked_bucket}
use Rattle.rht_ghost.proofs.Theory.Departures.{with_standing, with_worker, published, left_by, left, arrived, cut_by, cut_off}

module _ (env : Env) (mix : ℕ → ℕ → ℕ → ℕ) (c : ℕ) (G : Ghost) (node lock second : Option ℕ) (raised : Bool)
    (slot : Option ℕ) (pages : List ℕ) (worker section : Bool)
    (only : HasOnly env mix c G node lock second raised slot pages worker section) where
  -- it has locked the bucket at one of the two places
  abbrev LocksOne : Option ℕ → Option ℕ → ℕ → Type 0
  LocksOne first other j = (first ≡ Some (place_at env mix j)) ⊎ (other ≡ Some (place_at env mix j))

  pub left_only : (j : ℕ) (nodes : List ℕ) (entry : ℕ)
      → HasOnly env mix c (left G j nodes entry) node lock second raised slot pages worker section
  left_only j nodes entry = record {
    nodes = put-all (λ k o. o ≡ NodeHeld c → node ≡ Some k) G.node entry (Leaving j) (λ e. absurd (cc))
        (λ k ne. only.nodes k);
    locks = put-all (λ k b. b.holder ≡ Some c → LocksOne lock second k) G.bucket j
        (left_by (G.bucket j) nodes entry) (only.locks j) (λ k ne. only.locks k);
    raising = only.raising;
    slots = only.slots;
    pages_in = only.pages_in;
    works = only.works;
    reads = only.reads;
  }

  -- the second lock is dropped with the store
  pub arrived_only : (i entry place : ℕ) → second ≡ Some place → place_at env mix i ≡ place
      → HasOnly env mix c (arrived G i entry) node lock None raised slot pages worker section
  arrived_only i entry place is at = record {
    nodes = put-all (λ k o. o ≡ NodeHeld c → node ≡ Some k) G.node entry (First i) (λ e. absurd (cc))
        (λ k ne. only.nodes k);
    locks = put-all (λ k b. b.holder ≡ Some c → LocksOne lock None k) G.bucket i
        (linked_bucket (G.bucket i) entry) (λ e. absurd (cc))
        (λ k ne e. elim (only.locks k e) [
          | inl first ↦ inl first
          | inr other ↦
              let same : place ≡ place_at env mix k = some-same place (place_at env mix k) (sym is ∙ other) in
              absurd (ne (sym (index-place_at env mix k) ∙ ap (word_index env mix) (sym same ∙ sym at)
              ∙ index-place_at env mix i))
        ]);
    raising = only.raising;
    slots = only.slots;
    pages_in = only.pages_in;
    works = only.works;
    reads = only.reads;
  }

  pub cut_only : (j : ℕ) (before : Option ℕ)
      → HasOnly env mix c (cut_off G j before) node lock second raised slot pages worker section
  cut_only j before = record {
    nodes = only.nodes;
    locks = put-all (λ k b. b.holder ≡ Some c → LocksOne lock second k) G.bucket j (cut_by (G.bucket j) before)
        (only.locks j) (λ k ne. only.locks k);
    raising = only.raising;
    slots = only.slots;
    pages_in = only.pages_in;
    works = only.works;
    reads = only.reads;
  }

  pub published_only : HasOnly env mix c (published G) node lock second raised slot pages worker section
  published_only = record {
    nodes = only.nodes;
    locks = only.locks;
    raising = only.raising;
    slots = only.slots;
    pages_in = only.pages_in;
    works = only.works;
    reads = ReadsFrom-later section (G.from c) G.current (G.current + 1) (omega arith) only.reads;
  }

  -- a slot gets an owner that is no caller
  pub restood_only : (s : ℕ) (owner : SlotOwner) → slot_holder owner ≡ None
      → HasOnly env mix c (with_standing G G.current (put G.slot s owner) G.worker) node lock second raised slot pages
      worker section
  restood_only s owner none = record {
    nodes = only.nodes;
    locks = only.locks;
    raising = only.raising;
    slots = put-all (λ k o. slot_holder o ≡ Some c → slot ≡ Some k) G.slot s owner (λ e. absurd (none-some none e))
        (λ k ne. only.slots k);
    pages_in = only.pages_in;
    works = only.works;
    reads = only.reads;
  }

  -- the work lock is taken or dropped
  pub worker_only : (by : Option ℕ) (now : Bool) → (by ≡ Some c → now ≡ true)
      → HasOnly env mix c (with_worker G by) node lock second raised slot pages now section
  worker_only by now works = record {
    nodes = only.nodes;
    locks = only.locks;
    raising = only.raising;
    slots = only.slots;
    pages_in = only.pages_in;
    works = works;
    reads = only.reads;
  }
