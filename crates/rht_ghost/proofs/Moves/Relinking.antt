-- The store that gives a locked bucket another chain: where a node stood there stands another one, or none. With no node before it
-- the store is on the bucket's word, which it unlocks; else on the link of the node before.
use Rattle.std.proofs.Common.{◌≡◌, ◌≢◌, ℕ, ◌*◌, ◌%◌, ◌<◌, List, [], ◌∷◌, ◌++◌, Option, Some, None, refl, sym, ◌∙◌, ap, subst, inl, inr, arith}
use Rattle.std.proofs.lemmas.Bool.Decides.{nat_tests}
use Rattle.rht_words.specs.declared.env.Env.{Env}
use Rattle.rht_words.specs.Links.{link_of, head_of, plain_of, marker_of}
use Rattle.rht_words.specs.Chains.{IsSegment}
use Rattle.rht_words.specs.Places.{Address, Node, ChainLink, PageWord}
use Rattle.rht_words.specs.Members.{In, NotIn, IsDistinct}
use Rattle.rht_words.proofs.Memory.{Memory, IsWrite}
use Rattle.rht_words.proofs.LinksRead.{heads_come_back}
use Rattle.rht_words.proofs.ChainLemmas.{IsSegment-cut, IsSegment-members}
use Rattle.rht_words.proofs.Members.{in_and_not, In-append_left, In-append_right, IsDistinct-left, IsDistinct-apart}
use Rattle.rht_ghost.proofs.Theory.Ghosts.{Bucket}
use Rattle.rht_ghost.proofs.Theory.Wholes.{chain_of, place_at, stop, BucketRight}
use Rattle.rht_ghost.proofs.Theory.Knowns.{last_of}

-- ---- the last of a row

pub last_in : (nodes : List ℕ) (last : ℕ) → last_of nodes ≡ Some last → In last nodes
last_in [] last is = absurd (cc)
last_in (node ∷ []) last is = inl (let same : node ≡ last = cc in sym same)
last_in (node ∷ next ∷ nodes) last is = inr (last_in (next ∷ nodes) last is)

pub last_none : (nodes : List ℕ) → last_of nodes ≡ None → nodes ≡ []
last_none [] is = refl
last_none (node ∷ []) is = absurd (cc)
last_none (node ∷ next ∷ nodes) is = absurd (let more = last_none (next ∷ nodes) is in cc)

pub last_of-more : (nodes : List ℕ) (last : ℕ) → Some last ≡ last_of (nodes ++ last ∷ [])
last_of-more [] last = refl
last_of-more (node ∷ []) last = refl
last_of-more (node ∷ next ∷ nodes) last = last_of-more (next ∷ nodes) last

-- The link behind the last node of a row is stored, and what is behind it then is another segment.
pub segment_relinked : (links stored : ℕ → ℕ) (nodes behind : List ℕ) (last first middle next stop : ℕ)
    → last_of nodes ≡ Some last → stored last ≡ next → IsSegment stored next behind stop
    → ((node : ℕ) → In node nodes → node ≢ last → stored node ≡ links node) → IsDistinct nodes
    → IsSegment links first nodes middle → IsSegment stored first (nodes ++ behind) stop
segment_relinked links stored [] behind last first middle next stop is link rest stays distinct segment =
    absurd (cc)
segment_relinked links stored (node ∷ []) behind last first middle next stop is link rest stays distinct
    segment =
    let same : node ≡ last = cc in
    (segment.0, subst (λ l. IsSegment stored l behind stop) (sym (ap stored same ∙ link)) rest)
segment_relinked links stored (node ∷ more ∷ nodes) behind last first middle next stop is link rest stays
    distinct segment =
    let differs : node ≢ last = λ e. in_and_not last (more ∷ nodes) (last_in (more ∷ nodes) last is)
    (subst (λ n. NotIn n (more ∷ nodes)) e distinct.0) in
    let further = segment_relinked links stored (more ∷ nodes) behind last (links node) middle next stop
    is link rest
    (λ other i. stays other (inr i)) distinct.1 segment.1 in (
      segment.0,
      subst (λ l. IsSegment stored l (more ∷ (nodes ++ behind)) stop)
          (sym (stays node (inl refl) differs)) further,
    )

-- ---- the bucket

-- the first link of a segment comes back from a bucket's word, where the last one does
comes_back : (links : ℕ → ℕ) (place link : ℕ) (nodes : List ℕ) → IsSegment links link nodes (marker_of place)
    → head_of place (plain_of place link) ≡ link
comes_back links place link [] segment =
    subst (λ l. head_of place (plain_of place l) ≡ l) (sym segment) (heads_come_back.head_marker place)
comes_back links place link (node ∷ nodes) segment =
    subst (λ l. head_of place (plain_of place l) ≡ l) (sym segment.0) (heads_come_back.head_link place node)

plain_of-even : (place link : ℕ) → head_of place (plain_of place link) ≡ link → plain_of place link % 2 ≡ 0
plain_of-even place link back = grind (arith, nat_tests)

-- what is stored where, by the node before
abbrev pub relink_address : ℕ → Option ℕ → Address
relink_address j None = PageWord j
relink_address j (Some before) = Node before ChainLink

abbrev pub relink_value : ℕ → ℕ → Option ℕ → ℕ
relink_value place link None = plain_of place link
relink_value place link (Some before) = link

-- the bucket afterwards
abbrev pub relinked : ℕ → ℕ → Bucket → List ℕ → Option ℕ → Bucket
relinked place link b nodes None =
    record b { nodes = nodes; plain = plain_of place link; holder = None; armed = None }
relinked place link b nodes (Some before) = record b { nodes = nodes }

module _ (env : Env) (mix : ℕ → ℕ → ℕ → ℕ) (M M' : Memory) (j link : ℕ) (b : Bucket) where
  abbrev place : ℕ
  place = place_at env mix j

  -- The bucket has the nodes `front`, then one, then `rear`; from the link that is stored lie other nodes and then `rear`.
  pub record CanRelink (front : List ℕ) (node : ℕ) (rear new : List ℕ) : Type 0 where
    pub right : BucketRight env mix M j b
    pub still : b.out ≡ None
    pub split : b.nodes ≡ front ++ node ∷ rear
    pub within : j < 64 * env.geometry.pages
    pub behind : IsSegment (chain_of M) link (new ++ rear) (marker_of place)
    pub distinct : IsDistinct (front ++ (new ++ rear))
    pub among : (n : ℕ) → In n (front ++ (new ++ rear)) → n < env.geometry.nodes

  at_word : (front : List ℕ) (node : ℕ) (rear new : List ℕ) → CanRelink front node rear new → front ≡ []
      → IsWrite env.geometry M M' (PageWord j) (plain_of place link)
      → BucketRight env mix M' j (relinked place link b (front ++ (new ++ rear)) None)
  at_word front node rear new can none write =
      let back = comes_back (chain_of M) place link (new ++ rear) can.behind in
      let nodes : front ++ (new ++ rear) ≡ new ++ rear = ap (λ xs. xs ++ (new ++ rear)) none in
      let kept : IsSegment (chain_of M') link (new ++ rear) (marker_of place) =
      IsSegment-members (chain_of M) (chain_of M') link (new ++ rear) (marker_of place)
      (λ n i. write.others (Node n ChainLink) (can.among n (In-append_right n front (new ++ rear) i))
      (λ e. cc)) can.behind in
      record {
        locked = record {
          word_is = write.same ∙ omega arith;
          even = plain_of-even place link back;
        };
        chained = record { segment = rw can.still (rw back (rw nodes kept)); distinct = can.distinct };
      }

  behind_node : (front : List ℕ) (node : ℕ) (rear new : List ℕ) (before : ℕ) → CanRelink front node rear new
      → last_of front ≡ Some before → IsWrite env.geometry M M' (Node before ChainLink) link
      → BucketRight env mix M' j (relinked place link b (front ++ (new ++ rear)) (Some before))
  behind_node front node rear new before can last write =
      let first = head_of place b.plain in
      let distinct = IsDistinct-left front (new ++ rear) can.distinct in
      let before_in = last_in front before last in
      let cut = IsSegment-cut (chain_of M) front node rear first (marker_of place)
      (subst (λ nodes. IsSegment (chain_of M) first nodes (marker_of place)) can.split
      (subst (λ out. IsSegment (chain_of M) first b.nodes (stop env mix place out)) can.still
      can.right.chained.segment)) in
      let others : (n : ℕ) → In n (front ++ (new ++ rear)) → n ≢ before → chain_of M' n ≡ chain_of M n =
      λ n i ne. write.others (Node n ChainLink) (can.among n i) (λ e. ne (cc)) in
      let rest : IsSegment (chain_of M') link (new ++ rear) (marker_of place) =
      IsSegment-members (chain_of M) (chain_of M') link (new ++ rear) (marker_of place)
      (λ n i. others n (In-append_right n front (new ++ rear) i)
      (IsDistinct-apart front (new ++ rear) before n can.distinct before_in i)) can.behind in
      record {
        locked = record {
          word_is = write.others (PageWord j) can.within (λ e. cc) ∙ can.right.locked.word_is;
          even = can.right.locked.even;
        };
        chained = record {
          segment = rw can.still (segment_relinked (chain_of M) (chain_of M') front (new ++ rear) before first
              (link_of node) link (marker_of place) last write.same rest
              (λ n i ne. others n (In-append_left n front (new ++ rear) i) ne) distinct cut.0);
          distinct = can.distinct;
        };
      }

  -- with either store the bucket is right again
  pub relinked_right : (front : List ℕ) (node : ℕ) (rear new : List ℕ) (before : Option ℕ)
      → CanRelink front node rear new
      → before ≡ last_of front → IsWrite env.geometry M M' (relink_address j before)
      (relink_value place link before)
      → BucketRight env mix M' j (relinked place link b (front ++ (new ++ rear)) before)
  relinked_right front node rear new None can is write = at_word front node rear new can
      (last_none front (sym is)) write
  relinked_right front node rear new (Some before) can is write = behind_node front node rear new before
      can (sym is) write
