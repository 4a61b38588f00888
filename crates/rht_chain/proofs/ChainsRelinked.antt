-- One store gives a locked bucket another chain, and the bucket is unlocked by it or by a second one.
--
-- With a node before, the store changes the link behind that node: it is the last one that stays, and no node stands
-- twice, so the links behind the others are as they were. With none before, it changes the bucket's word alone.
use Rattle.std.proofs.Common.{◌≡◌, ℕ, ◌+◌, ◌%◌, ◌<◌, List, [], ◌∷◌, ◌++◌, get_or, Some, refl, sym, ap, ◌∙◌, subst, arith}
use Rattle.std.proofs.lemmas.Bool.Decides.{nat_tests}
use Rattle.std.specs.List.{last_or}
use Rattle.rht_words.specs.declared.op.Op.{Op}
use Rattle.rht_words.specs.declared.op.Op.TheVariants.{Store}
use Rattle.rht_words.specs.declared.geometry.Geometry.{Geometry}
use Rattle.rht_words.specs.Links.{head_of, plain_of, unlocked}
use Rattle.rht_words.specs.Places.{PageWord, Node, ChainLink, place_of, word_at}
use Rattle.rht_words.specs.Operations.{applied}
use Rattle.rht_words.specs.Chains.{IsSegment, HasChain, chain_in}
use Rattle.rht_words.specs.Laws.{ChangesOneWord}
use Rattle.rht_words.proofs.WordChanges.{changes_one_word}
use Rattle.rht_words.proofs.LinksRead.{heads_come_back}
use Rattle.rht_words.proofs.ChainLemmas.{IsSegment-same, IsSegment-relinked}
use Rattle.rht_words.proofs.EachElement.{last_or-All}
use Rattle.rht_words.proofs.MachineRuns.{ends_now, ends_later}
use Rattle.rht_chain.specs.Relink.{relink_new, relink_plan, relink_after}
use Rattle.rht_chain.specs.Laws.{CanRelink, IsRelinked, RelinksChains, relinking}

-- a link that comes back from a bucket's word is stored there as an even word
plain_of-even : (place link : ℕ) → head_of place (plain_of place link) ≡ link → plain_of place link % 2 ≡ 0
plain_of-even place link back = grind (arith, nat_tests)

-- the first link of a segment comes back from a bucket's word, where the last one does
comes_back : (chain : ℕ → ℕ) (place link : ℕ) (nodes : List ℕ) (stop : ℕ)
    → IsSegment chain link nodes stop → head_of place (plain_of place stop) ≡ stop
    → head_of place (plain_of place link) ≡ link
comes_back chain place link [] stop segment back =
    subst (λ l. head_of place (plain_of place l) ≡ l) (sym segment) back
comes_back chain place link (node ∷ nodes) stop segment back =
    subst (λ l. head_of place (plain_of place l) ≡ l) (sym segment.0) (heads_come_back.head_link place node)

-- the lock isn't part of the first link
head_of-locked : (place word : ℕ) → word % 2 ≡ 0 → head_of place (word + 1) ≡ head_of place word
head_of-locked place word even =
    let same : unlocked (word + 1) ≡ unlocked word = omega (arith, even) in rw same refl

-- a list that isn't empty has a last node
last_of : (node : ℕ) (nodes : List ℕ) → (last : ℕ) × (last_or (Some node) nodes ≡ Some last)
last_of node [] = (node, refl)
last_of node (next ∷ nodes) = last_of next nodes

module _ (g : Geometry) (words : List ℕ) (index word link : ℕ) (behind : List ℕ) (stop : ℕ) where
  abbrev place : ℕ
  place = place_of g (PageWord index)

  -- with no node before, the link becomes the bucket's first
  at_head : CanRelink g words index word [] link behind stop
      → IsRelinked g words index [] behind stop (relinking g index word [] link)
  at_head can =
      let value = plain_of place link in
      let changes : ChangesOneWord g words (PageWord index) (Store place value) =
      changes_one_word g words (PageWord index) (Store place value) can.whole can.bucket refl in
      let back : head_of place value ≡ link =
      comes_back (chain_in g words) place link behind stop can.rest can.comes_back in
      let first : head_of place (word_at g (applied words (Store place value)) (PageWord index)) ≡ link =
      ap (λ w. head_of place w) changes.changed ∙ back in
      let segment : IsSegment (chain_in g (applied words (Store place value))) link behind stop =
      IsSegment-same (chain_in g words) (chain_in g (applied words (Store place value))) behind link stop
      (λ k d l. changes.others (Node (get_or behind k d) ChainLink) (can.within k d l) (λ same. (cc)))
      can.rest in
      let chain : HasChain g (applied words (Store place value)) index behind stop =
      subst (λ l. IsSegment (chain_in g (applied words (Store place value))) l behind stop) (sym first)
      segment in
      record {
        at_once = chain;
        left = applied words (Store place value);
        ends =
            ends_now relink_plan (λ machine old. relink_after machine) (relinking g index word [] link)
            words tt refl;
        chain = chain;
        unlocked = ap (λ w. w % 2) changes.changed ∙ plain_of-even place link back;
        others = λ other its apart off. changes.others other its apart;
      }

  -- with a node before, the link behind that node is changed, and then the bucket is unlocked
  behind_node : (node : ℕ) (nodes : List ℕ) (last : ℕ) → last_or (Some node) nodes ≡ Some last
      → CanRelink g words index word (node ∷ nodes) link behind stop
      → IsRelinked g words index (node ∷ nodes) behind stop (relink_new g place word (Some last) link)
  behind_node node nodes last is can =
      let all = (node ∷ nodes) ++ behind in
      let there : last < g.nodes = last_or-All (λ n. n < g.nodes) node last nodes behind is can.within in
      let links : Op = Store (place_of g (Node last ChainLink)) link in
      let linked = applied words links in
      let change : ChangesOneWord g words (Node last ChainLink) links =
      changes_one_word g words (Node last ChainLink) links can.whole there refl in
      let bucket_stays : word_at g linked (PageWord index) ≡ word_at g words (PageWord index) =
      change.others (PageWord index) can.bucket (λ same. (cc)) in
      let segment : IsSegment (chain_in g linked) (head_of place (word_at g words (PageWord index))) all stop =
      IsSegment-relinked (chain_in g words) (chain_in g linked) last link stop behind change.changed can.rest
      node nodes (head_of place (word_at g words (PageWord index))) can.middle is
      (λ k d l differ. change.others (Node (get_or all k d) ChainLink) (can.within k d l)
      (λ same. differ (cc))) can.distinct can.front in
      let unlocks : Op = Store place word in
      let ended = applied linked unlocks in
      let letting_go : ChangesOneWord g linked (PageWord index) unlocks =
      changes_one_word g linked (PageWord index) unlocks (change.count ∙ can.whole) can.bucket refl in
      let first : head_of place (word_at g ended (PageWord index)) ≡ head_of place (word_at g words (PageWord index)) =
      ap (λ w. head_of place w) letting_go.changed
      ∙ (sym (head_of-locked place word can.even) ∙ ap (λ w. head_of place w) (sym can.locked)) in
      let kept : IsSegment (chain_in g ended) (head_of place (word_at g words (PageWord index))) all stop =
      IsSegment-same (chain_in g linked) (chain_in g ended) all
      (head_of place (word_at g words (PageWord index))) stop
      (λ k d l. letting_go.others (Node (get_or all k d) ChainLink) (can.within k d l) (λ same. (cc)))
      segment in
      let m = relink_new g place word (Some last) link in
      record {
        at_once = subst (λ w. IsSegment (chain_in g linked) (head_of place w) all stop)
            (sym bucket_stays) segment;
        left = ended;
        ends =
            ends_later relink_plan (λ machine old. relink_after machine) m words tt ended refl
            (ends_now relink_plan (λ machine old. relink_after machine) (relink_after m).0 linked tt refl);
        chain = subst (λ l. IsSegment (chain_in g ended) l all stop) (sym first) kept;
        unlocked = ap (λ w. w % 2) letting_go.changed ∙ can.even;
        others = λ other its apart off. letting_go.others other its apart
            ∙ change.others other its (off last is);
      }

pub relinks_chains : RelinksChains
relinks_chains g words index word [] link behind stop can = at_head g words index word link behind stop can
relinks_chains g words index word (node ∷ nodes) link behind stop can =
    let last = last_of node nodes in
    subst (λ before. IsRelinked g words index (node ∷ nodes) behind stop
    (relink_new g (place_of g (PageWord index)) word before link)) (sym last.1)
    (behind_node g words index word link behind stop node nodes last.0 last.1 can)
