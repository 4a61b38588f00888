-- The count of ports is raised for a node that the caller has not linked yet.
use Rattle.std.proofs.Common.{◌≡◌, ℕ, ◌+◌, ◌%◌, ◌^◌, ◌<◌, List, length, Option, Bool, true, false, refl}
use Rattle.rht_words.specs.declared.env.Env.{Env}
use Rattle.rht_words.specs.declared.op.Op.TheVariants.{Add}
use Rattle.rht_words.specs.Operations.{applied}
use Rattle.rht_words.specs.Places.{PortCount, Node, KeyWord, OwnerWord, place_of, words_in}
use Rattle.rht_words.proofs.Memory.{Memory, IsWrite, is_write}
use Rattle.rht_ghost.proofs.Theory.Ghosts.{put-same, Ghost, with_raised}
use Rattle.rht_ghost.proofs.Theory.Wholes.{Whole}
use Rattle.rht_ghost.proofs.Theory.Knowns.{KnownNode, KnownTable, KnownBucket, knows_plain}
use Rattle.rht_ghost.proofs.Theory.Knowledge.{plainly, Knowing}
use Rattle.rht_ghost.proofs.Theory.Reliance.{members_used}
use Rattle.rht_ghost.proofs.Theory.KnowledgeStays.{NodeMeans-stay, TableMeans-stay, BucketMeans-own}
use Rattle.rht_ghost.proofs.Theory.Frames.{chains_stay, tables_stay}
use Rattle.rht_ghost.proofs.Theory.WholeFrames.{same_chains, chains_passes}
use Rattle.rht_ghost.proofs.Theory.Steps.{Raises, Holding, mem, SilentStep, silent}
use Rattle.rht_ghost.proofs.Moves.Quiet.{count_up}

module _ (env : Env) (mix : ℕ → ℕ → ℕ → ℕ) (c : ℕ) (h : Holding)
    (node : Option KnownNode) (table : KnownTable) (bucket : KnownBucket) where
  abbrev pub holding : Bool → Holding
  holding raised = record h { raised = raised }

  abbrev pub knowing : Bool → Memory → Ghost → Type 0
  knowing raised M G = Knowing env mix c (holding raised) (knows_plain node table bucket) M G

  pub raise_step : (words : List ℕ) (G : Ghost) → length words ≡ words_in env.geometry
      → Whole env mix (mem env mix words) G
      → c < env.geometry.callers → knowing false (mem env mix words) G
      → SilentStep env mix c words G (Add (place_of env.geometry PortCount) 1) (holding false) (holding true)
      (knowing true)
  raise_step words G all whole low knows =
      let op = Add (place_of env.geometry PortCount) 1 in
      let M = mem env mix words in
      let M' = mem env mix (applied words op) in
      let G' = with_raised G c true in
      let write : IsWrite env.geometry M M' PortCount ((M PortCount + 1) % 2 ^ 64) =
      is_write env.geometry words PortCount op all tt refl in
      let same = same_chains env mix G G'.raised in
      let stay = tables_stay env mix M G G' whole same.tables (chains_passes env mix M G G' whole same) in
      silent env mix c words G op (holding false) (holding true) (knowing true) Raises whole tt tt
      (count_up env mix c M M' G whole low knows.only.raising write)
      (record { adds = refl; low = refl; holds = refl })
      (plainly env mix (record {
        nodes = knows.only.nodes;
        locks = knows.only.locks;
        raising = put-same G.raised c true;
        slots = knows.only.slots;
        pages_in = knows.only.pages_in;
        works = knows.only.works;
        reads = knows.only.reads;
      }) (NodeMeans-stay env mix c M M' G G' (λ n has. has.mine)
      (λ n has w. write.others (Node n w) has.among (λ e. cc)) node knows.means.node) (TableMeans-stay env mix c M M' G G'
      refl stay table knows.means.table) (BucketMeans-own env mix c M M' G G' (members_used env mix M G whole) (λ j holds. refl)
      (λ j n h i. refl)
      (chains_stay env mix c M M' G PortCount ((M PortCount + 1) % 2 ^ 64) whole write
      (λ n used e. cc))
      (λ n l used. write.others (Node n KeyWord) l (λ e. cc))
      (λ n l used. write.others (Node n OwnerWord) l (λ e. cc)) (λ n. refl) stay
      (λ port τ j is. is.unbound) bucket
      (λ w each n has. (record { mine = has.mine; among = has.among }, write.others (Node n w) has.among (λ e. cc)))
      knows.means.bucket))
