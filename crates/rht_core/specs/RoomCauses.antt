-- Why a bind that raised the count of ports wasn't refused: what its operations show of the room in the last table that it walked.
use Rattle.std.specs.Prelude.{◌≡◌, ℕ, false, ◌<◌, List, ◌∷◌, ◌++◌}
use Rattle.std.specs.List.{AllByRecursion, Any}
use Rattle.rht_words.specs.declared.op.Op.TheVariants.{Add}
use Rattle.rht_words.specs.declared.env.Env.{Env}
use Rattle.rht_words.specs.declared.geometry.Geometry.{Geometry}
use Rattle.rht_words.specs.Places.{PortCount, place_of}
use Rattle.rht_words.specs.Shapes.{unpacked, size_of}
use Rattle.rht_policy.specs.Sizes.{most_ports}
use Rattle.rht_policy.specs.Thresholds.{is_above_100}
use Rattle.rht_core.specs.declared.event.Event.{Event}
use Rattle.rht_core.specs.Traces.{Did}
use Rattle.rht_core.specs.Seen.{TurnsNoSection, LastWalked, SawCount, words_before}
use Rattle.rht_core.specs.ResizeCauses.{IsUnboundAt, SawNoneBehind, SawShortChain}

-- the operation raised the count of ports
abbrev pub IsRaise : Geometry → Did → Type 0
IsRaise g did = did.op ≡ Add (place_of g PortCount) 1

module _ (M : Type 0) (mix : ℕ → ℕ → ℕ → ℕ) (env : Env) (events : List Event) (c port : ℕ) where
  -- The operation loaded a count of ports, and so many there were: fewer than the table may hold, and no more than a table of this shape has
  -- buckets, where that may grow. The port had no owner then.
  pub record SawRoom (shape : ℕ) (did : Did) : Type 0 where
    pub count : ℕ
    pub saw : SawCount M mix env events c count did
    pub below : count < most_ports env.config.max
    pub within : is_above_100 count (size_of (unpacked shape)) env.config.max ≡ false
    pub unbound : IsUnboundAt env.geometry (words_before M mix env events) port did

  -- Behind the load of the shape of the table in this slot, in the same section, the call raised the count. Before, it had
  -- counted fewer than 16 nodes in the port's bucket there, all that the bucket had at the event of one of its operations, and
  -- loaded no other key. It had loaded the table's future as none, while the port had no owner, and a count by which there is
  -- room.
  pub record RaisedInRoom (table shape : ℕ) (behind : List Did) : Type 0 where
    pub before : List Did
    pub at : Did
    pub rest : List Did
    pub split : behind ≡ before ++ at ∷ rest
    pub raises : IsRaise env.geometry at
    pub inside : AllByRecursion (TurnsNoSection env.geometry) before
    pub first : AllByRecursion (λ did. IsRaise env.geometry did → ⊥) before
    pub chain : SawShortChain env.geometry (words_before M mix env events) mix port table shape before
    pub none : Any (SawNoneBehind env.geometry (words_before M mix env events) port table) before
    pub room : Any (SawRoom shape) before

  -- A bind of this port that raised the count behind the last table that it walked had room there. In a table of lists one whose port is
  -- bound already raises none.
  pub record HadRoom (steps : List Did) : Type 0 where
    pub table : ℕ
    pub shape : ℕ
    pub walked : LastWalked env.geometry table shape steps
    pub room : Any (IsRaise env.geometry) walked.behind → RaisedInRoom table shape walked.behind
