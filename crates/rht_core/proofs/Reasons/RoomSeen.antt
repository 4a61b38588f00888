-- What a bind has seen that goes on to raise the count of ports: behind the load of the last table's shape it counted a short chain, loaded that
-- table's future as none, and then a count by which there is room. From then on it loads nothing.
use Rattle.std.proofs.Common.{◌≡◌, ℕ, false, List, [], ◌∷◌, ◌++◌, min, sym, ap, ◌∙◌, subst, append_assoc}
use Rattle.std.specs.List.{AllByRecursion, Any}
use Rattle.std.proofs.lemmas.List.Quantifiers.{Any-push}
use Rattle.rht_words.specs.declared.op.Op.TheVariants.{Load}
use Rattle.rht_words.specs.declared.env.Env.{Env}
use Rattle.rht_words.specs.Places.{PortCount, place_of}
use Rattle.rht_words.specs.Shapes.{unpacked, size_of}
use Rattle.rht_words.proofs.EachElement.{Any-append_left}
use Rattle.rht_policy.specs.Thresholds.{is_above_100, is_above_max}
use Rattle.rht_core.specs.Traces.{Did}
use Rattle.rht_core.specs.ResizeCauses.{IsUnboundAt, SawNoneBehind, SawShortChain, IsNoKeyLoad}
use Rattle.rht_core.specs.RoomCauses.{IsRaise}
use Rattle.rht_core.specs.Seen.{TurnsNoSection}
use Rattle.rht_core.proofs.Reasons.TablesWalked.{IsNoRaise}
use Rattle.rht_core.proofs.Reasons.ChainsCounted.{SawShortChain-push}

-- where these are the words before the event with each number, of a bind of this port
module _ (env : Env) (words_at : ℕ → List ℕ) (mix : ℕ → ℕ → ℕ → ℕ) (port : ℕ) where
  -- the operation loaded a count by which there is room in a table of this shape, while the port had no owner
  pub record LoadedRoom (shape : ℕ) (did : Did) : Type 0 where
    pub loaded : did.op ≡ Load (place_of env.geometry PortCount)
    pub below : is_above_max (min did.old 65536) env.config.max ≡ false
    pub within : is_above_100 (min did.old 65536) (size_of (unpacked shape)) env.config.max ≡ false
    pub unbound : IsUnboundAt env.geometry words_at port did

  -- the chain is short, and no table is behind
  pub record ShortSeen (table shape : ℕ) (behind : List Did) : Type 0 where
    pub chain : SawShortChain env.geometry words_at mix port table shape behind
    pub none : Any (SawNoneBehind env.geometry words_at port table) behind

  -- and there is room
  pub record RoomSeen (table shape : ℕ) (behind : List Did) : Type 0 where
    pub short : ShortSeen table shape behind
    pub room : Any (LoadedRoom shape) behind

  ShortSeen-push : (table shape : ℕ) (behind : List Did) (did : Did) → IsNoKeyLoad env.geometry did → ShortSeen table shape behind
      → ShortSeen table shape (behind ++ did ∷ [])
  ShortSeen-push table shape behind did no_key short = record {
    chain = SawShortChain-push env.geometry words_at mix port table shape behind did no_key short.chain;
    none = Any-append_left (SawNoneBehind env.geometry words_at port table) behind (did ∷ []) short.none;
  }

  pub RoomSeen-push : (table shape : ℕ) (behind : List Did) (did : Did) → IsNoKeyLoad env.geometry did → RoomSeen table shape behind
      → RoomSeen table shape (behind ++ did ∷ [])
  RoomSeen-push table shape behind did no_key seen = record {
    short = ShortSeen-push table shape behind did no_key seen.short;
    room = Any-append_left (LoadedRoom shape) behind (did ∷ []) seen.room;
  }

  -- the load of the count sees it
  pub room-seen : (table shape : ℕ) (behind : List Did) (did : Did) → IsNoKeyLoad env.geometry did → LoadedRoom shape did
      → ShortSeen table shape behind → RoomSeen table shape (behind ++ did ∷ [])
  room-seen table shape behind did no_key loaded short = record {
    short = ShortSeen-push table shape behind did no_key short;
    room = Any-push (LoadedRoom shape) behind did loaded;
  }

  -- the first of these operations that raised the count came behind all that
  pub record RaisedSeen (table shape : ℕ) (behind : List Did) : Type 0 where
    pub before : List Did
    pub at : Did
    pub rest : List Did
    pub split : behind ≡ before ++ at ∷ rest
    pub raises : IsRaise env.geometry at
    pub inside : AllByRecursion (TurnsNoSection env.geometry) before
    pub first : AllByRecursion (IsNoRaise env.geometry) before
    pub seen : RoomSeen table shape before

  pub RaisedSeen-push : (table shape : ℕ) (behind : List Did) (did : Did) → RaisedSeen table shape behind
      → RaisedSeen table shape (behind ++ did ∷ [])
  RaisedSeen-push table shape behind did raised = record {
    before = raised.before;
    at = raised.at;
    rest = raised.rest ++ did ∷ [];
    split = ap (λ l. l ++ did ∷ []) raised.split ∙ append_assoc raised.before (raised.at ∷ raised.rest) (did ∷ []);
    raises = raised.raises;
    inside = raised.inside;
    first = raised.first;
    seen = raised.seen;
  }

  -- so one of them did
  pub some-raised : (table shape : ℕ) (behind : List Did) → RaisedSeen table shape behind → Any (IsRaise env.geometry) behind
  some-raised table shape behind raised =
      subst (Any (IsRaise env.geometry)) (append_assoc raised.before (raised.at ∷ []) raised.rest ∙ sym raised.split)
      (Any-append_left (IsRaise env.geometry) (raised.before ++ raised.at ∷ []) raised.rest
      (Any-push (IsRaise env.geometry) raised.before raised.at raised.raises))
