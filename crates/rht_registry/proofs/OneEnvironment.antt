-- A config and ways have one environment: its numbers are the config's, and what else it has are facts, each of which holds in one way.
use Rattle.std.proofs.Common.{◌≡◌, ℕ, sym, ◌∙◌, ap}
use Rattle.std.proofs.Props.{props}
use mathlib.Core.HLevel.{is_prop→PathP}
use Rattle.rht_words.specs.declared.config.Config.{Config}
use Rattle.rht_words.specs.declared.env.Env.{Env}
use Rattle.rht_words.specs.declared.geometry.Geometry.{Geometry}
use Rattle.rht_words.specs.Limits.{IsGeometry}
use Rattle.rht_words.specs.Settled.{IsSettled, IsGeometryOf}

one-geometry : (nodes pages callers : ℕ) → IsProp (IsGeometry nodes pages callers)
one-geometry nodes pages callers = hlevel props

one-settled : (config : Config) → IsProp (IsSettled config)
one-settled config = hlevel props

one-agreement : (config : Config) (g : Geometry) → IsProp (IsGeometryOf config g)
one-agreement config g = hlevel props

-- geometries of the same numbers are the same
Geometry-same : (g h : Geometry) → g.nodes ≡ h.nodes → g.pages ≡ h.pages → g.callers ≡ h.callers → g ≡ h
Geometry-same g h nodes pages callers = λ i. record {
  nodes = nodes i;
  pages = pages i;
  callers = callers i;
  within =
      is_prop→PathP (λ j. IsGeometry (nodes j) (pages j) (callers j)) (λ j. one-geometry (nodes j) (pages j) (callers j)) g.within
      h.within i;
}

-- environments of the same config and ways are the same
pub Env-same : (env other : Env) → env.config ≡ other.config → env.ways ≡ other.ways → env ≡ other
Env-same env other same ways =
    let nodes = env.agrees.nodes_same ∙ ap (λ (k : Config). k.nodes) same ∙ sym other.agrees.nodes_same in
    let pages = env.agrees.pages_same ∙ ap (λ (k : Config). k.pages) same ∙ sym other.agrees.pages_same in
    let callers = env.agrees.callers_same ∙ ap (λ (k : Config). k.callers) same ∙ sym other.agrees.callers_same in
    let geometry : env.geometry ≡ other.geometry = Geometry-same env.geometry other.geometry nodes pages callers in
    (λ i. record {
      geometry = geometry i;
      config = same i;
      ways = ways i;
      settled = is_prop→PathP (λ j. IsSettled (same j)) (λ j. one-settled (same j)) env.settled other.settled i;
      agrees =
          is_prop→PathP (λ j. IsGeometryOf (same j) (geometry j)) (λ j. one-agreement (same j) (geometry j)) env.agrees other.agrees
          i;
    })
