-- Each handle of a table that has just been opened has a pass of that table.
use Rattle.std.proofs.Common.{◌≡◌, ℕ, ◌+◌, List, [], ◌∷◌, map, sym, subst}
use Rattle.std.specs.List.{AllByRecursion}
use Rattle.rht_words.specs.declared.config.Config.{Config}
use Rattle.rht_words.specs.declared.config.Hash.{Hash}
use Rattle.rht_words.specs.declared.config.Hash.TheVariants as hashes
use Rattle.rht_policy.specs.declared.mix.Lookup3.{Lookup3}
use Rattle.rht_policy.specs.declared.mix.Low.{Low}
use Rattle.rht_policy.specs.Mix.{final_mix, low_mix}
use Rattle.rht_run.specs.declared.table.Table.{Table}
use Rattle.rht_run.specs.Passes.{IsPassOf}
use Rattle.rht_session.specs.declared.shared.Shared.{Shared}
use Rattle.rht_session.specs.declared.session.Session.{Session}
use Rattle.rht_session.specs.declared.session.Session.TheVariants as sessions
use Rattle.rht_session.specs.declared.handle.Handle.{Handle}
use Rattle.rht_session.specs.Sessions.{IsFit, AreNewFrom, AreOpened}
use Rattle.rht_session.specs.Handles.{sessions_of, IsFitHandle}

-- by induction over the callers
mixed_fit : (t : Table Lookup3) (n : ℕ) (all : List (Shared Lookup3)) → AreNewFrom final_mix t n all
    → AllByRecursion IsFit (map sessions.Mix all)
mixed_fit t n [] new = tt
mixed_fit t n (shared ∷ all) new =
    (subst (λ (u : Table Lookup3). IsPassOf final_mix u shared.pass) (sym new.0) new.1.pass, mixed_fit t (n + 1) all new.2)

low_fit : (t : Table Low) (n : ℕ) (all : List (Shared Low)) → AreNewFrom low_mix t n all → AllByRecursion IsFit (map sessions.Low all)
low_fit t n [] new = tt
low_fit t n (shared ∷ all) new =
    (subst (λ (u : Table Low). IsPassOf low_mix u shared.pass) (sym new.0) new.1.pass, low_fit t (n + 1) all new.2)

pub opened_fit : (config : Config) (hash : Hash) (opened : List Session) → AreOpened config hash opened → AllByRecursion IsFit opened
opened_fit config hashes.Mix opened are =
    subst (AllByRecursion IsFit) (sym are.1) (mixed_fit are.2.table 0 are.0 are.2.new)
opened_fit config hashes.Low opened are =
    subst (AllByRecursion IsFit) (sym are.1) (low_fit are.2.table 0 are.0 are.2.new)

-- by induction over the handles
pub handles_fit : (handles : List Handle) (opened : List Session)
    → map sessions_of handles ≡ map (λ (session : Session). session ∷ []) opened → AllByRecursion IsFit opened
    → AllByRecursion IsFitHandle handles
handles_fit [] opened same fit = tt
handles_fit (handle ∷ handles) [] same fit = absurd (cc)
handles_fit (handle ∷ handles) (session ∷ opened) same fit =
    let here : sessions_of handle ≡ session ∷ [] = cc in
    let behind : map sessions_of handles ≡ map (λ (s : Session). s ∷ []) opened = cc in
    (subst (AllByRecursion IsFit) (sym here) (fit.0, tt), handles_fit handles opened behind fit.1)
