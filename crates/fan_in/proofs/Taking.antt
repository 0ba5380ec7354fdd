-- One entry that is handed in at the shards in turn.
use Rattle.std.proofs.Common.{◌≡◌, ◌≤◌, ◌<◌, ℕ, List, [], ◌∷◌, ◌++◌, get_or}
use Rattle.stream_base.specs.declared.entry.Entry.{Entry}
use Rattle.stream_base.specs.Model.Routes.{routed}
use Rattle.fan_in.specs.declared.outcome.Outcome.TheVariants.{Done}
use Rattle.fan_in.specs.declared.port.Port.{Ghosts}
use Rattle.fan_in.specs.Ports.{HasHanded}
use Rattle.fan_in.specs.Reading.{AreSame}

module _ {P I : Type 0} (port : Ghosts P I) (shards : ℕ) (entry : Entry) where
  -- the first shards took the entry, and the others were not asked yet
  pub record Taken (asked : ℕ) (old now : List P) : Type 0 where
    pub same : AreSame port old now
    pub rest : (k : ℕ) (p : P) → asked ≤ k → get_or now k p ≡ get_or old k p
    pub taken : (k : ℕ) (p : P) → k < asked → HasHanded (port.handed (get_or old k p) ++ routed shards k (entry ∷ [])) k Done (port.handed (get_or now k p)) (port.is_full (get_or now k p))
