-- How far the reading of one feed has come, and what its ports have handed in of its entries.
use Rattle.std.specs.Prelude.{◌≡◌, ◌≤◌, ◌<◌, ◌++◌, ℕ, true, false, List, [], ◌∷◌, length, All, None, ⊤, slice_index_or}
use Rattle.stream_base.specs.declared.entry.Entry.{Entry}
use Rattle.stream_base.specs.Model.Journals.{is_entry_within}
use Rattle.stream_base.specs.Model.Routes.{routed}
use Rattle.stream_base.specs.Model.What.{is_end}
use Rattle.source_feed.specs.FeedView.{FeedView}
use Rattle.fan_in.specs.declared.outcome.Outcome.{Outcome}
use Rattle.fan_in.specs.declared.outcome.Outcome.TheVariants.{Done, Fault, Full}
use Rattle.fan_in.specs.declared.port.Port.{Ghosts}
use Rattle.fan_in.specs.Gathering.{FeedEnded, NamesOneOf}
use Rattle.fan_in.specs.Ports.{HasHanded, IsHalfway, MayFollow}

-- no entry but the last is an end
abbrev pub EndsLast : List Entry → Type 0
EndsLast [] = ⊤
EndsLast (e ∷ es) = (is_end e.what ≡ true → es ≡ []) × EndsLast es

-- these are entries of this source alone, within the limits, and no entry but the last is an end
pub record AreFrom (source : ℕ) (entries : List Entry) : Type 0 where
  pub own : All (λ e. e.source ≡ source) entries
  pub within : All (λ e. is_entry_within e ≡ true) entries
  pub last : EndsLast entries

-- `port` has what is said of each port
module _ {P I : Type 0} (port : Ghosts P I) where
  -- a port may take an entry: it is that of the entry's source, and the entry may follow what it has handed in
  pub record MayTake (entry : Entry) (p : P) : Type 0 where
    pub own_source : port.is_of entry.source p
    pub may : MayFollow (port.handed p) entry

  -- one port stands at each of at most 16 inlets, in their order
  pub record StandAt (inlets : List I) (ports : List P) : Type 0 where
    pub few : length inlets ≤ 16
    pub many : length ports ≡ length inlets
    pub own : (k : ℕ) (i : I) (p : P) → k < length ports → port.is_at (slice_index_or inlets k i) (slice_index_or ports k p)

  -- the same ports, in the same order
  pub record AreSame (old new : List P) : Type 0 where
    pub many : length new ≡ length old
    pub same : (k : ℕ) (p : P) → k < length old → port.is_same (slice_index_or old k p) (slice_index_or new k p)

  -- of one entry more, the ports have handed in what the outcome says
  abbrev pub HaveTaken : ℕ → Entry → Outcome → List P → List P → Type 0
  HaveTaken shards entry outcome old new = (k : ℕ) (p : P) → k < length old
      → HasHanded (port.handed (slice_index_or old k p) ++ routed shards k (entry ∷ [])) k outcome (port.handed (slice_index_or new k p)) (port.is_full (slice_index_or new k p))

  -- one entry more is taken: where all before it were taken, the ports have handed in of it what the outcome says; else nothing changes
  abbrev pub TakesMore : ℕ → Entry → Outcome → Outcome → List P → List P → Type 0
  TakesMore shards entry Done outcome old new = IsHalfway shards outcome × HaveTaken shards entry outcome old new
  TakesMore shards entry (Full shard) outcome old new = (outcome ≡ Full shard) × (new ≡ old)
  TakesMore shards entry (Fault fault) outcome old new = (outcome ≡ Fault fault) × (new ≡ old)

  -- a feed that wasn't read yet, and the ports of its source, which have handed nothing in yet
  pub record IsReady (start : FeedView) (outcome : Outcome) (ports : List P) : Type 0 where
    pub running : start.ended ≡ false
    pub unanswered : start.answered ≡ None
    pub unread : start.gave ≡ []
    pub done : outcome ≡ Done
    pub own_source : All (port.is_of start.source) ports
    pub blank : All (λ p. port.handed p ≡ []) ports

  -- the same feed and ports, which stand at these inlets
  pub record IsReadyAt (inlets : List I) (start : FeedView) (outcome : Outcome) (ports : List P) : Type 0 where
    pub stand : StandAt inlets ports
    pub ready : IsReady start outcome ports

  -- each port has handed in what is routed to its shard of the feed's entries, as far as the outcome says
  abbrev pub HaveHanded : ℕ → List Entry → Outcome → List P → Type 0
  HaveHanded shards entries outcome ports = (k : ℕ) (p : P) → k < length ports
      → HasHanded (routed shards k entries) k outcome (port.handed (slice_index_or ports k p)) (port.is_full (slice_index_or ports k p))

  -- a feed was read to its end or to a fault
  pub record IsRead (shards : ℕ) (start back : FeedView) (old new : ℕ) (outcome : Outcome) (ports : List P) : Type 0 where
    pub back_is : FeedEnded start back outcome old new
    pub named : NamesOneOf shards outcome
    pub from : All (λ p. AreFrom start.source (port.handed p)) ports
    pub parts : HaveHanded shards back.gave outcome ports

  -- a feed was read, and its ports are the same as before
  pub record WasRead (shards : ℕ) (start back : FeedView) (old new : ℕ) (outcome : Outcome) (before after : List P) : Type 0 where
    pub same : AreSame before after
    pub read : IsRead shards start back old new outcome after
