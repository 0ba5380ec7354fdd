-- What becomes of sessions where a tuple comes.
use Rattle.std.specs.Prelude.{◌≡◌, ◌≤◌, ◌<◌, ◌+◌, ◌++◌, ℕ, List, [], ◌∷◌, length, All}
use Rattle.std.specs.List.{flat_map}
use Rattle.stream_base.specs.declared.change.Change.{Change}
use Rattle.stream_base.specs.declared.func.Func.{Func}
use Rattle.stream_base.specs.declared.kept.Kept.{Kept}
use Rattle.stream_base.specs.Model.Changes.{Moment}
use Rattle.stream_base.specs.Model.Journal.{put_in_order}
use Rattle.stream_base.specs.Model.Windows.{Instance, session, sessions}
use Rattle.window_laws.specs.After.{complete_at, emissions_between, retractions_between}

-- the session of the tuple and of all that some sessions select
abbrev pub joined_session : ℕ → List Instance → Kept → Instance
joined_session gap near x = session gap (put_in_order (flat_map (λ i. i.chosen) near) x)

-- the sessions less than the gap away from the tuple, at most two, become one with it; those in front and behind stay
pub record IsPutInSessions (gap : ℕ) (x : Kept) (old new : List Instance) : Type 0 where
  pub front : List Instance
  pub near : List Instance
  pub back : List Instance
  pub was : old ≡ front ++ (near ++ back)
  pub is : new ≡ front ++ (joined_session gap near x ∷ back)
  pub end_before : All (λ i. i.high ≤ x.time) front
  pub start_near : All (λ i. i.low < x.time + gap) near
  pub end_near : All (λ i. x.time < i.high) near
  pub start_behind : All (λ i. x.time + gap ≤ i.low) back
  pub at_most_two : length near ≤ 2

-- the changes are those between the sessions near the tuple and the one that they become with it
pub record AreChangesOfNear (window : ℕ) (key : List ℕ) (func : Func) (gap : ℕ) (m : Moment) (x : Kept) (gone come : List Change) : Type 0 where
  pub put : IsPutInSessions gap x (sessions gap m.kept) (sessions gap (put_in_order m.kept x))
  pub goes : gone
      ≡ retractions_between window key func (complete_at m.water put.near)
      (complete_at m.water (joined_session gap put.near x ∷ []))
  pub comes : come
      ≡ emissions_between window key func (complete_at m.water put.near)
      (complete_at m.water (joined_session gap put.near x ∷ []))
