-- What the call of a part does.
use Rattle.std.proofs.Common.{◌≡◌, ◌≤◌, ℕ}
use Rattle.stream_base.specs.Limits.{Definitions}
use Rattle.stream_base.specs.declared.kept.Kept.{Kept}
use Rattle.stream_base.specs.Model.Changes.{Moment}
use Rattle.window_laws.specs.After.{at_water, with_mark, with_tuple}
use Rattle.agg_store.specs.Stored.{Stored}
use Rattle.key_parts.specs.Calls.{LosesSettled, Standing, StandsAt, TakesMark, TakesTuple}
use Rattle.key_parts.specs.Promises.{BeingAhead}

module _ {P : Type 0} (stands : Standing P) (d : Definitions) where
  -- room was made: the part stands for the same, and is ready
  pub record IsReserved (is_ready : ℕ → P → Type 0) (i : ℕ) (old new : P) : Type 0 where
    pub stays : (m : Moment) (n : ℕ) (s : Stored) → stands d i m n s old → stands d i m n s new
    pub ready : is_ready i new

  -- the part was asked: it stands for the same, has kept what a tuple changes, and still is ready
  pub record IsAsked (is_asked : Definitions → ℕ → Moment → ℕ → P → Type 0) (is_ready : ℕ → P → Type 0) (room : ℕ → P → ℕ) (water : ℕ) (s : Stored) (time i : ℕ) (old new : P) : Type 0 where
    pub stays : (m : Moment) (n : ℕ) (s : Stored) → stands d i m n s old → stands d i m n s new
    pub asked : (m : Moment) (n : ℕ) → StandsAt stands d i water s old m n → is_asked d i m time new
    pub ready : is_ready i new
    pub same_room : room i new ≡ room i old

  -- the part took a tuple in
  pub record IsPutIn (is_asked : Definitions → ℕ → Moment → ℕ → P → Type 0) (is_ahead : BeingAhead P) (water : ℕ) (x : Kept) (after : Stored) (i : ℕ) (old new : P) : Type 0 where
    pub stands_on : (m : Moment) (n : ℕ) (before : Stored) (more : ℕ) → TakesTuple stands d i is_asked water x after old m n before more → stands d i (with_tuple m x) more after new
    pub ahead : (m : Moment) (n : ℕ) (before : Stored) (more : ℕ) → TakesTuple stands d i is_asked water x after old m n before more → water ≤ x.time → is_ahead d i water before old → is_ahead d i water after new

  -- the part took a mark in
  pub record IsMarkedIn (is_ahead : BeingAhead P) (water time : ℕ) (after : Stored) (i : ℕ) (old new : P) : Type 0 where
    pub stands_on : (m : Moment) (n : ℕ) (before : Stored) → TakesMark stands d i water time after old m n before → stands d i (with_mark m time) n after new
    pub ahead : (m : Moment) (n : ℕ) (before : Stored) → TakesMark stands d i water time after old m n before → water ≤ time → is_ahead d i water before old → is_ahead d i water after new

  -- the part took a move of the watermark in
  pub record IsMoved (is_ahead : BeingAhead P) (water to : ℕ) (s : Stored) (i : ℕ) (old new : P) : Type 0 where
    pub stands_on : (m : Moment) (n : ℕ) → StandsAt stands d i water s old m n → stands d i (at_water m to) n s new
    pub ahead : (m : Moment) (n : ℕ) → StandsAt stands d i water s old m n → is_ahead d i to s new

  -- the part forgot what has ended
  pub record IsRid (is_ahead : BeingAhead P) (settles_at : ℕ → P → ℕ) (water i : ℕ) (old new : P) : Type 0 where
    pub stands_on : (m : Moment) (n time : ℕ) (before : Stored) (more : ℕ) (after : Stored) → LosesSettled stands d i water time old m n before more after → time ≤ settles_at i old → stands d i m more after new
    pub ahead : (m : Moment) (n time : ℕ) (before : Stored) (more : ℕ) (after : Stored) → LosesSettled stands d i water time old m n before more after → is_ahead d i water before old → is_ahead d i water after new

  -- the part let leave what nothing can need any more
  pub record IsLeaner (is_lean : ℕ → P → Type 0) (water i : ℕ) (old new : P) : Type 0 where
    pub lean : is_lean i new
    pub stands_on : (m : Moment) (n : ℕ) (s : Stored) → m.water ≡ water → stands d i m n s old → stands d i m n s new
