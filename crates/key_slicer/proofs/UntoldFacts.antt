-- A tuple of which no part need be told.
use Rattle.std.proofs.Common.{◌≡◌, ◌∙◌, ◌≤◌, ◌<◌, ◌++◌, ℕ, true, false, List, [], length, get_or, ap, append-nil, arith, refl, sym}
use Rattle.std.specs.Prelude.{All}
use Rattle.std.proofs.lemmas.List.Elements.{All-contains}
use Rattle.stream_base.specs.Laws.{TimesDoNotFall}
use Rattle.stream_base.specs.Kinds.{IsKindWithin, is_events, is_timed}
use Rattle.stream_base.specs.Limits.{Definitions}
use Rattle.stream_base.specs.declared.change.Change.{Change}
use Rattle.stream_base.specs.declared.def.Def.{Def}
use Rattle.stream_base.specs.declared.func.Func.TheVariants.{Count}
use Rattle.stream_base.specs.declared.kept.Kept.{Kept}
use Rattle.stream_base.specs.declared.kind.Kind.{Kind}
use Rattle.stream_base.specs.declared.kind.Kind.TheVariants.{Session, Marks, Events}
use Rattle.stream_base.specs.declared.limits.TheConstants.{TIME_MAX}
use Rattle.stream_base.specs.Model.Changes.{Moment}
use Rattle.stream_base.specs.Model.Journal.{put_in_order}
use Rattle.stream_base.proofs.ChangeFacts.{no_changes, standing_at_rises}
use Rattle.stream_base.specs.Model.Moments.{moment}
use Rattle.window_laws.specs.After.{with_tuple}
use Rattle.stream_base.proofs.KindFacts.{timed_counts_not}
use Rattle.window_laws.proofs.KindFacts.{tuple_at_stands}
use Rattle.agg_store.specs.Stored.{Stored}
use Rattle.key_windows.specs.Calls.{changes_by_put}
use Rattle.key_parts.specs.Calls.{Standing, window_at}
use Rattle.key_parts.specs.Moves.{IsPutStep}
use Rattle.key_slicer.specs.Parts.{AreStanding, EachPart}

-- ---- the changes
-- at or behind the watermark it changes nothing of tumbling and sliding windows
pub untold_changes : (d : Definitions) (key : List ℕ) (kept : List Kept) (marks : List ℕ) (water : ℕ) (x : Kept) → All (λ w. IsKindWithin w.kind) d.windows → All (λ w. is_timed w.kind ≡ true) d.windows → TimesDoNotFall kept
    → x.time ≤ TIME_MAX → water ≤ x.time → changes_by_put d key kept marks water x ≡ []
untold_changes d key kept marks water x kinds timed times early behind =
    no_changes d.windows key (moment kept marks water) (moment (put_in_order kept x) marks water)
    (standing_at_rises d.windows (moment kept marks water) kinds times)
    (λ def c. sym (tuple_at_stands def.kind kept marks water x (All-contains (λ (w : Def). IsKindWithin w.kind) d.windows def kinds c) (timed_counts_not def.kind (All-contains (λ (w : Def). is_timed w.kind ≡ true) d.windows def timed c)) times (omega (arith, early)) behind))

-- so that nothing is appended
pub none_appended : (out changes : List Change) → changes ≡ [] → out ≡ out ++ changes
none_appended out changes none = sym (ap (λ l. out ++ l) none ∙ append-nil out)

-- ---- the parts
module _ {P : Type 0} (stands : Standing P) (d : Definitions) (m : Moment) (n : ℕ) (before : Stored) (x : Kept) (more : ℕ) (after : Stored) (parts : List P)
    (timed : All (λ w. is_timed w.kind ≡ true) d.windows) (behind : m.water ≤ x.time) (step : IsPutStep d m n before x more after) (stood : AreStanding stands d m n before parts) where
  is_timed_at : (i : ℕ) → i < length parts → is_timed (window_at d i).kind ≡ true
  is_timed_at i l = timed i (record { kind = Marks; func = Count }) (omega (arith, l, stood.as_many))

  -- they stand for what is known of the key then
  pub all_untold : ((window : ℕ) (m : Moment) (n : ℕ) (before : Stored) (x : Kept) (more : ℕ) (after : Stored) (part : P) → is_timed (window_at d window).kind ≡ true → m.water ≤ x.time
      → IsPutStep d m n before x more after → stands d window m n before part → stands d window (with_tuple m x) more after part)
      → AreStanding stands d (with_tuple m x) more after parts
  all_untold law = record { as_many = stood.as_many; each = λ i y l. law i m n before x more after (get_or parts i y) (is_timed_at i l) behind step (stood.each i y l) }

  -- and have missed nothing
  pub all_untold_ahead : (is_ahead : Definitions → ℕ → ℕ → Stored → P → Type 0) → ((window : ℕ) (m : Moment) (n : ℕ) (before : Stored) (x : Kept) (more : ℕ) (after : Stored) (part : P) → is_timed (window_at d window).kind ≡ true → m.water ≤ x.time
      → IsPutStep d m n before x more after → stands d window m n before part → is_ahead d window m.water before part → is_ahead d window m.water after part)
      → EachPart (λ i part. is_ahead d i m.water before part) parts → EachPart (λ i part. is_ahead d i m.water after part) parts
  all_untold_ahead is_ahead law each = λ i y l. law i m n before x more after (get_or parts i y) (is_timed_at i l) behind step (stood.each i y l) (each i y l)
