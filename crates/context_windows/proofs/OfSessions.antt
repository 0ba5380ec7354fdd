-- The sessions of a key, where settled tuples have left the store.
use Rattle.std.proofs.Common.{◌≡◌, ◌∙◌, ℕ, ◌+◌, ◌-◌, ◌*◌, ◌≤◌, Bool, true, false, cond, List, [], ◌∷◌, ◌++◌, drop, length, ap, sym, subst, map, arith}
use Rattle.std.specs.Prelude.{nat_lt}
use Rattle.std.specs.List.{All, Contains, filter}
use Rattle.stream_base.specs.declared.def.Def.{Def}
use Rattle.stream_base.specs.declared.kept.Kept.{Kept}
use Rattle.stream_base.specs.declared.kind.Kind.{Kind}
use Rattle.stream_base.specs.Laws.{TimesDoNotFall}
use Rattle.stream_base.specs.Limits.{Definitions}
use Rattle.stream_base.specs.Model.Changes.{Moment, emissions, retractions}
use Rattle.stream_base.specs.Model.Windows.{Instance, instances_of, is_complete, within}
use Rattle.stream_base.proofs.ChangeFacts.{none_emitted, none_retracted}
use Rattle.stream_base.proofs.Distinct.{All_from_members}
use Rattle.stream_base.proofs.KindFacts.{standing_rises}
use Rattle.window_laws.specs.After.{with_mark}
use Rattle.window_laws.specs.Settled.{MayLeave}
use Rattle.agg_store.specs.Stored.{Stored, tuples_of}
use Rattle.window_spans.specs.declared.span.Span.{Span}
use Rattle.window_spans.specs.Spans.{asked_of, goes, joined_span, near_of, put_changes, span_of, stands, told_at}
use Rattle.context_windows.specs.Aligned.{IsOfSessions}
use Rattle.context_windows.specs.Spanned.{FollowsSessions, HoldsSessions, IsSession, IsSessionAt, Spanned, gap_at, sessions_after}
use Rattle.context_windows.proofs.Following.{no_events, session_kind, session_within, sessions_are}
use Rattle.key_parts.specs.Calls.{window_at}
use Rattle.key_parts.specs.Work.{change_work}
use Rattle.context_windows.proofs.Rest.{HoldsRest, is_window, left_over, open_alike, open_selects, rest_is_kept, rest_windows}

-- ---- how many steps a change takes
pub session_work : (kind : Kind) (reach : ℕ) → IsSession kind → change_work kind reach ≡ 64 * (reach + 2)
session_work kind reach h = ap (λ k. change_work k reach) (session_kind kind h)

-- the session that a tuple makes is told once, where it stands
pub told_once : (gap time water : ℕ) (spans : List Span) → length (told_at gap time water spans) ≤ put_changes gap time water spans
told_once gap time water spans = by (stands water (joined_span gap time (near_of gap time spans)))
  where
    by : (b : Bool) → length (cond b (joined_span gap time (near_of gap time spans) ∷ []) [])
        ≤ length (filter (goes water (joined_span gap time (near_of gap time spans))) (asked_of gap time water spans)) + cond b 1 0
    by true = omega arith
    by false = omega arith

-- ---- what the store holds and where its slices part
module _ (d : Definitions) (window : ℕ) (at : IsSessionAt d window) where
  module _ (m : Moment) (n : ℕ) (s : Stored) (h : HoldsRest d m n s) where
    pub sessions_held : (time : ℕ) → m.water - d.lateness ≤ time → HoldsSessions (gap_at d window) time m.kept s
    sessions_held time late =
        let is : filter (λ (i : Instance). nat_lt time i.high) (instances_of (window_at d window).kind m.kept m.marks) ≡ sessions_after (gap_at d window) time m.kept = ap (filter (λ (i : Instance). nat_lt time i.high)) (sessions_are (window_at d window).kind m.kept m.marks at.session) in
        record {
          chosen =
              subst (λ l. All (λ i. within i.low i.high l ≡ i.chosen) (sessions_after (gap_at d window) time m.kept)) (sym h.tuples)
              (subst (All (λ i. within i.low i.high (drop n m.kept) ≡ i.chosen)) is (open_selects d m n h.may_leave (window_at d window) (is_window d window at.within) (no_events (window_at d window).kind at.session) time late));
        }

    pub of_sessions : IsOfSessions d.windows (window_at d window) m.kept s
    of_sessions = record {
      sliced = rest_windows d m n s h;
      member = is_window d window at.within;
      session = at.session;
      early = h.may_leave.kept.early;
      some = All_from_members (Contains m.kept) (tuples_of s) (λ z f. left_over n m.kept z (subst (λ l. Contains l z) h.tuples f));
    }

-- ---- the sessions of what is left
pub follows_left : (d : Definitions) (window : ℕ) (at : IsSessionAt d window) (m : Moment) (n : ℕ) (p : Spanned) → MayLeave d m n → m.water - d.lateness ≤ p.forgotten → FollowsSessions (gap_at d window) m.kept p → FollowsSessions (gap_at d window) (drop n m.kept) p
follows_left d window at m n p may late f =
    let kind = (window_at d window).kind in
    let is : (kept : List Kept) → filter (λ (i : Instance). nat_lt p.forgotten i.high) (instances_of kind kept m.marks) ≡ sessions_after (gap_at d window) p.forgotten kept = λ kept. ap (filter (λ (i : Instance). nat_lt p.forgotten i.high)) (sessions_are kind kept m.marks at.session) in
    record {
      in_order = (rest_is_kept n m.kept may.kept).in_order;
      spans =
          f.spans
          ∙ ap (map span_of) (sym (is m.kept) ∙ open_alike d m n may (window_at d window) (is_window d window at.within) (no_events kind at.session) p.forgotten late ∙ is (drop n m.kept));
    }

-- ---- a mark changes no session
module _ (window : ℕ) (key : List ℕ) (def : Def) (m : Moment) (time : ℕ) (session : IsSession def.kind) (times : TimesDoNotFall m.kept) where
  stand_alike : filter (is_complete m.water) (instances_of def.kind m.kept m.marks) ≡ filter (is_complete m.water) (instances_of def.kind m.kept (with_mark m time).marks)
  stand_alike = ap (filter (is_complete m.water)) (sessions_are def.kind m.kept m.marks session ∙ sym (sessions_are def.kind m.kept (with_mark m time).marks session))

  none_gone : retractions key m (with_mark m time) (window, def) ≡ []
  none_gone = none_retracted window key def.func (filter (is_complete m.water) (instances_of def.kind m.kept (with_mark m time).marks)) (filter (is_complete m.water) (instances_of def.kind m.kept m.marks)) stand_alike

  none_come : emissions key m (with_mark m time) (window, def) ≡ []
  none_come = none_emitted window key def.func (filter (is_complete m.water) (instances_of def.kind m.kept m.marks)) (filter (is_complete m.water) (instances_of def.kind m.kept (with_mark m time).marks)) (standing_rises def.kind m.kept m.marks m.water (session_within def.kind session) times) stand_alike

  pub none_changed : retractions key m (with_mark m time) (window, def) ++ emissions key m (with_mark m time) (window, def) ≡ []
  none_changed = λ i. none_gone i ++ none_come i
