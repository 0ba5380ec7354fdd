-- The window that a lane serves.
use Rattle.std.proofs.Common.{◌≡◌, ◌∙◌, ℕ, ◌+◌, ◌*◌, true, List, ap, sym, subst, arith}
use Rattle.std.specs.Prelude.{unwrap_or}
use Rattle.std.specs.List.{All, Contains}
use Rattle.std.proofs.lemmas.Bool.{false≢true}
use Rattle.std.proofs.lemmas.Option.{get_or_from_slice_get, slice_get_within}
use Rattle.stream_base.specs.declared.def.Def.{Def}
use Rattle.stream_base.specs.declared.kind.Kind.{Kind}
use Rattle.stream_base.specs.declared.kind.Kind.TheVariants.{Tumbling, Sliding}
use Rattle.stream_base.specs.Kinds.{IsKindWithin, is_timed, length_of, slide_of}
use Rattle.stream_base.specs.Model.Slices.{runs_of}
use Rattle.stream_base.proofs.KindFacts.{timed_within}
use Rattle.slice_lists.specs.Runs.{IsAligned}
use Rattle.window_laws.proofs.EdgeFacts.{interval_ends_align, interval_starts_align}
use Rattle.agg_store.specs.Stored.{IsSliced, Stored, tuples_of}
use Rattle.time_lanes.specs.Spans.{ArePartedAt, IsSpan, IsWindowAt}

pub stands_among : (windows : List Def) (window : ℕ) (def : Def) → IsWindowAt windows window def → Contains windows def
stands_among windows window def h = (window, slice_get_within windows window def h, get_or_from_slice_get windows window def def h)

pub parted_at_edges : (windows : List Def) (window : ℕ) (def : Def) (s : Stored) (length slide : ℕ) → All (λ w. IsKindWithin w.kind) windows → IsWindowAt windows window def → is_timed def.kind ≡ true → IsSliced windows s → length ≡ length_of def.kind → slide ≡ slide_of def.kind → ArePartedAt length slide s.slices
parted_at_edges windows window def s length slide kinds stands timed sliced l m =
    let c = stands_among windows window def stands in
    record {
      starts = λ h k. subst (λ slices. IsAligned slices (k * slide)) (sym sliced) (subst (λ n. IsAligned (runs_of windows s.marks (tuples_of s)) (k * n)) (sym m) (interval_starts_align windows s.marks (tuples_of s) def k kinds h c timed));
      ends = λ h k. subst (λ slices. IsAligned slices (k * slide + length)) (sym sliced) (subst (λ n. IsAligned (runs_of windows s.marks (tuples_of s)) (k * n + length)) (sym m) (subst (λ n. IsAligned (runs_of windows s.marks (tuples_of s)) (k * slide_of def.kind + n)) (sym l) (interval_ends_align windows s.marks (tuples_of s) def k kinds h c timed)));
    }

-- its intervals move on, and overlap or touch
pub span_of_kind : (kind : Kind) → is_timed kind ≡ true → IsKindWithin kind → IsSpan (length_of kind) (slide_of kind)
span_of_kind kind t k = let w = timed_within kind t k in record { moves = w.0; overlaps = w.1; short = w.2 }

-- there is one window at a place
pub same_window : (windows : List Def) (window : ℕ) (d e : Def) → IsWindowAt windows window d → IsWindowAt windows window e → d ≡ e
same_window windows window d e p q = ap (λ o. unwrap_or o d) (sym p ∙ q)
